-- What contracts see of `Marks`: a set of bytes of one block.
use Rattle.std.specs.{Prelude.{ℕ, ◌+◌, ◌-◌, ◌<◌, ◌≤◌, Bool, ◌&&◌, List, [], ◌∷◌, length, nat_le, nat_lt}, List.list_any}
use Rattle.byte_marks.specs.declared.extent.Extent.{Extent}
use Rattle.iso_model.specs.declared.access.Span.{Span}

-- whether the byte at p is in the extent
abbrev pub in_extent : ℕ → Extent → Bool
in_extent p extent = nat_le extent.from p && nat_lt p extent.to

-- whether the byte at p is marked
abbrev pub has : List Extent → ℕ → Bool
has marks p = list_any (in_extent p) marks

-- how many maximal runs the marked bytes make
abbrev pub run_count : List Extent → ℕ
run_count marks = length marks

-- the extents rise from `from` on, none is empty, no two touch, and all end in a block of 4,096 bytes
abbrev pub AreApartFrom : ℕ → List Extent → Type 0
AreApartFrom from [] = Unit {0}
AreApartFrom from (extent ∷ extents) = (from ≤ extent.from) × (extent.from < extent.to) × (extent.to ≤ 4096) × AreApartFrom (extent.to + 1) extents

-- the first byte from which on one more extent may stand behind these, which stand from `from` on
abbrev pub next_free : ℕ → List Extent → ℕ
next_free from [] = from
next_free from (extent ∷ extents) = next_free (extent.to + 1) extents

-- the span of the same bytes
abbrev pub span_of : Extent → Span
span_of extent = record { off = extent.from; len = extent.to - extent.from }

-- rising spans from `from` on, none of them empty, that end in a block of 4,096 bytes and do not even touch
abbrev pub AreRunsFrom : ℕ → List Span → Type 0
AreRunsFrom from [] = Unit {0}
AreRunsFrom from (span ∷ spans) = (from ≤ span.off) × (0 < span.len) × (span.off + span.len ≤ 4096) × AreRunsFrom (span.off + span.len + 1) spans

-- the spans are the maximal runs of the bytes that they have, rising
abbrev pub AreRuns : List Span → Type 0
AreRuns = AreRunsFrom 0
