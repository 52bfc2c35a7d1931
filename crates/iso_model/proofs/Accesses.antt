-- The accesses that operations make are accesses to the array.
use Rattle.iso_model.proofs.{Words.{◌≡◌, refl, ap, ℕ, zero, suc, ◌+◌, ◌-◌, ◌<◌, ◌≤◌, Bool, true, false, ◌==◌, not, cond, List, [], ◌∷◌, ◌++◌, length, Some, None, nat_le, nat_lt, replicate, arith, or_parts, leb-false, ltb-false, eqb-false, length_push, Access, Geometry, Span, MAX_SPANS, IsAccess, IsSpan, AreAccesses, AreBytes, is_outside, marked, marks_fault, mark_fault, put_access, read_access, get_access, write_access}, ByteLists.{no_bytes, bytes_append, replicate_bytes}, Growth.all_push, Recorded.length-recorded}
use Rattle.iso_model.specs.declared.access.MarkError.TheVariants as mark

-- the accesses that operations make
pub put_is_access : (g : Geometry) (block off : ℕ) (bytes : List ℕ) → block < g.blocks → 0 < length bytes → off + length bytes ≤ g.block → AreBytes bytes
    → IsAccess g (put_access g.block block off bytes)
put_is_access g block off bytes below some fits values = record {
  block = below;
  spans = (record { some = some; fits = fits }, tt);
  few = omega arith;
  bytes = λ write. length-recorded g.block (record { block = block; off = off; bytes = bytes }) fits;
  none = λ read. cc;
  values =
      let zeros = replicate {A = ℕ} (g.block - (off + length bytes)) 0 in
      bytes_append (replicate off 0 ++ bytes) zeros (bytes_append (replicate off 0) bytes (replicate_bytes off 0 (omega arith)) values)
      (replicate_bytes (g.block - (off + length bytes)) 0 (omega arith));
}

pub read_is_access : (g : Geometry) (block : ℕ) → block < g.blocks → IsAccess g (read_access block)
read_is_access g block below = record { block = below; spans = tt; few = omega arith; bytes = λ write. cc; none = λ read. refl; values = no_bytes }

-- bytes that a mark may cover
pub inside_block : (size off len : ℕ) → is_outside size off len ≡ false → IsSpan size (record { off = off; len = len })
inside_block size off len right =
    let both = or_parts (len == 0) (nat_lt size (off + len)) right in
    record { some = above_none len (eqb-false len 0 both.0); fits = ltb-false size (off + len) both.1 }
  where
    above_none : (n : ℕ) → (n ≡ 0 → ⊥) → 0 < n
    above_none zero not = absurd (not refl)
    above_none (suc n) not = omega arith

pub get_is_access : (g : Geometry) (block off len : ℕ) → block < g.blocks → IsSpan g.block (record { off = off; len = len }) → IsAccess g (get_access block off len)
get_is_access g block off len below span = grind (arith, no_bytes)

pub write_is_access : (g : Geometry) (block : ℕ) (bytes : List ℕ) → block < g.blocks → length bytes ≡ g.block → AreBytes bytes → IsAccess g (write_access block bytes)
write_is_access g block bytes below whole values = grind arith

-- accesses with one more mark that is not refused
pub length-marked : (span : Span) (accesses : List Access) → length (marked span accesses) ≡ length accesses
length-marked span [] = refl
length-marked span (a ∷ []) = refl
length-marked span (a ∷ b ∷ accesses) = ap suc (length-marked span (b ∷ accesses))

one_marked : (g : Geometry) (span : Span) (a : Access) → IsSpan g.block span → length a.spans < MAX_SPANS → IsAccess g a
    → IsAccess g (record a { spans = a.spans ++ span ∷ [] })
one_marked g span a fits few is = record {
  block = is.block;
  spans = all_push (IsSpan g.block) a.spans span is.spans fits;
  few = omega (arith, length_push a.spans span, few);
  bytes = is.bytes;
  none = is.none;
  values = is.values;
}

last_marked : (g : Geometry) (span : Span) (accesses : List Access) → IsSpan g.block span → marks_fault accesses ≡ None → AreAccesses g accesses
    → AreAccesses g (marked span accesses)
last_marked g span [] fits free all = tt
last_marked g span (a ∷ []) fits free all = (one_marked g span a fits (few (nat_le MAX_SPANS (length a.spans)) refl free) all.0, tt)
  where
    few : (t : Bool) → nat_le MAX_SPANS (length a.spans) ≡ t → cond t (Some mark.TooManyMarks) None ≡ None → length a.spans < MAX_SPANS
    few true e free = cc
    few false e free = leb-false MAX_SPANS (length a.spans) e
last_marked g span (a ∷ b ∷ accesses) fits free all = (all.0, last_marked g span (b ∷ accesses) fits free all.1)

pub marked_are : (g : Geometry) (off len : ℕ) (accesses : List Access) → mark_fault g.block off len accesses ≡ None → AreAccesses g accesses
    → AreAccesses g (marked (record { off = off; len = len }) accesses)
marked_are g off len accesses free all = go (is_outside g.block off len) refl free
  where
    go : (t : Bool) → is_outside g.block off len ≡ t → cond t (Some mark.BadRange) (marks_fault accesses) ≡ None
        → AreAccesses g (marked (record { off = off; len = len }) accesses)
    go true e free = cc
    go false e free = last_marked g (record { off = off; len = len }) accesses (inside_block g.block off len e) free all
