-- What the accesses of a transaction write, and the runs that a record keeps of it.
use Rattle.std.specs.{Prelude.{ℕ, zero, suc, ◌+◌, Bool, true, false, ◌&&◌, ◌==◌, cond, List, [], ◌∷◌, Option, Some, None, length, sum_by, slice_index, flat_map}, List.{list_any, range_with_len}}
use Rattle.iso_model.specs.{declared.access.Access.Access, declared.access.Geometry.Geometry, declared.access.Kind.Kind, declared.access.Kind.TheVariants.{Read, Write}, declared.access.Run.Run, Array.{Array, covered, put}}

-- whether the two kinds are one
abbrev pub same_kind : Kind → Kind → Bool
same_kind Read Read = true
same_kind Write Write = true
same_kind Read Write = false
same_kind Write Read = false

abbrev pub is_write : Access → Bool
is_write a = same_kind Write a.kind

abbrev pub has_write : List Access → Bool
has_write accesses = list_any is_write accesses

-- the array after the writes of the list, in order
abbrev pub own : Array → List Access → Array
own A [] = A
own A (a ∷ accesses) = own (cond (is_write a) (put A a) A) accesses

-- whether the access is of this kind and covers the byte at p of block b
abbrev pub covers : Kind → (b p : ℕ) → Access → Bool
covers kind b p a = same_kind kind a.kind && (a.block == b) && covered a.spans p

-- whether some access does
abbrev pub touches : Kind → List Access → (b p : ℕ) → Bool
touches kind accesses b p = list_any (covers kind b p) accesses

abbrev pub or_else : {A : Type 0} → Option A → Option A → Option A
or_else None other = other
or_else (Some x) other = Some x

-- the value that the list writes at the byte p of block b, if it writes one: that of its last write there
abbrev pub effect_at : List Access → (b p : ℕ) → Option ℕ
effect_at [] b p = None
effect_at (a ∷ accesses) b p = or_else (effect_at accesses b p) (cond (covers Write b p a) (Some (slice_index a.bytes p)) None)

-- what the list writes at n bytes of block b, from p on
abbrev pub effects_from : List Access → (b p n : ℕ) → List (Option ℕ)
effects_from accesses b p zero = []
effects_from accesses b p (suc n) = effect_at accesses b p ∷ effects_from accesses b (p + 1) n

-- the runs with one more byte directly before them, or apart
abbrev pub joined : (b p value : ℕ) → List Run → List Run
joined b p value [] = record { block = b; off = p; bytes = value ∷ [] } ∷ []
joined b p value (run ∷ runs) =
    cond (run.off == p + 1) (record { block = b; off = p; bytes = value ∷ run.bytes } ∷ runs) (record { block = b; off = p; bytes = value ∷ [] } ∷ run ∷ runs)

-- the maximal runs of the values of block b, the first of which is at p
abbrev pub runs_from : (b p : ℕ) → List (Option ℕ) → List Run
runs_from b p [] = []
runs_from b p (None ∷ values) = runs_from b (p + 1) values
runs_from b p (Some value ∷ values) = joined b p value (runs_from b (p + 1) values)

-- the maximal runs of the bytes of one block that the list writes, rising
abbrev pub block_runs : (size : ℕ) → List Access → ℕ → List Run
block_runs size accesses b = runs_from b 0 (effects_from accesses b 0 size)

-- the maximal runs of the bytes that the list writes, rising by block and then by place, each with its bytes
unfoldable pub runs : Geometry → List Access → List Run
runs g accesses = flat_map (block_runs g.block accesses) (range_with_len 0 g.blocks)

-- how many bytes the record of these runs has
abbrev pub record_length : List Run → ℕ
record_length runs = 20 + sum_by (λ run. 8 + length run.bytes) runs
