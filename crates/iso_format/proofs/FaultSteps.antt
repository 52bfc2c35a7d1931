-- The tests of parts, one after the other, as a loop makes them.
use Rattle.iso_format.proofs.Words.{◌≡◌, ℕ, suc, ◌+◌, ◌-◌, ◌<◌, List, Option, Some, None, drop, refl, sym, ◌∙◌, arith, Geometry, FormatError, part_fault, parts_fault, part_end, part_size}

-- a part that fails a test ends them
pub part_stops : (g : Geometry) (before : Option (ℕ × ℕ)) (at count i : ℕ) (rest : List ℕ) (fault : FormatError) (all : Option FormatError) → i < count →
    part_fault g before at rest ≡ Some fault → parts_fault g before at (count - i) rest ≡ all → Some fault ≡ all
unfolding parts_fault
part_stops g before at count i rest fault all lt e so_far =
    let k : count - i ≡ suc (count - (i + 1)) = omega arith in
    let one : parts_fault g before at (count - i) rest ≡ Some fault = rw (k, e) refl in
    sym one ∙ so_far

-- after a part that fails none the others are tested
pub part_passes : (g : Geometry) (before : Option (ℕ × ℕ)) (at count i : ℕ) (rest : List ℕ) (all : Option FormatError) → i < count →
    part_fault g before at rest ≡ None → parts_fault g before at (count - i) rest ≡ all →
    parts_fault g (Some (part_end rest)) (at + part_size rest) (count - (i + 1)) (drop (part_size rest) rest) ≡ all
unfolding parts_fault
part_passes g before at count i rest all lt e so_far =
    let k : count - i ≡ suc (count - (i + 1)) = omega arith in
    let one : parts_fault g before at (count - i) rest ≡ parts_fault g (Some (part_end rest)) (at + part_size rest) (count - (i + 1)) (drop (part_size rest) rest) = rw (k, e) refl in
    sym one ∙ so_far
