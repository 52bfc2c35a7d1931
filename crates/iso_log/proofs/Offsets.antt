-- A test of a record that fails names a place in the bytes that the record needs, and is one of eight.
use Rattle.iso_log.proofs.Words.{◌≡◌, ◌<◌, ◌≤◌, ◌+◌, ◌-◌, ◌==◌, ◌&&◌, not, cond, ℕ, zero, suc, Bool, true, false, List, [], ◌∷◌, length, drop, Option, Some, None, nat_le, refl, arith, length-drop, subst, IfSome, w32, w64, same_Some, length-take, Geometry, or_else, FormatError, Number, good, offset_of, test_number, number_at, fault_of, head_fault, number_fault, parts_fault, part_fault, part_size, part_end, body_of, record_window}

-- the place of a fault, where there is one, is not after this one
abbrev Below : ℕ → Option FormatError → Type 0
Below top fault = IfSome fault (λ e. offset_of e ≤ top)

below_test : (b : Bool) (top : ℕ) (e : FormatError) (rest : Option FormatError) → offset_of e ≤ top → Below top rest → Below top (cond b (Some e) rest)
below_test true top e rest first later = first
below_test false top e rest first later = later

below_both : (top : ℕ) (x y : Option FormatError) → Below top x → (x ≡ None → Below top y) → Below top (or_else x y)
below_both top None y first later = later refl
below_both top (Some e) y first later = first

part_below : (g : Geometry) (before : Option (ℕ × ℕ)) (at : ℕ) (body : List ℕ) (top : ℕ) → at ≤ top → Below top (part_fault g before at body)
part_below g before at body top le = grind (arith, below_test, not)

parts_below : (g : Geometry) (before : Option (ℕ × ℕ)) (at n : ℕ) (body : List ℕ) (top : ℕ) → at + length body ≤ top → Below top (parts_fault g before at n body)
unfolding parts_fault
parts_below g before at zero [] top le = tt
parts_below g before at zero (b ∷ body) top le = omega arith
parts_below g before at (suc n) body top le =
    below_both top (part_fault g before at body) _ (part_below g before at body top (omega arith))
    (λ none.
    let good = good g before at body none in
    parts_below g (Some (part_end body)) (at + part_size body) n (drop (part_size body) body) top (omega (arith, good.long, length-drop (part_size body) body)))

head_below : (g : Geometry) (bytes : List ℕ) (top : ℕ) → 8 ≤ top → Below top (head_fault g bytes)
head_below g bytes top le = grind (arith, below_test, not)

number_below : (n : ℕ) (bytes : List ℕ) (top : ℕ) → 12 ≤ top → Below top (number_fault n bytes)
number_below n bytes top le = elim ((number_at w64 12 bytes == n) && nat_le n 9223372036854775807) as (λ b. Below top (cond b None (Some (Number 12)))) [ true ↦ tt | false ↦ le ]

below_is : (top : ℕ) (found : Option FormatError) (e : FormatError) → Below top found → found ≡ Some e → offset_of e ≤ top
below_is top None e below is = absurd cc
below_is top (Some x) e below is = let same = same_Some x e is in subst (λ (y : FormatError). offset_of y ≤ top) same below

pub fault_below : (g : Geometry) (n : ℕ) (bytes : List ℕ) (e : FormatError) → record_window bytes ≤ length bytes → fault_of g n bytes ≡ Some e → offset_of e < length bytes
unfolding fault_of
fault_below g n bytes e long fails =
    let top = record_window bytes - 1 in
    let below : offset_of e ≤ record_window bytes - 1 =
    below_is top (fault_of g n bytes) e
    (below_both top (head_fault g bytes) _ (head_below g bytes top (omega arith))
    (λ head. below_both top (parts_fault g None 20 (number_at w32 4 bytes) (body_of bytes)) _
    (parts_below g None 20 (number_at w32 4 bytes) (body_of bytes) top (omega (arith, length-take (number_at w32 8 bytes) (drop 20 bytes), length-drop 20 bytes)))
    (λ parts. number_below n bytes top (omega arith))))
    fails in
    omega (arith, below, long)

pub test_among : (e : FormatError) → (1 ≤ test_number e) × (test_number e ≤ 8)
test_among e = grind arith
