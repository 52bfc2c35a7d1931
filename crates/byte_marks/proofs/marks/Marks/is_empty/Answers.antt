-- Each run has its first byte.
use Rattle.byte_marks.proofs.Words.{◌≡◌, false, ne_eqb, ℕ, ◌==◌, true, IsTrue, List, [], ◌∷◌, arith, refl, length, sym, subst, Bool, nat_tests, OnFalse, Extent, has, in_extent, AreApartFrom}

some_byte : (xs : List Extent) → AreApartFrom 0 xs → OnFalse (length xs == 0) ((p : ℕ) × IsTrue (has xs p))
some_byte [] apart = tt
some_byte (x ∷ xs) apart =
    let here : in_extent x.from x ≡ true = grind (arith, nat_tests, apart.1) in
    let more : (length (x ∷ xs) == 0) ≡ false = ne_eqb (length (x ∷ xs)) 0 (λ e. omega (arith, e)) in
    subst (λ (t : Bool). OnFalse t ((p : ℕ) × IsTrue (has (x ∷ xs) p))) (sym more) (x.from, rw here refl)

pub returns-clause-some : Rattle.byte_marks.proofs.marks.Marks.is_empty.Goals.returns-clause-some
returns-clause-some c =
    let xs = c.self.inside.extents.items in
    let some : OnFalse (length xs == 0) ((p : ℕ) × IsTrue (has c.args.self.now p)) =
    subst (λ (l : List Extent). OnFalse (length xs == 0) ((p : ℕ) × IsTrue (has l p))) c.self.view_is (some_byte xs c.self.invariant) in
    subst (λ (t : Bool). OnFalse t ((p : ℕ) × IsTrue (has c.args.self.now p))) (sym c.is_empty.ensures) some
