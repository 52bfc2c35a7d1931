-- An access that was made may be marked, and what its marks make of it.
use Rattle.tx_blocks.proofs.Words.{◌≡◌, ◌∙◌, refl, ap, subst, ℕ, zero, suc, ◌<◌, true, false, List, [], ◌∷◌, ◌++◌, length, Option, Some, None, Result, Ok, Err, arith, nat_le, inl, inr, AllByRecursion, get_or, cases_Bool, nat_tests, Access, Span, TxError, is_outside, marked, marks_fault, IsSpan, Tx, access_refusal, mark_refusal, with_accesses, look_access, IsRefused, marked_last}
use Rattle.store_model.specs.declared.stores.TxError.TheVariants as error

last_fault : (xs : List Access) (a : Access) → length a.spans < 8 → marks_fault (xs ++ a ∷ []) ≡ None
last_fault [] a few = let not : nat_le 8 (length a.spans) ≡ false = grind (arith, nat_tests) in rw not refl
last_fault (x ∷ []) a few = let not : nat_le 8 (length a.spans) ≡ false = grind (arith, nat_tests) in rw not refl
last_fault (x ∷ y ∷ xs) a few = last_fault (y ∷ xs) a few

no_error : {T E : Type 0} (x : T) (e : E) → ◌≡◌ {A = Result T E} (Ok x) (Err e) → ⊥
no_error x e is = cc

-- an access that was not refused was made in a transaction
pub open_from : {T : Type 0} (t : Tx) (block : ℕ) (free : TxError → Type 0) (x : T) → IsRefused (access_refusal t block) free (Ok x) → t.is_open ≡ true
open_from {T = T} t block free x cause = elim (cases_Bool t.is_open) [
  | inl is ↦ is
  | inr shut ↦
      (let refused : access_refusal t block ≡ Some error.NotInTx = rw shut refl in
      let bad = subst (λ (o : Option TxError). IsRefused {T = T} o free (Ok x)) refused cause in
      absurd (no_error x error.NotInTx bad))
]

-- an access that has fewer than 8 marks may be marked
pub may_mark : (t v : Tx) (a : Access) (span : Span) → v ≡ with_accesses t (a ∷ []) → t.is_open ≡ true → IsSpan t.size span → length a.spans < 8
    → mark_refusal v span.off span.len ≡ None
may_mark t v a span is is_open fits few =
    let good : is_outside t.size span.off span.len ≡ false = grind (arith, nat_tests, fits.some, fits.fits) in
    let last : marks_fault (t.accesses ++ a ∷ []) ≡ None = last_fault t.accesses a few in
    rw is (rw (is_open, good, last) refl)

pub marked_access : (t v w : Tx) (a : Access) (span : Span) → v ≡ with_accesses t (a ∷ [])
    → w ≡ record v { accesses = marked span v.accesses } → w ≡ with_accesses t (record a { spans = a.spans ++ span ∷ [] } ∷ [])
marked_access t v w a span is then =
    then ∙ ap (λ (u : Tx). record u { accesses = marked span u.accesses }) is
    ∙ ap (λ accesses. record t { accesses = accesses }) (marked_last span t.accesses a)

-- a read under a mark by another name
pub looked_as : (t u : Tx) (block : ℕ) (s r : Span) → u ≡ with_accesses t (look_access block (s ∷ []) ∷ []) → s ≡ r → u ≡ with_accesses t (look_access block (r ∷ []) ∷ [])
looked_as t u block s r is same = is ∙ ap (λ (mark : Span). with_accesses t (look_access block (mark ∷ []) ∷ [])) same

-- what all have, the one at a place has
pub all_at : {X : Type 0} (P : X → Type 0) (xs : List X) (i : ℕ) (d : X) → AllByRecursion P xs → i < length xs → P (get_or xs i d)
all_at P [] i d all below = absurd (omega arith)
all_at P (x ∷ xs) zero d all below = all.0
all_at P (x ∷ xs) (suc i) d all below = all_at P xs i d all.1 (omega arith)
