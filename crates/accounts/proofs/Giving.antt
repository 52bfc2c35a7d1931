-- Transactions that were given away, one after the other.
use Rattle.accounts.proofs.{Words.{◌≡◌, ◌∙◌, refl, subst, sym, ℕ, ◌+◌, ◌≤◌, List, [], ◌∷◌, ◌++◌, arith, IfSome, Option, Some, None, Accounts, found_in, units_of, tx_view, Start, AreGiven, Gives, HoldsCalls, IsKept, IsOfAccounts, IsTakenFor, IsWhole, OfCalls, Stays, DeviceId, HandleState, IsReleased, Released, SessionState, held_state}, Keeping.{given, let_go, whole}}
use Rattle.accounts.specs.declared.half.Half.{Half}
use Rattle.iso_shared.specs.declared.tx.Tx.{Tx}

module _ {D O : Type 0} where
  given_more : (accounts : Accounts) (A : Start) (d : DeviceId) (xs : List (Option (Tx D O))) (m : Option (Tx D O)) → AreGiven accounts A d xs → IfSome m (IsWhole accounts A d) → AreGiven accounts A d (xs ++ m ∷ [])
  given_more accounts A d [] m all one = (one, tt)
  given_more accounts A d (x ∷ xs) m all one = (all.0, given_more accounts A d xs m all.1 one)

  units_more : (xs : List (Option (Tx D O))) (m : Option (Tx D O)) → units_of (found_in (xs ++ m ∷ [])) ≡ units_of (found_in xs) + units_of (found_in (m ∷ []))
  units_more [] m = let u : ℕ = units_of (found_in (m ∷ [])) in let e : u ≡ 0 + u = omega arith in e
  units_more (None ∷ xs) m = units_more xs m
  units_more (Some t ∷ xs) m =
      let rest = units_more xs m in
      let u : ℕ = (tx_view t).units in
      let more : u + units_of (found_in (xs ++ m ∷ [])) ≡ u + units_of (found_in xs) + units_of (found_in (m ∷ [])) = omega (arith, rest) in more

module _ {D O : Type 0} (accounts : Accounts) (A : Start) where
  -- what was given away before, and one more
  pub gives_more : (n : ℕ) (s t u : SessionState) (xs : List (Option (Tx D O))) (m : Option (Tx D O)) → Gives accounts A n s t xs None → Gives accounts A 1 t u (m ∷ []) None → Gives accounts A (n + 1) s u (xs ++ m ∷ []) None
  gives_more n s t u xs m before now =
      let was = before.left in
      let is = now.left in
      let sum = before.units in
      let one = now.units in
      let more = units_more xs m in
      record {
        session = now.session;
        of = now.of ∙ before.of;
        left = omega (arith, was, is);
        units = omega (arith, sum, one, more);
        given = given_more accounts A s.device xs m before.given (subst (λ (d : DeviceId). IfSome m (IsWhole accounts A d)) before.of now.given.0);
        taken = tt;
      }

  pub gives_at_most : (n most : ℕ) (s t : SessionState) (xs : List (Option (Tx D O))) (half : Option (Half D O)) → n ≤ most → Gives accounts A n s t xs half → Gives accounts A most s t xs half
  gives_at_most n most s t xs half few is = let left = is.left in record { session = is.session; of = is.of; left = omega (arith, left, few); units = is.units; given = is.given; taken = is.taken }

  -- nothing was given away
  pub gives_none : (n : ℕ) (r s : SessionState) → IsKept accounts A s → Stays r s → Gives {D = D} {O = O} accounts A n r s [] None
  gives_none n r s kept stays =
      let same = stays.units in
      record { session = kept; of = stays.of; left = omega (arith, same); units = omega (arith, same); given = tt; taken = tt }

  -- a session that was filled lets its transaction go, or has none
  module _ (r s t : SessionState) (stays : Stays r s) where
    pub gives_whole : (h : HandleState) (x : Tx D O) → Released s h t → HoldsCalls accounts (IsOfAccounts accounts) A s → IsReleased A x → held_state x ≡ h → Gives accounts A 1 r t (Some x ∷ []) None
    gives_whole h x did held is same =
        let both = given accounts A (IsOfAccounts accounts) s t h did held in
        let units = stays.units in
        let sum = did.units in
        let one = is.one in
        record {
          session = both.0;
          of = did.of.0 ∙ stays.of;
          left = omega (arith, units, sum);
          units = let u : ℕ = (tx_view x).units in let e : t.units + (u + 0) + 0 ≡ r.units = omega (arith, units, sum, one) in e;
          given = (whole accounts A r.device h x is same (did.of.1 ∙ stays.of) both.1, tt);
          taken = tt;
        }

    pub gives_taken : (half : Half D O) → Released s half.handle t → HoldsCalls accounts (IsTakenFor half.to half.more) A s → Gives {D = D} {O = O} accounts A 1 r t [] (Some half)
    gives_taken half did held =
        let both = given accounts A (IsTakenFor half.to half.more) s t half.handle did held in
        let units = stays.units in
        let sum = did.units in
        record {
          session = both.0;
          of = did.of.0 ∙ stays.of;
          left = omega (arith, units, sum);
          units = omega (arith, units, sum);
          given = tt;
          taken = (did.of.1 ∙ stays.of, both.1);
        }

    pub gives_nothing : (Is : OfCalls) → s.own ≡ None → t ≡ s → HoldsCalls accounts Is A s → Gives {D = D} {O = O} accounts A 1 r t [] None
    gives_nothing Is none same held =
        subst (λ (u : SessionState). Gives {D = D} {O = O} accounts A 1 r u [] None) (sym same) (gives_none 1 r s (let_go accounts A Is s s none refl held) stays)

  -- so it is of a transaction that there is not
  pub gives_no_whole : (n : ℕ) (s t : SessionState) → Gives {D = D} {O = O} accounts A n s t [] None → Gives {D = D} {O = O} accounts A n s t (None ∷ []) None
  gives_no_whole n s t is = record { session = is.session; of = is.of; left = is.left; units = is.units; given = (tt, tt); taken = tt }
