-- A call on the transaction of a session, as its visit has gone.
use Rattle.device_calls.proofs.Words.{◌≡◌, ◌∙◌, sym, ap, subst, ℕ, Bool, false, Array, Option, Some, IfSome, Result, Ok, Err, OnErr, IfErr, Start, SessionState, tx_on, IsVisit, Seen, Visited, base_in, base_of, seen_by, Device, Tx, HasRead, IsUnwritten, StoreError, HasCalled, calm}

same_session : (a b : SessionState) → Some a ≡ Some b → a ≡ b
same_session a b e = cc e

module _ (A : Start) (s : SessionState) (before : Option SessionState) (begun : before ≡ Some s) where
  base : base_of A before ≡ base_in A s
  base = ap (base_of A) begun

  -- the call may be made where it may be made on the session's transaction
  pub may_make : (Fits : Tx → Type 0) (v : Seen) → v ≡ seen_by A before s 0 false → Fits (tx_on A s (base_in A s)) → Fits v.tx
  may_make Fits v is may =
      subst (λ (y : Seen). Fits y.tx) (sym is) (subst (λ (b : Option Array). Fits (tx_on A s b)) (sym base) may)

  pub called : (t : SessionState) (failures : ℕ) (is_down : Bool) (v w : Seen) (Says : (x y : Tx) → (before now : Device) → Type 0) → v ≡ seen_by A before s 0 false → w ≡ seen_by A before t failures is_down
      → IsVisit A before t failures is_down → Says v.tx w.tx v.device w.device → HasCalled A s t Says
  called t failures is_down v w Says first last visit says =
      let same : visit.was ≡ s = same_session visit.was s (sym visit.is ∙ begun) in
      record {
        refused = visit.refused;
        failures = failures;
        is_down = is_down;
        visited = subst (λ (u : SessionState). Visited A u t visit.refused) same visit.made;
        failed = visit.failed;
        says = subst (λ (b : Option Array). Says (tx_on A s b) (tx_on A t b) calm (record { faults = failures; is_down = is_down })) base
            (subst (λ (y : Seen). Says (tx_on A s (base_of A before)) y.tx calm y.device) last (subst (λ (y : Seen). Says y.tx w.tx y.device w.device) first says));
      }

pub when_some : {X : Type 0} (P : X → Type 0) (o : Option X) (x : X) → o ≡ Some x → IfSome o P → P x
when_some P o x is has = subst (λ q. IfSome q P) is has

-- a refusal that has made reads alone has written nothing
pub unwritten : {X : Type 0} (r : Result X StoreError) (t u : Tx) (writes : ℕ) → OnErr r (HasRead t u) → IfErr r (IsUnwritten t u writes)
unwritten (Ok x) t u writes is = tt
unwritten (Err e) t u writes is = λ either. is
