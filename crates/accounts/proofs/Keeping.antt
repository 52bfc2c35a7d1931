-- What calls leave of a session whose transactions are those of accounts.
use Rattle.accounts.proofs.{Words.{◌≡◌, ◌∙◌, sym, refl, ap, subst, ℕ, true, List, [], ◌∷◌, ◌++◌, arith, Option, Some, None, Result, Ok, Err, Accounts, Access, IsPrefix, AllByRecursion, prefix_self, prefix_trans, View, times, BeginError, EndError, EndsWith, HasAborted, HasBegun, Next, Released, Made, Own, count, Visited, fetches, number_in, refusals, EndReply, Committed, Conflict, ReadOnly, Mode, CoreError, NotInTx, legal_last, loose_is, Cause, Entry, Start, opened, state_at, cause_of, commit_at, world_at, IsOfAccountsAt, CommitsAccounts, IsOfAccounts, TookOver, Covers, Gains, IsFilled, IsGiven, HoldsCalls, IsKept, BeginsIdle, KeepsOn, OfCalls, Stays, DeviceId, HandleState, IsReleased, IsWhole, SessionState, held_state}, Committing.commits_well, Covering.{IsQuiet, covers_both, covers_less, covers_on, covers_one, covers_quiet, quiet_well}}
use Rattle.handle_pass.specs.declared.errors.BeginError.TheVariants as begin
use Rattle.handle_pass.specs.declared.errors.EndError.TheVariants as end
use Rattle.handle_pass.specs.Calls.{HasEnded}
use Rattle.iso_shared.specs.declared.tx.Tx.{Tx}
use Rattle.iso_model.specs.declared.core_error.CoreError.TheVariants as error
use Rattle.iso_shared.specs.declared.entry.Call.TheVariants as call
use Rattle.iso_shared.specs.declared.entry.Entry.TheVariants as entry

pub filled_on : (Is : OfCalls) (A : Start) (E F : List Entry) (o : Own) → IsPrefix E F → IsFilled Is A E o → IsFilled Is A F o
filled_on Is A E F o more is = record {
  before = is.before;
  known = prefix_trans (is.before ++ entry.Begin o.number o.begin o.mode ∷ []) E F is.known more;
  legal = is.legal;
  serial = is.serial;
  parts = is.parts;
  are = is.are;
  made = is.made;
  is = is.is;
}

-- a call that was refused makes no commit, but for one that a fault of the disk has left open
abbrev Fine : (accounts : Accounts) (A : Start) (before : List Entry) (n : ℕ) (accesses : List Access) → Type 0
Fine accounts A before n accesses = A.tells ≡ true → CommitsAccounts accounts A.world.geometry (world_at A before).history (commit_at (world_at A before) n accesses)

end_well : (accounts : Accounts) (A : Start) (before : List Entry) (n : ℕ) (accesses : List Access) (r : EndReply) → Fine accounts A before n accesses → A.tells ≡ true → IsOfAccountsAt accounts A before (entry.End n accesses r)
end_well accounts A before n accesses (Committed k) fine tells = (fine tells, tt)
end_well accounts A before n accesses ReadOnly fine tells = tt
end_well accounts A before n accesses (Conflict c) fine tells = tt

refused_well : (accounts : Accounts) (A : Start) (before : List Entry) (n : ℕ) (accesses : List Access) (was now : ℕ) (e : CoreError) → Fine accounts A before n accesses → A.tells ≡ true
    → IsOfAccountsAt accounts A before (entry.Refused (call.End n accesses) (cause_of was now e))
refused_well accounts A before n accesses was now error.Disk fine tells = (fine tells, tt)
refused_well accounts A before n accesses was now e fine tells = tt

fetches_quiet : (n : ℕ) (fs : List (ℕ × List ℕ)) (refused : Option (ℕ × Cause)) → AllByRecursion IsQuiet (fetches n fs ++ refusals n refused)
fetches_quiet n [] None = tt
fetches_quiet n [] (Some r) = ((λ W. refl), tt)
fetches_quiet n (f ∷ fs) refused = ((λ W. refl), fetches_quiet n fs refused)

module _ (accounts : Accounts) (A : Start) where
  stays_same : (s t : SessionState) → t ≡ s → Stays s t
  stays_same s t same = subst (λ (u : SessionState). Stays s u) (sym same) (record { of = refl; units = refl })

  stays_made : (s t : SessionState) (e : Entry) → Made A s t e → Stays s t
  stays_made s t e m = record { of = m.of; units = m.units }

  -- one entry of the session's own
  made_well : (s t : SessionState) (e : Entry) (m : Made A s t e) → (A.tells ≡ true → IsOfAccountsAt accounts A m.entered.before e) → Covers accounts A s.seen (count s) → Covers accounts A t.seen (count t)
  made_well s t e m well is =
      let x = m.entered in
      let n : Next A s.seen (count s) e t.seen (count t) = record { before = x.before; told = x.told; known = x.known; legal = x.legal; places = x.places } in
      covers_one accounts A t.seen s.seen t.seen (count s) (count t) e n (prefix_self t.seen) well
      (covers_on accounts A s.seen t.seen (count s) (prefix_trans s.seen x.before t.seen x.told (prefix_trans x.before (x.before ++ e ∷ []) t.seen (e ∷ [], refl) x.known)) is)

  made_quiet : (s t : SessionState) (e : Entry) → Made A s t e → IsQuiet e → Covers accounts A s.seen (count s) → Covers accounts A t.seen (count t)
  made_quiet s t e m quiet is = made_well s t e m (λ tells. quiet_well accounts A m.entered.before e quiet) is

  same_kept : (s t : SessionState) → t ≡ s → IsKept accounts A s → IsKept accounts A t
  same_kept s t same is = subst (λ (u : SessionState). IsKept accounts A u) (sym same) is

  -- ---- a begin

  pub begun : (s t : SessionState) (named : Option Mode) (at : ℕ) → HasBegun A s named (Ok at) t → Covers accounts A s.seen (count s) → Covers accounts A t.seen (count t) × Stays s t
  begun s t named at did is = (made_quiet s t (entry.Begin did.1 at did.2) did.3 (λ W. refl) is, stays_made s t (entry.Begin did.1 at did.2) did.3)

  pub unbegun : (s t : SessionState) (named : Option Mode) (e : BeginError) → HasBegun A s named (Err e) t → IsKept accounts A s → IsKept accounts A t × Stays s t
  unbegun s t named begin.InTx did is = (same_kept s t did.1 is, stays_same s t did.1)
  unbegun s t named (begin.Core e) did is =
      let entry = entry.Refused (call.Begin named) (cause_of did.2 did.3 e) in (
        record { covers = made_quiet s t entry did.4 (λ W. refl) is.covers; none = did.1 },
        stays_made s t entry did.4,
      )

  -- ---- a visit

  pub visited : (s t : SessionState) (refused : Option (ℕ × Cause)) → Visited A s t refused → Covers accounts A s.seen (count s) → Covers accounts A t.seen (count t) × Stays s t
  visited s t refused v is =
      let n = number_in s.own in (
        covers_quiet accounts A t.seen s.seen t.seen (count s) (count t) (fetches n v.fetched ++ refusals n refused) v.next (fetches_quiet n v.fetched refused) (prefix_self t.seen)
            (covers_on accounts A s.seen t.seen (count s) v.moves.known is),
        record { of = v.of; units = v.moves.units },
      )

  -- ---- an abort

  pub stays_on : (s t u : SessionState) → Stays s t → KeepsOn accounts A t u → KeepsOn accounts A s u
  stays_on s t u one two = (two.0, record { of = two.1.of ∙ one.of; units = two.1.units ∙ one.units })

  pub aborted : (s t : SessionState) (r : Result (Unit {0}) NotInTx) → HasAborted A s r t → Covers accounts A s.seen (count s) → IsKept accounts A t × Stays s t
  aborted s t (Ok done) did is = (
    record { covers = made_quiet s t (entry.Abort did.0.number) did.3 (λ W. refl) is; none = did.2 },
    stays_made s t (entry.Abort did.0.number) did.3,
  )
  aborted s t (Err e) did is = (
    record { covers = subst (λ (u : SessionState). Covers accounts A u.seen (count u)) (sym did.1) is; none = ap (λ (v : SessionState). v.own) did.1 ∙ did.0 },
    stays_same s t did.1,
  )

  -- ---- an end

  -- a transaction that is filled commits as one of accounts where its end was made
  fine : (s t : SessionState) (o : Own) (e : Entry) (m : Made A s t e) → BeginsIdle A → HoldsCalls accounts (IsOfAccounts accounts) A s → s.own ≡ Some o
      → Rattle.iso_shared.specs.States.is_live o.number (world_at A m.entered.before).live ≡ true → Fine accounts A m.entered.before o.number o.accesses
  fine s t o e m ready is was live tells =
      let before : List Entry = m.entered.before in
      commits_well accounts A s.seen t.seen before o ready.sound ready.idle (is.filled tells o was)
      (prefix_trans s.seen before t.seen m.entered.told (prefix_trans before (before ++ e ∷ []) t.seen (e ∷ [], refl) m.entered.known))
      (legal_last (opened A) before e m.entered.legal).0 (prefix_trans before (before ++ e ∷ []) t.seen (e ∷ [], refl) m.entered.known) live

  pub ended : (s t : SessionState) (old new : ℕ) (r : Result EndReply EndError) → HasEnded A s old r t new → BeginsIdle A → HoldsCalls accounts (IsOfAccounts accounts) A s → Covers accounts A t.seen (count t) × Stays s t
  ended s t old new (Ok reply) did ready is =
      let o : Own = did.0 in
      let e : Entry = entry.End o.number o.accesses reply in
      let m : Made A s t e = did.3 in
      let fits = (legal_last (opened A) m.entered.before e m.entered.legal).1 in
      let live = (loose_is o.number (state_at A m.entered.before) fits.takes.0).0 in (
        made_well s t e m (end_well accounts A m.entered.before o.number o.accesses reply (fine s t o e m ready is did.1 live)) is.covers,
        stays_made s t e m,
      )
  ended s t old new (Err end.NotInTx) did ready is = (subst (λ (u : SessionState). Covers accounts A u.seen (count u)) (sym did.1) is.covers, stays_same s t did.1)
  ended s t old new (Err (end.Core x)) did ready is =
      let o : Own = did.0 in
      let e : Entry = entry.Refused (call.End o.number o.accesses) (cause_of did.3 did.4 x) in
      let m : Made A s t e = did.5 in
      let fits = (legal_last (opened A) m.entered.before e m.entered.legal).1 in
      let live = (loose_is o.number (state_at A m.entered.before) fits.needs.0).0 in (
        made_well s t e m (refused_well accounts A m.entered.before o.number o.accesses did.3 did.4 x (fine s t o e m ready is did.1 live)) is.covers,
        stays_made s t e m,
      )

  -- a session whose transaction was ended
  pub over : (s t : SessionState) (new : ℕ) (r : EndReply) → HasEnded A s 0 (Ok r) t new → BeginsIdle A → HoldsCalls accounts (IsOfAccounts accounts) A s → KeepsOn accounts A s t
  over s t new r did ready is = let end = ended s t 0 new (Ok r) did ready is in (record { covers = end.0; none = did.2 }, end.1)

  -- ---- a transaction that is given away, and one that is taken over

  pub given : (Is : OfCalls) (s t : SessionState) (h : HandleState) → Released s h t → HoldsCalls accounts Is A s → IsKept accounts A t × IsGiven accounts Is A h
  given Is s t h is held = (
    record {
      covers = covers_less accounts A t.seen (count s) (count t) (λ p. let c = is.places p in omega arith) (subst (λ (E : List Entry). Covers accounts A E (count s)) (sym is.same) held.covers);
      none = is.left;
    },
    record {
      covers = covers_on accounts A s.seen h.seen (λ p. times p h.mine) is.told (covers_less accounts A s.seen (count s) (λ p. times p h.mine) (λ p. let c = is.places p in omega arith) held.covers);
      filled = λ tells o was. filled_on Is A s.seen h.seen o is.told (held.filled tells o (is.was ∙ was));
    },
  )

  -- the transaction of such a handle
  pub whole : {D O : Type 0} (d : DeviceId) (h : HandleState) (t : Tx D O) → IsReleased A t → held_state t ≡ h → h.device ≡ d → IsGiven accounts (IsOfAccounts accounts) A h → IsWhole accounts A d t
  whole d h t is same of has = record {
    tx = ((ap (λ (x : HandleState). x.device) same ∙ of, is.rest, (let one = is.one in omega (arith, one))), is.tx);
    one = is.one;
    given = subst (IsGiven accounts (IsOfAccounts accounts) A) (sym same) has;
  }

  -- without a transaction it gives none away
  pub let_go : (Is : OfCalls) (s t : SessionState) → s.own ≡ None → t ≡ s → HoldsCalls accounts Is A s → IsKept accounts A t
  let_go Is s t none same held = same_kept s t same (record { covers = held.covers; none = none })

  pub took_over : (Is : OfCalls) (s t : SessionState) (h : HandleState) (at : ℕ) → TookOver s h at t → IsKept accounts A s → IsGiven accounts Is A h → HoldsCalls accounts Is A t
  took_over Is s t h at is kept given = record {
    covers = covers_both accounts A t.seen (count s) (λ p. times p h.mine) (count t) is.places (covers_on accounts A s.seen t.seen (count s) is.more kept.covers)
        (covers_on accounts A h.seen t.seen (λ p. times p h.mine) is.told given.covers);
    filled = λ tells o now. filled_on Is A h.seen t.seen o is.told (given.filled tells o (sym is.is ∙ now));
  }

  -- with its unit, once it is over
  pub took_in : (s t u v : SessionState) (h : HandleState) (at : ℕ) → TookOver s h at t → Stays t u → KeepsOn accounts A u v → Gains accounts A s v 1
  took_in s t u v h at took stays over =
      let one = took.units in
      let same = stays.units in
      let still = over.1.units in
      record { session = over.0; of = over.1.of ∙ stays.of ∙ took.of; units = omega (arith, one, same, still) }

  -- ---- the end of a session

  pub finished : (s : SessionState) (o : Option Own) (v : View Entry) → EndsWith A s o v → Covers accounts A s.seen (count s) → Covers accounts A v.seen (λ p. times p v.mine)
  finished s None v did is =
      subst (λ (E : List Entry). Covers accounts A E (λ p. times p v.mine)) (sym did.0) (covers_less accounts A s.seen (count s) (λ p. times p v.mine) (λ p. let c = did.1 p in omega arith) is)
  finished s (Some o) v did is =
      let e : Entry = entry.Abort o.number in
      covers_one accounts A v.seen s.seen v.seen (count s) (λ p. times p v.mine) e
      (record { before = did.before; told = did.told; known = did.known; legal = did.legal; places = did.places }) (prefix_self v.seen) (λ tells. tt)
      (covers_on accounts A s.seen v.seen (count s) (prefix_trans s.seen did.before v.seen did.told (prefix_trans did.before (did.before ++ e ∷ []) v.seen (e ∷ [], refl) did.known)) is)
