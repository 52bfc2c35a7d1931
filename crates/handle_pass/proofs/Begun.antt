-- The array at the begin of a session's transaction is the same at each later place of the list.
use Rattle.handle_pass.proofs.Words.{◌≡◌, ℕ, ◌<◌, ◌≤◌, List, [], ◌∷◌, Option, Some, None, IfSome, refl, ap, ◌∙◌, arith, History, all_own, array_at, last, Extends, Call, Cause, Entry, Shared, Tx, tx_view, Start, State, after, after_all, after_fault, after_refusal, after_sweep, opened, state_at, follows_prefix, up_to_same, ahead_on, own_of, IsSession, IsPrefix, Inside, HasBegin, view}
use Rattle.iso_shared.specs.declared.entry.Call.TheVariants as call
use Rattle.iso_shared.specs.declared.entry.Cause.TheVariants as cause
use Rattle.iso_shared.specs.declared.entry.Entry.TheVariants as entry
use Rattle.iso_shared.specs.Ports.{IsTx}

tells_fault : (S : State) (c : Call) (now : ℕ) → (after_fault S c now).tells ≡ S.tells
tells_fault S (call.Begin named) now = refl
tells_fault S c now = refl

tells_refusal : (S : State) (c : Call) (why : Cause) → (after_refusal S c why).tells ≡ S.tells
tells_refusal S c (cause.Disk before now) = tells_fault S c now
tells_refusal S c why = refl

tells_sweep : (S : State) (found : Option ℕ) → (after_sweep S found).tells ≡ S.tells
tells_sweep S None = refl
tells_sweep S (Some n) = refl

tells_next : (S : State) (e : Entry) → (after S e).tells ≡ S.tells
tells_next S (entry.Sweep found) = tells_sweep S found
tells_next S (entry.Refused c why) = tells_refusal S c why
tells_next S e = refl

tells_all : (S : State) (es : List Entry) → (after_all S es).tells ≡ S.tells
tells_all S [] = refl
tells_all S (e ∷ es) = tells_all (after S e) es ∙ tells_next S e

-- whether the disk tells its bytes is the same at each place of the list
pub tells_at : (A : Start) (es : List Entry) → (state_at A es).tells ≡ A.tells
tells_at A es = tells_all (opened A) es

-- the array at a number that a history has is that of each longer history
array_same : (H G : History) (n : ℕ) → 0 < H.first → n ≤ last H → Extends H G → array_at G n ≡ array_at H n
array_same H G n some within more = ap (λ (h : History). all_own h.base h.commits) (up_to_same H G n some within more)

module _ {D O : Type 0} where
  begun_by : (A : Start) (sh : Shared D O) (xs : List Entry) (tx : Option (Tx D O)) → IfSome tx (λ t. IsTx sh A t × IsPrefix (tx_view t).seen xs) → IfSome (own_of tx) (λ o. HasBegin A xs o.begin)
  begun_by A sh xs None is = tt
  begun_by A sh xs (Some t) is =
      let ahead = ahead_on A (tx_view t).seen xs t.work t.checked is.1 is.0.1.ahead in
      let from : t.work.begin ≤ t.checked.upto = ahead.from in
      let to : t.checked.upto ≤ last (state_at A xs).world.history = ahead.to in
      record { first = ahead.first; within = omega arith }

  -- what a session has seen has the begin of its transaction
  pub has_begin : (A : Start) (s : Inside D O) → IsSession A s → IfSome (own_of s.tx) (λ o. HasBegin A (view s.port.pass).seen o.begin)
  has_begin A s is = begun_by A s.shared.now (view s.port.pass).seen s.tx is.tx

-- the array at the begin is the same at each later place
pub array_kept : (A : Start) (xs ys : List Entry) (begin : ℕ) → HasBegin A xs begin → IsPrefix xs ys → array_at (state_at A ys).world.history begin ≡ array_at (state_at A xs).world.history begin
array_kept A xs ys begin has more =
    array_same (state_at A xs).world.history (state_at A ys).world.history begin has.first has.within (follows_prefix A xs ys more).history
