-- What each call of a session makes of a client's line.
use Rattle.par_lines.proofs.Words.{◌≡◌, ℕ, List, [], ◌∷◌, Option, Some, None, ap, inl, inr, refl, sym, subst, ◌∙◌, IsSome, Result, Ok, Err, BeginError, EndError, PostTxError, left_by, CannotClash, HasAborted, HasBegun, HasChecked, HasEnded, IsCheckCause, HasLooked, HasPosted, KeepsTx, Made, moves_made, moves_none, moves_on, Stat, reply_of, EndReply, Mode, CoreError, InTx, NotInTx, as_reply, Op, Reply, step, Entry, Start, cause_of, compact_entry, numbers_of, trim_entry, upgrade_entry, Stop, Own, Did, Does, EndsThen, Answered, SessionState}
use Rattle.handle_pass.specs.declared.errors.BeginError.TheVariants as begin
use Rattle.handle_pass.specs.declared.errors.EndError.TheVariants as end
use Rattle.handle_pass.specs.declared.errors.PostTxError.TheVariants as post
use Rattle.iso_model.specs.declared.core_error.CoreError.TheVariants as error
use Rattle.script_model.specs.declared.script.Op.TheVariants as op
use Rattle.script_model.specs.declared.script.Reply.TheVariants as reply
use Rattle.iso_shared.specs.declared.entry.Call.TheVariants as call
use Rattle.iso_shared.specs.declared.entry.Cause.TheVariants as cause
use Rattle.iso_shared.specs.declared.entry.Entry.TheVariants as entry
use Rattle.par_script.specs.Lines as lines
use Rattle.par_lines.specs.Replies as say

-- a refusal of the device, as the client is answered
pub refused_is : (before now : ℕ) (e : CoreError) → say.refused e ≡ lines.refused (cause_of before now e)
refused_is before now error.Down = refl
refused_is before now e = refl

left_is : (before now : ℕ) (e : CoreError) (o : Own) → left_by e o ≡ lines.left_by (cause_of before now e) o
left_is before now error.Down o = refl
left_is before now e o = refl

some_own : (own : Option Own) → IsSome own → (o : Own) × (own ≡ Some o)
some_own None never = absurd (cc never)
some_own (Some o) is = (o, refl)

pub same_own : (o p : Own) → Some o ≡ Some p → o ≡ p
same_own o p is = ap (unwrap_or' o) is
  where
    unwrap_or' : Own → Option Own → Own
    unwrap_or' d None = d
    unwrap_or' d (Some x) = x

-- an operation that is this one, and an answer that is this one
pub said : {A : Start} {s t : SessionState} {o p : Op} {r q : Result Reply Stop} → o ≡ p → r ≡ q → Answered A s p q t → Answered A s o r t
said {A} {s} {t} {o} {p} {r} {q} is says answered = subst (λ x. Answered A s x r t) (sym is) (subst (λ x. Answered A s p x t) (sym says) answered)

-- a line before which the session was asked something that changed nothing
pub asked_before : {A : Start} {s u t : SessionState} {o : Op} {r : Result Reply Stop} → u ≡ s → Answered A u o r t → Answered A s o r t
asked_before {A} {s} {u} {t} {o} {r} same answered = subst (λ v. Answered A v o r t) same answered

module _ (A : Start) where
  -- a line of one entry
  pub by_entry : (s t : SessionState) (o : Op) (e : Entry) (r : Result Reply Stop) (was : Option Own) → s.own ≡ was → Made A s t e → Does A.world.geometry A.tells was o (e ∷ []) r t.own → Answered A s o r t
  by_entry s t o e r was is m does = record {
    entries = e ∷ [];
    moves = moves_made A s t e m;
    did = inl (subst (λ w. Does A.world.geometry A.tells w o (e ∷ []) r t.own) (sym is) does);
    of = m.of;
  }

  -- a line that the client's own state answers
  pub by_none : (s t : SessionState) (o : Op) (r : Result Reply Stop) (was : Option Own) → s.own ≡ was → t ≡ s → Does A.world.geometry A.tells was o [] r was → Answered A s o r t
  by_none s t o r was is same does =
      subst (λ u. Answered A s o r u) (sym same) (record {
        entries = [];
        moves = moves_none s;
        did = subst (λ w. Did A.world.geometry A.tells w o [] r w) (sym is) (inl does);
        of = refl;
      })

  pub begun : (s t : SessionState) (named : Option Mode) (r : Result ℕ BeginError) → HasBegun A s named r t → Answered A s (op.Begin named) (say.begun r) t
  unfolding step
  begun s t named (Ok at) h = by_entry s t (op.Begin named) (entry.Begin h.1 at h.2) (Ok (reply.Began at)) None h.0 h.3 (h.4, refl, h.5)
  begun s t named (Err begin.InTx) h =
      let o = some_own s.own h.0 in
      by_none s t (op.Begin named) (Ok reply.InTx) (Some o.0) o.1 h.1 (refl, refl, refl)
  begun s t named (Err (begin.Core e)) h =
      by_entry s t (op.Begin named) (entry.Refused (call.Begin named) (cause_of h.2 h.3 e)) (say.refused e) None h.0 h.4 (refl, refused_is h.2 h.3 e, h.1)

  pub aborted : (s t : SessionState) (r : Result (Unit {0}) NotInTx) → HasAborted A s r t → Answered A s op.Abort (say.aborted r) t
  unfolding step
  aborted s t (Ok done) h = by_entry s t op.Abort (entry.Abort h.0.number) (Ok reply.Done) (Some h.0) h.1 h.3 (refl, refl, h.2)
  aborted s t (Err e) h = by_none s t op.Abort (Ok reply.NotInTx) None h.0 h.1 (refl, refl, refl)

  pub posted : (s t : SessionState) (label : List ℕ) (r : Result (Unit {0}) PostTxError) → HasPosted A s label r t → Answered A s (op.Release label) (say.posted r) t
  unfolding step
  posted s t label (Ok done) h =
      by_entry s t (op.Release label) (entry.Post h.0.number label h.0.accesses) (Ok reply.Done) (Some h.0) h.1 h.3 (refl, refl, refl, refl, h.2)
  posted s t label (Err post.NotInTx) h = by_none s t (op.Release label) (Ok reply.NotInTx) None h.0 h.1 (refl, refl, refl)
  posted s t label (Err post.LabelTaken) h =
      by_entry s t (op.Release label) (entry.Refused (call.Post h.0.number label h.0.accesses) cause.LabelTaken) (Ok reply.LabelTaken) (Some h.0) h.1 h.3 (refl, refl, h.2.is ∙ h.1)
  posted s t label (Err post.Memory) h =
      by_entry s t (op.Release label) (entry.Refused (call.Post h.0.number label h.0.accesses) cause.Memory) (say.posted (Err post.Memory)) (Some h.0) h.1 h.3 (refl, refl, h.2.is ∙ h.1)

  pub looked : (s t : SessionState) (label : List ℕ) (r : Result (Option ℕ) InTx) → HasLooked A s label r t → Answered A s (op.Takeover label) (say.looked r) t
  unfolding step
  looked s t label (Ok (Some at)) h =
      by_entry s t (op.Takeover label) (entry.Look label (Some h.1)) (Ok (reply.Began at)) None h.0 h.4 (refl, ap (λ n. Ok (reply.Began n)) h.3, h.2)
  looked s t label (Ok None) h = by_entry s t (op.Takeover label) (entry.Look label None) (Ok reply.NoHandle) None h.0 h.2 (refl, refl, h.1)
  looked s t label (Err e) h =
      let o = some_own s.own h.0 in
      by_none s t (op.Takeover label) (Ok reply.InTx) (Some o.0) o.1 h.1 (refl, refl, refl)

  -- a line that leaves the transaction, whatever it is
  kept : (s t : SessionState) (o : Op) (e : Entry) (r : Result Reply Stop) → Made A s t e → t.own ≡ s.own → ((own' : Option Own) → own' ≡ None → Does A.world.geometry A.tells None o (e ∷ []) r own')
      → ((p : Own) (own' : Option Own) → own' ≡ Some p → Does A.world.geometry A.tells (Some p) o (e ∷ []) r own') → Answered A s o r t
  kept s t o e r m same without within = by_entry s t o e r s.own refl m (does s.own t.own same)
    where
      does : (was own' : Option Own) → own' ≡ was → Does A.world.geometry A.tells was o (e ∷ []) r own'
      does None own' is = without own' is
      does (Some p) own' is = within p own' is

  pub trimmed : (s t : SessionState) (b n : ℕ) (r : Result ℕ CoreError) → Made A s t (trim_entry b n r) → KeepsTx s t → Answered A s op.Trim (say.trimmed r) t
  trimmed s t b n (Ok k) m keeps = kept s t op.Trim (entry.Trim k) (Ok (reply.Trimmed k)) m keeps.is (λ w is. (refl, is)) (λ p w is. (refl, is))
  trimmed s t b n (Err e) m keeps = kept s t op.Trim (entry.Refused call.Trim (cause_of b n e)) (say.refused e) m keeps.is (λ w is. (refl, refused_is b n e, is)) (λ p w is. (refl, refused_is b n e, is))

  pub compacted : (s t : SessionState) (b n : ℕ) (r : Result ℕ CoreError) → Made A s t (compact_entry b n r) → KeepsTx s t → Answered A s op.Compact (say.compacted r) t
  compacted s t b n (Ok k) m keeps = kept s t op.Compact (entry.Compact k) (Ok (reply.Compacted k)) m keeps.is (λ w is. (refl, is)) (λ p w is. (refl, is))
  compacted s t b n (Err e) m keeps = kept s t op.Compact (entry.Refused call.Compact (cause_of b n e)) (say.refused e) m keeps.is (λ w is. (refl, refused_is b n e, is)) (λ p w is. (refl, refused_is b n e, is))

  pub upgraded : (s t : SessionState) (b n : ℕ) (r : Result ℕ CoreError) → Made A s t (upgrade_entry b n r) → KeepsTx s t → Answered A s op.Upgrade (say.upgraded r) t
  upgraded s t b n (Ok k) m keeps = kept s t op.Upgrade (entry.Upgrade k) (Ok (reply.Upgraded k)) m keeps.is (λ w is. (refl, is)) (λ p w is. (refl, is))
  upgraded s t b n (Err e) m keeps = kept s t op.Upgrade (entry.Refused call.Upgrade (cause_of b n e)) (say.refused e) m keeps.is (λ w is. (refl, refused_is b n e, is)) (λ p w is. (refl, refused_is b n e, is))

  pub told_numbers : (s t : SessionState) (n : Stat) → Made A s t (entry.Stat (numbers_of n)) → KeepsTx s t → Answered A s op.Stat (Ok (say.numbers n)) t
  told_numbers s t n m keeps = kept s t op.Stat (entry.Stat (numbers_of n)) (Ok (say.numbers n)) m keeps.is (λ w is. (refl, is)) (λ p w is. (refl, is))

  pub unchecked : (s t : SessionState) (e : EndError) → HasChecked A s (Err e) t → Answered A s op.End (say.not_ended e) t
  unfolding step
  unchecked s t end.NotInTx h = by_none s t op.End (Ok reply.NotInTx) None h.0 h.1 (refl, refl, refl)
  unchecked s t (end.Core e) h = by_cause h.3
    where
      by_cause : IsCheckCause A s t h.0 e → Answered A s op.End (say.refused e) t
      by_cause (inl c) = by_entry s t op.End (entry.Refused (call.Recent h.0.number) (cause_of c.0 c.1 e)) (say.refused e) (Some h.0) h.1 c.2 (inl (refl, refused_is c.0 c.1 e, h.2.is ∙ h.1))
      by_cause (inr c) = by_entry s t op.End (entry.Recent h.0.number c.1) (say.refused e) (Some h.0) h.1 c.2 (inl (refl, (ap say.refused c.0, h.2.is ∙ h.1)))

  -- the end after a check
  two : (s m t : SessionState) (o : Own) (upto : ℕ) (e : Entry) (r : Result Reply Stop) → s.own ≡ Some o → Made A s m (entry.Recent o.number upto) → Made A m t e → EndsThen o (e ∷ []) r t.own
      → Answered A s op.End r t
  two s m t o upto e r is first second ends = record {
    entries = entry.Recent o.number upto ∷ e ∷ [];
    moves = moves_on s m t (entry.Recent o.number upto ∷ []) (e ∷ []) (moves_made A s m (entry.Recent o.number upto) first) (moves_made A m t e second);
    did = inl (subst (λ w. Does A.world.geometry A.tells w op.End (entry.Recent o.number upto ∷ e ∷ []) r t.own) (sym is) (inl (refl, ends)));
    of = second.of ∙ first.of;
  }

  pub ended : (s m t : SessionState) (upto old new : ℕ) (r : Result EndReply EndError) → HasChecked A s (Ok upto) m → HasEnded A m old r t new → Answered A s op.End (say.ended r) t
  ended s m t upto old new (Ok answer) c h =
      let same : h.0 ≡ c.0 = same_own h.0 c.0 (sym h.1 ∙ c.2) in
      two s m t c.0 upto _ (Ok (as_reply (reply_of answer))) c.1 c.4 h.3 (ap (λ (o : Own). o.number) same, ap (λ (o : Own). o.accesses) same, refl, h.2)
  ended s m t upto old new (Err end.NotInTx) c h = absurd (cc (sym h.0 ∙ c.2))
  ended s m t upto old new (Err (end.Core e)) c h =
      let same : h.0 ≡ c.0 = same_own h.0 c.0 (sym h.1 ∙ c.2) in
      two s m t c.0 upto _ (say.refused e) c.1 c.4 h.5 (ap (λ (o : Own). call.End o.number o.accesses) same, refused_is h.3 h.4 e, h.2 ∙ left_is h.3 h.4 e h.0 ∙ ap (lines.left_by (cause_of h.3 h.4 e)) same)

  -- the transaction with which no commit can clash is the session's
  spared : (s : SessionState) (o : Own) → s.own ≡ Some o → CannotClash A s → lines.CannotClash A.world.geometry o
  spared s o is never = subst (lines.CannotClash A.world.geometry) (same_own never.0 o (sym never.1 ∙ is)) never.2

  -- its end, without a check
  pub at_once : (s t : SessionState) (old new : ℕ) (r : Result EndReply EndError) → CannotClash A s → HasEnded A s old r t new → Answered A s op.End (say.ended r) t
  at_once s t old new (Ok answer) never h =
      by_entry s t op.End _ (Ok (as_reply (reply_of answer))) (Some h.0) h.1 h.3 (inr (spared s h.0 h.1 never, (refl, refl, refl, h.2)))
  at_once s t old new (Err end.NotInTx) never h = absurd (cc (sym h.0 ∙ never.1))
  at_once s t old new (Err (end.Core e)) never h =
      by_entry s t op.End _ (say.refused e) (Some h.0) h.1 h.5 (inr (spared s h.0 h.1 never, (refl, refused_is h.3 h.4 e, h.2 ∙ left_is h.3 h.4 e h.0)))
