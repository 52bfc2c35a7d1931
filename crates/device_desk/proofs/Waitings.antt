-- Ends that are made one after the other, and as one group.
use Rattle.iso_machine.proofs.{Words.{◌≡◌, ◌≢◌, ◌∙◌, inl, inr, sym, refl, ap, subst, ℕ, suc, true, false, List, [], ◌∷◌, ◌++◌, length, take, arith, Option, Some, None, Ok, Err, IsSome, DiskState, IsLawful, started, weakened, World, CoreReply, Reply, Stop, ShowsEither, ShowsLast, SameButShown, Answers, Wanting, as_reply, end_step, attached, as_step, step, Live, append-nil, append_assoc, disk_of, shows}, Endings.end_is}
use Rattle.std.proofs.lemmas.List.{take_all}
use Rattle.counts.specs.Count.{Rose}
use Rattle.iso_disk.proofs.Moments.{at_end, joined}
use Rattle.script_model.specs.declared.script.Op.TheVariants as op
use Rattle.script_model.specs.declared.script.Reply.TheVariants as reply
use Rattle.script_model.specs.declared.stop.Stop.TheVariants as stop
use Rattle.iso_model.specs.declared.core_reply.CoreReply.TheVariants as core
use Rattle.device_desk.specs.{declared.table.Table.Table, Seats.IsTableOf}
use Rattle.device_desk.specs.Waiting.{HasTried, ShowsFrom, Waits, after_ends, end_replies}

-- an end is answered by no bytes
plain : (r : Reply) (x : CoreReply) → SameButShown r (as_reply x) → r ≡ as_reply x
plain (reply.Shown bytes) core.Done is = is
plain (reply.Shown bytes) (core.Began n) is = is
plain (reply.Shown bytes) (core.Committed n) is = is
plain (reply.Shown bytes) core.ReadOnly is = is
plain (reply.Shown bytes) (core.Conflict c) is = is
plain (reply.Shown bytes) (core.Compacted n) is = is
plain (reply.Shown bytes) (core.Upgraded n) is = is
plain (reply.Shown bytes) core.ModeFixed is = is
plain (reply.Shown bytes) core.TooManyTx is = is
plain (reply.Shown bytes) core.Worn is = is
plain (reply.Shown bytes) (core.LogFull need free) is = is
plain r x is = is

not_in : (r : Reply) → SameButShown r reply.NotInTx → r ≡ reply.NotInTx
not_in (reply.Shown bytes) is = is
not_in r is = is

end_reply : (W : World) (number : ℕ) (r : Reply) → SameButShown r (step W number op.End).0 → r ≡ (step W number op.End).0
end_reply W number r same = go (attached W number) refl
  where
    go : (o : Option Live) → attached W number ≡ o → r ≡ (step W number op.End).0
    go None is =
        let says : step W number op.End ≡ (reply.NotInTx, W) = end_is W number None is in
        not_in r (subst (λ (x : Reply × World). SameButShown r x.0) says same) ∙ sym (ap (λ (x : Reply × World). x.0) says)
    go (Some t) is =
        let says : step W number op.End ≡ as_step (end_step W t) = end_is W number (Some t) is in
        plain r (end_step W t).0 (subst (λ (x : Reply × World). SameButShown r x.0) says same) ∙ sym (ap (λ (x : Reply × World). x.0) says)

-- before or after the first of them
either_of : {W : World} (number : ℕ) (numbers : List ℕ) (c : List ℕ) → ShowsEither W (step W number op.End).1 c → ShowsFrom 0 W (number ∷ numbers) c
either_of number numbers c (inl shows) = record { count = 0; from = omega arith; shows = shows }
either_of number numbers c (inr shows) = record { count = 1; from = omega arith; shows = shows }

later_one : {W : World} (n number : ℕ) (numbers : List ℕ) (c : List ℕ) → ShowsFrom n (step W number op.End).1 numbers c → ShowsFrom (suc n) W (number ∷ numbers) c
later_one n number numbers c s = record { count = suc s.count; from = omega (arith, s.from); shows = s.shows }

replies_count : (W : World) (numbers : List ℕ) → length (end_replies W numbers) ≡ length numbers
replies_count W [] = refl
replies_count W (number ∷ numbers) = ap suc (replies_count (step W number op.End).1 numbers)

module _ {stands : World → Type 0} where
  -- no end is asked for any more
  pub no_ends : {d : DiskState} {W : World} (numbers : List ℕ) → length numbers ≡ 0 → IsLawful d → ((c : List ℕ) → d.now c → ShowsLast W c) → stands W → Waits stands d d W numbers [] None
  no_ends numbers none laws here is = record {
    replies = refl;
    all = λ e. sym none;
    world = λ e. is;
    moments = started laws (λ c image. record { count = 0; from = omega arith; shows = here c image });
    stable = λ c image. record { count = 0; from = omega arith; shows = here c image };
    told = λ e told. told;
    up = λ e. absurd (cc e);
    later = omega arith;
    failed = λ e. absurd (cc e);
    passed = λ e. refl;
  }

  still_so : {old new : DiskState} {W : World} {given : Reply × World} (why : Stop) → why ≢ stop.Disk → Answers Wanting stands old new W given (Err why) → stands W × (new.faults ≡ old.faults)
  still_so stop.Down other is = absurd (is.up refl)
  still_so stop.Disk other is = absurd (other refl)
  still_so stop.Memory other is = (is.stopped refl, is.cause.memory refl)

  -- the next end has no reply
  pub stops_at : {old new : DiskState} {W : World} (number : ℕ) (numbers all : List ℕ) (why : Stop) → all ≡ number ∷ numbers → IsLawful new → Answers Wanting stands old new W (step W number op.End) (Err why) → Waits stands old new W all [] (Some why)
  stops_at {old = old} {new = new} {W = W} number numbers all why are laws is =
      subst (λ (ns : List ℕ). Waits stands old new W ns [] (Some why)) (sym are) (record {
        replies = refl;
        all = λ e. absurd (cc e);
        world = λ other. (still_so why (λ e. other (ap Some e)) is).0;
        moments = weakened is.moments (either_of number numbers);
        stable = λ c image. either_of number numbers c (at_end laws is.moments c image);
        told = λ e. absurd (cc e);
        up = λ e. is.up (ap Err (cc e));
        later = is.cause.later;
        failed = λ e. is.cause.failed (ap Err (cc e));
        passed = λ other. (still_so why (λ e. other (ap Some e)) is).1;
      })

  -- one end, and those after it
  pub goes_on : {before : World → Type 0} {old mid new : DiskState} {W : World} (number : ℕ) (numbers all : List ℕ) (r : Reply) (more : List Reply) (why : Option Stop) → all ≡ number ∷ numbers
      → Answers Wanting before old mid W (step W number op.End) (Ok r) → Waits stands mid new (step W number op.End).1 numbers more why → Waits stands old new W all (r ∷ more) why
  goes_on {old = old} {new = new} {W = W} number numbers all r more why are is later =
      subst (λ (ns : List ℕ). Waits stands old new W ns (r ∷ more) why) (sym are) (record {
        replies = λ i. end_reply W number r is.but_shown i ∷ later.replies i;
        all = λ e. ap suc (later.all e);
        world = later.world;
        moments = joined (weakened is.moments (either_of number numbers)) (weakened later.moments (λ c s. record { count = suc s.count; from = omega arith; shows = s.shows }));
        stable = λ c image. later_one (length more) number numbers c (later.stable c image);
        told = λ e told. later.told e (is.told told);
        up = later.up;
        later = omega (arith, is.cause.later, later.later);
        failed = λ e. subst (λ (n : ℕ). Rose n new.faults) is.cause.passed (later.failed e);
        passed = λ e. later.passed e ∙ is.cause.passed;
      })

  -- all of them as one group
  pub made_together : {old new : DiskState} {W : World} (numbers : List ℕ) (before after : List Reply) → before ≡ [] → ((c : List ℕ) → new.now c → ShowsLast (after_ends W numbers) c) → HasTried stands old new W numbers before after (Ok true)
      → Waits stands old new W numbers after None
  made_together {old = old} {new = new} {W = W} numbers before after none shows is =
      let same : after ≡ end_replies W numbers = is.0 ∙ ap (λ (l : List Reply). l ++ end_replies W numbers) none in
      let all : take (length (end_replies W numbers)) numbers ≡ numbers = take_all (length (end_replies W numbers)) numbers (omega (arith, replies_count W numbers)) in
      subst (λ (l : List Reply). Waits stands old new W numbers l None) (sym same) (record {
        replies = ap (end_replies W) (sym all);
        all = λ e. replies_count W numbers;
        world = λ e. subst (λ (l : List ℕ). stands (after_ends W l)) (sym all) is.1;
        moments = weakened is.2 (λ c either. at_last all c either);
        stable = λ c image. record { count = length (end_replies W numbers); from = omega arith; shows = subst (λ (l : List ℕ). ShowsLast (after_ends W l) c) (sym all) (shows c image) };
        told = λ e. is.3;
        up = λ e. absurd (cc e);
        later = omega (arith, is.4);
        failed = λ e. absurd (cc e);
        passed = λ e. is.4;
      })
    where
      at_last : take (length (end_replies W numbers)) numbers ≡ numbers → (c : List ℕ) → ShowsEither W (after_ends W numbers) c → ShowsFrom 0 W numbers c
      at_last all c (inl here) = record { count = 0; from = omega arith; shows = here }
      at_last all c (inr there) = record { count = length (end_replies W numbers); from = omega arith; shows = subst (λ (l : List ℕ). ShowsLast (after_ends W l) c) (sym all) there }

  -- the disk failed in their append
  pub failed_together : {old new : DiskState} {W : World} (numbers : List ℕ) (before after : List Reply) (why : Stop) → before ≡ [] → IsLawful new → HasTried stands old new W numbers before after (Err why)
      → Waits stands old new W numbers after (Some why)
  failed_together {old = old} {new = new} {W = W} numbers before after why none laws is =
      let all : take (length numbers) numbers ≡ numbers = take_all (length numbers) numbers (omega arith) in
      subst (λ (l : List Reply). Waits stands old new W numbers l (Some why)) (sym (is.1 ∙ none)) (record {
        replies = refl;
        all = λ e. absurd (cc e);
        world = λ other. absurd (other (ap Some is.0));
        moments = weakened is.2 (at_last all);
        stable = λ c image. at_last all c (at_end laws is.2 c image);
        told = λ e. absurd (cc e);
        up = λ e. absurd (cc (e, is.0));
        later = is.3;
        failed = λ e. is.4;
        passed = λ other. absurd (other (ap Some is.0));
      })
    where
      at_last : take (length numbers) numbers ≡ numbers → (c : List ℕ) → ShowsEither W (after_ends W numbers) c → ShowsFrom 0 W numbers c
      at_last all c (inl here) = record { count = 0; from = omega arith; shows = here }
      at_last all c (inr there) = record { count = length numbers; from = omega arith; shows = subst (λ (l : List ℕ). ShowsLast (after_ends W l) c) (sym all) there }

  -- without memory for a reply
  pub wants_room : {d : DiskState} {W : World} (numbers : List ℕ) (replies : List Reply) → replies ≡ [] → IsLawful d → ((c : List ℕ) → d.now c → ShowsLast W c) → stands W → Waits stands d d W numbers replies (Some stop.Memory)
  wants_room {d = d} {W = W} numbers replies none laws here is =
      subst (λ (l : List Reply). Waits stands d d W numbers l (Some stop.Memory)) (sym none) (record {
        replies = refl;
        all = λ e. absurd (cc e);
        world = λ other. is;
        moments = started laws (λ c image. record { count = 0; from = omega arith; shows = here c image });
        stable = λ c image. record { count = 0; from = omega arith; shows = here c image };
        told = λ e. absurd (cc e);
        up = λ e. absurd (cc e);
        later = omega arith;
        failed = λ e. absurd (cc e);
        passed = λ e. refl;
      })

-- nothing was made, and then each by itself
pub tried_first : (first : World → Type 0) {stands : World → Type 0} {old mid new : DiskState} {W : World} (numbers : List ℕ) (before after new_replies more : List Reply) (why : Option Stop) → before ≡ [] → IsLawful mid → ((c : List ℕ) → old.now c → ShowsLast W c)
    → HasTried first old mid W numbers before after (Ok false) → new_replies ≡ after ++ more → Waits stands mid new W numbers more why → Waits stands old new W numbers new_replies why
tried_first first {stands = stands} {old = old} {new = new} {W = W} numbers before after new_replies more why none laws here is pushed later =
    subst (λ (l : List Reply). Waits stands old new W numbers l why) (sym (pushed ∙ ap (λ (l : List Reply). l ++ more) (is.0 ∙ none))) (record {
      replies = later.replies;
      all = later.all;
      world = later.world;
      moments = joined (weakened is.2.moments (λ c image. record { count = 0; from = omega arith; shows = here c image })) later.moments;
      stable = later.stable;
      told = λ e told. later.told e (subst (λ (o : Option (List ℕ)). IsSome o) (sym is.2.same_contents) told);
      up = later.up;
      later = omega (arith, later.later, is.3);
      failed = λ e. subst (λ (n : ℕ). Rose n new.faults) is.3 (later.failed e);
      passed = λ e. later.passed e ∙ is.3;
    })

-- From the world W the ends of some numbers were made, whose replies are after those of before, and the others follow.
pub record GoneOn {D : Type 0} (state : D → DiskState) (old now : Table D) (W : World) (numbers rest : List ℕ) (before so_far : List Reply) : Type 0 where
  pub done : List Reply
  pub pushed : so_far ≡ before ++ done
  pub world : World
  pub is : IsTableOf state now world
  pub behind : (m : Table D) (more : List Reply) (why : Option Stop) → Waits (IsTableOf state m) (state (disk_of now.core)) (state (disk_of m.core)) world rest more why
      → Waits (IsTableOf state m) (state (disk_of old.core)) (state (disk_of m.core)) W numbers (done ++ more) why

module _ {D : Type 0} {state : D → DiskState} {old : Table D} {W : World} {numbers : List ℕ} {before : List Reply} where
  pub gone_none : IsTableOf state old W → GoneOn state old old W numbers numbers before before
  gone_none of = record { done = []; pushed = sym (append-nil before); world = W; is = of; behind = λ m more why waits. waits }

  pub gone_one : {now next : Table D} {so_far after : List Reply} (number : ℕ) (others rest : List ℕ) (r : Reply) (gone : GoneOn state old now W numbers rest before so_far) → rest ≡ number ∷ others
      → Answers Wanting (IsTableOf state next) (state (disk_of now.core)) (state (disk_of next.core)) gone.world (step gone.world number op.End) (Ok r) → after ≡ so_far ++ r ∷ [] → GoneOn state old next W numbers others before after
  gone_one number others rest r gone are is pushed = record {
    done = gone.done ++ r ∷ [];
    pushed = pushed ∙ ap (λ (l : List Reply). l ++ r ∷ []) gone.pushed ∙ append_assoc before gone.done (r ∷ []);
    world = (step gone.world number op.End).1;
    is = is.world;
    behind = λ m more why waits.
        subst (λ (l : List Reply). Waits (IsTableOf state m) (state (disk_of old.core)) (state (disk_of m.core)) W numbers l why) (sym (append_assoc gone.done (r ∷ []) more))
        (gone.behind m (r ∷ more) why (goes_on number others rest r more why are is waits));
  }

  -- no end is left, or the next one has no reply
  pub gone_all : {now : Table D} {so_far : List Reply} (rest : List ℕ) (gone : GoneOn state old now W numbers rest before so_far) → length rest ≡ 0 → IsLawful (state (disk_of now.core))
      → (more : List Reply) × (so_far ≡ before ++ more) × Waits (IsTableOf state now) (state (disk_of old.core)) (state (disk_of now.core)) W numbers more None
  gone_all {now = now} rest gone none laws = (
    gone.done,
    gone.pushed,
    subst (λ (l : List Reply). Waits (IsTableOf state now) (state (disk_of old.core)) (state (disk_of now.core)) W numbers l None) (append-nil gone.done)
        (gone.behind now [] None (no_ends rest none laws (shows state now.core gone.world gone.is.core_of) gone.is)),
  )

  pub gone_until : {now : Table D} (next : Table D) {so_far : List Reply} (number : ℕ) (others rest : List ℕ) (why : Stop) (gone : GoneOn state old now W numbers rest before so_far) → rest ≡ number ∷ others → IsLawful (state (disk_of next.core))
      → Answers Wanting (IsTableOf state next) (state (disk_of now.core)) (state (disk_of next.core)) gone.world (step gone.world number op.End) (Err why)
      → (more : List Reply) × (so_far ≡ before ++ more) × Waits (IsTableOf state next) (state (disk_of old.core)) (state (disk_of next.core)) W numbers more (Some why)
  gone_until next number others rest why gone are laws is = (
    gone.done,
    gone.pushed,
    subst (λ (l : List Reply). Waits (IsTableOf state next) (state (disk_of old.core)) (state (disk_of next.core)) W numbers l (Some why)) (append-nil gone.done)
        (gone.behind next [] (Some why) (stops_at number others rest why are laws is)),
  )
