-- Answers that are given, and answers that write nothing.
use Rattle.iso_machine.proofs.{Words.{◌≡◌, inl, ap, sym, refl, subst, ℕ, List, Result, Ok, Err, IfErr, IfOk, IsErrOf, OnErr, IsSome, Option, arith, DiskState, IsLawful, LeavesOnly, StaysTold, WritesNothing, started, stays, Reply, last, Shows, World, Live, Doing, Stop, ShowsEither, ShowsLast, BlamesDisk, IsShown, IsWorkedTo, Answers, AreOf, Attached, Core, Finder, disk_of, shows}, Accesses.same_but_shown}
use Rattle.iso_core.specs.Calls as core
use Rattle.script_model.specs.declared.stop.Stop.TheVariants as stop

-- a call that has no reply
pub no_reply : {goes_on : Stop → Type 0} {stands : World → Type 0} {old new : DiskState} {W : World} {given : Reply × World} {why : Stop} → LeavesOnly old new (ShowsEither W given.1) → (why ≡ stop.Memory → LeavesOnly old new (ShowsLast W)) → (why ≡ stop.Down → ⊥)
    → BlamesDisk old.faults new.faults (Err why) → (goes_on why → stands W) → Answers goes_on stands old new W given (Err why)
no_reply moments unmade not_down cause stopped = record {
  reply = tt;
  but_shown = tt;
  told = tt;
  world = tt;
  moments = moments;
  unmade = λ is. unmade (cc is);
  up = λ is. not_down (cc is);
  cause = cause;
  stopped = stopped;
}

-- a call of the core that was answered
pub answered : {T : Type 0} {goes_on : Stop → Type 0} {stands : World → Type 0} {old new : DiskState} {W : World} {given : Reply × World} {r : Reply} {answer : T} → r ≡ given.0 → StaysTold old new → stands given.1
    → LeavesOnly old new (ShowsEither W given.1) → core.BlamesDisk old.faults new.faults (Ok answer) → Answers goes_on stands old new W given (Ok r)
answered {given = given} {r = r} is told after moments cause = record {
  reply = λ told. is;
  but_shown = same_but_shown r given.0 is;
  told = told;
  world = after;
  moments = moments;
  unmade = λ e. absurd (cc e);
  up = λ e. absurd (cc e);
  cause = record { later = cause.later; failed = λ e. absurd (cc e); passed = cause.passed; memory = λ e. absurd (cc e) };
  stopped = tt;
}

-- the same answer, where what is given is written in another way
pub answers_as : {goes_on : Stop → Type 0} {stands : World → Type 0} {old new : DiskState} {W : World} {given other : Reply × World} {result : Result Reply Stop} → given ≡ other
    → Answers goes_on stands old new W given result → Answers goes_on stands old new W other result
answers_as {goes_on = goes_on} {stands = stands} {old = old} {new = new} {W = W} {result = result} is answer = subst (λ (g : Reply × World). Answers goes_on stands old new W g result) is answer

pub answers_by : {goes_on : Stop → Type 0} {stands : World → Type 0} {old new : DiskState} {W : World} {given : Reply × World} {result answer : Result Reply Stop} → result ≡ answer
    → Answers goes_on stands old new W given answer → Answers goes_on stands old new W given result
answers_by {goes_on = goes_on} {stands = stands} {old = old} {new = new} {W = W} {given = given} is answer = subst (Answers goes_on stands old new W given) (sym is) answer

module _ {goes_on : Stop → Type 0} {stands : World → Type 0} {d : DiskState} (laws : IsLawful d) {W : World} (here : (c : List ℕ) → d.now c → Shows c W.geometry W.history (last W.history)) where
  pub quiet : {given : Reply × World} {r : Reply} {V : World} → given ≡ (r, V) → stands V → Answers goes_on stands d d W given (Ok r)
  quiet {r = r} is stands_for = answers_as (sym is) (record {
    reply = λ told. refl;
    but_shown = same_but_shown r r refl;
    told = λ told. told;
    world = stands_for;
    moments = started laws (λ c image. inl (here c image));
    unmade = λ e. absurd (cc e);
    up = λ e. absurd (cc e);
    cause = record { later = omega arith; failed = λ e. absurd (cc e); passed = refl; memory = λ e. absurd (cc e) };
    stopped = tt;
  })

  pub quiet_memory : {given : Reply × World} → (goes_on stop.Memory → stands W) → Answers goes_on stands d d W given (Err stop.Memory)
  quiet_memory still =
      no_reply (started laws (λ c image. inl (here c image))) (λ e. started laws here) (λ e. absurd (cc e)) (record { later = omega arith; failed = λ e. absurd (cc e); passed = tt; memory = λ e. refl }) still

  -- a call on one transaction that writes nothing
  pub acted : {new : DiskState} {t : Live} {work : Doing} {given : Reply × World} (result : Result Reply Stop) → IfOk result (IsShown d W t given work)
      → (IsWorkedTo W t given.1 work → stands given.1) → IfErr result (λ why. stands W) → WritesNothing d new → ¬ IsErrOf result stop.Down → BlamesDisk d.faults new.faults result → Answers goes_on stands d new W given result
  acted (Ok r) is world kept still not_down cause = record {
    reply = is.reply;
    but_shown = is.but_shown;
    told = λ told. subst (λ (o : Option (List ℕ)). IsSome o) (sym still.same_contents) told;
    world = world is.worked;
    moments = stays still (λ c image. inl (here c image));
    unmade = λ e. stays still here;
    up = not_down;
    cause = cause;
    stopped = tt;
  }
  acted (Err e) is world kept still not_down cause = no_reply (stays still (λ c image. inl (here c image))) (λ e. stays still here) (λ is. not_down (ap Err is)) cause (λ on. kept)

-- a disk that is as it was shows the last commit alone
pub shows_still : {D : Type 0} (state : D → DiskState) {old new : D} (W : World) → IsLawful (state old) → ((c : List ℕ) → (state old).now c → Shows c W.geometry W.history (last W.history)) → new ≡ old → LeavesOnly (state old) (state new) (ShowsLast W)
shows_still state {old = old} W laws here still = subst (λ disk. LeavesOnly (state old) (state disk) (ShowsLast W)) (sym still) (started laws here)

-- so, of a machine whose disk stays
module _ {D : Type 0} {state : D → DiskState} {core new : Core D} {table now : Finder} {live list : List Attached} {W : World} {goes_on : Stop → Type 0} {given : Reply × World}
    (laws : IsLawful (state (disk_of core))) (of : AreOf state core table live W) (still : disk_of new ≡ disk_of core) where
  pub stays_with : {r : Reply} {V : World} → given ≡ (r, V) → AreOf state new now list V → Answers goes_on (AreOf state new now list) (state (disk_of core)) (state (disk_of new)) W given (Ok r)
  stays_with {r = r} is after =
      subst (λ (disk : D). Answers goes_on (AreOf state new now list) (state (disk_of core)) (state disk) W given (Ok r)) (sym still) (quiet laws (shows state core W of.core_of) is after)

  pub wants_memory : (goes_on stop.Memory → AreOf state new now list W) → Answers goes_on (AreOf state new now list) (state (disk_of core)) (state (disk_of new)) W given (Err stop.Memory)
  wants_memory after =
      subst (λ (disk : D). Answers goes_on (AreOf state new now list) (state (disk_of core)) (state disk) W given (Err stop.Memory)) (sym still) (quiet_memory laws (shows state core W of.core_of) after)

-- what follows where there is no reply
pub kept_for : {P Q : Type 0} (result : Result Reply Stop) → (Q → P) → OnErr result Q → IfErr result (λ why. P)
kept_for (Ok r) gives is = tt
kept_for (Err e) gives is = gives is
