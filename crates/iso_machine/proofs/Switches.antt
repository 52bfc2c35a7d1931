-- A switch to the other half.
use Rattle.iso_machine.proofs.{Words.{◌≡◌, ◌≢◌, ◌⊎◌, ◌==◌, if◌then◌else◌, inl, refl, sym, subst, ℕ, List, Bool, true, false, Err, IsSome, DiskState, LeavesOnly, weakened, CoreError, LAST, CoreReply, as_step, after_switch, switch_step, step, World, floor, all_weaker, Core, Refuses, refusal_of, StandsFor, disk_of, up, ShowsLast, Attached, Answers, Wanting, answer_to, AreOf, Finder, IsSized}, Machines.same, Refusals.{IsRefusal, KeepsRefused, blames, refused}}
use Rattle.iso_model.specs.declared.core_error.CoreError.TheVariants as error
use Rattle.iso_model.specs.declared.core_reply.CoreReply.TheVariants as reply
use Rattle.script_model.specs.declared.script.Op.TheVariants as op
use Rattle.iso_core.specs.Calls.{BlamesDisk}

-- the transactions stay
pub switched : {D : Type 0} {state : D → DiskState} {core new : Core D} {table : Finder} {live : List Attached} {W : World} (form : ℕ) → AreOf state core table live W → StandsFor state new (after_switch W form) up
    → AreOf state new table live (after_switch W form)
switched {live = live} {W = W} form of stands = record {
  core_of = stands;
  live_are = of.live_are;
  sized = all_weaker (IsSized W.geometry) (IsSized (after_switch W form).geometry) (λ a is. record { size = is.size; blocks = is.blocks }) live of.sized;
  listed = of.listed;
}

pub compact_is : (W : World) (c : ℕ) → step W c op.Compact ≡ as_step (switch_step W W.geometry.form (reply.Compacted (floor W)))
unfolding step
compact_is W c = refl

pub upgrade_is : (W : World) (c : ℕ) → step W c op.Upgrade ≡ as_step (switch_step W 2 (reply.Upgraded (floor W)))
unfolding step
upgrade_is W c = refl

keeps_worn : (W : World) (test : Bool) (form : ℕ) (answer : CoreReply) → (IsRefusal answer → ⊥) → KeepsRefused W (if test then (reply.Worn, W) else (answer, after_switch W form))
keeps_worn W true form answer none = λ refusal. refl
keeps_worn W false form answer none = λ refusal. absurd (none refusal)

pub keeps_switch : (W : World) (form : ℕ) (answer : CoreReply) → (IsRefusal answer → ⊥) → KeepsRefused W (switch_step W form answer)
unfolding switch_step
keeps_switch W form answer none = keeps_worn W (W.generation == LAST) form answer none

-- an error that represents a reply is no fault of the disk and no want of memory
pub worn_still : {D : Type 0} (old new : D) (e : CoreError) → (e ≢ error.Disk → e ≢ error.Memory → new ≡ old) → IsSome (refusal_of e) → new ≡ old
worn_still old new error.Down still some = absurd cc
worn_still old new error.TooManyTx still some = still (λ e. cc e) (λ e. cc e)
worn_still old new (error.LogFull need free) still some = still (λ e. cc e) (λ e. cc e)
worn_still old new error.Disk still some = absurd cc
worn_still old new error.Memory still some = absurd cc
worn_still old new (error.Worn at) still some = still (λ e. cc e) (λ e. cc e)
worn_still old new error.ModeFixed still some = still (λ e. cc e) (λ e. cc e)

-- a switch that is refused
pub switch_refused : {D : Type 0} {state : D → DiskState} {core new : Core D} {table : Finder} {live : List Attached} {W : World} (form : ℕ) (answer : CoreReply) (e : CoreError) → AreOf state core table live W
    → (IsRefusal answer → ⊥) → (e ≡ error.Disk) ⊎ Refuses (switch_step W form answer).0 e → (e ≢ error.Disk → StandsFor state new W up)
    → (e ≢ error.Disk → e ≢ error.Memory → disk_of new ≡ disk_of core) → LeavesOnly (state (disk_of core)) (state (disk_of new)) (ShowsLast W)
    → BlamesDisk {T = ℕ} (state (disk_of core)).faults (state (disk_of new)).faults (Err e)
    → Answers Wanting (AreOf state new table live) (state (disk_of core)) (state (disk_of new)) W (as_step (switch_step W form answer)) (answer_to e)
switch_refused {state = state} {core = core} {new = new} {W = W} form answer e of none is stands still moments cause =
    refused (λ may. absurd (cc may)) e (record {
      is = is;
      keeps = keeps_switch W form answer none;
      same = λ other. same of (stands other);
      told = λ some told. subst (λ d. IsSome (state d).contents) (sym (worn_still (disk_of core) (disk_of new) e still some)) told;
      moments = weakened moments (λ image shown. inl shown);
      unmade = λ e. moments;
      cause = blames e cause;
    })
