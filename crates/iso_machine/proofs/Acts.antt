-- Calls on one transaction of a core that write nothing.
use Rattle.iso_machine.proofs.{Words.{◌≡◌, ◌∙◌, sym, refl, ap, subst, IfOk, ℕ, ◌+◌, ◌≤◌, Bool, List, length, Some, Result, Ok, Err, arith, DiskState, IsLawful, starts_unwritten, Access, Reply, get_step, World, Live, Doing, Core, StandsFor, disk_of, up, IsTx, Accesses, Acts, IsActive, IsAllowed, IsShown, MayRead, Reads, or_stop}, Accesses.shown_given}
use Rattle.iso_model.specs.declared.memory.Memory.{Memory}
use Rattle.script_model.specs.declared.script.Reply.TheVariants as reply
use Rattle.script_model.specs.declared.stop.Stop.{Stop}
use Rattle.script_model.specs.declared.stop.Stop.TheVariants as stop

-- memory was made ready for the read of an access that is allowed
pub may_read : (old new : Doing) (block off len size : ℕ) (is_wrong : Bool) → new ≡ record old { ready = Some block } → IsAllowed old block is_wrong → size ≡ old.size → off + len ≤ size → MayRead new block off len size
may_read old new block off len size is_wrong is allowed bytes fits = record {
  ready = ap (λ (w : Doing). w.ready) is;
  inside = omega (arith, ap (λ (w : Doing). w.blocks) is, allowed.0);
  room = omega (arith, ap (λ (w : Doing). length w.accesses) is, allowed.2);
  bytes = bytes ∙ sym (ap (λ (w : Doing). w.size) is);
  fits = fits;
}

module _ {D : Type 0} {state : D → DiskState} {core : Core D} {tx : ℕ} {old : Doing} {step : World → Live → Reply × World} where
  -- a call that does not ask the core
  module _ (laws : IsLawful (state (disk_of core))) {new : Doing} where
    pub acts_alone : (r : Reply) → ((W : World) (t : Live) → StandsFor state core W up → IsTx W tx t → IsActive W t old → IsShown (state (disk_of core)) W t (step W t) new r)
        → Acts state core core tx old new step (Ok r)
    acts_alone r is = record {
      given = is;
      kept = tt;
      same = λ W of. of;
      unwritten = starts_unwritten laws;
      up = λ e. absurd (cc e);
      cause = record { later = omega arith; failed = λ e. absurd (cc e); passed = refl; memory = λ e. absurd (cc e) };
    }

    pub acts_memory : new ≡ record old { ready = new.ready } → Acts state core core tx old new step (Err stop.Memory)
    acts_memory kept = record {
      given = λ W t of here active. tt;
      kept = kept;
      same = λ W of. of;
      unwritten = starts_unwritten laws;
      up = λ e. absurd (cc e);
      cause = record { later = omega arith; failed = λ e. absurd (cc e); passed = tt; memory = λ e. refl };
    }

    pub acts_or_stops : (result : Result Reply Memory) → Accesses old new step result → Acts state core core tx old new step (or_stop result)
    acts_or_stops (Ok r) is = acts_alone r (λ W t of here active. shown_given (state (disk_of core)) W t (step W t) new r (is.given W t active))
    acts_or_stops (Err e) is = acts_memory is.kept

  -- and one that reads bytes of it
  module _ {R E : Type 0} {after : Core D} {mid new : Doing} {block off len : ℕ} {access : Access} {slice into : List ℕ} where
    pub acts_read : (x : R) (r : Reply) → Reads {E = E} state core after tx mid new block off len access slice into (Ok x)
        → ((W : World) (t : Live) → StandsFor state core W up → IsTx W tx t → IsActive W t old → IsShown (state (disk_of core)) W t (step W t) new r) → Acts state core after tx old new step (Ok r)
    acts_read x r reads is = record {
      given = is;
      kept = tt;
      same = reads.same;
      unwritten = reads.unwritten;
      up = λ e. absurd (cc e);
      cause = record { later = reads.cause.later; failed = λ e. absurd (cc e); passed = reads.cause.passed; memory = λ e. absurd (cc e) };
    }

-- the same call, of which the step is written in another way
module _ {D : Type 0} {state : D → DiskState} {core after : Core D} {tx : ℕ} {old new : Doing} where
  pub acts_refused : {step other : World → Live → Reply × World} (e : Stop) → Acts state core after tx old new step (Err e) → Acts state core after tx old new other (Err e)
  acts_refused e is = record { given = λ W t of here active. tt; kept = is.kept; same = is.same; unwritten = is.unwritten; up = is.up; cause = is.cause }

  pub acts_got : (block off : ℕ) {m n : ℕ} {xs ys : List ℕ} → m ≡ n → ys ≡ xs → Acts state core after tx old new (λ W t. get_step W t block off m) (Ok (reply.Shown xs))
      → Acts state core after tx old new (λ W t. get_step W t block off n) (Ok (reply.Shown ys))
  acts_got block off {m = m} {ys = ys} same shown is =
      subst (λ (k : ℕ). Acts state core after tx old new (λ W t. get_step W t block off k) (Ok (reply.Shown ys))) same
      (subst (λ (l : List ℕ). Acts state core after tx old new (λ W t. get_step W t block off m) (Ok (reply.Shown l))) (sym shown) is)

  pub acts_as : {step other : World → Live → Reply × World} {result answer : Result Reply Stop} → ((W : World) (t : Live) → step W t ≡ other W t) → answer ≡ result → Acts state core after tx old new step result
      → Acts state core after tx old new other answer
  acts_as {step = step} {other = other} {result = result} same answered is =
      subst (λ (r : Result Reply Stop). Acts state core after tx old new other r) (sym answered) (record {
        given = λ W t of here active. subst (λ (x : Reply × World). IfOk result (IsShown (state (disk_of core)) W t x new)) (same W t) (is.given W t of here active);
        kept = is.kept;
        same = is.same;
        unwritten = is.unwritten;
        up = is.up;
        cause = is.cause;
      })
