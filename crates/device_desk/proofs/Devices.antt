-- What a table answers is what its desk answers.
use Rattle.iso_machine.proofs.Words.{◌≡◌, ◌∙◌, sym, ap, subst, refl, false, Result, Ok, Err, DiskState, World, Reply, Op, Stop, Answers, AnswersTold, IsLawful, started, shows, disk_of, Always, Never, Bool, true, inl, arith, ℕ, ◌≢◌, List, Option, Some}
use Rattle.device_desk.specs.{declared.table.Table.Table, Device.{Answered, Device, StandsAt, state_at}, Seats.IsTableOf, Waiting.Waits}
use Rattle.script_model.specs.declared.stop.Stop.TheVariants as stop

-- of a group that had no reply nothing more is said
pub group_stopped : {stands other : World → Type 0} {old new : DiskState} {W : World} {given : Reply × World} {why : Stop} → Answers Never stands old new W given (Err why) → Answers Never other old new W given (Err why)
group_stopped is = record {
  reply = tt;
  but_shown = tt;
  told = tt;
  world = tt;
  moments = is.moments;
  unmade = is.unmade;
  up = is.up;
  cause = is.cause;
  stopped = λ may. absurd may;
}

-- what the fields say of being up, what clauses see of a desk says too
module _ {D : Type 0} {table : Table D} {up : Bool} {d : Device D} (view : record { table = table; up = up } ≡ d) where
  pub never_down : {P : Type 0} → up ≡ true → d.up ≡ false → P
  never_down on down = absurd (cc (sym on ∙ ap (λ (e : Device D). e.up) view ∙ down))

  pub never_up : {P : Type 0} → up ≡ false → d.up ≡ true → P
  never_up off on = absurd (cc (sym on ∙ sym (ap (λ (e : Device D). e.up) view) ∙ off))

  module _ {state : D → DiskState} where
    pub sees : {W : World} → StandsAt state d W → StandsAt state (record { table = table; up = up }) W
    sees {W = W} stands = subst (λ (e : Device D). StandsAt state e W) (sym view) stands

    -- a call's answer from what the fields are is that from what clauses see
    pub told_from : (number : ℕ) (op : Op) {new : Device D} {result : Result Reply Stop} → ((W : World) → StandsAt state (record { table = table; up = up }) W → Answered state (record { table = table; up = up }) new W number op result)
        → (W : World) → StandsAt state d W → Answered state d new W number op result
    told_from number op {new = new} {result = result} did = subst (λ (e : Device D). (W : World) → StandsAt state e W → Answered state e new W number op result) view did

    pub answers_from : {new : Device D} {goes_on : Stop → Type 0} {given : World → Reply × World} {result : Result Reply Stop}
        → ((W : World) → StandsAt state (record { table = table; up = up }) W → Answers goes_on (StandsAt state new) (state_at state (record { table = table; up = up })) (state_at state new) W (given W) result)
        → (W : World) → StandsAt state d W → Answers goes_on (StandsAt state new) (state_at state d) (state_at state new) W (given W) result
    answers_from {new = new} {goes_on = goes_on} {given = given} {result = result} did =
        subst (λ (e : Device D). (W : World) → StandsAt state e W → Answers goes_on (StandsAt state new) (state_at state e) (state_at state new) W (given W) result) view did

module _ {D : Type 0} {state : D → DiskState} where
  -- a reply leaves the desk up
  pub replied : {goes_on : Stop → Type 0} {table : Table D} {up : Bool} {old new : DiskState} {W : World} {given : Reply × World} {plain : Type 0} {r : Reply} → up ≡ true → AnswersTold goes_on (IsTableOf state table) old new W given plain (Ok r)
      → AnswersTold goes_on (StandsAt state (record { table = table; up = up })) old new W given plain (Ok r)
  replied on is = record {
    reply = is.reply;
    but_shown = is.but_shown;
    told = is.told;
    world = record { world = is.world.world; is = record { is_up = on; table = is.world.is }; known = is.world.known; history = is.world.history; geometry = is.world.geometry };
    moments = is.moments;
    unmade = is.unmade;
    up = is.up;
    cause = is.cause;
    stopped = tt;
  }

  -- without one it is up where the call leaves the image as it was
  pub stopped : {goes_on : Stop → Type 0} {table : Table D} {up : Bool} {old new : DiskState} {W : World} {given : Reply × World} {plain : Type 0} {why : Stop} → (goes_on why → up ≡ true) → AnswersTold goes_on (IsTableOf state table) old new W given plain (Err why)
      → AnswersTold goes_on (StandsAt state (record { table = table; up = up })) old new W given plain (Err why)
  stopped on is = record {
    reply = tt;
    but_shown = is.but_shown;
    told = tt;
    world = tt;
    moments = is.moments;
    unmade = is.unmade;
    up = is.up;
    cause = is.cause;
    stopped = λ may. let still = is.stopped may in record { world = still.world; is = record { is_up = on may; table = still.is }; same = still.same; whole = still.whole };
  }

  -- so of a begin, which leaves the desk up in any case
  pub begins : {table : Table D} {up : Bool} {old new : DiskState} {W : World} {given : Reply × World} (result : Result Reply Stop) → up ≡ true → Answers Always (IsTableOf state table) old new W given result
      → Answers Always (StandsAt state (record { table = table; up = up })) old new W given result
  begins (Ok r) on is = record {
    reply = is.reply;
    but_shown = is.but_shown;
    told = is.told;
    world = record { is_up = on; table = is.world };
    moments = is.moments;
    unmade = is.unmade;
    up = is.up;
    cause = is.cause;
    stopped = tt;
  }
  begins (Err why) on is = record {
    reply = tt;
    but_shown = tt;
    told = tt;
    world = tt;
    moments = is.moments;
    unmade = is.unmade;
    up = is.up;
    cause = is.cause;
    stopped = λ may. record { is_up = on; table = is.stopped may };
  }

  -- so of a group
  pub grouped_so : {goes_on : Stop → Type 0} {table : Table D} {up : Bool} {old new : DiskState} {W : World} {given : Reply × World} {r : Reply} → up ≡ true → Answers goes_on (IsTableOf state table) old new W given (Ok r)
      → Answers goes_on (StandsAt state (record { table = table; up = up })) old new W given (Ok r)
  grouped_so on is = record {
    reply = is.reply;
    but_shown = is.but_shown;
    told = is.told;
    world = record { is_up = on; table = is.world };
    moments = is.moments;
    unmade = is.unmade;
    up = is.up;
    cause = is.cause;
    stopped = tt;
  }

  -- the world after a begin
  pub begun_world : (table : Table D) {old new : DiskState} {W : World} {given : Reply × World} (result : Result Reply Stop) → Answers Always (IsTableOf state table) old new W given result → (V : World) × IsTableOf state table V
  begun_world table {given = given} (Ok r) is = (given.1, is.world)
  begun_world table {W = W} (Err why) is = (W, is.stopped tt)

  -- without memory for what a call is handed nothing is done
  pub wants_memory : {goes_on : Stop → Type 0} {d : Device D} {W : World} {given : Reply × World} {plain : Type 0} → IsLawful (state (disk_of d.table.core)) → StandsAt state d W
      → AnswersTold goes_on (StandsAt state d) (state (disk_of d.table.core)) (state (disk_of d.table.core)) W given plain (Err stop.Memory)
  wants_memory {d = d} {W = W} laws stands = record {
    reply = tt;
    but_shown = λ call. tt;
    told = tt;
    world = tt;
    moments = started laws (λ c image. inl (shows state d.table.core W stands.table.core_of c image));
    unmade = λ e. started laws (shows state d.table.core W stands.table.core_of);
    up = λ e. absurd (cc e);
    cause = record { later = omega arith; failed = λ e. absurd (cc e); passed = tt; memory = λ e. refl };
    stopped = λ may. record { world = W; is = stands; same = record { live = refl; rest = refl }; whole = λ call. refl };
  }

module _ {D : Type 0} {state : D → DiskState} where
  -- ends leave the desk up where the disk did not fail
  pub waits_up : {table : Table D} {up : Bool} {old new : DiskState} {W : World} {numbers : List ℕ} {answers : List Reply} {why : Option Stop} → (why ≢ Some stop.Disk → up ≡ true) → Waits (IsTableOf state table) old new W numbers answers why
      → Waits (StandsAt state (record { table = table; up = up })) old new W numbers answers why
  waits_up on is = record {
    replies = is.replies;
    all = is.all;
    world = λ other. record { is_up = on other; table = is.world other };
    moments = is.moments;
    stable = is.stable;
    told = is.told;
    up = is.up;
    later = is.later;
    failed = is.failed;
    passed = is.passed;
  }

  -- what clauses see of the desk before
  pub waits_from : {table : Table D} {up : Bool} {d new : Device D} {numbers : List ℕ} {answers : List Reply} {why : Option Stop} → record { table = table; up = up } ≡ d
      → ((W : World) → StandsAt state (record { table = table; up = up }) W → Waits (StandsAt state new) (state_at state (record { table = table; up = up })) (state_at state new) W numbers answers why)
      → (W : World) → StandsAt state d W → Waits (StandsAt state new) (state_at state d) (state_at state new) W numbers answers why
  waits_from {new = new} {numbers = numbers} {answers = answers} {why = why} view did =
      subst (λ (e : Device D). (W : World) → StandsAt state e W → Waits (StandsAt state new) (state_at state e) (state_at state new) W numbers answers why) view did
