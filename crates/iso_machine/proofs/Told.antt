-- Answers where the disk tells its bytes, and else.
use Rattle.iso_machine.proofs.{Words.{◌≡◌, ◌∙◌, sym, refl, ap, subst, inl, inr, ⊎_elim, ◌==◌, Bool, true, false, cond, ℕ, List, Result, Ok, Err, IfOk, IsErrOf, Option, DiskState, WritesNothing, stays, Op, Reply, is_serial, last, Shows, in_store, World, Live, Doing, Stop, BlamesDisk, IsActive, IsWorkedTo, with_accesses, map, IsSameWork, without_accesses, Answers, AnswersTold, is_empty_scan, store_blocks, IsStored, called_of, store_act}, Accesses.has_worked, Lists.accesses_apart}
use Rattle.std.specs.Prelude.{IsSome}
use Rattle.script_model.specs.declared.script.Reply.TheVariants as reply
use Rattle.script_model.specs.declared.stop.Stop.TheVariants as stop

-- an answer that is known in any case
pub told_so : {goes_on known : Stop → Type 0} {stands : World → Type 0} {old new : DiskState} {W : World} {given : Reply × World} {plain : Type 0} (result : Result Reply Stop) → ((why : Stop) → goes_on why → known why)
    → Answers known stands old new W given result → AnswersTold goes_on stands old new W given plain result
told_so {given = given} (Ok r) on is = record {
  reply = is.reply;
  but_shown = λ call. is.but_shown;
  told = is.told;
  world = record { world = given.1; is = is.world; known = λ how. refl; history = refl; geometry = refl };
  moments = is.moments;
  unmade = is.unmade;
  up = is.up;
  cause = is.cause;
  stopped = tt;
}
told_so {W = W} (Err e) on is = record {
  reply = tt;
  but_shown = λ call. tt;
  told = tt;
  world = tt;
  moments = is.moments;
  unmade = is.unmade;
  up = is.up;
  cause = is.cause;
  stopped = λ may. record { world = W; is = is.stopped (on e may); same = record { live = refl; rest = refl }; whole = λ call. refl };
}

-- the same answer, where what is given is written in another way
pub told_as : {goes_on : Stop → Type 0} {stands : World → Type 0} {old new : DiskState} {W : World} {given other : Reply × World} {plain : Type 0} {result : Result Reply Stop} → given ≡ other
    → AnswersTold goes_on stands old new W given plain result → AnswersTold goes_on stands old new W other plain result
told_as {goes_on = goes_on} {stands = stands} {old = old} {new = new} {W = W} {plain = plain} {result = result} is answer =
    subst (λ (g : Reply × World). AnswersTold goes_on stands old new W g plain result) is answer

-- what holds of any call holds of one that is not plain
pub never_plain : {goes_on known : Stop → Type 0} {stands : World → Type 0} {old new : DiskState} {W : World} {given : Reply × World} {plain : Type 0} (result : Result Reply Stop) → (plain → ⊥) → ((why : Stop) → goes_on why → known why)
    → AnswersTold known stands old new W given ⊥ result → AnswersTold goes_on stands old new W given plain result
never_plain (Ok r) never on is = record {
  reply = is.reply;
  but_shown = λ call. absurd (never call);
  told = is.told;
  world = record {
    world = is.world.world;
    is = is.world.is;
    known = λ how. is.world.known (⊎_elim inl (λ call. inr (never call)) how);
    history = is.world.history;
    geometry = is.world.geometry;
  };
  moments = is.moments;
  unmade = is.unmade;
  up = is.up;
  cause = is.cause;
  stopped = tt;
}
never_plain (Err e) never on is = record {
  reply = tt;
  but_shown = λ call. tt;
  told = tt;
  world = tt;
  moments = is.moments;
  unmade = is.unmade;
  up = is.up;
  cause = is.cause;
  stopped = λ may. let still = is.stopped (on e may) in record { world = still.world; is = still.is; same = still.same; whole = λ call. absurd (never call) };
}

-- a call of a store leaves the history as it is
in_store_keeps : (W : World) (t : Live) (blocks : ℕ) (result : Reply × World) → result.1.history ≡ W.history → result.1.geometry ≡ W.geometry
    → ((in_store W t blocks result).1.history ≡ W.history) × ((in_store W t blocks result).1.geometry ≡ W.geometry)
in_store_keeps W t blocks result history geometry = refused (blocks == 0) reply.NoStore (cond (is_serial t.mode) result (reply.StoreMode, W)) (elim (is_serial t.mode) as (λ b. Kept (cond b result (reply.StoreMode, W))) [
  | true ↦ (history, geometry)
  | false ↦ (refl, refl)
])
  where
    Kept : Reply × World → Type 0
    Kept given = (given.1.history ≡ W.history) × (given.1.geometry ≡ W.geometry)

    refused : (b : Bool) (r : Reply) (given : Reply × World) → Kept given → Kept (cond b (r, W) given)
    refused true r given kept = (refl, refl)
    refused false r given kept = kept

pub store_keeps : (W : World) (t : Live) (op : Op) → ((store_act W t op).1.history ≡ W.history) × ((store_act W t op).1.geometry ≡ W.geometry)
store_keeps W t op = elim (is_empty_scan op) as (λ b. let x : Reply × World = in_store W t (store_blocks W.geometry op) (cond b (reply.BadRange, W) (called_of W t op)) in (x.1.history ≡ W.history) × (x.1.geometry ≡ W.geometry)) [
  | true ↦ in_store_keeps W t (store_blocks W.geometry op) (reply.BadRange, W) refl refl
  | false ↦ in_store_keeps W t (store_blocks W.geometry op) (called_of W t op) refl refl
]

-- a call of a store on one transaction
module _ {goes_on : Stop → Type 0} {stands : World → Type 0} {old new : DiskState} {W : World} {t : Live} {old_work work : Doing} {given : Reply × World} (history : given.1.history ≡ W.history) (geometry : given.1.geometry ≡ W.geometry)
    (here : (c : List ℕ) → old.now c → Shows c W.geometry W.history (last W.history)) (still : WritesNothing old new)
    (active : IsActive W t old_work) (same : IsSameWork old_work work) where
  pub stored_so : (result : Result Reply Stop) → IfOk result (IsStored old W t given work)
      → ((V : World) → IsWorkedTo W t V work → stands V) → ¬ IsErrOf result stop.Down → BlamesDisk old.faults new.faults result → AnswersTold goes_on stands old new W given ⊥ result
  stored_so (Ok r) is world not_down cause = record {
    reply = is.reply;
    but_shown = λ call. absurd call;
    told = λ told. subst (λ (o : Option (List ℕ)). IsSome o) (sym still.same_contents) told;
    world = record {
      world = is.world;
      is = world is.world is.worked;
      known = λ how. ⊎_elim is.told (λ call. absurd call) how;
      history = ap (λ (V : World). V.history) is.worked.world ∙ sym history;
      geometry = ap (λ (V : World). V.geometry) is.worked.world ∙ sym geometry;
    };
    moments = stays still (λ c image. inl (here c image));
    unmade = λ e. stays still here;
    up = not_down;
    cause = cause;
    stopped = tt;
  }
  stored_so (Err e) is world not_down cause = record {
    reply = tt;
    but_shown = λ call. tt;
    told = tt;
    world = tt;
    moments = stays still (λ c image. inl (here c image));
    unmade = λ e. stays still here;
    up = not_down;
    cause = cause;
    stopped = λ may. record {
      world = with_accesses W t work.accesses;
      is = world (with_accesses W t work.accesses) (has_worked active same);
      same = record { live = accesses_apart t (record t { accesses = work.accesses }) W.live refl ∙ ap (map without_accesses) active.here; rest = refl };
      whole = λ call. absurd call;
    };
  }
