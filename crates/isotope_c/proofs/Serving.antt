-- A device that is taken out of its slot, asked, and put back.
use Rattle.std.proofs.Common.{◌≡◌, ◌∙◌, sym, ap, subst, ℕ, ℤ, List, [], Option, None, Some, Result, Err, false, SFits, w32, to_z, of_z, to_z-of_z}
use Rattle.iso_model.specs.World.{World}
use Rattle.script_model.specs.{declared.script.Op.Op, declared.script.Reply.Reply, declared.stop.Stop.Stop}
use Rattle.script_model.specs.declared.stop.Stop.TheVariants as stop
use Rattle.queued_disk.specs.{declared.queued.QueuedDisk.QueuedDisk, Queued.{file_of, state_of}}
use Rattle.device_desk.specs.{Device.{Answered, Device, IsRefusedDown, StandsAt, disk_under, state_at}, Sizes.Sized, Waiting.Waits}
use Rattle.iso_machine.specs.Answering.{Answers as AnswersAs}
use Rattle.isotope_c.specs.{declared.instance.Instance.Instance, declared.slot.Slot.Slot, Instances.desk_in, Exports.{EndsWaiting, Serves, ServesSo, Steps, TellsSize, device_in}}
use Rattle.isotope_c.specs.declared.instance.Instance.TheVariants.{Open}

-- the slot's device is the one that was taken out
pub taken_is : (s : Slot) {held : Instance} {taken d : Device QueuedDisk} → s.inner.instance ≡ Some held → held ≡ Open taken → device_in s ≡ Some d → taken ≡ d
taken_is s {held = held} {taken = taken} {d = d} there is holds =
    let same : Some taken ≡ Some d = sym (ap (λ (i : Instance). desk_in (Some i)) is) ∙ (sym (ap desk_in there) ∙ holds) in
    cc same

name_in : Option (ℕ × List ℕ) → List ℕ
name_in None = []
name_in (Some bound) = bound.1

-- a disk is bound to its file
pub same_file : (a b : QueuedDisk) → (state_of a).bound ≡ (state_of b).bound → file_of a ≡ file_of b
unfolding name_in
same_file a b same = ap name_in same

-- Of what was taken out (`there`) the open device (`value`, `is`) was asked, and what it became was put back (`put`).
module _ (old new : Slot) {boxed held : Instance} {taken now : Device QueuedDisk} (there : old.inner.instance ≡ Some boxed) (value : held ≡ boxed) (is : held ≡ Open taken) (put : new.inner.instance ≡ Some (Open now)) where
  pub holds : device_in new ≡ Some now
  holds = ap desk_in put

  pub held_is : {d : Device QueuedDisk} → device_in old ≡ Some d → taken ≡ d
  held_is was = taken_is old there (sym value ∙ is) was

  no_device : {P : Type 0} → device_in old ≡ None → P
  no_device none = absurd (cc (sym (ap (λ (i : Instance). desk_in (Some i)) (sym value ∙ is)) ∙ (sym (ap desk_in there) ∙ none)))

  -- the device has answered so, and C is told so by a status that comes back from memory
  served_so : (Did : (old new : Device QueuedDisk) → World → Result Reply Stop → Type 0) → ((a b : Device QueuedDisk) (W : World) (answer : Result Reply Stop) → Did a b W answer → (state_at state_of b).bound ≡ (state_at state_of a).bound)
      → {status : ℤ} → SFits w32 status → (IsTold : ℤ → Result Reply Stop → Type 0) {answer : Result Reply Stop}
      → ((W : World) → StandsAt state_of taken W → Did taken now W answer) → (taken.up ≡ false → IsRefusedDown taken now answer) → IsTold status answer
      → ServesSo old new (to_z w32 (of_z w32 status)) Did (IsTold (to_z w32 (of_z w32 status)))
  served_so Did bound {status = status} fits IsTold {answer = answer} did refused told = subst (λ (s : ℤ). ServesSo old new s Did (IsTold s)) (sym (to_z-of_z fits)) (record {
    closed = no_device;
    down = λ d was off.
        let same : taken ≡ d = held_is was in
        let refusal : IsRefusedDown taken now answer = refused (ap (λ (e : Device QueuedDisk). e.up) same ∙ off) in
        (subst (IsTold status) refusal.answer told, holds ∙ ap Some (refusal.same ∙ same));
    answer = λ d W was stands.
        let same : taken ≡ d = held_is was in
        let answered : Did d now W answer = subst (λ (e : Device QueuedDisk). (V : World) → StandsAt state_of e V → Did e now V answer) same did W stands in
        record {
          now = now;
          there = holds;
          file = same_file (disk_under now) (disk_under d) (bound d now W answer answered);
          answer = answer;
          did = answered;
          told = told;
        };
  })

  -- the operation of a transaction
  pub served : {status : ℤ} → SFits w32 status → (number : ℕ) (op : Op) (IsTold : ℤ → Result Reply Stop → Type 0) {answer : Result Reply Stop}
      → ((W : World) → StandsAt state_of taken W → Answered state_of taken now W number op answer) → (taken.up ≡ false → IsRefusedDown taken now answer) → IsTold status answer
      → Serves old new (to_z w32 (of_z w32 status)) number op (IsTold (to_z w32 (of_z w32 status)))
  served fits number op IsTold did refused told = served_so (λ d e W r. Answered state_of d e W number op r) (λ a b W r is. is.moments.same_bound) fits IsTold did refused told

  -- the size of a file
  pub size_served : {status : ℤ} → SFits w32 status → (number : ℕ) (name : List ℕ) (IsTold : ℤ → Result Reply Stop → Type 0) {answer : Result Reply Stop}
      → ((W : World) → StandsAt state_of taken W → Sized state_of taken now W number name answer) → (taken.up ≡ false → IsRefusedDown taken now answer) → IsTold status answer
      → TellsSize old new (to_z w32 (of_z w32 status)) number name (IsTold (to_z w32 (of_z w32 status)))
  size_served fits number name IsTold did refused told = served_so (λ d e W r. Sized state_of d e W number name r) (λ a b W r is. is.moments.same_bound) fits IsTold did refused told

  -- so too of a call that is more than an operation of one transaction
  pub stepped : {goes_on : Stop → Type 0} {given : World → Reply × World} {IsTold : World → Result Reply Stop → Type 0} {answer : Result Reply Stop}
      → ((W : World) → StandsAt state_of taken W → AnswersAs goes_on (StandsAt state_of now) (state_at state_of taken) (state_at state_of now) W (given W) answer)
      → (taken.up ≡ false → IsRefusedDown taken now answer) → ((W : World) → StandsAt state_of taken W → IsTold W answer) → ((W : World) → answer ≡ Err stop.Down → IsTold W answer)
      → Steps old new goes_on given IsTold
  stepped {goes_on = goes_on} {given = given} {IsTold = IsTold} {answer = answer} did refused told told_down = record {
    down = λ d W was off.
        let same : taken ≡ d = held_is was in
        let refusal : IsRefusedDown taken now answer = refused (ap (λ (e : Device QueuedDisk). e.up) same ∙ off) in
        (subst (IsTold W) refusal.answer (told_down W refusal.answer), holds ∙ ap Some (refusal.same ∙ same));
    answer = λ d W was stands.
        let same : taken ≡ d = held_is was in
        let stood : StandsAt state_of taken W = subst (λ (e : Device QueuedDisk). StandsAt state_of e W) (sym same) stands in
        let answered : AnswersAs goes_on (StandsAt state_of now) (state_at state_of d) (state_at state_of now) W (given W) answer =
        subst (λ (e : Device QueuedDisk). AnswersAs goes_on (StandsAt state_of now) (state_at state_of e) (state_at state_of now) W (given W) answer) same (did W stood) in
        record {
          now = now;
          there = holds;
          file = same_file (disk_under now) (disk_under d) answered.moments.same_bound;
          answer = answer;
          did = answered;
          told = told W stood;
        };
  }

  -- and of ends that waited for one another
  pub waited : {numbers : List ℕ} {IsTold : List Reply → Option Stop → Type 0} {replies : List Reply} {why : Option Stop}
      → ((W : World) → StandsAt state_of taken W → Waits (StandsAt state_of now) (state_at state_of taken) (state_at state_of now) W numbers replies why)
      → (taken.up ≡ false → (replies ≡ []) × (why ≡ Some stop.Down) × (now ≡ taken)) → IsTold replies why → EndsWaiting old new numbers IsTold
  waited {numbers = numbers} {IsTold = IsTold} {replies = replies} {why = why} did refused told = record {
    down = λ d was off.
        let same : taken ≡ d = held_is was in
        let refusal = refused (ap (λ (e : Device QueuedDisk). e.up) same ∙ off) in
        (subst (λ (s : Option Stop). IsTold [] s) refusal.1 (subst (λ (rs : List Reply). IsTold rs why) refusal.0 told), holds ∙ ap Some (refusal.2 ∙ same));
    answer = λ d W was stands.
        let same : taken ≡ d = held_is was in
        let stood : StandsAt state_of taken W = subst (λ (e : Device QueuedDisk). StandsAt state_of e W) (sym same) stands in
        let waits : Waits (StandsAt state_of now) (state_at state_of d) (state_at state_of now) W numbers replies why =
        subst (λ (e : Device QueuedDisk). Waits (StandsAt state_of now) (state_at state_of e) (state_at state_of now) W numbers replies why) same (did W stood) in
        record {
          now = now;
          there = holds;
          file = same_file (disk_under now) (disk_under d) waits.moments.same_bound;
          answers = replies;
          why = why;
          did = waits;
          told = told;
        };
  }
