-- A switch of a core to the other half.
use Rattle.std.specs.Prelude.{◌≡◌, ◌≢◌, ℕ, ◌+◌, ◌-◌, ◌⊎◌, ◌<◌, ◌≤◌, IsTrue, List, [], Result, OnOk, IfOk, IfErr, IsErrOf}
use Rattle.counts.specs.Count.{Rose}
use Rattle.half_switch.specs.{Plan.{AreHalves, Copies, place_of, refilled}, declared.plan.FillPlan.FillPlan, declared.plan.SwitchError.SwitchError}
use Rattle.half_switch.specs.declared.plan.SwitchError.TheVariants as switch
use Rattle.iso_disk.specs.Disk.{DiskState, IsSettled, LeavesOnly, StaysTold}
use Rattle.iso_image.specs.{Half.{Half, IsHeld, in_form}, declared.places.HalfPlace.HalfPlace}
use Rattle.iso_model.specs.{Between.ShowsLast, Geometry.{image_size, is_valid, log_place}, History.History, Image.IsImage, Step.{after_switch, switch_step}, World.{World, floor}, Worlds.IsWorld, declared.access.Geometry.Geometry, declared.core_error.CoreError.CoreError, declared.core_reply.CoreReply.CoreReply, declared.limits.TheConstants.LAST}
use Rattle.iso_model.specs.declared.core_error.CoreError.TheVariants as error
use Rattle.iso_core.specs.{declared.kept.Kept.Kept, Calls.{BlamesDisk, Refuses}, Core.AreOf, Kept.IsOf, Standing.{down, up}}

-- the form that the other half gets: it does not fall, and there is no third one
pub record IsForm (W : World) (form : ℕ) : Type 0 where
  pub rises : W.geometry.form ≤ form
  pub largest : form ≤ 2

-- a core that is up may go over to such a half
pub record MaySwitchTo (d : DiskState) (kept : Kept) (form : ℕ) : Type 0 where
  pub world : World
  pub of : AreOf d kept world up
  pub fits : IsForm world form

-- what is kept may go over to it, where the floor and the places of the two logs are these
pub record MayGoOver (kept : Kept) (form old_log new_log to : ℕ) : Type 0 where
  pub world : World
  pub of : IsOf kept world
  pub to_is : to ≡ floor world
  pub old_place : old_log ≡ log_place world.geometry kept.half
  pub new_place : new_log ≡ log_place world.geometry (1 - kept.half)
  pub next : IsWorld (after_switch world form)

-- the bytes are an image of the world's geometry, in this form
pub record HasForm (W : World) (form : ℕ) (bytes : List ℕ) : Type 0 where
  pub generation : ℕ
  pub history : History
  pub image : IsImage bytes (record W.geometry { form = form }) generation history

-- its form is that of the world, or this one
abbrev pub HasFormOr : World → (form : ℕ) → List ℕ → Type 0
HasFormOr W form bytes = HasForm W W.geometry.form bytes ⊎ HasForm W form bytes

-- The switch goes as the model's, and so does a refusal. At each moment an image shows the same history, in the old form or in
-- this one. After any error but a fault of the disk the core is as before; a fault takes it down, with the same commits.
pub record Switches (W : World) (form : ℕ) (old new : DiskState) (kept : Kept) (result : Result ℕ CoreError) : Type 0 where
  pub switched : IfOk result (λ n. (n ≡ floor W) × ((answer : CoreReply) → switch_step W form answer ≡ (answer, after_switch W form)) × AreOf new kept (after_switch W form) up)
  pub refused : (answer : CoreReply) → IfErr result (λ e. (e ≡ error.Disk) ⊎ Refuses (switch_step W form answer).0 e)
  pub same : IfErr result (λ e. e ≢ error.Disk → AreOf new kept W up)
  pub lost : IsErrOf result error.Disk → AreOf new kept W (down [])
  pub unworn : (answer : CoreReply) → IsErrOf result error.Disk → (switch_step W form answer).0 ≡ answer
  pub moments : LeavesOnly old new (ShowsLast W)
  pub form_is : LeavesOnly old new (HasFormOr W form)

-- what a switch does to the disk
pub record SwitchesOn {D : Type 0} (state : D → DiskState) (old new : D) (result : Result ℕ CoreError) : Type 0 where
  pub last : (at : ℕ) → IsErrOf result (error.Worn at) → at ≡ LAST
  pub worn : IfErr result (λ e. e ≢ error.Disk → e ≢ error.Memory → new ≡ old)
  pub told : OnOk result (StaysTold (state old) (state new))
  pub still_told : IfErr result (λ e. e ≢ error.Disk → StaysTold (state old) (state new))
  pub cause : BlamesDisk (state old).faults (state new).faults result

-- the half at the other place is to be filled from this one, which each image holds
pub record MayRefill (from to : HalfPlace) (plan : FillPlan) (d : DiskState) : Type 0 where
  pub valid : IsTrue (is_valid plan.geometry)
  pub size : d.size ≡ image_size plan.geometry
  pub places : AreHalves plan.geometry from to
  pub base : plan.old_base ≤ plan.base
  pub used : plan.used < plan.geometry.log
  pub settled : IsSettled d
  pub g : Geometry
  pub x : Half
  pub other : ℕ
  pub both : x.at + other ≡ 1
  pub there : to ≡ place_of g other
  pub copies : Copies g x from plan
  pub each : (c : List ℕ) → d.now c → IsHeld g x c

-- at each moment an image holds this half or the other one; at the end the other one, or this one where memory was wanting
pub record Refills {T : Type 0} (g : Geometry) (x : Half) (plan : FillPlan) (old new : DiskState) (result : Result T SwitchError) : Type 0 where
  pub moments : LeavesOnly old new (λ c. IsHeld g x c ⊎ IsHeld (in_form plan.geometry.form g) (refilled g plan.generation plan.base x) c)
  pub opened : OnOk result ((c : List ℕ) → new.now c → IsHeld (in_form plan.geometry.form g) (refilled g plan.generation plan.base x) c)
  pub held : IsErrOf result switch.Memory → (c : List ℕ) → new.now c → IsHeld g x c

-- what that does to the disk, whose fault is told from want of memory
pub record RefillsOn {T : Type 0} (old new : DiskState) (result : Result T SwitchError) : Type 0 where
  pub settled : OnOk result (IsSettled new)
  pub told : OnOk result (StaysTold old new)
  pub still_told : IsErrOf result switch.Memory → StaysTold old new
  pub closed : IsErrOf result switch.Memory → IsSettled new
  pub later : old.faults ≤ new.faults
  pub fault : IsErrOf result switch.Disk → Rose old.faults new.faults
  pub no_fault : OnOk result (new.faults ≡ old.faults)
  pub memory : IsErrOf result switch.Memory → new.faults ≡ old.faults
