-- What the parts of an adopt make of two sides, of which `old` and `new` are what they were and are.
use Rattle.std.specs.Prelude.{◌≡◌, ◌≢◌, ◌↔◌, ◌⊎◌, ℕ, ◌<◌, ◌≤◌, Option, Result, IfErr, IfOk, OnErr, OnOk}
use Rattle.counts.specs.Count.{Rose}
use Rattle.iso_disk.specs.Disk.{DiskState, IsSettled, WritesNothing}
use Rattle.mirror_disk.specs.{declared.error.MirrorError.MirrorError, declared.error.MirrorError.TheVariants.{Disk, NotMirror, SizesDiffer}, declared.marks.Marks.Marks, declared.slot.Mark.Mark, Adopting.{AdoptFails, AdoptRefuses, AdoptsFrom, AreAdopted, LeavesAlike, Settles, ShowsHeader, TellsHeader, TellsNoHeader}, Binding.EitherFailed, Header.last_epoch, Pairs.chosen_told}

-- they are made stable, and their headers are read
pub record ReadsHeaders {A B E : Type 0} (first : A → DiskState) (second : B → DiskState) (old new : A × B) (result : Result (Option Mark × Option Mark) E) : Type 0 where
  pub first_unwritten : WritesNothing (first old.0) (first new.0)
  pub second_unwritten : WritesNothing (second old.1) (second new.1)
  pub settled : OnOk result (IsSettled (first new.0) × IsSettled (second new.1))
  pub first_header : IfOk result (λ marks. ShowsHeader (first new.0) marks.0)
  pub second_header : IfOk result (λ marks. ShowsHeader (second new.1) marks.1)
  pub cause : OnErr result (EitherFailed first second old new)
  pub later : ((first old.0).faults ≤ (first new.0).faults) × ((second old.1).faults ≤ (second new.1).faults)

-- one of two sides with these marks is chosen, and the other one is made as it or left out
pub record SettlesOn {E : Type 0} (a b new_a new_b : DiskState) (one two : Mark) (result : Result Marks E) : Type 0 where
  pub adopted : IfOk result (AreAdopted a b new_a new_b)
  pub settles : Settles a b new_a new_b
  pub later : (a.faults ≤ new_a.faults) × (b.faults ≤ new_b.faults)
  pub first_cause : OnErr result (two.epoch ≤ one.epoch → Rose a.faults new_a.faults ⊎ ((last_epoch ≤ one.epoch) × Rose b.faults new_b.faults))
  pub second_cause : OnErr result (one.epoch < two.epoch → Rose b.faults new_b.faults ⊎ ((last_epoch ≤ two.epoch) × Rose a.faults new_a.faults))

-- Both of these: the sides are taken for a mirror, or it is said why not. Two sides that are alike are not written to.
pub record AdoptsSides {A B : Type 0} (first : A → DiskState) (second : B → DiskState) (old new : A × B) (result : Result Marks MirrorError) : Type 0 where
  pub adopted : IfOk result (AreAdopted (first old.0) (second old.1) (first new.0) (second new.1))
  pub kept : (x : A) × (y : B) × AdoptsFrom (first old.0) (second old.1) (first x) (second y) (first new.0) (second new.1)
  pub contents : chosen_told (first new.0).contents (second new.1).contents ≡ chosen_told (first old.0).contents (second old.1).contents
  pub bound : (first new.0).bound ≡ (first old.0).bound
  pub headers : OnOk result (TellsHeader (first old.0) × TellsHeader (second old.1))
  pub still : LeavesAlike (first old.0) (second old.1) (first new.0) (second new.1)
  pub sizes : IfErr result (λ error. ((first old.0).size ≢ (second old.1).size) ↔ (error ≡ SizesDiffer (first old.0).size (second old.1).size))
  pub differ : IfErr result (λ error. (m n : ℕ) → error ≡ SizesDiffer m n → (m ≡ (first old.0).size) × (n ≡ (second old.1).size))
  pub same_size : OnOk result ((first old.0).size ≡ (second old.1).size)
  pub not_first : IfErr result (λ error. error ≡ NotMirror 0 → TellsNoHeader (first old.0))
  pub not_second : IfErr result (λ error. error ≡ NotMirror 1 → TellsNoHeader (second old.1) × TellsHeader (first old.0))
  pub choice : IfErr result (λ error. error ≡ Disk → (x : A) × (y : B) × AdoptFails (first old.0) (second old.1) (first x) (second y) (first new.0) (second new.1))
  pub disk : IfErr result (λ error. error ≡ Disk → EitherFailed first second old new)
  pub cause : OnErr result (EitherFailed first second old new ⊎ AdoptRefuses (first old.0) (second old.1))
  pub later : ((first old.0).faults ≤ (first new.0).faults) × ((second old.1).faults ≤ (second new.1).faults)
