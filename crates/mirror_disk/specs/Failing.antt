-- Why a call of a mirror may fail, by the counts of its sides.
use Rattle.std.specs.Prelude.{◌≡◌, ◌≢◌, ◌⊎◌, ℕ, ◌≤◌, Bool, true, false, Result, OnErr, OnOk}
use Rattle.iso_disk.specs.Disk.{DiskState, IsSettled}
use Rattle.counts.specs.Count.{HasCause, Rose, faults_after}
use Rattle.mirror_disk.specs.{declared.used.Used.Used, declared.used.Used.TheVariants.{Plain, Both, OnlyFirst, OnlySecond, Broken, Unbound}, Raised.KeepsBody, Header.last_epoch}

-- each side in use has failed; these are the counts of the first side before and after the call, and those of the second one
abbrev pub AllFailed : Used → (first first' second second' : ℕ) → Type 0
AllFailed Plain first first' second second' = Rose first first'
AllFailed Both first first' second second' = Rose first first' × Rose second second'
AllFailed OnlyFirst first first' second second' = Rose first first'
AllFailed OnlySecond first first' second second' = Rose second second'
AllFailed Broken first first' second second' = Unit {0}
AllFailed Unbound first first' second second' = Unit {0}

-- or one of two has, and there is no larger epoch to leave it out by
abbrev pub CannotLeave : Used → (epoch first first' second second' : ℕ) → Type 0
CannotLeave used epoch first first' second second' = (used ≡ Both) × (last_epoch ≤ epoch) × (Rose first first' ⊎ Rose second second')

-- Of two sides in use before a call, one that is left out after it has failed in it; these are the counts of the first side before and
-- after the call, and those of the second one. Where not both are in use, the same are after it.
pub record LeavesFailed (before after : Used) (a a' b b' : ℕ) : Type 0 where
  pub first : before ≡ Both → after ≡ OnlySecond → Rose a a'
  pub second : before ≡ Both → after ≡ OnlyFirst → Rose b b'
  pub stays : before ≢ Both → after ≡ before

-- a side that did not do what it was asked, or failed since then
abbrev pub HasFailed : (done : Bool) → DiskState → DiskState → Type 0
HasFailed done old new = (done ≡ false) ⊎ Rose old.faults new.faults

-- What leaving out has made of two sides, of which these did what they were asked.
pub record HasLeft (a b new_a new_b : DiskState) (used : Used) (e : ℕ) (first_done second_done : Bool) : Type 0 where
  pub body_a : KeepsBody a new_a
  pub body_b : KeepsBody b new_b
  pub later_a : a.faults ≤ new_a.faults
  pub later_b : b.faults ≤ new_b.faults
  pub both : used ≡ Both → (first_done ≡ true) × (second_done ≡ true)
  pub first : used ≡ OnlyFirst → first_done ≡ true
  pub second : used ≡ OnlySecond → second_done ≡ true
  -- none is left out that did what it was asked
  pub first_failed : used ≡ OnlySecond → first_done ≡ false
  pub second_failed : used ≡ OnlyFirst → second_done ≡ false
  pub settled_a : (used ≡ Both) ⊎ (used ≡ OnlyFirst) → IsSettled a → IsSettled new_a
  pub settled_b : (used ≡ Both) ⊎ (used ≡ OnlySecond) → IsSettled b → IsSettled new_b
  -- none is left where both failed, or where one did and the other failed in its raise or has no larger epoch
  pub broken : used ≡ Broken → ((first_done ≡ false) ⊎ (second_done ≡ false)) × ((last_epoch ≤ e) ⊎ (HasFailed first_done a new_a × HasFailed second_done b new_b))

-- a count of faults after a call that was done, or was not
pub record IsCounted {T E : Type 0} (old new : ℕ) (was_done : Bool) (result : Result T E) : Type 0 where
  pub cause : HasCause old new result
  pub exact : new ≡ faults_after old result
  pub done : OnOk result (was_done ≡ true)
  pub failed : OnErr result (was_done ≡ false)
