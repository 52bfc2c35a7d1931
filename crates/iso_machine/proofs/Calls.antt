-- What a call of a store tells of the disk.
use Rattle.iso_machine.proofs.Words.{◌≡◌, ℕ, true, false, Result, Ok, Err, IsErrOf, arith, Reply, Device, Stop, BlamesDisk, Counts, Stops}
use Rattle.script_model.specs.declared.stop.Stop.TheVariants as stop

abbrev pub device : ℕ → Device
device faults = record { faults = faults; is_down = false }

-- why it has no reply
pub blames : (failures before now : ℕ) (r : Result Reply Stop) → Counts failures before now → Stops (device 0) (device failures) r → BlamesDisk before now r
blames failures before now (Ok r) counts stops =
    record { later = counts.later; failed = λ e. absurd (cc e); passed = counts.none (stops.passed (λ e. cc e)); memory = λ e. absurd (cc e) }
blames failures before now (Err stop.Disk) counts stops =
    record { later = counts.later; failed = λ is. counts.some (let rose = stops.disk is in omega arith); passed = tt; memory = λ e. absurd (cc e) }
blames failures before now (Err stop.Memory) counts stops =
    record { later = counts.later; failed = λ e. absurd (cc e); passed = tt; memory = λ is. counts.none (stops.passed (λ e. cc e)) }
blames failures before now (Err stop.Down) counts stops =
    record { later = counts.later; failed = λ e. absurd (cc e); passed = tt; memory = λ e. absurd (cc e) }

-- a guest's core is up
pub stays_up : (failures : ℕ) (r : Result Reply Stop) → Stops (device 0) (device failures) r → ¬ IsErrOf r stop.Down
stays_up failures r stops = λ is. let bad : false ≡ true = stops.down is in cc
