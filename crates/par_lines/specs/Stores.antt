-- How a line that calls a store ends.
use Rattle.std.specs.Prelude.{ℕ, Bool, cond, nat_lt, Result, Err}
pub use Rattle.script_model.specs.Operations.{IsOnStore}
use Rattle.script_model.specs.{declared.script.Reply.Reply, declared.stop.Stop.Stop}
use Rattle.script_model.specs.declared.stop.Stop.TheVariants as stop

-- as the call does, unless the disk failed in it, or the device was down
abbrev pub settled : (failures : ℕ) → (is_down : Bool) → Result Reply Stop → Result Reply Stop
settled failures is_down r = cond (nat_lt 0 failures) (Err stop.Disk) (cond is_down (Err stop.Down) r)
