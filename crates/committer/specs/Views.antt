-- What a side knows, by numbers.
use Rattle.std.specs.Prelude.{◌≡◌, ℕ}
use base.Stored.{Coded-set}
use Rattle.atomic_table.specs.Seated.{TableId, table_id_coded}
use Rattle.committer.specs.{declared.protocol.Side.Side, declared.protocol.Side.TheVariants.{New, Opened, Resting, Waiting, Left, Idle, Serving}}

-- which stage a view is at
abbrev pub stage_of : {Q : Type 0} → Side Q → ℕ
stage_of New = 0
stage_of Opened = 1
stage_of Resting = 2
stage_of (Waiting request) = 3
stage_of Left = 4
stage_of Idle = 5
stage_of (Serving request) = 6

-- an equation of tables has one proof at most, so a ghost field may cite it
pub TableId-set : (a b : TableId) → IsProp (a ≡ b)
TableId-set = Coded-set table_id_coded
