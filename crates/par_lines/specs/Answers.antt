-- What a client's line makes of its session.
use Rattle.std.specs.Prelude.{◌≡◌, List, Result}
use Rattle.script_model.specs.{declared.script.Op.Op, declared.script.Reply.Reply, declared.stop.Stop.Stop}
use Rattle.iso_shared.specs.{declared.entry.Entry.Entry, States.Start}
use Rattle.handle_pass.specs.{Logs.Moves, Sessions.SessionState}
use Rattle.par_script.specs.Lines.{Did}

-- A line was answered, or stopped its client: its entries came to those that the session made, and no others.
pub record Answered (A : Start) (s : SessionState) (op : Op) (r : Result Reply Stop) (t : SessionState) : Type 0 where
  pub entries : List Entry
  pub moves : Moves s t entries
  pub did : Did A.world.geometry A.tells s.own op entries r t.own
  pub of : t.device ≡ s.device
