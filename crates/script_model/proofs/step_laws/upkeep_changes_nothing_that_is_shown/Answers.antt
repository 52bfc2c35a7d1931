use Rattle.std.proofs.Common.{arith}
use Rattle.script_model.proofs.Upkeep.{live_kept, history_kept, shown_kept}

pub returns : Rattle.script_model.proofs.step_laws.upkeep_changes_nothing_that_is_shown.Goals.returns
returns _ = grind (arith, live_kept, history_kept, shown_kept)
