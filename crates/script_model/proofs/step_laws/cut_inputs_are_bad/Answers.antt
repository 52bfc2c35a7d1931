use Rattle.script_model.proofs.CutInputs.{cut_bad}

pub returns : Rattle.script_model.proofs.step_laws.cut_inputs_are_bad.Goals.returns
returns _ = cut_bad
