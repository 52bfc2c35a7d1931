pub returns-clause-disk : Rattle.script_runner.proofs.runner.run.Goals.returns-clause-disk
returns-clause-disk g c = let W = c.requires.0 in (c.answer_input.ensures W c.requires.1).answered.disk

pub returns-clause-output : Rattle.script_runner.proofs.runner.run.Goals.returns-clause-output
returns-clause-output g c = let W = c.requires.0 in (c.answer_input.ensures W c.requires.1).answered.output

pub returns-clause-input : Rattle.script_runner.proofs.runner.run.Goals.returns-clause-input
returns-clause-input g c = let W = c.requires.0 in (c.answer_input.ensures W c.requires.1).input

pub returns-clause-ended : Rattle.script_runner.proofs.runner.run.Goals.returns-clause-ended
returns-clause-ended g c done = let W = c.requires.0 in ((c.answer_input.ensures W c.requires.1).ended done).ended
