use Rattle.command_line.proofs.Grammars.{grammar}

pub returns : Rattle.command_line.proofs.rows.commands_have_their_tasks.Goals.returns
unfolding grammar
returns c = assumption
