use Rattle.command_line.proofs.Grammars.{grammar}

pub returns : Rattle.command_line.proofs.rows.options_stand_anywhere_behind_the_command.Goals.returns
unfolding grammar
returns c = assumption
