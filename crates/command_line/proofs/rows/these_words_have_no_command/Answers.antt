use Rattle.command_line.proofs.Grammars.{grammar}

pub returns : Rattle.command_line.proofs.rows.these_words_have_no_command.Goals.returns
unfolding grammar
returns c = assumption
