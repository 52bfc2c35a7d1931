use Rattle.command_line.proofs.Grammars.{grammar}

pub returns : Rattle.command_line.proofs.rows.these_words_have_a_wrong_value.Goals.returns
unfolding grammar
returns c = assumption
