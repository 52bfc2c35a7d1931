use Rattle.command_line.proofs.Grammars.{grammar}

pub returns : Rattle.command_line.proofs.rows.an_image_may_have_these_names.Goals.returns
unfolding grammar
returns c = assumption
