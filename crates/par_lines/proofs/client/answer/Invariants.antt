abbrev pub ghosts-end : Rattle.par_lines.proofs.client.answer.Given.ghosts-end
ghosts-end g a = record { name = a.blank.name; parts = a.blank.parts }
