use Rattle.committer.proofs.session_end.end_with.Given as goal

abbrev pub ghosts-end_by_itself : goal.ghosts-end_by_itself
ghosts-end_by_itself g a = record { name = a.blank.name; parts = a.blank.parts }
