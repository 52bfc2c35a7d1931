use Rattle.par_script.proofs.Words.{◌≡◌, ◌++◌, flat_map, take, commit_in}

abbrev pub invariant-loop-answer : Rattle.par_script.proofs.commit_line.add_members.Given.invariant-loop-answer
invariant-loop-answer l = l.commits.items ≡ l.initial.commits.items ++ flat_map (commit_in l.client l.line) (take l.answer-index l.answers)
