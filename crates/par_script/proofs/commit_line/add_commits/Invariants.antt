use Rattle.par_script.proofs.Words.{◌≡◌, ◌++◌, flat_map, take, commit_by}

abbrev pub invariant-loop-line : Rattle.par_script.proofs.commit_line.add_commits.Given.invariant-loop-line
invariant-loop-line l = l.commits.items ≡ l.initial.commits.items ++ flat_map (λ t. commit_by l.client t.0 t.1) (take l.line-index l.told)
