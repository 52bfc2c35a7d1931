use Rattle.par_script.proofs.Words.{◌≡◌, ◌++◌, map, take, concat, commit_line}

abbrev pub invariant-loop-commit : Rattle.par_script.proofs.text.push_commits.Given.invariant-loop-commit
invariant-loop-commit l = l.out.items ≡ l.initial.out.items ++ concat (take l.commit-index (map commit_line l.commits))
