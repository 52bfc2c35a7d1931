use Rattle.par_script.proofs.Words.{◌≡◌, flat_map, take, commits_of}

abbrev pub invariant-loop-part : Rattle.par_script.proofs.commit_line.all_commits.Given.invariant-loop-part
invariant-loop-part l = l.commits.items ≡ flat_map commits_of (take l.part-index l.parts)
