use Rattle.par_script.proofs.{Words.{◌≡◌, ◌++◌, [], flat_map, subst, commit_by, commits_of}, Lines.items_more}

pub loop-part-preserved : Rattle.par_script.proofs.commit_line.all_commits.Goals.loop-part-preserved
loop-part-preserved c =
    items_more c.args.parts.now c.loop-part.part-index c.part-item.result c.loop-part-test.true c.part-item.is commits_of [] _ _ c.loop-part.invariant
    (subst (λ v. c.add_commits.new.commits.items ≡ c.loop-part.commits.items ++ flat_map (λ t. commit_by c.part-item.result.client t.0 t.1) v) c.as_slice.ensures c.in_ok-add_commits.ensures)
