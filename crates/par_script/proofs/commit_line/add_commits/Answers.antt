use Rattle.par_script.proofs.{Words.commit_by, Lines.items_more}

pub loop-line-preserved : Rattle.par_script.proofs.commit_line.add_commits.Goals.loop-line-preserved
loop-line-preserved c =
    items_more c.args.told.now c.loop-line.line-index c.loop-line-item.result c.loop-line-test.true c.loop-line-item.is (λ t. commit_by c.args.client t.0 t.1) _ _ _ c.loop-line.invariant c.in_ok-add_commit.ensures
