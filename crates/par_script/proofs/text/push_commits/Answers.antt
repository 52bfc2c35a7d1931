use Rattle.par_script.proofs.{Words.{get_or, get_or_default, CommitLine, commit_line}, Lines.{any_err, first_now, one_more}}

pub returns-in_err-push_commit-clause-err : Rattle.par_script.proofs.text.push_commits.Goals.returns-in_err-push_commit-clause-err
returns-in_err-push_commit-clause-err c =
    any_err _ (first_now commit_line c.args.commits.now c.loop-commit.commit-index _ _ _ c.loop-commit-test.true c.loop-commit.invariant c.in_err-push_commit.ensures.err)

pub loop-commit-preserved : Rattle.par_script.proofs.text.push_commits.Goals.loop-commit-preserved
loop-commit-preserved c =
    let none : CommitLine = record { number = 0; client = 0; line = 0 } in
    one_more c.args.commits.now c.loop-commit.commit-index (get_or c.args.commits.now c.loop-commit.commit-index none) c.loop-commit-test.true
    (get_or_default c.args.commits.now c.loop-commit.commit-index none _ c.loop-commit-test.true) commit_line _ _ _ c.loop-commit.invariant c.in_ok-push_commit.ensures.ok
