use Rattle.recover_tests.proofs.Parts.{put_lies}

pub finish-requires-clause-runs : Rattle.recover_tests.proofs.form_tests.push_put.Goals.finish-requires-clause-runs
finish-requires-clause-runs c = rw (c.in_ok-push_part.ensures.ok, c.requires) put_lies
