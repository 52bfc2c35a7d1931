use Rattle.recover_tests.proofs.Parts.{put_lies}

pub returns : Rattle.recover_tests.proofs.form_tests.one_put.Goals.returns
returns c = rw (c.in_ok-push.ensures.ok, c.empty-parts.ensures) put_lies
