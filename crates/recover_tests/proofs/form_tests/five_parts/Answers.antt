use Rattle.recover_tests.proofs.Parts.{five_lie}

pub returns-clause-lie : Rattle.recover_tests.proofs.form_tests.five_parts.Goals.returns-clause-lie
returns-clause-lie c =
    rw (c.in_ok-push-5.ensures.ok, c.in_ok-push-4.ensures.ok, c.in_ok-push-3.ensures.ok, c.in_ok-push-2.ensures.ok, c.in_ok-push.ensures.ok, c.empty-parts.ensures) five_lie
