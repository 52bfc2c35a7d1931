use Rattle.recover_tests.proofs.Disks.{failing_settled}

pub returns-clause-settled : Rattle.recover_tests.proofs.switch_tests.image.Goals.returns-clause-settled
returns-clause-settled c = failing_settled _ _ _ c.new-disk.ensures.stable c.fail.ensures.untouched
