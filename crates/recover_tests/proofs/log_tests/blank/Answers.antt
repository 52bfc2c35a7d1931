use Rattle.recover_tests.proofs.Puts.{blank_ready}

pub returns : Rattle.recover_tests.proofs.log_tests.blank.Goals.returns
returns c = blank_ready c.args.room c.requires c.new.result _ c.new.ensures.stable c.in_ok-bytes.ensures
