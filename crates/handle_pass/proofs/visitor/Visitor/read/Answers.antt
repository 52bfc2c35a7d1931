pub returns-then-has_failed : Rattle.handle_pass.proofs.visitor.Visitor.read.Goals.returns-then-has_failed
returns-then-has_failed g c = record { did = c.fail_again.ensures.did.fails c.args.into.now }
