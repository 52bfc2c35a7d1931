use Rattle.iso_log.proofs.{Words.{arith}, Finds.{damaged_here, stands_here}}

pub returns-clause-damaged : Rattle.iso_log.proofs.log.Log.find_ahead.Goals.returns-clause-damaged
returns-clause-damaged g c at cause is image told =
    damaged_here _ c.args.self.now c.self.view_is c.from.result c.from.ensures c.args.geometry.now at cause image (c.find_record.ensures.damaged at cause is image told)

pub returns-clause-test : Rattle.iso_log.proofs.log.Log.find_ahead.Goals.returns-clause-test
returns-clause-test g c at cause is = grind arith

pub returns-clause-ahead : Rattle.iso_log.proofs.log.Log.find_ahead.Goals.returns-clause-ahead
returns-clause-ahead g c image told = stands_here _ c.args.self.now c.self.view_is c.from.result c.from.ensures c.find_record.new.ahead image (c.find_record.ensures.ahead image told)
