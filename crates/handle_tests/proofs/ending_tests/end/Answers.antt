use Rattle.std.proofs.Common.{arith}
use Rattle.handle_pass.proofs.Handing.{more_units}
use Rattle.committer.proofs.SessionEnds.{ended_same}
use Rattle.handle_tests.proofs.ending_tests.end.Goals as goal

pub end_with-requires-clause-units : goal.end_with-requires-clause-units
end_with-requires-clause-units g c = more_units c.args.session.now (omega (arith, c.requires.units))

pub returns-clause-session : goal.returns-clause-session
returns-clause-session g c = ended_same g.O.Origin.start c.args.session.now c.end_with.result c.end_with.new.session c.end_with.ensures.did
