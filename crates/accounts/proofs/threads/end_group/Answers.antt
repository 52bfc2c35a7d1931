use Rattle.accounts.proofs.{Words.{Ok, Err, arith, refl, port_view, device_of, found_in, opening_of}, Grouping.{grouped, knows_on}, Knowing.as_many}
use Rattle.group_commit.specs.Groups.{marks_of, spread}
use Rattle.accounts.proofs.threads.end_group.Goals as goal

pub returns-in-Ok-clause-units : goal.returns-in-Ok-clause-units
returns-in-Ok-clause-units g c =
    let many = as_many c.args.shared.now g.O.Origin.start (found_in c.args.members.items) c.in-Ok.told.items c.in-Ok.ensures.told in
    let units = c.in-Ok.ensures.units in
    omega (arith, many, units)

pub returns-in-Ok-clause-port : goal.returns-in-Ok-clause-port
returns-in-Ok-clause-port g c =
    let A = g.O.Origin.start in
    let d = device_of c.args.shared.now in
    let accounts = opening_of c.args.accounts.now in
    let v = port_view c.args.port.now in
    let w = port_view c.commit_each.new.port in
    let did = c.in-Ok.ensures.did in
    let r = Ok (spread (marks_of c.args.members.items) did.0) in (
      c.commit_each.ensures.port,
      grouped accounts A d c.requires.ready v w c.args.members.items r (did.0, refl, did.1) c.requires.given c.commit_each.ensures.knows (knows_on accounts A d c.requires.ready v w c.args.members.items r (did.0, refl, did.1)) c.requires.port.1,
    )

pub returns-in-Err-clause-port : goal.returns-in-Err-clause-port
returns-in-Err-clause-port g c =
    let A = g.O.Origin.start in
    let d = device_of c.args.shared.now in
    let accounts = opening_of c.args.accounts.now in
    let v = port_view c.args.port.now in
    let w = port_view c.commit_each.new.port in
    let did = c.in-Err.ensures.did in
    let r = Err c.in-Err.error in (
      c.commit_each.ensures.port,
      grouped accounts A d c.requires.ready v w c.args.members.items r did c.requires.given c.commit_each.ensures.knows (knows_on accounts A d c.requires.ready v w c.args.members.items r did) c.requires.port.1,
    )
