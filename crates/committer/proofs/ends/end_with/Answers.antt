use Rattle.committer.proofs.{Words.{port_view}, Lasts.{alone_back}}
use Rattle.committer.proofs.ends.end_with.Goals as goal

pub returns-in-Some-clause-outcome : goal.returns-in-Some-clause-outcome
returns-in-Some-clause-outcome g c =
    let kept = rw c.in-Some.is at c.in-Err.ensures.kept in
    alone_back c.args.shared.now g.O.Origin.start c.in-Err.error kept.5.0 kept.5.1 (port_view c.leave_places.new.port).seen _ c.args.tx c.in-Some.tx c.leave_places.new.tx kept.0 kept.2 kept.5.2 c.leave_places.ensures.tx
    c.leave_places.ensures.seen.1
