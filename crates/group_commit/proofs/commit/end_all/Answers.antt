use Rattle.group_commit.proofs.{Words.{arith, port_view}, Grouping.{aborted_knows, back_are, back_units, group_answered, group_knows, refused_gone, refused_kept}}
use Rattle.group_commit.proofs.commit.end_all.Goals as goal

pub abort_all-requires-clause-txs : goal.abort_all-requires-clause-txs
abort_all-requires-clause-txs g c =
    let kept = rw c.in-Some.is at c.in-Err.ensures.kept in
    back_are g.O.Origin.start c.args.shared.now (port_view c.end_group.new.port).seen c.args.group.items c.in-Some.txs.items kept.2

pub returns-in-Ok-clause-did : goal.returns-in-Ok-clause-did
returns-in-Ok-clause-did g c =
    let ok = c.in-Ok.ensures.ok in
    (ok.0, group_answered g.O.Origin.start (port_view c.args.port.now) (port_view c.end_group.new.port) c.args.group.items c.in-Ok.replies c.requires.some ok.2)

pub returns-in-Ok-clause-told : goal.returns-in-Ok-clause-told
returns-in-Ok-clause-told g c = group_knows g.O.Origin.start (port_view c.args.port.now) (port_view c.end_group.new.port) c.args.group.items _ c.in-Ok.ensures.ok.2

pub returns-in-None-clause-did : goal.returns-in-None-clause-did
returns-in-None-clause-did g c =
    let gone = rw c.in-None.is at c.in-Err.ensures.gone in (
      gone.2.0,
      gone.2.1,
      refused_gone g.O.Origin.start (port_view c.args.port.now) (port_view c.end_group.new.port) c.args.group.items gone.2.0 gone.2.1 c.in-Err.error gone.0 gone.2.2,
    )

pub returns-in-None-clause-told : goal.returns-in-None-clause-told
returns-in-None-clause-told g c =
    let gone = rw c.in-None.is at c.in-Err.ensures.gone in
    group_knows g.O.Origin.start (port_view c.args.port.now) (port_view c.end_group.new.port) c.args.group.items _ gone.2.2

pub returns-in-Some-clause-units : goal.returns-in-Some-clause-units
returns-in-Some-clause-units g c =
    let kept = rw c.in-Some.is at c.in-Err.ensures.kept in
    let less = kept.1 in
    let more = c.abort_all.ensures.units in
    let each = back_units g.O.Origin.start c.args.shared.now (port_view c.end_group.new.port).seen c.args.group.items c.in-Some.txs.items kept.2 in
    omega (arith, less, more, each)

pub returns-in-Some-clause-did : goal.returns-in-Some-clause-did
returns-in-Some-clause-did g c =
    let kept = rw c.in-Some.is at c.in-Err.ensures.kept in (
      kept.3.0,
      kept.3.1,
      refused_kept g.O.Origin.start c.args.shared.now (port_view c.args.port.now) (port_view c.end_group.new.port) (port_view c.abort_all.new.port) c.args.group.items c.in-Some.txs.items kept.3.0 kept.3.1 c.in-Err.error
          kept.0 kept.2 kept.3.2 c.abort_all.ensures.did,
    )

pub returns-in-Some-clause-told : goal.returns-in-Some-clause-told
returns-in-Some-clause-told g c =
    let kept = rw c.in-Some.is at c.in-Err.ensures.kept in
    aborted_knows g.O.Origin.start (port_view c.args.port.now) (port_view c.end_group.new.port) (port_view c.abort_all.new.port) c.args.group.items c.in-Some.txs.items _ kept.3.2 c.abort_all.ensures.did
