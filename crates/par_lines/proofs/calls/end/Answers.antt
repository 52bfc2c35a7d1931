use Rattle.par_lines.proofs.{Words.refl, Answering.{asked_before, at_once, ended, said, unchecked}}

pub returns-then-cannot_clash : Rattle.par_lines.proofs.calls.end.Goals.returns-then-cannot_clash
returns-then-cannot_clash g c =
    let asked = c.if-cannot_clash.ensures in
    record { did = asked_before asked.same (said refl c.ended.ensures (at_once g.O.Origin.start _ c.end_tx.new.self _ _ c.end_tx.result asked.never c.end_tx.ensures.did)) }

pub returns-in-Ok : Rattle.par_lines.proofs.calls.end.Goals.returns-in-Ok
returns-in-Ok g c =
    record { did = asked_before c.cannot_clash.ensures.same (said refl c.ended-in-Ok.ensures (ended g.O.Origin.start _ c.check_tx.new.self _ _ _ _ c.end_tx-in-Ok.result c.in-Ok.ensures.did c.end_tx-in-Ok.ensures.did)) }

pub returns : Rattle.par_lines.proofs.calls.end.Goals.returns
returns g c = record { did = asked_before c.cannot_clash.ensures.same (said refl c.not_ended.ensures (unchecked g.O.Origin.start _ _ c.in-Err.error c.in-Err.ensures.did)) }
