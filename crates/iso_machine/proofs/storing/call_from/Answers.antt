use Rattle.iso_machine.proofs.{Words.{ap, subst, Seen, tx_of, areas_of, Tx, HasCalled, Stops, store_ended, disk_of}, Calls.{blames, device}}

pub returns-clause-called : Rattle.iso_machine.proofs.storing.call_from.Goals.returns-clause-called
returns-clause-called g c =
    let before = ap (λ (s : Seen). s.tx) c.over-blocks.ensures in
    let after = ap (λ (s : Seen). s.tx) c.leave-core.ensures.seen in
    subst (λ (u : Tx). HasCalled (store_ended (areas_of (tx_of g.K.Origin.array c.args.work.now) c.args.at) c.args.op.now) (tx_of g.K.Origin.array c.args.work.now) u c.call-result.result) after
    (subst (λ (t : Tx). HasCalled (store_ended (areas_of t c.args.at) c.args.op.now) t c.call-result.new.tx.guest.tx c.call-result.result) before c.call-result.ensures.called)

pub returns-clause-cause : Rattle.iso_machine.proofs.storing.call_from.Goals.returns-clause-cause
returns-clause-cause g c =
    let failures = c.leave-core.result.failures in
    let stops = subst (λ (s : Seen). Stops (device 0) (device s.faults) c.call-result.result) c.leave-core.ensures.seen
    (subst (λ (s : Seen). Stops (device s.faults) (device c.call-result.new.tx.guest.faults) c.call-result.result) c.over-blocks.ensures c.call-result.ensures.stops) in
    blames failures g.K.Origin.disk.faults (g.D.Disk.state (disk_of c.leave-core.result.core.now)).faults c.call-result.result c.leave-core.ensures.guest.1.counts stops
