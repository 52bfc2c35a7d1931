use Rattle.iso_top.proofs.{Words.{ap, arith, disk_of, up, Stat}, Results.printed_digest}

pub returns-clause-printed : Rattle.iso_top.proofs.recover.tell_last.Goals.returns-clause-printed
returns-clause-printed g c W stands base =
    let stat = c.stat-stat.ensures W up stands in
    printed_digest c.put_digest-status.result (g.I.Disk.state (disk_of c.args.core)) W.history (g.K.Sink.state c.args.output.now) (g.K.Sink.state c.put_digest-status.new.output) c.digest_of-told.result
    c.stat-stat.result.last c.stat-stat.result.base (ap (λ (s : Stat). s.last) stat) (omega (arith, ap (λ (s : Stat). s.base) stat, base))
    (c.digest_of-told.ensures.digest W stands) c.put_digest-status.ensures.told c.put_digest-status.ensures.disk c.put_digest-status.ensures.memory
