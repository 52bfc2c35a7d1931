use Rattle.iso_machine.proofs.Words.{ap, Stat, up}

pub returns : Rattle.iso_machine.proofs.machine.Machine.last_commit.Goals.returns
returns g c W of = ap (λ (s : Stat). s.last) (c.stat-stat.ensures W up of.core_of)
