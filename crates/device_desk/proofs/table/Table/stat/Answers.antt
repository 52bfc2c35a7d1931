use Rattle.iso_machine.proofs.Words.{ap, numbers, Stat, up}
use Rattle.script_model.specs.declared.script.Reply.TheVariants as reply

pub returns : Rattle.device_desk.proofs.table.Table.stat.Goals.returns
unfolding numbers
returns g c W of = ap (λ (s : Stat). reply.Numbers s.last s.base s.trim s.live s.used s.versions) (c.stat-stat.ensures W up of.core_of)
