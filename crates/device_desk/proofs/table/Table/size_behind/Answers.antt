use Rattle.iso_machine.proofs.{Words.{refl, ap, List, ℕ, Result, Ok, Reply, disk_of, Always}, Told.told_so}
use Rattle.device_desk.specs.Sizes.{looked_step}
use Rattle.device_desk.proofs.Tables.{stays_with}
use Rattle.device_desk.proofs.table.Table.size_behind.Goals as goal

pub returns-in-Err : goal.returns-in-Err
returns-in-Err g c W of =
    told_so {known = Always} (Ok c.in-Err.reply) (λ why may. may)
    (stays_with of (g.met.D.Disk.lawful (disk_of c.args.self.now.core)) refl (ap (λ (found : Result (List ℕ) Reply). looked_step c.args.number found W) c.in-Err.is) of)
