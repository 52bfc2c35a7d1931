use Rattle.iso_machine.proofs.Words.{ap, disk_of, refl}
use Rattle.device_desk.proofs.desk.Desk.over.Goals as goal

pub invariant_of-result : goal.invariant_of-result
invariant_of-result g c is_up = (c.requires.0, c.over.ensures.stands c.requires.0 c.requires.1 c.requires.2)

pub returns-clause-stands : goal.returns-clause-stands
returns-clause-stands g c W stands none = record { is_up = refl; table = c.over.ensures.stands W stands none }

pub returns-clause-disk : goal.returns-clause-disk
returns-clause-disk g c = ap disk_of c.over.ensures.core
