use Rattle.mirror_disk.proofs.{Words.{◌∙◌, DiskState, IsSettled}, Mirrored.{state_pair, told_pair}}
use Rattle.mirror_disk.proofs.mirror.Mirror.adopt.Goals as goal

pub returns-in-Ok-clause-adopted : goal.returns-in-Ok-clause-adopted
returns-in-Ok-clause-adopted g c = c.in-Ok.ensures

pub returns-in-Err-clause-refused : goal.returns-in-Err-clause-refused
returns-in-Err-clause-refused g c = c.in-Err.ensures

pub returns-in-Ok-clause-contents : goal.returns-in-Ok-clause-contents
returns-in-Ok-clause-contents g c =
    told_pair c.in-Ok.marks.used c.in-Ok.ensures.adopted.in_use (g.A.Disk.state c.adopt_sides.new.first) (g.B.Disk.state c.adopt_sides.new.second) c.start.result 0 0 ∙ c.adopt_sides.ensures.contents

pub returns-in-Ok-clause-settled : goal.returns-in-Ok-clause-settled
returns-in-Ok-clause-settled g c =
    state_pair c.in-Ok.marks.used c.in-Ok.ensures.adopted.in_use (g.A.Disk.state c.adopt_sides.new.first) (g.B.Disk.state c.adopt_sides.new.second) c.start.result 0 0 (λ (d : DiskState). IsSettled d) c.in-Ok.ensures.adopted.settled

pub returns-in-Ok-clause-alike : goal.returns-in-Ok-clause-alike
returns-in-Ok-clause-alike g c is = (c.in-Ok.ensures.adopted.stands.both is).agree
