use Rattle.mirror_disk.proofs.{Words.{length, sym, ◌∙◌}, Answered.{reads_first, reads_none, reads_one, reads_other, reads_plain, reads_second}, Done.by_done}
use Rattle.mirror_disk.proofs.sides.read_sides.Goals as goal

pub returns-in-OnlyFirst : goal.returns-in-OnlyFirst
returns-in-OnlyFirst g c =
    let read = c.read_side in
    reads_first g.A.Disk.state g.B.Disk.state c.args.marks (g.met.A.Disk.lawful c.args.first.now) (g.met.B.Disk.lawful c.args.second.now) c.later-next.ensures c.requires.stands c.args.at (length c.args.into.now) read.new.into (g.met.A.Disk.lawful read.new.side) c.in-OnlyFirst.is read.ensures.called read.ensures.bytes

pub returns-in-OnlySecond : goal.returns-in-OnlySecond
returns-in-OnlySecond g c =
    let read = c.read_side-in-OnlySecond in
    reads_second g.A.Disk.state g.B.Disk.state c.args.marks (g.met.A.Disk.lawful c.args.first.now) (g.met.B.Disk.lawful c.args.second.now) c.later-next.ensures c.requires.stands c.args.at (length c.args.into.now) read.new.into (g.met.B.Disk.lawful read.new.side) c.in-OnlySecond.is read.ensures.called read.ensures.bytes

pub returns-then-read_side : goal.returns-then-read_side
returns-then-read_side g c =
    let read = c.read_side-in-Both in
    reads_one g.A.Disk.state g.B.Disk.state c.args.marks (g.met.A.Disk.lawful c.args.first.now) (g.met.B.Disk.lawful c.args.second.now) c.later-next.ensures c.requires.stands c.args.at (length c.args.into.now) read.new.into (g.met.A.Disk.lawful read.new.side) c.in-Both.is c.if-read_side.true read.ensures.called read.ensures.contents read.ensures.bytes

pub returns-else-read_side : goal.returns-else-read_side
returns-else-read_side g c =
    let read = c.read_side-in-Both in
    let other = c.read_side-in-Both-2 in
    reads_other g.A.Disk.state g.B.Disk.state c.args.marks (g.met.A.Disk.lawful c.args.first.now) (g.met.B.Disk.lawful c.args.second.now) c.later-next.ensures c.requires.stands c.args.at (length c.args.into.now) other.new.into (length read.new.into) read.auto.into (g.met.A.Disk.lawful read.new.side) (g.met.B.Disk.lawful other.new.side) c.in-Both.is c.if-read_side.false read.ensures.called read.ensures.contents other.ensures.called other.ensures.contents other.ensures.bytes

pub returns-in-Plain : goal.returns-in-Plain
returns-in-Plain g c =
    reads_plain g.A.Disk.state g.B.Disk.state c.args.marks (g.met.A.Disk.lawful c.args.first.now) (g.met.B.Disk.lawful c.args.second.now) c.later-next.ensures c.requires.stands c.args.at (length c.args.into.now) c.read.new.into c.read.result c.in-Plain.is c.is_ok.ensures.value c.read.ensures.crash c.read.ensures.contents (λ yes. by_done c.read.result (sym c.is_ok.ensures.value ∙ yes) c.read.ensures.bytes) c.read.ensures.cause

pub returns-in-Broken : goal.returns-in-Broken
returns-in-Broken g c = reads_none g.A.Disk.state g.B.Disk.state c.args.marks (g.met.A.Disk.lawful c.args.first.now) (g.met.B.Disk.lawful c.args.second.now) c.later-next.ensures c.requires.stands c.args.at (length c.args.into.now) c.args.into.now c.in-Broken.is
