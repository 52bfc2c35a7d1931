use Rattle.mirror_disk.proofs.{Words.{inl, length, sym, ◌∙◌}, Asked.{both_asked, told_of}, Called.{changes_both, changes_first, changes_none, changes_plain, changes_second, fits_plain}, Done.by_done, Mirrored.of_pair}
use Rattle.mirror_disk.proofs.sides.write_sides.Goals as goal

pub returns-in-OnlyFirst : goal.returns-in-OnlyFirst
returns-in-OnlyFirst g c = changes_first g.A.Disk.state g.B.Disk.state c.args.marks (g.met.A.Disk.lawful c.args.first.now) (g.met.B.Disk.lawful c.args.second.now) c.later-next.ensures c.requires.stands (g.met.A.Disk.lawful c.write_side-done.new.side) c.in-OnlyFirst.is c.write_side-done.ensures

pub returns-in-OnlySecond : goal.returns-in-OnlySecond
returns-in-OnlySecond g c = changes_second g.A.Disk.state g.B.Disk.state c.args.marks (g.met.A.Disk.lawful c.args.first.now) (g.met.B.Disk.lawful c.args.second.now) c.later-next.ensures c.requires.stands (g.met.B.Disk.lawful c.write_side-done-in-OnlySecond.new.side) c.in-OnlySecond.is c.write_side-done-in-OnlySecond.ensures

pub leave_out-left-requires : goal.leave_out-left-requires
leave_out-left-requires g c =
    let stands = c.requires.stands in
    record { asked = (c.args.first.now, c.args.second.now, c.args.past.now, c.args.at, (length c.args.bytes.now), both_asked (stands.pair (of_pair (inl c.in-Both.is))) (stands.both c.in-Both.is) c.write_side-first_done.ensures c.write_side-second_done.ensures) }

pub returns-in-Both : goal.returns-in-Both
returns-in-Both g c =
    let stands = c.requires.stands in
    let left = c.leave_out-left in
    let asked = both_asked (stands.pair (of_pair (inl c.in-Both.is))) (stands.both c.in-Both.is) c.write_side-first_done.ensures c.write_side-second_done.ensures in
    changes_both g.A.Disk.state g.B.Disk.state c.args.marks (g.met.A.Disk.lawful c.args.first.now) (g.met.B.Disk.lawful c.args.second.now) c.later-next.ensures c.requires.stands (g.met.A.Disk.lawful left.new.first) (g.met.B.Disk.lawful left.new.second) c.in-Both.is c.write_side-first_done.ensures c.write_side-second_done.ensures
    (left.ensures.ended c.args.first.now c.args.second.now c.args.past.now c.args.at (length c.args.bytes.now) asked) left.ensures.left c.goes_on.ensures.works c.goes_on.ensures.broken

pub returns-in-Plain : goal.returns-in-Plain
returns-in-Plain g c =
    changes_plain g.A.Disk.state g.B.Disk.state c.args.marks (g.met.A.Disk.lawful c.args.first.now) (g.met.B.Disk.lawful c.args.second.now) c.later-next.ensures c.requires.stands c.write.result c.in-Plain.is c.is_ok-done.ensures.value c.write.ensures.crash (told_of _ _ c.args.at c.args.bytes.now (g.met.A.Disk.lawful c.args.first.now) (fits_plain (g.A.Disk.state c.args.first.now) (g.B.Disk.state c.args.second.now) c.args.past.now c.args.at (length c.args.bytes.now) c.in-Plain.is c.requires.fits) c.write.result c.write.ensures.written c.write.ensures.failed)
    (λ yes. by_done c.write.result (sym c.is_ok-done.ensures.value ∙ yes) c.write.ensures.written) c.write.ensures.cause

pub returns-in-Broken : goal.returns-in-Broken
returns-in-Broken g c = changes_none g.A.Disk.state g.B.Disk.state c.args.marks (g.met.A.Disk.lawful c.args.first.now) (g.met.B.Disk.lawful c.args.second.now) c.later-next.ensures c.requires.stands c.in-Broken.is
