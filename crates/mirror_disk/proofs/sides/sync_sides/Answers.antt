use Rattle.mirror_disk.proofs.{Words.inl, Answered.{syncs_both, syncs_first, syncs_none, syncs_plain, syncs_second}, Asked.both_asked, Mirrored.of_pair}
use Rattle.mirror_disk.proofs.sides.sync_sides.Goals as goal

pub returns-in-OnlyFirst : goal.returns-in-OnlyFirst
returns-in-OnlyFirst g c = syncs_first g.A.Disk.state g.B.Disk.state c.args.marks (g.met.A.Disk.lawful c.args.first.now) (g.met.B.Disk.lawful c.args.second.now) c.later-next.ensures c.requires (g.met.A.Disk.lawful c.sync_side-done.new.side) c.in-OnlyFirst.is c.sync_side-done.ensures.called c.sync_side-done.ensures.settled

pub returns-in-OnlySecond : goal.returns-in-OnlySecond
returns-in-OnlySecond g c = syncs_second g.A.Disk.state g.B.Disk.state c.args.marks (g.met.A.Disk.lawful c.args.first.now) (g.met.B.Disk.lawful c.args.second.now) c.later-next.ensures c.requires (g.met.B.Disk.lawful c.sync_side-done-in-OnlySecond.new.side) c.in-OnlySecond.is c.sync_side-done-in-OnlySecond.ensures.called c.sync_side-done-in-OnlySecond.ensures.settled

pub leave_out-left-requires : goal.leave_out-left-requires
leave_out-left-requires g c =
    let stands = c.requires in
    record { asked = (c.args.first.now, c.args.second.now, c.args.past.now, 0, 0, both_asked (stands.pair (of_pair (inl c.in-Both.is))) (stands.both c.in-Both.is) c.sync_side-first_done.ensures.called c.sync_side-second_done.ensures.called) }

pub returns-in-Both : goal.returns-in-Both
returns-in-Both g c =
    let stands = c.requires in
    let left = c.leave_out-left in
    let asked = both_asked (stands.pair (of_pair (inl c.in-Both.is))) (stands.both c.in-Both.is) c.sync_side-first_done.ensures.called c.sync_side-second_done.ensures.called in
    syncs_both g.A.Disk.state g.B.Disk.state c.args.marks (g.met.A.Disk.lawful c.args.first.now) (g.met.B.Disk.lawful c.args.second.now) c.later-next.ensures c.requires (g.met.A.Disk.lawful left.new.first) (g.met.B.Disk.lawful left.new.second) c.in-Both.is c.sync_side-first_done.ensures.called c.sync_side-second_done.ensures.called c.sync_side-first_done.ensures.settled c.sync_side-second_done.ensures.settled
    (left.ensures.ended c.args.first.now c.args.second.now c.args.past.now 0 0 asked) left.ensures.left c.goes_on.ensures.works c.goes_on.ensures.broken

pub returns-in-Plain : goal.returns-in-Plain
returns-in-Plain g c = syncs_plain g.A.Disk.state g.B.Disk.state c.args.marks (g.met.A.Disk.lawful c.args.first.now) (g.met.B.Disk.lawful c.args.second.now) c.later-next.ensures c.requires c.sync.result c.in-Plain.is c.is_ok-done.ensures.value c.sync.ensures.crash c.sync.ensures.contents c.sync.ensures.cause c.sync.ensures.settled

pub returns-in-Broken : goal.returns-in-Broken
returns-in-Broken g c = syncs_none g.A.Disk.state g.B.Disk.state c.args.marks (g.met.A.Disk.lawful c.args.first.now) (g.met.B.Disk.lawful c.args.second.now) c.later-next.ensures c.requires c.in-Broken.is
