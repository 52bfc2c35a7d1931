use Rattle.mirror_disk.proofs.{Ended.{ended_both, ended_none, mark_a, mark_b}, Left.{broken_first, broken_second, ended_first, ended_second}}
use Rattle.mirror_disk.proofs.sides.leave_out.Goals as goal

pub returns-then-second_done-clause-ended : goal.returns-then-second_done-clause-ended
returns-then-second_done-clause-ended g c x y past at n asked =
    ended_both past c.args.marks.epoch c.args.marks.first_slot c.args.marks.second_slot at n (g.met.A.Disk.lawful x) (g.met.B.Disk.lawful y) (g.met.A.Disk.lawful c.args.first.now) (g.met.B.Disk.lawful c.args.second.now) asked c.if-first_done.true c.if-second_done.true

pub raise_by_one-requires-clause-marked : goal.raise_by_one-requires-clause-marked
raise_by_one-requires-clause-marked g c =
    let a = c.requires.asked in
    mark_a a.2 c.args.marks.epoch c.args.marks.first_slot c.args.marks.second_slot a.3 a.4 (g.met.A.Disk.lawful a.0) (g.met.B.Disk.lawful a.1) (g.met.A.Disk.lawful c.args.first.now) (g.met.B.Disk.lawful c.args.second.now) a.5

pub returns-then-raise_by_one-clause-ended : goal.returns-then-raise_by_one-clause-ended
returns-then-raise_by_one-clause-ended g c x y past at n asked =
    ended_first past c.args.marks.epoch c.args.marks.first_slot c.args.marks.second_slot at n (g.met.A.Disk.lawful x) (g.met.B.Disk.lawful y) (g.met.A.Disk.lawful c.args.first.now) (g.met.B.Disk.lawful c.args.second.now) asked
    (g.met.A.Disk.lawful c.raise_by_one.new.disk) c.raise_by_one.ensures.moments c.raise_by_one.ensures.body (c.raise_by_one.ensures.raised c.if-raise_by_one.true)

pub returns-then-first_done-clause-ended : goal.returns-then-first_done-clause-ended
returns-then-first_done-clause-ended g c x y past at n asked =
    broken_first past c.args.marks.epoch c.args.marks.first_slot c.args.marks.second_slot at n (g.met.A.Disk.lawful x) (g.met.B.Disk.lawful y) (g.met.A.Disk.lawful c.args.first.now) (g.met.B.Disk.lawful c.args.second.now) asked
    (g.met.A.Disk.lawful c.raise_by_one.new.disk) c.raise_by_one.ensures.moments c.raise_by_one.ensures.body

pub raise_by_one-requires-then-second_done-2-clause-marked : goal.raise_by_one-requires-then-second_done-2-clause-marked
raise_by_one-requires-then-second_done-2-clause-marked g c =
    let a = c.requires.asked in
    mark_b a.2 c.args.marks.epoch c.args.marks.first_slot c.args.marks.second_slot a.3 a.4 (g.met.A.Disk.lawful a.0) (g.met.B.Disk.lawful a.1) (g.met.A.Disk.lawful c.args.first.now) (g.met.B.Disk.lawful c.args.second.now) a.5

pub returns-then-raise_by_one-2-clause-ended : goal.returns-then-raise_by_one-2-clause-ended
returns-then-raise_by_one-2-clause-ended g c x y past at n asked =
    let raise = c.raise_by_one-then-second_done-2 in
    ended_second past c.args.marks.epoch c.args.marks.first_slot c.args.marks.second_slot at n (g.met.A.Disk.lawful x) (g.met.B.Disk.lawful y) (g.met.A.Disk.lawful c.args.first.now) (g.met.B.Disk.lawful c.args.second.now) asked
    (g.met.B.Disk.lawful raise.new.disk) raise.ensures.moments raise.ensures.body (raise.ensures.raised c.if-raise_by_one-2.true)

pub returns-then-second_done-2-clause-ended : goal.returns-then-second_done-2-clause-ended
returns-then-second_done-2-clause-ended g c x y past at n asked =
    let raise = c.raise_by_one-then-second_done-2 in
    broken_second past c.args.marks.epoch c.args.marks.first_slot c.args.marks.second_slot at n (g.met.A.Disk.lawful x) (g.met.B.Disk.lawful y) (g.met.A.Disk.lawful c.args.first.now) (g.met.B.Disk.lawful c.args.second.now) asked
    (g.met.B.Disk.lawful raise.new.disk) raise.ensures.moments raise.ensures.body

pub returns-clause-ended : goal.returns-clause-ended
returns-clause-ended g c x y past at n asked =
    ended_none past c.args.marks.epoch c.args.marks.first_slot c.args.marks.second_slot at n (g.met.A.Disk.lawful x) (g.met.B.Disk.lawful y) (g.met.A.Disk.lawful c.args.first.now) (g.met.B.Disk.lawful c.args.second.now) asked
