use Rattle.mirror_disk.proofs.{Words.{arith, on_ok_weaker, refl}, Alone.none_torn, Done.torn_nowhere, Mirrored.{elapses_more, on_err}}
use Rattle.mirror_disk.proofs.disk.MirrorDisk.sync.Goals as goal
use Rattle.std.proofs.{Common.rules, lemmas.Grind.common_steps}

pub returns-clause-settled : goal.returns-clause-settled
returns-clause-settled g c = on_ok_weaker c.count.result (λ done. c.sync_sides-used.ensures.settled done c.count.new.faults c.args.self.now.binds) c.count.ensures.done

pub returns-clause-contents : goal.returns-clause-contents
returns-clause-contents g c = torn_nowhere (c.sync_sides-used.ensures.changes.called.torn c.args.self.now.faults c.count.new.faults c.args.self.now.binds)

pub returns-clause-crash : goal.returns-clause-crash
returns-clause-crash g c = elapses_more (c.sync_sides-used.ensures.changes.called.crash c.args.self.now.faults c.count.new.faults c.args.self.now.binds) none_torn

pub returns-clause-changed : goal.returns-clause-changed
returns-clause-changed g c =
    let called = c.sync_sides-used.ensures.changes.called in
    let leaves = c.sync_sides-used.ensures.changes.leaves in
    record {
      called = record {
        unbound = on_ok_weaker c.count.result called.bound c.count.ensures.done;
        goes_on = on_ok_weaker c.count.result called.goes_on c.count.ensures.done;
        first_idle = called.first_idle;
        second_idle = called.second_idle;
        exact = first_of (search rules, grind (arith, common_steps));
      };
      breaks = on_err c.count.result leaves.breaks c.count.ensures.failed;
      same = refl;
      left = leaves.left;
      counted = on_err c.count.result leaves.counted c.count.ensures.failed;
    }
