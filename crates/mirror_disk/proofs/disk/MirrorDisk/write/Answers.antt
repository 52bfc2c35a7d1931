use Rattle.mirror_disk.proofs.{Words.{arith, on_ok_weaker, refl}, Mirrored.on_err}
use Rattle.mirror_disk.proofs.disk.MirrorDisk.write.Goals as goal
use Rattle.std.proofs.{Common.rules, lemmas.Grind.common_steps}

pub write_sides-used-requires : goal.write_sides-used-requires
write_sides-used-requires g c = record { stands = c.args.self.now.stands; fits = first_of (search rules, grind (arith, common_steps)) }

pub returns-clause-written : goal.returns-clause-written
returns-clause-written g c = on_ok_weaker c.count.result (λ done. c.write_sides-used.ensures.called.did done c.args.self.now.faults c.count.new.faults c.args.self.now.binds) c.count.ensures.done

pub returns-clause-failed : goal.returns-clause-failed
returns-clause-failed g c = on_err c.count.result (λ _. c.write_sides-used.ensures.called.torn c.args.self.now.faults c.count.new.faults c.args.self.now.binds) c.count.ensures.failed

pub returns-clause-crash : goal.returns-clause-crash
returns-clause-crash g c = c.write_sides-used.ensures.called.crash c.args.self.now.faults c.count.new.faults c.args.self.now.binds

pub returns-clause-changed : goal.returns-clause-changed
returns-clause-changed g c =
    let called = c.write_sides-used.ensures.called in
    let leaves = c.write_sides-used.ensures.leaves in
    record {
      called = record {
        unbound = on_ok_weaker c.count.result called.bound c.count.ensures.done;
        goes_on = on_ok_weaker c.count.result called.goes_on c.count.ensures.done;
        first_idle = called.first_idle;
        second_idle = called.second_idle;
        exact = first_of (search rules, grind (arith, common_steps));
      };
      breaks = on_err c.count.result leaves.breaks c.count.ensures.failed;
      same = refl;
      left = leaves.left;
      counted = on_err c.count.result leaves.counted c.count.ensures.failed;
    }
