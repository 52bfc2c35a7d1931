use Rattle.mirror_disk.proofs.{Words.{arith, on_ok_weaker, refl}, Alone.none_torn, Done.torn_nowhere, Mirrored.{elapses_more, on_err}}
use Rattle.mirror_disk.proofs.disk.MirrorDisk.read.Goals as goal
use Rattle.std.proofs.{Common.rules, lemmas.Grind.common_steps}

pub read_sides-done-requires : goal.read_sides-done-requires
read_sides-done-requires g c = record { stands = c.args.self.now.stands; fits = first_of (search rules, grind (arith, common_steps)) }

pub returns-clause-bytes : goal.returns-clause-bytes
returns-clause-bytes g c = on_ok_weaker c.count.result (λ done. c.read_sides-done.ensures.bytes done c.args.self.now.faults c.args.self.now.binds) c.count.ensures.done

pub returns-clause-contents : goal.returns-clause-contents
returns-clause-contents g c = torn_nowhere (c.read_sides-done.ensures.called.torn c.args.self.now.faults c.count.new.faults c.args.self.now.binds)

pub returns-clause-crash : goal.returns-clause-crash
returns-clause-crash g c = elapses_more (c.read_sides-done.ensures.called.crash c.args.self.now.faults c.count.new.faults c.args.self.now.binds) none_torn

pub returns-clause-asked : goal.returns-clause-asked
returns-clause-asked g c =
    let called = c.read_sides-done.ensures.called in
    record {
      called = record {
        unbound = on_ok_weaker c.count.result called.bound c.count.ensures.done;
        goes_on = on_ok_weaker c.count.result called.goes_on c.count.ensures.done;
        first_idle = called.first_idle;
        second_idle = called.second_idle;
        exact = first_of (search rules, grind (arith, common_steps));
      };
      same = refl;
      second_last = c.read_sides-done.ensures.second_last;
      counted = on_err c.count.result c.read_sides-done.ensures.counted c.count.ensures.failed;
    }
