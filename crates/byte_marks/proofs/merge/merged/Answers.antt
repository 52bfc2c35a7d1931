-- The open run takes in what touches it; an extent further on closes it and is the next open run.
use Rattle.byte_marks.proofs.{Words.{◌≡◌, ◌<◌, ◌≤◌, ◌||◌, ◌∙◌, ap, arith, Bool, has, in_extent, or_assoc}, Apart.{earlier, AreApartFrom-append, next_free-append, joined_has, has-append, regroup}}
use Rattle.byte_marks.proofs.merge.merged.Goals as goal

pub first_of-requires-in-loop-next-clause-a : goal.first_of-requires-in-loop-next-clause-a
first_of-requires-in-loop-next-clause-a c = earlier 0 c.loop-next.open.from c.loop-next.a.now (omega arith) c.loop-next.invariant.a

pub first_of-requires-in-loop-next-clause-b : goal.first_of-requires-in-loop-next-clause-b
first_of-requires-in-loop-next-clause-b c = earlier 0 c.loop-next.open.from c.loop-next.b.now (omega arith) c.loop-next.invariant.b

pub loop-next-preserved-then-next-open : goal.loop-next-preserved-then-next-open
loop-next-preserved-then-next-open c =
    let inv = c.loop-next.invariant in
    let open_run = c.loop-next.open in
    let arm = c.in-Some-first_of in
    let out = c.loop-next.out.items in
    let order : open_run.from ≤ arm.next.from = arm.ensures.from open_run.from inv.a inv.b in
    let longest = c.max.ensures in
    let some : open_run.from < c.max.result = omega arith in
    let inside : c.max.result ≤ 4096 = omega (arith, arm.ensures.some) in
    record {
      a = earlier open_run.from arm.next.from arm.rest_a.now order arm.ensures.left_a;
      b = earlier open_run.from arm.next.from arm.rest_b.now order arm.ensures.left_b;
      some = some;
      inside = inside;
      done = inv.done;
      free = inv.free;
      set = λ p.
          (let rest = has arm.rest_a.now p || has arm.rest_b.now p in
          let longer : in_extent p (record { from = open_run.from; to = c.max.result }) ≡ (in_extent p open_run || in_extent p arm.next) =
          rw longest (joined_has open_run.from open_run.to arm.next.from arm.next.to p order c.if-next-open.true arm.ensures.some.0) in
          ap (λ (b : Bool). (has out p || b) || rest) longer
          ∙ regroup (has out p) (in_extent p open_run) (in_extent p arm.next) rest
          ∙ ap (λ (b : Bool). (has out p || in_extent p open_run) || b) (arm.ensures.set p)
          ∙ inv.set p);
      len = omega (arith, arm.ensures.len);
      room = inv.room;
    }

pub loop-next-preserved : goal.loop-next-preserved
loop-next-preserved c = grind (arith, AreApartFrom-append, next_free-append, has-append, or_assoc)

pub returns-clause-apart : goal.returns-clause-apart
returns-clause-apart c = grind (arith, AreApartFrom-append)
