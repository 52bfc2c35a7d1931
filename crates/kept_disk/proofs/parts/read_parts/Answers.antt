use Rattle.kept_disk.proofs.{Words.{rules, ◌≡◌, ◌<◌, ◌%◌, ◌+◌, ◌-◌, ◌≤◌, ℕ, length, take, drop, sym, ◌∙◌, ap, subst, arith, mod-lt, all_passed, failed_behind, length-spliced, on_ok_weaker, take_all, IsHeld, Pages, page_at}, Moments.further, Paging.{held_in, held_further, held_page}, Slices.{length-slice, lent_part, read_further}}
use Rattle.kept_disk.proofs.parts.read_parts.Goals as goal

pub returns-then-is_in_one_page-clause-held : goal.returns-then-is_in_one_page-clause-held
returns-then-is_in_one_page-clause-held g c range =
    let one = c.is_in_one_page.ensures c.if-is_in_one_page.true in
    let here = c.read_part.ensures.held (range c.args.at (omega arith) (omega (arith, one.some))) in
    (here.0, here.1)

pub returns-then-is_in_one_page-clause-holds : goal.returns-then-is_in_one_page-clause-holds
returns-then-is_in_one_page-clause-holds g c =
    let one = c.is_in_one_page.ensures c.if-is_in_one_page.true in
    let place : page_at c.args.at % 2053 < 2053 = mod-lt (page_at c.args.at) (omega arith) in
    on_ok_weaker c.read_part.result (λ holds enough small. held_page c.read_part.new.pages.numbers.items c.args.at (length c.args.into.now) one.inside (holds (omega (arith, place, enough)))) c.read_part.ensures.holds

pub returns-in-Err-clause-held : goal.returns-in-Err-clause-held
returns-in-Err-clause-held g c range =
    let so_far = c.loop-done.invariant.held range in
    let ended = c.in-Err.ensures.held (subst (λ (p : Pages). IsHeld p.numbers.items (page_at (c.args.at + c.loop-done.done))) (sym so_far.1) (held_in c.args.pages.now.numbers.items c.args.at (length c.args.into.now) c.loop-done.done (omega (arith, c.loop-done-test.true, c.loop-done.auto.into)) range)) in
    absurd (cc (ended.0))

pub loop-done-preserved : goal.loop-done-preserved
loop-done-preserved g c =
    let done = c.loop-done.done in
    let count = c.part_len-count.result in
    let so_far = c.loop-done.invariant in
    let into = c.loop-done.into in
    let part = c.read_part-in-loop-done.new.into in
    let fits : done + count ≤ length into = omega (arith, so_far.within, c.part_len-count.ensures.within) in
    let size : length part ≡ count = omega (arith, fits, c.read_part-in-loop-done.auto.into, length-slice (done + count - done) done into) in
    let lies : done + length part ≤ length into = omega (arith, fits, size) in
    let is = lent_part done (done + count - done) into part (omega (arith, size)) in
    record {
      within = omega (arith, fits, ap length is, length-spliced into done part lies);
      bytes = λ l told.
          let read = c.in_default.ensures.read.bytes l (so_far.contents ∙ told) ∙ ap (λ (k : ℕ). take k (drop (c.args.at + done) l)) (sym c.read_part-in-loop-done.auto.into) in
          (let back : count ≡ length part = sym size in λ i. take (done + back i) (is i))
          ∙ read_further into part l c.args.at done lies (so_far.bytes l told) read
          ∙ ap (λ (k : ℕ). take (done + k) (drop c.args.at l)) size;
      contents = c.read_part-in-loop-done.ensures.read.looked.contents ∙ so_far.contents;
      crash = further so_far.crash c.read_part-in-loop-done.ensures.read.looked.crash;
      faults = c.in_default.ensures.read.looked.cause.passed ∙ so_far.faults;
      stand = λ l told. c.read_part-in-loop-done.ensures.read.stand l (so_far.contents ∙ told);
      places = c.read_part-in-loop-done.ensures.kept.places ∙ so_far.places;
      held = λ range.
          let before = so_far.held range in
          let here = c.read_part-in-loop-done.ensures.held (subst (λ (p : Pages). IsHeld p.numbers.items (page_at (c.args.at + done))) (sym before.1) (held_in c.args.pages.now.numbers.items c.args.at (length c.args.into.now) done (omega (arith, c.loop-done-test.true, c.loop-done.auto.into)) range)) in
          (here.1 ∙ before.0, here.2 ∙ before.1);
      holds = λ enough small.
          let place : page_at (c.args.at + done) % 2053 < 2053 = mod-lt (page_at (c.args.at + done)) (omega arith) in
          let here = c.in_default.ensures.holds (omega (arith, place, enough, so_far.places)) in
          held_further c.loop-done.pages.numbers.items c.read_part-in-loop-done.new.pages.numbers.items c.args.at done count c.part_len-count.ensures.part.inside (omega (arith, fits, small, c.loop-done.auto.into)) here c.in_default.ensures.kept.others (so_far.holds enough small);
    }

pub returns-then-is_in_one_page-clause-read : goal.returns-then-is_in_one_page-clause-read
returns-then-is_in_one_page-clause-read g c = c.read_part.ensures.read

pub returns-in-Err-clause-read : goal.returns-in-Err-clause-read
returns-in-Err-clause-read g c = record {
  bytes = search rules;
  looked = record {
    contents = c.read_part-in-loop-done.ensures.read.looked.contents ∙ c.loop-done.invariant.contents;
    crash = further c.loop-done.invariant.crash c.read_part-in-loop-done.ensures.read.looked.crash;
    cause = failed_behind c.loop-done.invariant.faults c.in-Err.ensures.read.looked.cause;
  };
  stand = λ l told. c.read_part-in-loop-done.ensures.read.stand l (c.loop-done.invariant.contents ∙ told);
}

pub returns-clause-read : goal.returns-clause-read
returns-clause-read g c = record {
  bytes = λ l told.
      let all : c.loop-done.done ≡ length c.args.into.now = omega (arith, c.loop-done-test.false, c.loop-done.invariant.within, c.loop-done.auto.into) in
      sym (take_all c.loop-done.done c.loop-done.into c.loop-done-test.false) ∙ c.loop-done.invariant.bytes l told ∙ ap (λ (k : ℕ). take k (drop c.args.at l)) all;
  looked = record { contents = c.loop-done.invariant.contents; crash = c.loop-done.invariant.crash; cause = all_passed c.loop-done.invariant.faults };
  stand = c.loop-done.invariant.stand;
}
