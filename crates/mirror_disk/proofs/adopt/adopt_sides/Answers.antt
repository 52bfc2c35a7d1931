use Rattle.mirror_disk.proofs.{Words.{arith, inl, inr, refl, ◌∙◌, starts_unwritten, chosen_told}, Adopted.{alike_behind, choice_fails, either_failed, ended_early, mark_of, mark_read, room_read, told_header, told_none}, Handed.{later_twice, stands_still}, Settled.adopted_behind}
use Rattle.mirror_disk.proofs.adopt.adopt_sides.Goals as goal
use Rattle.std.proofs.{Common.rules, lemmas.Grind.common_steps}

pub returns-then-size-other : goal.returns-then-size-other
returns-then-size-other g c =
    let law_a = g.met.A.Disk.lawful c.args.first.now in
    let law_b = g.met.B.Disk.lawful c.args.second.now in
    record {
      adopted = tt;
      kept = (c.args.first.now, c.args.second.now, ended_early law_a law_b (starts_unwritten law_a) (starts_unwritten law_b));
      contents = refl;
      bound = refl;
      headers = tt;
      still = λ x y told told' same alike. inr (starts_unwritten law_a, starts_unwritten law_b);
      sizes = first_of (search rules, grind (arith, common_steps));
      differ = first_of (search rules, grind (arith, common_steps));
      same_size = tt;
      not_first = λ is. absurd (cc is);
      not_second = λ is. absurd (cc is);
      choice = λ is. absurd (cc is);
      disk = λ is. absurd (cc is);
      cause = first_of (search rules, grind (arith, common_steps));
      later = (stands_still _, stands_still _);
    }

pub returns-in_default : goal.returns-in_default
returns-in_default g c =
    let call = c.read_headers in
    let read = call.ensures in
    record {
      adopted = tt;
      kept = (call.new.first, call.new.second, ended_early (g.met.A.Disk.lawful call.new.first) (g.met.B.Disk.lawful call.new.second) read.first_unwritten read.second_unwritten);
      contents = λ i. chosen_told (read.first_unwritten.same_contents i) (read.second_unwritten.same_contents i);
      bound = read.first_unwritten.moments.same_bound;
      headers = tt;
      still = λ x y told told' same alike. inr (read.first_unwritten, read.second_unwritten);
      sizes = first_of (search rules, grind (arith, common_steps));
      differ = λ m n is. absurd (cc is);
      same_size = tt;
      not_first = λ is. absurd (cc is);
      not_second = λ is. absurd (cc is);
      choice = λ is. (
        call.new.first,
        call.new.second,
        record { first_before = read.later.0; first_behind = stands_still _; second_before = read.later.1; second_behind = stands_still _; by = inl c.in_default.ensures.cause },
      );
      disk = λ is. c.in_default.ensures.cause;
      cause = inl c.in_default.ensures.cause;
      later = read.later;
    }

pub returns-in_default-one : goal.returns-in_default-one
returns-in_default-one g c =
    let call = c.read_headers in
    let read = call.ensures in
    let none = told_none read.first_unwritten (c.in-Ok.ensures.first_header.none c.in_default-one.is) in
    record {
      adopted = tt;
      kept = (call.new.first, call.new.second, ended_early (g.met.A.Disk.lawful call.new.first) (g.met.B.Disk.lawful call.new.second) read.first_unwritten read.second_unwritten);
      contents = λ i. chosen_told (read.first_unwritten.same_contents i) (read.second_unwritten.same_contents i);
      bound = read.first_unwritten.moments.same_bound;
      headers = tt;
      still = λ x y told told' same alike. inr (read.first_unwritten, read.second_unwritten);
      sizes = first_of (search rules, grind (arith, common_steps));
      differ = λ m n is. absurd (cc is);
      same_size = tt;
      not_first = λ _. none;
      not_second = first_of (search rules, grind (arith, common_steps));
      choice = λ is. absurd (cc is);
      disk = λ is. absurd (cc is);
      cause = inr (inr (inl none));
      later = read.later;
    }

pub returns-in_default-two : goal.returns-in_default-two
returns-in_default-two g c =
    let call = c.read_headers in
    let read = call.ensures in
    let none = told_none read.second_unwritten (c.in-Ok.ensures.second_header.none c.in_default-two.is) in
    record {
      adopted = tt;
      kept = (call.new.first, call.new.second, ended_early (g.met.A.Disk.lawful call.new.first) (g.met.B.Disk.lawful call.new.second) read.first_unwritten read.second_unwritten);
      contents = λ i. chosen_told (read.first_unwritten.same_contents i) (read.second_unwritten.same_contents i);
      bound = read.first_unwritten.moments.same_bound;
      headers = tt;
      still = λ x y told told' same alike. inr (read.first_unwritten, read.second_unwritten);
      sizes = first_of (search rules, grind (arith, common_steps));
      differ = λ m n is. absurd (cc is);
      same_size = tt;
      not_first = first_of (search rules, grind (arith, common_steps));
      not_second = λ _. (none, told_header (g.met.A.Disk.lawful call.new.first) read.first_unwritten c.in-Ok.one c.in-Some.one c.in-Some.is c.in-Ok.ensures.first_header.mark);
      choice = λ is. absurd (cc is);
      disk = λ is. absurd (cc is);
      cause = inr (inr (inr none));
      later = read.later;
    }

pub settle_on-requires : goal.settle_on-requires
settle_on-requires g c =
    let read = c.read_headers.ensures in
    let room = room_read (g.A.Disk.state c.read_headers.new.first).size c.in-Ok.one c.in-Some.one c.in-Some.is c.in-Ok.ensures.first_header.size in
    record {
      sized = record { from = omega (arith, room, read.first_unwritten.moments.same_size); to = omega (arith, room, read.first_unwritten.moments.same_size, read.second_unwritten.moments.same_size) };
      settled = c.in-Ok.ensures.settled;
      first = mark_read (g.A.Disk.state c.read_headers.new.first) c.in-Ok.one c.in-Some.one c.in-Some.is c.in-Ok.ensures.first_header.mark;
      second = mark_read (g.B.Disk.state c.read_headers.new.second) c.in-Ok.two c.in-Some-two.two c.in-Some-two.is c.in-Ok.ensures.second_header.mark;
    }

pub returns-in-Ok-settle_on : goal.returns-in-Ok-settle_on
returns-in-Ok-settle_on g c =
    let call = c.read_headers in
    let read = call.ensures in
    let settle = c.settle_on.ensures in
    record {
      adopted = adopted_behind read.later.0 read.later.1 c.in-Ok-settle_on.ensures.adopted;
      kept = (call.new.first, call.new.second, record { first_before = read.first_unwritten; second_before = read.second_unwritten; kept = settle.settles.kept });
      contents = settle.settles.contents ∙ (λ i. chosen_told (read.first_unwritten.same_contents i) (read.second_unwritten.same_contents i));
      bound = settle.settles.bound ∙ read.first_unwritten.moments.same_bound;
      headers = (
        told_header (g.met.A.Disk.lawful call.new.first) read.first_unwritten c.in-Ok.one c.in-Some.one c.in-Some.is c.in-Ok.ensures.first_header.mark,
        told_header (g.met.B.Disk.lawful call.new.second) read.second_unwritten c.in-Ok.two c.in-Some-two.two c.in-Some-two.is c.in-Ok.ensures.second_header.mark,
      );
      still = alike_behind (g.met.A.Disk.lawful call.new.first) (g.met.B.Disk.lawful call.new.second) read.first_unwritten read.second_unwritten read.later.1 settle.settles.still;
      sizes = tt;
      differ = tt;
      same_size = first_of (search rules, grind (arith, common_steps));
      not_first = tt;
      not_second = tt;
      choice = tt;
      disk = tt;
      cause = tt;
      later = (later_twice _ _ _ read.later.0 settle.later.0, later_twice _ _ _ read.later.1 settle.later.1);
    }

pub returns-in-Err : goal.returns-in-Err
returns-in-Err g c =
    let call = c.read_headers in
    let read = call.ensures in
    let settle = c.settle_on.ensures in
    let failed = either_failed _ _ _ _ _ _ c.in-Some.one.epoch c.in-Some-two.two.epoch read.later.0 read.later.1 c.in-Err.ensures.first_cause c.in-Err.ensures.second_cause in
    record {
      adopted = tt;
      kept = (call.new.first, call.new.second, record { first_before = read.first_unwritten; second_before = read.second_unwritten; kept = settle.settles.kept });
      contents = settle.settles.contents ∙ (λ i. chosen_told (read.first_unwritten.same_contents i) (read.second_unwritten.same_contents i));
      bound = settle.settles.bound ∙ read.first_unwritten.moments.same_bound;
      headers = tt;
      still = alike_behind (g.met.A.Disk.lawful call.new.first) (g.met.B.Disk.lawful call.new.second) read.first_unwritten read.second_unwritten read.later.1 settle.settles.still;
      sizes = first_of (search rules, grind (arith, common_steps));
      differ = λ m n is. absurd (cc is);
      same_size = tt;
      not_first = λ is. absurd (cc is);
      not_second = λ is. absurd (cc is);
      choice = λ is. (
        call.new.first,
        call.new.second,
        record {
          first_before = read.later.0;
          first_behind = settle.later.0;
          second_before = read.later.1;
          second_behind = settle.later.1;
          by =
              choice_fails (g.A.Disk.state c.args.first.now) (g.B.Disk.state c.args.second.now) (g.A.Disk.state call.new.first) (g.B.Disk.state call.new.second) (g.A.Disk.state c.settle_on.new.first) (g.B.Disk.state c.settle_on.new.second) c.in-Some.one c.in-Some-two.two
              (g.met.A.Disk.lawful call.new.first) (g.met.B.Disk.lawful call.new.second) read.first_unwritten read.second_unwritten
              (mark_of (g.A.Disk.state call.new.first) c.in-Ok.one c.in-Some.one c.in-Some.is c.in-Ok.ensures.first_header.mark) (mark_of (g.B.Disk.state call.new.second) c.in-Ok.two c.in-Some-two.two c.in-Some-two.is c.in-Ok.ensures.second_header.mark) c.in-Err.ensures.first_cause c.in-Err.ensures.second_cause;
        },
      );
      disk = λ is. failed;
      cause = inl failed;
      later = (later_twice _ _ _ read.later.0 settle.later.0, later_twice _ _ _ read.later.1 settle.later.1);
    }
