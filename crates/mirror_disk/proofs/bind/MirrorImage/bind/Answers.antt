use Rattle.mirror_disk.proofs.{Words.{List, arith, subst, sym, ℕ, StandsBy}, Blank.{bound_blank, bound_settled}}
use Rattle.mirror_disk.proofs.bind.MirrorImage.bind.Goals as goal
use Rattle.std.proofs.{Common.{rules}, lemmas.Grind.{common_steps}}

pub invariant_of-self-in-Ok : goal.invariant_of-self-in-Ok
invariant_of-self-in-Ok g c = record { stands = subst (λ (l : List (ℕ × ℕ)). StandsBy (g.A.Disk.state c.bind_sides.new.first) (g.B.Disk.state c.bind_sides.new.second) c.in-Ok.made l) (sym c.start.ensures) c.in-Ok.ensures.pair.adopted.stands }

pub returns-in-Ok-clause-binds : goal.returns-in-Ok-clause-binds
returns-in-Ok-clause-binds g c =
    let made = c.in-Ok.ensures.pair in
    let adopted = made.adopted in
    let size = made.size in
    let blank = made.blank in
    let existing = made.existing in
    let told = made.told in
    let bound = made.bound in
    record {
      size = first_of (search rules, grind (arith, common_steps));
      blank = first_of (search rules, grind (arith, common_steps));
      blank_after_crash = bound_blank c.in-Ok.made.used adopted.in_use (g.A.Disk.state c.bind_sides.new.first) (g.B.Disk.state c.bind_sides.new.second) c.start.result c.args.self.now.faults c.raise.new.count c.args.want made.blank_after_crash;
      existing = first_of (search rules, grind (arith, common_steps));
      settled = bound_settled c.in-Ok.made.used adopted.in_use (g.A.Disk.state c.bind_sides.new.first) (g.B.Disk.state c.bind_sides.new.second) c.start.result c.args.self.now.faults c.raise.new.count c.args.want adopted.settled;
      told = first_of (search rules, grind (arith, common_steps));
      bound = first_of (search rules, grind (arith, common_steps));
      unbound = tt;
    }

pub returns-in-Ok-clause-sides : goal.returns-in-Ok-clause-sides
returns-in-Ok-clause-sides g c =
    let made = c.in-Ok.ensures.pair.made in
    let adopted = c.in-Ok.ensures.pair.adopted in
    record {
      plain = first_of (search rules, grind (arith, common_steps));
      alone = first_of (search rules, grind (arith, common_steps));
      goes_on = first_of (search rules, grind (arith, common_steps));
      released = first_of (search rules, grind (arith, common_steps));
      left_first = first_of (search rules, grind (arith, common_steps));
      left_second = first_of (search rules, grind (arith, common_steps));
      made = first_of (search rules, grind (arith, common_steps));
      made_free = first_of (search rules, grind (arith, common_steps));
      first_fails = first_of (search rules, grind (arith, common_steps));
      fails = first_of (search rules, grind (arith, common_steps));
    }

pub returns-in-Err-clause-sides : goal.returns-in-Err-clause-sides
returns-in-Err-clause-sides g c = record {
  plain = first_of (search rules, grind (arith, common_steps));
  alone = first_of (search rules, grind (arith, common_steps));
  goes_on = first_of (search rules, grind (arith, common_steps));
  released = first_of (search rules, grind (arith, common_steps));
  left_first = first_of (search rules, grind (arith, common_steps));
  left_second = first_of (search rules, grind (arith, common_steps));
  made = first_of (search rules, grind (arith, common_steps));
  made_free = first_of (search rules, grind (arith, common_steps));
  first_fails = first_of (search rules, grind (arith, common_steps));
  fails = first_of (search rules, grind (arith, common_steps));
}
