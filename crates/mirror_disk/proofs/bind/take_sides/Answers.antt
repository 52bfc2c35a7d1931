use Rattle.mirror_disk.proofs.{Words.{◌∙◌, arith, inl, inr, ⊎_elim, chosen_told, first_name, second_name}, Blank.{named_taken, told_taken}, Done.rose_behind, Settled.adopted_behind}
use Rattle.mirror_disk.proofs.bind.take_sides.Goals as goal

pub returns-in-Err : goal.returns-in-Err
returns-in-Err g c = record {
  adopted = tt;
  bound = tt;
  later = (omega (arith, c.bind_side.ensures.cause.later, c.adopt_sides.ensures.later), omega (arith, c.bind_side-2.ensures.cause.later, c.adopt_sides.ensures.later));
  made = tt;
  size = tt;
  blank = tt;
  blank_after_crash = tt;
  existing = tt;
  told = tt;
  -- the sides that are not taken for a mirror are those that were bound
  cause =
      ⊎_elim (λ rose. inl (⊎_elim (λ first. inl (rose_behind _ _ _ c.bind_side.ensures.cause.later first)) (λ second. inr (rose_behind _ _ _ c.bind_side-2.ensures.cause.later second)) rose))
      (λ refuses. inr (
        c.bind_side.new.side,
        c.bind_side-2.new.side,
        record { bound = (_, c.in_ok-bind_side.ensures.binds.bound); reads = c.in_ok-bind_side.ensures.binds.existing },
        record { bound = (_, c.in_ok-bind_side-2.ensures.binds.bound); reads = c.in_ok-bind_side-2.ensures.binds.existing },
        refuses,
      )) c.in-Err.ensures.cause;
}

pub returns-in-Ok : goal.returns-in-Ok
returns-in-Ok g c =
    let a = g.A.Disk.state c.args.first.now in
    let b = g.B.Disk.state c.args.second.now in
    let new_a = g.A.Disk.state c.adopt_sides.new.first in
    let new_b = g.B.Disk.state c.adopt_sides.new.second in
    let name = c.args.name.now in
    let existing = named_taken (a.named (first_name name)) (b.named (second_name name)) (g.A.Disk.state c.bind_side.new.side).contents (g.B.Disk.state c.bind_side-2.new.side).contents new_a.contents new_b.contents c.in_ok-bind_side.ensures.binds.existing c.in_ok-bind_side-2.ensures.binds.existing c.adopt_sides.ensures.contents in
    record {
      adopted = adopted_behind c.bind_side.ensures.cause.later c.bind_side-2.ensures.cause.later c.in-Ok.ensures.adopted;
      bound = (_, c.adopt_sides.ensures.bound ∙ c.in_ok-bind_side.ensures.binds.bound);
      later = (omega (arith, c.bind_side.ensures.cause.later, c.adopt_sides.ensures.later), omega (arith, c.bind_side-2.ensures.cause.later, c.adopt_sides.ensures.later));
      made = tt;
      size = tt;
      blank = tt;
      blank_after_crash = tt;
      existing = existing;
      told = told_taken (chosen_told (a.named (first_name name)) (b.named (second_name name))) (chosen_told new_a.contents new_b.contents) existing;
      cause = tt;
    }
