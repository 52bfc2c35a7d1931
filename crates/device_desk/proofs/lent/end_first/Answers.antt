use Rattle.iso_machine.proofs.Words.{◌≡◌, ◌++◌, ℕ, List, arith, drop, length, subst, sym, take, take-append_seam}
use Rattle.std.proofs.lemmas.List.{length-take-le}
use Rattle.iso_core.specs.declared.group_end.GroupEnd.{GroupEnd}
use Rattle.device_desk.specs.Lent.{HasEnded}

take_front : (n : ℕ) (xs ys : List GroupEnd) → length xs ≡ n → take n (xs ++ ys) ≡ xs
take_front n xs ys same = rw (← same) (take-append_seam xs ys)

pub returns-clause-group : Rattle.device_desk.proofs.lent.end_first.Goals.returns-clause-group
returns-clause-group g c W members of ready =
    let e = c.end_group.ensures in
    subst (λ (ends : List GroupEnd). HasEnded g.D.Disk.state c.args.core.now c.end_group.new.self W members ends c.end_group.result)
    (sym (take_front c.args.count c.end_group.new.ends (drop c.args.count c.args.ends.now) (omega (arith, c.end_group.auto.ends, length-take-le c.args.count c.args.ends.now c.requires.within))))
    (record {
      ended = e.ended W members of ready;
      same = e.same W of;
      only = e.only W of;
      moments = e.moments W members of ready;
      untouched = e.untouched;
      told = e.told;
      cause = e.cause;
    })
