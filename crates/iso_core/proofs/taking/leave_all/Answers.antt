use Rattle.iso_core.proofs.{Words.{arith, refl, sym, subst, ℕ, List, Begun, Becomes, leave_all}, Staging.none_left}

pub leave_each-requires : Rattle.iso_core.proofs.taking.leave_all.Goals.leave_each-requires
leave_each-requires c = c.requires

pub returns-then-group-len : Rattle.iso_core.proofs.taking.leave_all.Goals.returns-then-group-len
returns-then-group-len c m =
    subst (λ (l : List (ℕ × Begun)). Becomes c.args.kept.now (record c.args.kept.now { live = l }) (leave_all m.members m.world)) (sym c.clear.ensures)
    (record { of = none_left c.args.kept.now m.world c.args.group.now m.members m.of m.each (omega (arith, c.if-group-len.true, c.len.ensures)); half = refl; down = refl })
