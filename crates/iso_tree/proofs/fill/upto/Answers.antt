use Rattle.iso_tree.proofs.{Words.{◌≡◌, ◌∙◌, ◌-◌, sym, ap, arith, key_at, before}, Filling.{upto_ends, upto_goes_on}}

pub returns-then-is_before : Rattle.iso_tree.proofs.fill.upto.Goals.returns-then-is_before
returns-then-is_before c = record { value = grind (arith, upto_ends) steps 100000; most = omega (arith, c.loop-cell-test.true, c.count_of-count.ensures) }

pub loop-cell-preserved : Rattle.iso_tree.proofs.fill.upto.Goals.loop-cell-preserved
loop-cell-preserved c =
    let e : before c.args.key.now (key_at c.args.keys.now.bytes.now c.loop-cell.cell) ≡ c.is_before.result = ap (before c.args.key.now) (sym c.key_of.ensures) ∙ sym c.is_before.ensures in
    let on = upto_goes_on c.args.key.now c.args.keys.now.bytes.now c.loop-cell.cell c.count_of-count.result (c.loop-cell.cell - c.args.first) _ c.loop-cell-test.true c.loop-cell.invariant (e ∙ c.if-is_before.false) in
    let past = c.loop-cell.auto.cell in
    omega arith
