use Rattle.iso_tree.proofs.{Words.{◌≡◌, ◌∙◌, ◌-◌, sym, ap, ℕ, List, arith, key_at, before}, Facts.{below_ends, below_goes_on}}

pub returns-then-not-is_before : Rattle.iso_tree.proofs.keys.below.Goals.returns-then-not-is_before
returns-then-not-is_before c = record { value = grind (arith, below_ends) steps 100000; most = omega (arith, c.loop-cell-test.true, c.count_of-count.ensures) }

pub loop-cell-preserved : Rattle.iso_tree.proofs.keys.below.Goals.loop-cell-preserved
loop-cell-preserved c =
    let e : before (key_at c.args.keys.now.bytes.now c.loop-cell.cell) c.args.key.now ≡ c.is_before.result = ap (λ (x : List ℕ). before x c.args.key.now) (sym c.key_of.ensures) ∙ sym c.is_before.ensures in
    let on = below_goes_on c.args.key.now c.args.keys.now.bytes.now c.loop-cell.cell c.count_of-count.result (c.loop-cell.cell - c.args.first) _ c.loop-cell-test.true c.loop-cell.invariant (e ∙ c.if-not-is_before.false) in
    let past = c.loop-cell.auto.cell in
    omega arith
