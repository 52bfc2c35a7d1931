use Rattle.iso_tree.proofs.{Words.{◌≡◌, ◌∙◌, ◌-◌, sym, ap, arith, key_at, before, place_of}, Facts.{place_ends, place_goes_on}}

pub returns-then-is_before : Rattle.iso_tree.proofs.keys.place_of.Goals.returns-then-is_before
returns-then-is_before c =
    let e : before c.args.key.now (key_at c.args.keys.now.bytes.now c.loop-cell.cell) ≡ c.is_before.result = ap (before c.args.key.now) (sym c.key_of.ensures) ∙ sym c.is_before.ensures in
    record {
      value = place_ends c.args.key.now c.args.keys.now.bytes.now (c.loop-cell.cell - 1) c.loop-cell.cell c.count_of-count.result (place_of c.args.key.now c.args.keys.now.bytes.now) c.loop-cell-test.true c.loop-cell.invariant (e ∙ c.if-is_before.true);
      below = omega (arith, c.loop-cell-test.true, c.count_of-count.ensures);
    }

pub loop-cell-preserved : Rattle.iso_tree.proofs.keys.place_of.Goals.loop-cell-preserved
loop-cell-preserved c =
    let e : before c.args.key.now (key_at c.args.keys.now.bytes.now c.loop-cell.cell) ≡ c.is_before.result = ap (before c.args.key.now) (sym c.key_of.ensures) ∙ sym c.is_before.ensures in
    place_goes_on c.args.key.now c.args.keys.now.bytes.now (c.loop-cell.cell - 1) c.loop-cell.cell c.count_of-count.result (place_of c.args.key.now c.args.keys.now.bytes.now) c.loop-cell-test.true c.loop-cell.invariant (e ∙ c.if-is_before.false)
