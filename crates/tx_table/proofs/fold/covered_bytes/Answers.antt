-- All marks have been added.
use Rattle.tx_table.proofs.{Words.{◌≡◌, ◌∙◌, ℕ, ◌<◌, ap, arith, length, take, list_any, in_span}, Covered.spans_cover}

pub returns : Rattle.tx_table.proofs.fold.covered_bytes.Goals.returns
returns c p =
    let row = c.args.row.now in
    let end : c.loop-at.at ≡ row.count = omega (arith, c.loop-at-test.false, c.loop-at.auto.at-end) in
    let some : 0 < length (take row.count row.spans) = omega (arith, c.if-row-eq0.false, c.requires.row.marks) in
    c.loop-at.invariant p ∙ ap (λ (n : ℕ). list_any (in_span p) (take n row.spans)) end ∙ spans_cover c.args.size p (take row.count row.spans) c.requires.row.spans some
