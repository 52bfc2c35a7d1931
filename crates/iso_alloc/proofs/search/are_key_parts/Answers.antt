use Rattle.iso_alloc.proofs.{Words.{◌≡◌, ◌-◌, ◌∙◌, sym, true, false, arith, common_steps, is_part, key_mark, are_key_parts, bytes_in}, Loops.{all_fails, all_goes_on}, Zeros.blank_parts}
use Rattle.iso_alloc.proofs.search.are_key_parts.Goals as goal

pub returns-then-not-is_key_part : goal.returns-then-not-is_key_part
returns-then-not-is_key_part c =
    let fails : c.is_key_part.result ≡ false = grind (arith, common_steps) in
    sym (all_fails (λ i. is_part 28 (bytes_in (key_mark i) c.args.keys.now)) c.loop-cell.cell c.cell_count-cell-end.result (are_key_parts c.args.size c.args.keys.now) c.loop-cell-test.true c.loop-cell.invariant (sym c.is_key_part.ensures ∙ fails))

pub returns-then-is_blank_from : goal.returns-then-is_blank_from
returns-then-is_blank_from c = sym (blank_parts c.args.keys.now c.loop-cell.cell (c.cell_count-cell-end.result - c.loop-cell.cell) (sym c.is_blank_from.ensures ∙ c.if-is_blank_from.true)) ∙ c.loop-cell.invariant

pub loop-cell-preserved : goal.loop-cell-preserved
loop-cell-preserved c =
    let passes : c.is_key_part.result ≡ true = grind (arith, common_steps) in
    all_goes_on (λ i. is_part 28 (bytes_in (key_mark i) c.args.keys.now)) c.loop-cell.cell c.cell_count-cell-end.result (are_key_parts c.args.size c.args.keys.now) c.loop-cell-test.true c.loop-cell.invariant (sym c.is_key_part.ensures ∙ passes)
