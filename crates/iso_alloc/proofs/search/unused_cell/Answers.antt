use Rattle.iso_alloc.proofs.{Words.{◌≡◌, ◌∙◌, sym, ap, ◌==◌, ℕ, List, get_or, eq-eqb, ne_eqb, key_mark, unused_cell, bytes_in}, Loops.{first_found, first_goes_on}}

pub returns-then-key_part-eq0-clause-value : Rattle.iso_alloc.proofs.search.unused_cell.Goals.returns-then-key_part-eq0-clause-value
returns-then-key_part-eq0-clause-value c =
    let e : get_or (bytes_in (key_mark c.loop-cell.cell) c.args.keys.now) 0 0 ≡ 0 = ap (λ (x : List ℕ). get_or x 0 0) (sym c.key_part.ensures.part) ∙ c.if-key_part-eq0.true in
    sym (first_found (λ i. get_or (bytes_in (key_mark i) c.args.keys.now) 0 0 == 0) c.loop-cell.cell c.cell_count-cell-end.result (unused_cell c.args.size c.args.keys.now) c.loop-cell-test.true c.loop-cell.invariant (eq-eqb _ 0 e))

pub loop-cell-preserved : Rattle.iso_alloc.proofs.search.unused_cell.Goals.loop-cell-preserved
loop-cell-preserved c =
    let same : get_or (bytes_in (key_mark c.loop-cell.cell) c.args.keys.now) 0 0 ≡ get_or c.key_part.result.now 0 0 = ap (λ (x : List ℕ). get_or x 0 0) (sym c.key_part.ensures.part) in
    first_goes_on (λ i. get_or (bytes_in (key_mark i) c.args.keys.now) 0 0 == 0) c.loop-cell.cell c.cell_count-cell-end.result (unused_cell c.args.size c.args.keys.now) c.loop-cell-test.true c.loop-cell.invariant
    (ne_eqb _ 0 (λ e. c.if-key_part-eq0.false (sym same ∙ e)))
