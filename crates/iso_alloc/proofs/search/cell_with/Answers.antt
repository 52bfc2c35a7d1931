use Rattle.iso_alloc.proofs.{Words.{◌≡◌, ◌∙◌, sym, ap, ◌≤◌, ℕ, true, arith, List, get_or, and_parts, leb-true, bytes_eq, is_part, key_mark, key_at, text_of, cell_with, cell_count, bytes_in}, Loops.{first_found, first_goes_on, all_at}}

pub text_of-requires : Rattle.iso_alloc.proofs.search.cell_with.Goals.text_of-requires
text_of-requires c =
    let part : is_part 28 (bytes_in (key_mark c.loop-cell.cell) c.args.keys.now) ≡ true =
    all_at (λ i. is_part 28 (bytes_in (key_mark i) c.args.keys.now)) 0 (cell_count c.args.size) c.loop-cell.cell c.requires.parts (omega arith) (omega (arith, c.cell_count-cell-end.ensures)) in
    let short : get_or (bytes_in (key_mark c.loop-cell.cell) c.args.keys.now) 0 0 ≤ 28 = leb-true _ _ (and_parts _ _ part).0 in
    let same : get_or c.key_part.result.now 0 0 ≡ get_or (bytes_in (key_mark c.loop-cell.cell) c.args.keys.now) 0 0 = ap (λ (x : List ℕ). get_or x 0 0) c.key_part.ensures.part in
    omega (arith, c.key_part.ensures.length)

pub returns-then-eq-clause-value : Rattle.iso_alloc.proofs.search.cell_with.Goals.returns-then-eq-clause-value
returns-then-eq-clause-value c =
    let e : bytes_eq (key_at c.args.keys.now c.loop-cell.cell) c.args.key.now ≡ c.eq.result =
    ap (λ (x : List ℕ). bytes_eq (text_of x) c.args.key.now) (sym c.key_part.ensures.part) ∙ ap (λ (x : List ℕ). bytes_eq x c.args.key.now) (sym c.text_of.ensures) ∙ sym c.eq.ensures in
    sym (first_found (λ i. bytes_eq (key_at c.args.keys.now i) c.args.key.now) c.loop-cell.cell c.cell_count-cell-end.result (cell_with c.args.size c.args.key.now c.args.keys.now) c.loop-cell-test.true c.loop-cell.invariant (e ∙ c.if-eq.true))

pub loop-cell-preserved : Rattle.iso_alloc.proofs.search.cell_with.Goals.loop-cell-preserved
loop-cell-preserved c =
    let e : bytes_eq (key_at c.args.keys.now c.loop-cell.cell) c.args.key.now ≡ c.eq.result =
    ap (λ (x : List ℕ). bytes_eq (text_of x) c.args.key.now) (sym c.key_part.ensures.part) ∙ ap (λ (x : List ℕ). bytes_eq x c.args.key.now) (sym c.text_of.ensures) ∙ sym c.eq.ensures in
    first_goes_on (λ i. bytes_eq (key_at c.args.keys.now i) c.args.key.now) c.loop-cell.cell c.cell_count-cell-end.result (cell_with c.args.size c.args.key.now c.args.keys.now) c.loop-cell-test.true c.loop-cell.invariant (e ∙ c.if-eq.false)
