use Rattle.iso_tree.proofs.{Words.{◌≡◌, ◌∙◌, ◌+◌, ◌-◌, ◌*◌, ◌≤◌, ◌&&◌, ℕ, List, sym, refl, ap, arith, Bool, true, false, take, drop, list_all, is_zero, cell_count, are_key_parts, are_cells, all_from, all_fails, all_goes_on, all_end}, Passes.{fits_in, one_walk, tests_of}}

-- one used cell is not as it has to be
one_fails : (size count : ℕ) (keys : List ℕ) → count ≤ cell_count size → all_from (fits_in keys) 0 count ≡ false → false ≡ (are_key_parts size keys && are_cells size keys count)
one_fails size count keys few none =
    ap (λ b. b && list_all is_zero (take (31 * (cell_count size - count)) (drop (64 + 31 * count) keys))) (sym none) ∙ one_walk keys (cell_count size) count few

-- all of them are, and the rest decides
rest_decides : (size count : ℕ) (keys : List ℕ) (r : Bool) → count ≤ cell_count size → all_from (fits_in keys) 0 count ≡ true
    → r ≡ list_all is_zero (take (31 * (cell_count size - count)) (drop (64 + 31 * count) keys)) → r ≡ (are_key_parts size keys && are_cells size keys count)
rest_decides size count keys r few all is =
    is ∙ ap (λ b. b && list_all is_zero (take (31 * (cell_count size - count)) (drop (64 + 31 * count) keys))) (sym all) ∙ one_walk keys (cell_count size) count few

pub returns-then-not-is_key_part : Rattle.iso_tree.proofs.keys.are_cells.Goals.returns-then-not-is_key_part
returns-then-not-is_key_part c =
    let keys = c.args.keys.now in
    let one : fits_in keys c.loop-cell.cell ≡ false = rw (sym c.is_key_part.ensures ∙ c.if-not-is_key_part.true) refl in
    one_fails c.args.size c.args.count keys c.requires.count (all_fails (fits_in keys) c.loop-cell.cell c.args.count _ c.loop-cell-test.true c.loop-cell.invariant.0 one)

pub returns-then-not-may_follow : Rattle.iso_tree.proofs.keys.are_cells.Goals.returns-then-not-may_follow
returns-then-not-may_follow c =
    let keys = c.args.keys.now in
    let part = sym c.is_key_part.ensures ∙ c.if-not-is_key_part.false in
    let none = sym c.may_follow.ensures ∙ c.if-not-may_follow.true in
    let one : fits_in keys c.loop-cell.cell ≡ false = tests_of keys c.loop-cell.cell c.loop-cell.last.now _ (c.text_of-key.ensures ∙ ap Rattle.store_model.specs.Cells.text_of c.key_part.ensures.part) c.loop-cell.invariant.1 ∙ (λ i. part i && none i) in
    one_fails c.args.size c.args.count keys c.requires.count (all_fails (fits_in keys) c.loop-cell.cell c.args.count _ c.loop-cell-test.true c.loop-cell.invariant.0 one)

pub loop-cell-preserved : Rattle.iso_tree.proofs.keys.are_cells.Goals.loop-cell-preserved
loop-cell-preserved c = grind (arith, tests_of, all_goes_on)

pub returns : Rattle.iso_tree.proofs.keys.are_cells.Goals.returns
returns c =
    let keys = c.args.keys.now in
    rest_decides c.args.size c.args.count keys _ c.requires.count (sym c.loop-cell.invariant.0 ∙ all_end (fits_in keys) c.loop-cell.cell c.args.count c.loop-cell-test.false)
    (c.are_zero.ensures ∙ ap (list_all is_zero) (c.piece.ensures.value ∙ ap (λ (n : ℕ). take (31 * (n - c.args.count)) (drop (64 + 31 * c.args.count) keys)) c.cell_count.ensures))
