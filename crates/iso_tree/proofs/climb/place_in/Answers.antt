use Rattle.iso_tree.proofs.{Words.{◌≡◌, ◌∙◌, refl, ap, ℕ, zero, suc, ◌+◌, ◌-◌, List, take, arith, keys_end, Cell, count_of, used_cells, row_from, upto_from, put_after, placed}, Filling.{row_is, leaf_row_is}}

zero_placed : (level : ℕ) (key : List ℕ) (new : Cell) (cs : List Cell) → level ≡ 0 → put_after key new cs ≡ placed level key new cs
zero_placed zero key new cs e = refl
zero_placed (suc level) key new cs e = absurd (omega arith)

pub returns-then-level-eq0-clause-row : Rattle.iso_tree.proofs.climb.place_in.Goals.returns-then-level-eq0-clause-row
returns-then-level-eq0-clause-row c = λ new.
    let node = c.args.node.now in
    let size = c.args.size in
    let key = c.args.key.now in
    let K = take (keys_end size) node in
    let z : count_of K - 0 ≡ count_of K = omega arith in
    let place : c.upto.result ≡ upto_from key K 0 (count_of K) = c.upto.ensures.value ∙ ap (λ (k : List ℕ). upto_from key k 0 (count_of k - 0)) c.of-keys.ensures.bytes ∙ ap (upto_from key K 0) z in
    ap (λ (p : ℕ). row_from size node p new 0 (count_of K + 1)) place ∙ leaf_row_is size node key new ∙ zero_placed c.args.level key new (used_cells size node) c.if-level-eq0.true

pub returns-clause-row : Rattle.iso_tree.proofs.climb.place_in.Goals.returns-clause-row
returns-clause-row c = grind (arith, row_is) steps 100000
