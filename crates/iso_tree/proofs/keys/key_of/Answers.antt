use Rattle.iso_tree.proofs.Words.{◌≡◌, ap, ◌≤◌, ℕ, true, arith, List, get_or, and_parts, leb-true, is_part, key_mark, cell_count, bytes_in, all_at}

pub text_of-requires : Rattle.iso_tree.proofs.keys.key_of.Goals.text_of-requires
text_of-requires c =
    let part : is_part 28 (bytes_in (key_mark c.args.cell) c.args.keys.now.bytes.now) ≡ true =
    all_at (λ i. is_part 28 (bytes_in (key_mark i) c.args.keys.now.bytes.now)) 0 (cell_count c.args.keys.now.size) c.args.cell c.args.keys.now.parts (omega arith) (omega (arith, c.requires)) in
    let short : get_or (bytes_in (key_mark c.args.cell) c.args.keys.now.bytes.now) 0 0 ≤ 28 = leb-true _ _ (and_parts _ _ part).0 in
    let same : get_or c.key_part.result.now 0 0 ≡ get_or (bytes_in (key_mark c.args.cell) c.args.keys.now.bytes.now) 0 0 = ap (λ (x : List ℕ). get_or x 0 0) c.key_part.ensures.part in
    omega (arith, c.key_part.ensures.length)
