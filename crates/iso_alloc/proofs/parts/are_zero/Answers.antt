use Rattle.iso_alloc.proofs.{Words.{◌-◌, ◌∙◌, ◌<◌, List, ap, arith, nat_tests, ℕ, length, take, bytes_eq, take_rest}, Zeros.all_follow}

pub returns : Rattle.iso_alloc.proofs.parts.are_zero.Goals.returns
returns c =
    let xs = c.args.bytes.now in
    let some : 0 < length xs = grind (arith, nat_tests) in
    c.eq.ensures ∙ ap (λ (rest : List ℕ). bytes_eq rest (take (length xs - 1) xs)) (take_rest xs 1) ∙ all_follow xs some (omega arith)
