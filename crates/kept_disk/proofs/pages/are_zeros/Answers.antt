use Rattle.kept_disk.proofs.{Words.{◌-◌, ◌<◌, ◌∙◌, sym, ap, arith, List, ℕ, length, take, take_rest, bytes_eq, bytes_eq-Decides}, Slices.all_zeros}

pub returns-then-bytes-eq0 : Rattle.kept_disk.proofs.pages.are_zeros.Goals.returns-then-bytes-eq0
returns-then-bytes-eq0 c is =
    let xs = c.args.bytes.now in
    let some : 0 < length xs = grind arith in
    let same = (bytes_eq-Decides _ _).0 (sym (ap (λ (rest : List ℕ). bytes_eq rest (take (length xs - 1) xs)) (take_rest xs 1)) ∙ sym c.eq.ensures ∙ is) in
    all_zeros xs some c.if-bytes-eq0.true same
