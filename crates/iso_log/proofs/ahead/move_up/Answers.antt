use Rattle.iso_log.proofs.Words.{◌≡◌, ◌+◌, ◌-◌, ℕ, List, length, take, drop, ap, ◌∙◌, arith, length-drop, paste, take-paste, rules, with_items_is, places}

pub returns-clause-front : Rattle.iso_log.proofs.ahead.move_up.Goals.returns-clause-front
returns-clause-front c =
    let all = c.as_mut_slice.result.now in
    let count = c.args.end - c.args.from in
    let whole : length all ≡ length c.args.bytes.now.items = ap length c.as_mut_slice.ensures.value in
    let same : count ≡ 0 + count = omega arith in
    let rest = length-drop c.args.from all in
    ap (take count) (with_items_is c.args.bytes.now c.copy_within.new.self (search (rules, places)) ∙ c.copy_within.ensures.after)
    ∙ ap (λ (k : ℕ). take k (paste all 0 (drop c.args.from all) count)) same ∙ take-paste all 0 (drop c.args.from all) count (omega arith) (omega (arith, rest, whole, c.requires))
    ∙ ap (λ (l : List ℕ). take count (drop c.args.from l)) c.as_mut_slice.ensures.value
