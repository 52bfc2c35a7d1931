-- Powers of two in order.
use Rattle.merge_write.proofs.Words.{◌≡◌, ◌∙◌, ℕ, suc, ◌-◌, ◌*◌, ◌^◌, ◌<◌, ◌≤◌, arith, ap, sym, pow-suc, pow_mono, pow_below}

-- the highest bit is a power that two times still fits
twice : (high : ℕ) → 0 < high → 2 ^ high ≡ 2 ^ (high - 1) * 2
twice high some =
    let e : suc (high - 1) ≡ high = omega arith in
    sym (ap (λ n. 2 ^ n) e) ∙ pow-suc 2 (high - 1)

pub overflow_sub-result : Rattle.merge_write.proofs.masks.ones.Goals.overflow_sub-result
overflow_sub-result c =
    let order : 2 ^ c.args.low ≤ 2 ^ (c.args.high - 1) = pow_mono (omega arith) in
    let low : 2 ^ c.args.low < 2 ^ 64 = pow_below c.args.low 64 (omega arith) in
    let last : 2 ^ (c.args.high - 1) < 2 ^ 64 = pow_below (c.args.high - 1) 64 (omega arith) in
    omega arith

pub returns : Rattle.merge_write.proofs.masks.ones.Goals.returns
returns c =
    let order : 2 ^ c.args.low ≤ 2 ^ (c.args.high - 1) = pow_mono (omega arith) in
    let low : 2 ^ c.args.low < 2 ^ 64 = pow_below c.args.low 64 (omega arith) in
    let last : 2 ^ (c.args.high - 1) < 2 ^ 64 = pow_below (c.args.high - 1) 64 (omega arith) in
    omega (arith, twice c.args.high (omega arith), order)
