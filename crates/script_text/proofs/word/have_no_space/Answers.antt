use Rattle.script_text.proofs.Words.{◌≡◌, ℕ, true, take, drop, subst, arith, list_all, is_no_space}

pub returns : Rattle.script_text.proofs.word.have_no_space.Goals.returns
returns c = λ good.
    let all : c.bytes.k ≡ 16 = omega arith in
    subst (λ (n : ℕ). list_all is_no_space (take n (drop c.args.at c.args.text.now)) ≡ true) all (c.bytes.invariant good)
