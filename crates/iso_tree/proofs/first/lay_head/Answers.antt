use Rattle.iso_tree.proofs.Words.{◌∙◌, laid_at, ◌≡◌, sym, ap, ℕ, ◌+◌, List, ◌++◌, length, drop, arith, append_assoc, take_at, drop_at, drop-drop}

-- Root and level, laid one after the other.
laid_twice : (x y block : List ℕ) → length x ≡ 4 → length y ≡ 4 → laid_at 4 y (laid_at 0 x block) ≡ laid_at 0 (x ++ y) block
laid_twice x y block four too =
    let z : 0 + length x ≡ 4 = omega arith in
    let e : 4 + length y ≡ 4 + 4 = omega arith in
    let s : 0 + length (x ++ y) ≡ 4 + 4 = omega (arith, Rattle.std.proofs.Common.length-append x y) in
    ap (laid_at 4 y) (ap (λ (n : ℕ). x ++ drop n block) z)
    ∙ (λ i. take_at x (drop 4 block) 4 four i ++ (y ++ drop (e i) (x ++ drop 4 block)))
    ∙ ap (λ l. x ++ (y ++ l)) (sym (drop-drop 4 4 (x ++ drop 4 block)) ∙ ap (drop 4) (drop_at x (drop 4 block) 4 four) ∙ drop-drop 4 4 block ∙ ap (λ (n : ℕ). drop n block) (sym s))
    ∙ sym (append_assoc x y (drop (0 + length (x ++ y)) block))

pub returns : Rattle.iso_tree.proofs.first.lay_head.Goals.returns
returns c = grind (arith, laid_twice) steps 100000
