-- What is before the pieces and after them is together.
use Rattle.mv_index.proofs.Words.{◌≡◌, ◌∙◌, sym, ap, arith, ℕ, ◌+◌, ◌-◌, ◌≤◌, List, ◌++◌, drop, length, take, append_assoc, drop-drop, length-append, length-drop, length-take-le, take-append_seam, Version}

without : (xs rest : List Version) (at n : ℕ) → at + n ≤ length xs → take (length xs - n) (take at xs ++ (drop n (drop at xs) ++ rest)) ≡ take at xs ++ drop (at + n) xs
without xs rest at n within =
    let long : length xs - n ≡ length (take at xs ++ drop (at + n) xs) = omega (arith, length-append (take at xs) (drop (at + n) xs), length-take-le at xs (omega arith), length-drop (at + n) xs) in
    (λ i. take (long i) (take at xs ++ (drop-drop n at xs i ++ rest))) ∙ ap (take (length (take at xs ++ drop (at + n) xs))) (sym (append_assoc (take at xs) (drop (at + n) xs) rest)) ∙ take-append_seam (take at xs ++ drop (at + n) xs) rest

pub returns : Rattle.mv_index.proofs.pieces.put_last.Goals.returns
returns c =
    let rest = c.split_at_mut-rest.ensures.back in
    let turned = c.rotate_left.ensures.after ∙ ap (λ (l : List Version). drop c.args.count l ++ take c.args.count l) rest in
    (λ i. take (length c.args.pieces.now - c.args.count) (c.split_at_mut-rest.ensures.front i ++ turned i)) ∙ without c.args.pieces.now (take c.args.count (drop c.args.at c.args.pieces.now)) c.args.at c.args.count c.requires
