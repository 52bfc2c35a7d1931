-- The others are in front then.
use Rattle.conflict_rule.proofs.Words.{◌≡◌, ◌∙◌, ◌-◌, ◌≤◌, ◌++◌, ℕ, List, ap, arith, drop, length, length-drop, take, take-append_seam, Note}

in_front : (n : ℕ) (xs rest : List Note) → n ≤ length xs → take (length xs - n) (drop n xs ++ rest) ≡ drop n xs
in_front n xs rest within =
    let long : length xs - n ≡ length (drop n xs) = omega (arith, length-drop n xs) in
    ap (λ (k : ℕ). take k (drop n xs ++ rest)) long ∙ take-append_seam (drop n xs) rest

pub returns : Rattle.conflict_rule.proofs.notes.put_last.Goals.returns
returns c =
    ap (take (length c.args.notes.now - c.args.count)) c.rotate_left.ensures.after ∙ in_front c.args.count c.args.notes.now (take c.args.count c.args.notes.now) c.requires
