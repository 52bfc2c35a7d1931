-- The first one is set, and the others are taken out.
use Rattle.mv_index.proofs.Words.{◌≡◌, ◌∙◌, ap, arith, ℕ, ◌+◌, ◌-◌, ◌<◌, ◌≤◌, List, [], ◌∷◌, ◌++◌, drop, length, set, take, append_assoc, drop-set-lt, take_more_set, Version}

replaced : (xs : List Version) (first last : ℕ) (v : Version) → first < last → last ≤ length xs → take (first + 1) (set xs first v) ++ drop (first + 1 + (last - first - 1)) (set xs first v) ≡ take first xs ++ v ∷ drop last xs
replaced xs first last v lt within =
    let there : first + 1 + (last - first - 1) ≡ last = omega arith in
    (λ i. take_more_set xs first v (omega arith) i ++ drop (there i) (set xs first v)) ∙ ap (λ (l : List Version). (take first xs ++ v ∷ []) ++ l) (drop-set-lt last xs first v lt) ∙ append_assoc (take first xs) (v ∷ []) (drop last xs)

pub returns-clause-items : Rattle.mv_index.proofs.pieces.replace.Goals.returns-clause-items
returns-clause-items c = c.take_out.ensures.items ∙ replaced c.args.pieces.now.items c.args.first c.args.last c.args.piece (omega arith) (omega arith)
