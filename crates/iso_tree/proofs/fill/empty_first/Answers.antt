use Rattle.iso_tree.proofs.{Words.{◌≡◌, ◌≤◌, ◌∙◌, refl, ap, ℕ, zero, suc, List, [], ◌∷◌, length, replicate, arith, Cell, FitCells, node_bytes, emptied, laid_at}, Filling.first_emptied}

zero_same : (level : ℕ) (cs : List Cell) → level ≡ 0 → cs ≡ emptied level cs
zero_same zero cs e = refl
zero_same (suc level) cs e = absurd (omega arith)

first_gone : (size level : ℕ) (cs : List Cell) → (level ≡ 0 → ⊥) → 1 ≤ length cs → FitCells cs → laid_at 64 (replicate 31 0) (node_bytes size level cs) ≡ node_bytes size level (emptied level cs)
first_gone size zero cs other some fit = absurd (other refl)
first_gone size (suc level) [] other some fit = absurd (omega arith)
first_gone size (suc level) (c ∷ cs) other some fit = first_emptied size (suc level) c.0 c.1 cs fit.0.0

pub returns-then-level-eq0 : Rattle.iso_tree.proofs.fill.empty_first.Goals.returns-then-level-eq0
returns-then-level-eq0 c = λ size cs is some fit. is ∙ ap (node_bytes size c.args.level) (zero_same c.args.level cs c.if-level-eq0.true)

pub returns : Rattle.iso_tree.proofs.fill.empty_first.Goals.returns
returns c = λ size cs is some fit. c.lay.ensures ∙ ap (laid_at 64 (replicate 31 0)) is ∙ first_gone size c.args.level cs c.if-level-eq0.false some fit
