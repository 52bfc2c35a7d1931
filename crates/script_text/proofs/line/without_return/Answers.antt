use Rattle.script_text.proofs.{Words.{[], ◌∷◌, ap, ◌∙◌, refl, Bor, List, ℕ, Decides-eqb, strip_suffix_is}, LineLemmas.without_return-stripped}

pub returns : Rattle.script_text.proofs.line.without_return.Goals.returns
returns c =
    let stripped = strip_suffix_is Decides-eqb c.args.piece.now (13 ∷ []) c.strip_suffix.result c.strip_suffix.ensures.cases in
    ap (λ (rest : Bor (List ℕ)). rest.now) c.unwrap_or.ensures ∙ without_return-stripped c.args.piece.now c.args.piece c.strip_suffix.result stripped refl
