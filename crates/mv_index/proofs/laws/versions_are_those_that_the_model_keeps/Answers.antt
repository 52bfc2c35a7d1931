use Rattle.mv_index.proofs.{Words.{refl, is_written, kept_from}, Counts.count_is}

pub returns : Rattle.mv_index.proofs.laws.versions_are_those_that_the_model_keeps.Goals.returns
returns _ = λ g trim first place commits index has. count_is g trim (is_written trim) (kept_from g trim) (λ k b p. refl) (λ k c later b p. refl) (λ n. refl) (λ n c later. refl) first place commits index has
