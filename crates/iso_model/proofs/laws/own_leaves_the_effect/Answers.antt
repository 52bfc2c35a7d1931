use Rattle.iso_model.proofs.{Words.{◌∙◌, sym, refl, length, block_at}, Bytes.{own_at, touches_where_effect, length-own, length-block_own}}

pub returns-clause-value : Rattle.iso_model.proofs.laws.own_leaves_the_effect.Goals.returns-clause-value
returns-clause-value c = λ A accesses b p whole inside. own_at A accesses b p (length (block_at A b)) whole refl inside

pub returns-clause-written : Rattle.iso_model.proofs.laws.own_leaves_the_effect.Goals.returns-clause-written
returns-clause-written c = λ accesses b p. (λ some. touches_where_effect accesses b p ∙ some, λ touched. sym (touches_where_effect accesses b p) ∙ touched)

pub returns-clause-blocks : Rattle.iso_model.proofs.laws.own_leaves_the_effect.Goals.returns-clause-blocks
returns-clause-blocks c = length-own

pub returns-clause-bytes : Rattle.iso_model.proofs.laws.own_leaves_the_effect.Goals.returns-clause-bytes
returns-clause-bytes c = length-block_own
