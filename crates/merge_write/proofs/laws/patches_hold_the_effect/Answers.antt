use Rattle.merge_write.proofs.{Words.{◌≡◌, ◌==◌, true, arith, common_steps, effects_from}, Effects.{no_effects, written_effects, pieces_of_any_block}}

pub returns-clause-blank : Rattle.merge_write.proofs.laws.patches_hold_the_effect.Goals.returns-clause-blank
returns-clause-blank c b size = no_effects b 0 size

pub returns-clause-set : Rattle.merge_write.proofs.laws.patches_hold_the_effect.Goals.returns-clause-set
returns-clause-set c accesses a b size write here long =
    let same : (a.block == b) ≡ true = grind (arith, common_steps) in
    written_effects accesses a b 0 size (omega arith) write same

pub returns-clause-spans : Rattle.merge_write.proofs.laws.patches_hold_the_effect.Goals.returns-clause-spans
returns-clause-spans c accesses b size = pieces_of_any_block 0 b 0 (effects_from accesses b 0 size)
