-- What one access more, or a list more, makes of the effect; and pieces as runs of their block.
use Rattle.merge_write.proofs.{Words.{◌∙◌, ap, map, run_of}, Effects.pieces_of_any_block, Growth.{effects_kept, effects_followed, effects_shown, runs_back}}

pub returns-clause-kept : Rattle.merge_write.proofs.laws.effects_grow.Goals.returns-clause-kept
returns-clause-kept c accesses a b size other = effects_kept accesses a b 0 size other

pub returns-clause-followed : Rattle.merge_write.proofs.laws.effects_grow.Goals.returns-clause-followed
returns-clause-followed c xs ys b size = effects_followed xs ys b 0 size

pub returns-clause-shown : Rattle.merge_write.proofs.laws.effects_grow.Goals.returns-clause-shown
returns-clause-shown c = effects_shown

pub returns-clause-runs : Rattle.merge_write.proofs.laws.effects_grow.Goals.returns-clause-runs
returns-clause-runs c b values = ap (map (run_of b)) (pieces_of_any_block 0 b 0 values) ∙ runs_back b 0 values
