-- The writes of the rows so far are in the patches.
use Rattle.tx_table.proofs.Words.{take, map, AreEffects, HasTheSame, access_of}

abbrev pub invariant-loop-at : Rattle.tx_table.proofs.rows.apply.Given.invariant-loop-at
invariant-loop-at l = record {
  same : HasTheSame l.initial.patches l.patches;
  effects : AreEffects l.initial.patches.size (take l.from (map access_of l.rows)) l.initial.patches.entries → AreEffects l.initial.patches.size (take l.at (map access_of l.rows)) l.patches.entries;
}
