use Rattle.iso_shared.proofs.{Words.{arith, rules}, Giving.lends, Upkeeps.trimmed_stands}
use Rattle.std.proofs.lemmas.Grind.{common_steps}

pub give-requires : Rattle.iso_shared.proofs.shared.Shared.trim.Goals.give-requires
give-requires g c = record {
  lock = search rules;
  turn = search rules;
  value = (
      let said = c.trim-result.ensures in
      trimmed_stands (lends c.take-turn.ensures c.value-guarded.ensures.value) c.of-before.ensures c.trim-result.result said.trimmed said.down said.disk);
  held = first_of (search rules, grind (arith, common_steps));
}
