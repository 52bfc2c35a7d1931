use Rattle.iso_shared.proofs.{Words.{rules, arith, view, refl, Done, state_at}, Cores.did_upgrade, Giving.lends, Upkeeps.{switched_stands, switches}}
use Rattle.std.proofs.lemmas.Grind.{common_steps}
use Rattle.iso_shared.specs.declared.entry.Call.TheVariants as call
use Rattle.iso_shared.specs.declared.entry.Entry.TheVariants as entry

pub give-requires : Rattle.iso_shared.proofs.shared.Shared.upgrade.Goals.give-requires
give-requires g c = record {
  lock = search rules;
  turn = search rules;
  value = (
      let W = (state_at g.O.Origin.start (view c.take-turn.new.pass).seen).world in
      let said = c.upgrade-result.ensures in
      let l = lends c.take-turn.ensures c.value-guarded.ensures.value in
      switched_stands l c.of-before.ensures 2 call.Upgrade (λ n. entry.Upgrade n) (λ n. (tt, tt)) tt (λ n T. refl) c.upgrade-result.result (did_upgrade g.D.Disk.state _ _ _ _)
      (switches (said.switched W) (said.refused W Done) (said.same W) (said.down W) (said.lost W) (said.unworn W Done) said.told said.still_told said.cause) (said.moments W));
  held = first_of (search rules, grind (arith, common_steps));
}
