use Rattle.iso_shared.proofs.{Words.{rules, arith, inl, refl, numbers_of}, Cores.did_stat, Giving.{lends, stands_call}}
use Rattle.std.proofs.lemmas.Grind.{common_steps}
use Rattle.iso_shared.specs.declared.entry.Entry.TheVariants as entry

pub give-requires : Rattle.iso_shared.proofs.shared.Shared.stat.Goals.give-requires
give-requires g c = record {
  lock = search rules;
  turn = search rules;
  value = (
      let l = lends c.take-turn.ensures c.value-guarded.ensures.value in
      let e = entry.Stat (numbers_of c.stat-stat.result) in
      stands_call l _ e e (tt, tt) refl (inl refl) (did_stat g.D.Disk.state _ _ c.stat-stat.result l.at.core c.stat-stat.ensures) (λ T. refl));
  held = first_of (search rules, grind (arith, common_steps));
}
