use Rattle.iso_core.proofs.{Words.{arith, refl, ◌<◌, ℕ, sym, subst, List, length, IsPermutation, AllByRecursion, PartSpan}, Prepares.keeps_on, Reserving.{all_below, few_staged, room_sorted, sorted_below}}
use Rattle.iso_core.proofs.taking.reserve_plan.Goals as goal

pub reserve_parts-requires-clause-blocks : goal.reserve_parts-requires-clause-blocks
reserve_parts-requires-clause-blocks c =
    let h = c.requires in
    let same = subst (λ (l : List PartSpan). IsPermutation l c.in_ok-all.all.items) c.as_slice.ensures.value c.in_ok-all.ensures.same in
    subst (λ (l : List PartSpan). AllByRecursion (λ (part : PartSpan). part.block < length c.args.kept.now.index) l) (sym c.as_slice-2.ensures.value)
    (subst (λ (n : ℕ). AllByRecursion (λ (part : PartSpan). part.block < n) c.in_ok-all.all.items) (sym h.of.keeps.index.blocks)
    (sorted_below h.world.geometry.blocks c.args.plan.now.parts.items c.in_ok-all.all.items same
    (subst (AllByRecursion (λ (part : PartSpan). part.block < h.world.geometry.blocks)) (sym h.is.parts) (all_below h.world.geometry h.more))))

pub reserve_parts-requires-clause-order : goal.reserve_parts-requires-clause-order
reserve_parts-requires-clause-order c = grind arith

pub reserve_parts-requires-clause-few : goal.reserve_parts-requires-clause-few
reserve_parts-requires-clause-few c = grind (arith, few_staged)

pub returns-in_err-reserve_parts-clause-rest : goal.returns-in_err-reserve_parts-clause-rest
returns-in_err-reserve_parts-clause-rest c = record {
  stays = λ W of. keeps_on c.args.kept.now W c.reserve_parts.new.index c.args.kept.now.notes of c.reserve_parts.ensures.blocks c.reserve_parts.ensures.same refl;
  only = grind arith;
}

pub returns-in_err-reserve_for-clause-rest : goal.returns-in_err-reserve_for-clause-rest
returns-in_err-reserve_for-clause-rest c = record { stays = λ W of. grind (arith, keeps_on); only = grind arith }

pub returns-clause-rest : goal.returns-clause-rest
returns-clause-rest c = record { stays = λ W of. grind (arith, keeps_on); only = grind arith }

pub returns-clause-reserved : goal.returns-clause-reserved
returns-clause-reserved c = grind (arith, room_sorted)
