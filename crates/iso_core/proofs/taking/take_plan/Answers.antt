use Rattle.iso_core.proofs.{Words.{◌∙◌, refl, ◌++◌, RisesFrom, sym, ap, ◌+◌, ◌-◌, arith, subst, transport, half_of_world, HasRoom, List, MayTakeAll, Held, PartSpan}, Staging.{few_first, number_first, rising_notes, taken_in, takes_all}}
use Rattle.iso_core.proofs.taking.take_plan.Goals as goal

pub overflow_sub-first : goal.overflow_sub-first
overflow_sub-first c =
    let h = c.requires in
    omega (arith, few_first h.world h.more c.args.plan.now c.args.kept.now c.args.gate h.is c.len.result (c.len.ensures ∙ c.args.plan.now.staged.ok.0), c.last.ensures)

pub take_staged-requires : goal.take_staged-requires
take_staged-requires c =
    let h = c.requires in
    let number = number_first h.world h.more c.args.plan.now c.args.kept.now c.args.gate h.is (c.last.result - c.len.result + 1) c.len.result (c.len.ensures ∙ c.args.plan.now.staged.ok.0) (ap (λ n. n - c.len.result + 1) c.last.ensures) in
    record {
      g = h.world.geometry;
      x = half_of_world h.world c.args.kept.now.half;
      upto = h.world.trim;
      at = 0;
      commits = h.more;
      may = transport (λ i. MayTakeAll h.world.geometry (half_of_world h.world c.args.kept.now.half) h.world.trim 0 h.more (c.last.result - c.len.result + 1) c.args.gate (sym c.as_slice.ensures.value i) (sym c.as_slice-2.ensures.value i) c.args.kept.now.index)
          (takes_all h.world h.more c.args.plan.now c.args.kept.now c.args.gate h.is (c.last.result - c.len.result + 1) number);
      room = subst (λ (l : List PartSpan). HasRoom l c.args.kept.now.index) (sym c.as_slice-2.ensures.value) h.is.reserved.room;
    }

pub take_all-requires-clause-room : goal.take_all-requires-clause-room
take_all-requires-clause-room c = grind arith

pub take_all-requires-clause-rising : goal.take_all-requires-clause-rising
take_all-requires-clause-rising c =
    let h = c.requires in
    subst (λ (h : Held). RisesFrom 0 (c.args.kept.now.notes.notes ++ h.notes)) (sym c.replace-notes.ensures.value) (rising_notes h.world h.more c.args.plan.now c.args.kept.now c.args.gate h.is)

pub returns : goal.returns
returns c h =
    let number = number_first h.world h.more c.args.plan.now c.args.kept.now c.args.gate h.is (c.last.result - c.len.result + 1) c.len.result (c.len.ensures ∙ c.args.plan.now.staged.ok.0) (ap (λ n. n - c.len.result + 1) c.last.ensures) in
    record {
      of = taken_in h.world h.more c.args.plan.now c.args.kept.now c.args.gate h.is c.take_staged.new.index c.take_all.new.self
          (c.take_staged.ensures (record {
            g = h.world.geometry;
            x = half_of_world h.world c.args.kept.now.half;
            upto = h.world.trim;
            at = 0;
            commits = h.more;
            may = transport (λ i. MayTakeAll h.world.geometry (half_of_world h.world c.args.kept.now.half) h.world.trim 0 h.more (c.last.result - c.len.result + 1) c.args.gate (sym c.as_slice.ensures.value i) (sym c.as_slice-2.ensures.value i) c.args.kept.now.index)
                (takes_all h.world h.more c.args.plan.now c.args.kept.now c.args.gate h.is (c.last.result - c.len.result + 1) number);
            room = subst (λ (l : List PartSpan). HasRoom l c.args.kept.now.index) (sym c.as_slice-2.ensures.value) h.is.reserved.room;
          }))
          (c.take_all.ensures ∙ ap (λ (h : Held). c.args.kept.now.notes.notes ++ h.notes) c.replace-notes.ensures.value);
      half = refl;
      down = refl;
    }
