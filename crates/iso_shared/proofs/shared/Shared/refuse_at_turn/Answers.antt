use Rattle.iso_shared.proofs.{Words.{view, arith, inl, inr, [], ap, refl, rules, sym, ◌≡◌, ◌∙◌, ⊎_elim, subst, Err, ℕ, List, AreHeld, members_in, numbers_in, state_at, wanting_entry}, Giving.{entry_keeps, entry_may, lends, stands_call}, Groupings.{did_wanting, joined_args, numbers_member, wanting_holds, wants_only}, Mades.{turn_made, turn_seen}}
use Rattle.std.proofs.lemmas.Grind.{common_steps}
use Rattle.iso_model.specs.declared.core_error.CoreError.TheVariants as error
use Rattle.iso_shared.specs.declared.entry.Call.TheVariants as call
use Rattle.iso_shared.specs.declared.entry.Entry.TheVariants as entry
use Rattle.iso_shared.proofs.shared.Shared.refuse_at_turn.Goals as goal

pub give_wanting-requires : goal.give_wanting-requires
give_wanting-requires g c =
    let d = g.D.Disk.state in
    let A = g.O.Origin.start in
    let es = (view c.take-turn.new.pass).seen in
    let holds = (view c.take-turn.new.pass).holds in
    let S = state_at A es in
    let group = c.args.group.now in
    let members = members_in group in
    let why = c.wanting-error.result in
    let e = wanting_entry group why in
    let lent = c.value-guarded.result.now.core in
    let l = lends c.take-turn.ensures c.value-guarded.ensures.value in
    let args = joined_args c.args.self.now A es (view c.args.port.now.pass).seen group c.take-turn.ensures.seen c.requires.each c.requires.some c.requires.most c.requires.held.1 in
    let held = subst (λ (ns : List ℕ). AreHeld ns holds) (sym (numbers_member group)) (subst (λ (hs : List ℕ). AreHeld (numbers_in group) hs) (sym c.take-turn.ensures.same.1) c.requires.held.0) in
    let may = entry_may 0 0 (call.EndGroup members) (λ (done : Unit {0}). entry.EndGroup []) holds (λ x. (tt, tt)) held (Err why) in
    record {
      lock = search rules;
      turn = search rules;
      value =
          stands_call l lent e e may refl (inl refl)
          (did_wanting d S lent members why c.stat.result.down l.at.core args (λ W standing stands. ap (λ t. t.down) (c.stat.ensures W standing stands)) c.wanting-error.ensures)
          (entry_keeps 0 0 (call.EndGroup members) (λ (done : Unit {0}). entry.EndGroup []) (λ x T. refl) (Err why));
      held = may;
    }

pub returns-clause-turn : goal.returns-clause-turn
returns-clause-turn g c =
    let why = c.wanting-error.result in
    let only = wants_only why c.stat.result.down c.wanting-error.ensures in
    record {
      port = first_of (search rules, grind (arith, common_steps));
      units = first_of (search rules, grind (arith, common_steps));
      seen = turn_seen c.take-turn.ensures c.give_wanting.ensures;
      holds = λ other. c.give_wanting.ensures.holds ∙ wanting_holds (members_in c.args.group.now) why (view c.take-turn.new.pass).holds only ∙ c.take-turn.ensures.same.1;
      only = ⊎_elim (λ (down : why ≡ error.Down). inl down) (λ (wants : why ≡ error.Memory). inr (inr wants)) only;
    }

pub returns-clause-made : goal.returns-clause-made
returns-clause-made g c = turn_made c.take-turn.ensures c.give_wanting.ensures
