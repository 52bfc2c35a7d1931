use Rattle.iso_shared.proofs.{Words.{moments, view, ap, refl, rules, sym, ◌∙◌, subst, CoreError, List, Result, ℕ, AreHeld, numbers_handed, faults_of, group_entry, handed, held_after, returned, standing_of, State, state_at, txs_of, members_at, ends_at}, Ends.if_err_by, Giving.{Lends, entry_may, lends, refused_holds, stands_answer}, Groupings.{Groups, did_group, each_lent, group_args, group_only, held_again, moved_group}, Mades.{turn_made, turn_seen}, shared.Shared.end_at_turn.Goals.After-end_group-result}
use Rattle.iso_shared.specs.declared.entry.Call.TheVariants as call
use Rattle.iso_shared.specs.declared.entry.Entry.TheVariants as entry
use Rattle.iso_shared.proofs.shared.Shared.end_at_turn.Goals as goal

pub end_group-result-requires-clause-ready : goal.end_group-result-requires-clause-ready
end_group-result-requires-clause-ready g c =
    let S = state_at g.O.Origin.start (view c.take-turn.new.pass).seen in
    let l = lends c.take-turn.ensures c.value-guarded.ensures.value in
    (S.world, standing_of S.lost, txs_of S.world (members_at c.args.ends.now), l.at.core.world, each_lent l (view c.args.port.now.pass) _ c.take-turn.ensures.seen c.take-turn.ensures.same.1 c.requires.each c.requires.held)

-- what the core's call says of what the turn lent
module _ (g : Rattle.iso_shared.proofs.shared.Shared.end_at_turn.Given.Over) (c : After-end_group-result g) where
  abbrev S : State
  S = state_at g.O.Origin.start (view c.take-turn.new.pass).seen

  l : Lends g.D.Disk.state g.O.Origin.start g.O.Origin.disk c.value-guarded.result.now.core c.value-guarded.result.now.rack (view c.take-turn.new.pass).seen (moments c.take-turn.new.pass) (view c.take-turn.new.pass).holds
  l = lends c.take-turn.ensures c.value-guarded.ensures.value

  held : AreHeld (numbers_handed c.args.ends.now) (view c.take-turn.new.pass).holds
  held = subst (λ (hs : List ℕ). AreHeld (numbers_handed c.args.ends.now) hs) (sym c.take-turn.ensures.same.1) c.requires.held.0

  so : Groups g.D.Disk.state S c.value-guarded.result.now.core c.end_group-result.new.self c.args.ends.now c.end_group-result.new.ends c.end_group-result.result
  so =
      let each = each_lent l (view c.args.port.now.pass) c.args.ends.now c.take-turn.ensures.seen c.take-turn.ensures.same.1 c.requires.each c.requires.held in
      let txs = txs_of S.world (members_at c.args.ends.now) in
      let said = c.end_group-result.ensures in
      record {
        members = said.members;
        ended = λ stands. said.ended S.world txs stands each;
        stays = λ stands. said.same S.world stands;
        fallen = λ commits stands. let down = said.down S.world commits stands in (down.0, down.1);
        only = λ stands. said.only S.world stands;
        lost = λ stands is. said.lost S.world txs stands each is;
        commits = λ stands is. said.commits S.world txs stands each is;
        untouched = said.untouched;
        told = said.told;
        cause = said.cause;
        moments = λ stands. said.moments S.world txs stands each;
      }

pub give-requires : goal.give-requires
give-requires g c =
    let d = g.D.Disk.state in
    let es = (view c.take-turn.new.pass).seen in
    let holds = (view c.take-turn.new.pass).holds in
    let s = (goal.at.give-requires g c).After-end_group-result in
    let at = (l g s).at in
    let ends = c.args.ends.now in
    let lent = c.value-guarded.result.now.core in
    let new = c.end_group-result.new.self in
    let last = c.end_group-result.new.ends in
    let r = c.end_group-result.result in
    let args = group_args g.O.Origin.start es (view c.args.port.now.pass).seen ends c.take-turn.ensures.seen c.requires.each c.requires.some c.requires.most c.requires.held.1 in
    let did = did_group d (S g s) lent new ends last r at.core args (so g s) in
    let again = held_again last ends holds c.end_group-result.ensures.members (held g s) in
    record {
      lock = search rules;
      turn = search rules;
      value =
          stands_answer (l g s) c.of-before.result.value new (call.EndGroup (members_at last)) (λ done. entry.EndGroup (ends_at last)) r c.of-before.ensures (λ x. (tt, again.1)) again.0 (λ x T. refl)
          (moved_group d g.O.Origin.start es lent new ends last r (faults_of d lent) (faults_of d new) at.legal at.core.world.kept_of.world.history.first at.core did.0 (so g s))
          did;
      held = entry_may _ _ (call.EndGroup (members_at last)) (λ done. entry.EndGroup (ends_at last)) holds (λ x. (tt, again.1)) again.0 r;
    }

pub returns-clause-turn : goal.returns-clause-turn
returns-clause-turn g c =
    let d = g.D.Disk.state in
    let s = (goal.at.returns-clause-turn g c).After-end_group-result in
    let last = c.end_group-result.new.ends in
    let holds = (view c.take-turn.new.pass).holds in record {
      port = search rules;
      units = search rules;
      seen = turn_seen c.take-turn.ensures c.give.ensures;
      holds = if_err_by _ c.end_group-result.result (λ e is other.
          c.give.ensures.holds
          ∙ ap (λ (r : Result (Unit {0}) CoreError). held_after handed returned (group_entry (faults_of d c.of-before.result.value) (faults_of d c.end_group-result.new.self) last r) holds) is
          ∙ refused_holds _ _ (call.EndGroup (members_at last)) e holds (λ disk. absurd (other disk))
          ∙ c.take-turn.ensures.same.1);
      only = group_only d (S g s) _ _ c.args.ends.now last c.end_group-result.result (l g s).at.core (so g s);
    }

pub returns-clause-made : goal.returns-clause-made
returns-clause-made g c =
    let d = g.D.Disk.state in (
      faults_of d c.of-before.result.value,
      faults_of d c.end_group-result.new.self,
      turn_made c.take-turn.ensures c.give.ensures,
    )
