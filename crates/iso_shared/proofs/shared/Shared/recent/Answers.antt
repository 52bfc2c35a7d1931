use Rattle.iso_shared.proofs.{Words.{moments, view, arith, inl, [], ◌∷◌, ◌++◌, ◌≡◌, ap, refl, rules, subst, sym, ◌∙◌, IsRecent, State, faults_of, state_at, tx_of, recent_entry}, Begins.{Recounts, did_recent, if_ok_by, is_recent, recent_state}, Cores.is_tx, Giving.{AtTurn, Lends, asked, at_turn, entry_may, lends, recent_holds, stands_answer}, Mades.{held_same, turn_made, turn_seen, tx_on}, shared.Shared.recent.Goals.After-recent-result}
use Rattle.iso_shared.specs.declared.entry.Call.TheVariants as call
use Rattle.iso_shared.specs.declared.entry.Entry.TheVariants as entry
use Rattle.iso_shared.proofs.shared.Shared.recent.Goals as goal

pub recent-result-requires : goal.recent-result-requires
recent-result-requires g c =
    let l = lends c.take-turn.ensures c.value-guarded.ensures.value in
    let t = at_turn l c.args.tx.now c.requires.tx.1 c.take-turn.ensures.seen c.take-turn.ensures.same.1 in
    let (W, standing, u, stands, is) = asked l _ [] t.live in
    (W, standing, u, stands, is, t.from, t.ahead.to)

-- what the core's call says of what the turn lent
module _ (g : Rattle.iso_shared.proofs.shared.Shared.recent.Given.Over) (c : After-recent-result g) where
  abbrev S : State
  S = state_at g.O.Origin.start (view c.take-turn.new.pass).seen

  l : Lends g.D.Disk.state g.O.Origin.start g.O.Origin.disk c.value-guarded.result.now.core c.value-guarded.result.now.rack (view c.take-turn.new.pass).seen (moments c.take-turn.new.pass) (view c.take-turn.new.pass).holds
  l = lends c.take-turn.ensures c.value-guarded.ensures.value

  t : AtTurn g.O.Origin.start (view c.take-turn.new.pass).seen c.args.tx.now.number c.args.tx.now.work c.args.tx.now.checked
  t = at_turn l c.args.tx.now c.requires.tx.1 c.take-turn.ensures.seen c.take-turn.ensures.same.1

  so : Recounts g.D.Disk.state S c.value-guarded.result.now.core c.args.tx.now.number c.args.tx.now.checked.upto c.recent-result.result
  so = record {
    notes = λ stands. c.recent-result.ensures.notes S.world (tx_of S.world c.args.tx.now.number []) stands (is_tx S.world c.args.tx.now.number [] t.live) t.from;
    memory = c.recent-result.ensures.memory S.world;
    fallen = c.recent-result.ensures.down S.world;
  }

pub give-requires : goal.give-requires
give-requires g c = record {
  lock = search rules;
  turn = search rules;
  value = (
      let s = (goal.at.give-requires g c).After-recent-result in
      let n = c.args.tx.now.number in
      let held = held_same n _ _ c.take-turn.ensures.same.1 c.requires.tx.1.held in
      let r = c.recent-result.result in
      stands_answer (l g s) c.of-before.result.value _ (call.Recent n) (λ y. entry.Recent n y.upto) r c.of-before.ensures (λ y. ((held, tt), tt)) (held, tt) (λ y T. refl) (inl refl)
      (did_recent g.D.Disk.state (S g s) _ n c.args.tx.now.checked.upto _ _ r (l g s).at.core (so g s)));
  held = grind (arith, held_same, entry_may);
}

pub returns-clause-tx : goal.returns-clause-tx
returns-clause-tx g c =
    let begins = turn_seen c.take-turn.ensures c.give.ensures in
    (search rules, tx_on c.args.tx.now c.give.new.pass begins (c.give.ensures.holds ∙ recent_holds _ _ _ c.recent-result.result _ ∙ c.take-turn.ensures.same.1) c.requires.tx.1)

pub returns-clause-made : goal.returns-clause-made
returns-clause-made g c = (
  faults_of g.D.Disk.state c.of-before.result.value,
  faults_of g.D.Disk.state c.value-guarded.result.now.core,
  turn_made c.take-turn.ensures c.give.ensures,
)

pub returns-clause-recent : goal.returns-clause-recent
returns-clause-recent g c =
    let s = (goal.at.returns-clause-recent g c).After-recent-result in
    let d = g.D.Disk.state in
    let A = g.O.Origin.start in
    let n = c.args.tx.now.number in
    let es = (view c.take-turn.new.pass).seen in
    let lent = c.value-guarded.result.now.core in
    let checked = c.args.tx.now.checked in
    if_ok_by _ c.recent-result.result (λ x is.
    let seen : (view c.give.new.pass).seen ≡ es ++ entry.Recent n x.upto ∷ [] = c.give.ensures.seen ∙ ap (λ r. es ++ recent_entry (faults_of d c.of-before.result.value) (faults_of d lent) n r ∷ []) is in
    subst (λ T. IsRecent T checked x) (sym (ap (state_at A) seen ∙ recent_state A es n x.upto))
    (is_recent d (S g s) lent n checked.upto c.recent-result.result x checked (l g s).at.core (so g s) is refl (t g s).ahead.to (t g s).ahead.first))
