use Rattle.iso_shared.proofs.{Words.{view, inl, [], ◌∷◌, ◌++◌, ap, refl, sym, arith, ◌∙◌, rules, ◌≤◌, ◌+◌, subst, ◌≡◌, Doing, held_after, disk_of, handed, returned, most_steps, faults_of, standing_of, state_at, tx_of, end_entry}, Cores.{by_lost, is_tx}, Ends.{ahead_same, checked_of, did_end, if_err_by, init_same, moved_end, may_have, on_same, own_same, work_of}, Giving.{at_turn, entry_keeps, entry_may, lends, refused_holds, settled_turn, stands_call}, Mades.{ahead_on, held_same, made_by, own_on, turn_seen}}
use Rattle.iso_shared.specs.declared.entry.Call.TheVariants as call
use Rattle.iso_shared.specs.declared.entry.Entry.TheVariants as entry
use Rattle.iso_shared.proofs.shared.Shared.end_in_turn.Goals as goal

pub end-result-requires : goal.end-result-requires
end-result-requires g c =
    let n = c.args.tx.now.number in
    let S = state_at g.O.Origin.start (view c.take-turn.new.pass).seen in
    let work = c.settle.new.work in
    let l = lends c.take-turn.ensures c.value-guarded.ensures.value in
    let t = settled_turn (at_turn l c.args.tx.now c.requires.tx.1 c.take-turn.ensures.seen c.take-turn.ensures.same.1) work c.settle.ensures.work in (
      S.world,
      standing_of S.lost,
      tx_of S.world n work.accesses,
      l.at.core.world,
      is_tx S.world n work.accesses t.live,
      work_of S n work t.own t.live,
      checked_of S n work c.args.tx.now.checked t.own t.live t.ahead,
    )

pub give-requires : goal.give-requires
give-requires g c = record {
  lock = search rules;
  turn = search rules;
  value = (
      let d = g.D.Disk.state in
      let A = g.O.Origin.start in
      let n = c.args.tx.now.number in
      let es = (view c.take-turn.new.pass).seen in
      let S = state_at A es in
      let work = c.settle.new.work in
      let l = lends c.take-turn.ensures c.value-guarded.ensures.value in
      let held = held_same n _ _ c.take-turn.ensures.same.1 c.requires.tx.1.held in
      let turn = settled_turn (at_turn l c.args.tx.now c.requires.tx.1 c.take-turn.ensures.seen c.take-turn.ensures.same.1) work c.settle.ensures.work in
      let t = tx_of S.world n work.accesses in
      let here = is_tx S.world n work.accesses turn.live in
      let of = work_of S n work turn.own turn.live in
      let checked = checked_of S n work c.args.tx.now.checked turn.own turn.live turn.ahead in
      let lent = c.value-guarded.result.now.core in
      let shot = faults_of d c.of-before.result.value in
      let new = c.end-result.new.self in
      let last = c.end-result.new.work in
      let r = c.end-result.result in
      let same : last.accesses ≡ work.accesses = ap (λ (w : Doing). w.accesses) c.end-result.ensures.work in
      let said = c.end-result.ensures in
      let did = did_end d S lent new n work.accesses r l.at.core
      (may_have S n work turn.own c.settle.ensures.within.0 c.settle.ensures.within.1)
      (λ stands. said.ended S.world t stands here of checked)
      (λ stands. said.refused S.world t stands here of checked)
      (λ stands. said.same S.world stands)
      said.down said.unwritten
      (λ stands is. said.lost S.world t stands here of checked is)
      said.told said.cause in
      stands_call l new (end_entry shot (faults_of d new) n last.accesses r) (end_entry (faults_of d lent) (faults_of d new) n work.accesses r)
      (entry_may shot (faults_of d new) (call.End n last.accesses) (λ x. entry.End n last.accesses x) _ (λ x. (tt, (held, tt))) (held, tt) r)
      (ap (λ v. end_entry (faults_of d v) (faults_of d new) n last.accesses r) c.of-before.ensures ∙ ap (λ a. end_entry (faults_of d lent) (faults_of d new) n a r) same)
      (by_lost d S lent _ l.at.core
      (λ is stands. moved_end d A es lent new (faults_of d lent) (faults_of d new) n work.accesses r l.at.legal l.at.core.world.kept_of.world.history.first is did.0
      (said.ended S.world t stands here of checked) (said.lost S.world t stands here of checked) said.unwritten (said.moments S.world t stands here of checked))
      (λ lost is stands. inl (ap disk_of (said.down S.world lost stands).1)))
      did
      (entry_keeps shot (faults_of d new) (call.End n last.accesses) (λ x. entry.End n last.accesses x) (λ x T. refl) r));
  held = (
      let n = c.args.tx.now.number in
      let held = held_same n _ _ c.take-turn.ensures.same.1 c.requires.tx.1.held in
      let last = c.end-result.new.work in
      entry_may _ _ (call.End n last.accesses) (λ x. entry.End n last.accesses x) _ (λ x. (tt, (held, tt))) (held, tt) c.end-result.result);
}

pub returns-clause-tx : goal.returns-clause-tx
returns-clause-tx g c =
    let d = g.D.Disk.state in
    let A = g.O.Origin.start in
    let n = c.args.tx.now.number in
    let last = c.end-result.new.work in
    let holds = (view c.take-turn.new.pass).holds in
    let begins = turn_seen c.take-turn.ensures c.give.ensures in
    let T = state_at A (view c.give.new.pass).seen in
    let own = own_same T n _ last c.end-result.ensures.work (own_same T n c.args.tx.now.work _ c.settle.ensures.work (own_on A _ _ n _ begins c.requires.tx.1.own)) in
    let ahead = ahead_same T _ last _ c.end-result.ensures.work (ahead_same T c.args.tx.now.work _ c.args.tx.now.checked c.settle.ensures.work (ahead_on A _ _ _ _ begins c.requires.tx.1.ahead)) in
    if_err_by _ c.end-result.result (λ e is other. (
      search rules,
      record {
        held = held_same n _ _
            (c.give.ensures.holds
            ∙ ap (λ r. held_after handed returned (end_entry (faults_of d c.of-before.result.value) (faults_of d c.end-result.new.self) n last.accesses r) holds) is
            ∙ refused_holds _ _ (call.End n last.accesses) e holds (λ disk. absurd (other disk))
            ∙ c.take-turn.ensures.same.1) c.requires.tx.1.held;
        on = on_same A.world.geometry _ last c.end-result.ensures.work (on_same A.world.geometry c.args.tx.now.work _ c.settle.ensures.work c.requires.tx.1.on);
        own = own;
        ahead = ahead;
      },
    ))

pub returns-clause-made : goal.returns-clause-made
returns-clause-made g c =
    let d = g.D.Disk.state in
    let A = g.O.Origin.start in
    let x = faults_of d c.of-before.result.value in
    let y = faults_of d c.end-result.new.self in
    let es = (view c.take-turn.new.pass).seen in
    let accesses = ap (λ (w : Doing). w.accesses) c.end-result.ensures.work ∙ ap (λ (w : Doing). w.accesses) c.settle.ensures.work in (
      x,
      y,
      made_by A (view c.args.tx.now.pass) (view c.args.tx.now.pass) (view c.take-turn.new.pass) (view c.give.new.pass) _ c.take-turn.ensures.seen c.take-turn.ensures.seen c.take-turn.ensures.same.0
          (c.give.ensures.seen ∙ ap (λ a. es ++ end_entry x y c.args.tx.now.number a c.end-result.result ∷ []) accesses) c.give.ensures.mine c.give.ensures.legal,
    )

pub returns-clause-steps : goal.returns-clause-steps
returns-clause-steps g c list e seen =
    let A = g.O.Origin.start in
    let n = c.args.tx.now.number in
    let es = (view c.take-turn.new.pass).seen in
    let S = state_at A es in
    let upto = c.args.tx.now.checked.upto in
    let work = c.settle.new.work in
    let l = lends c.take-turn.ensures c.value-guarded.ensures.value in
    let t = settled_turn (at_turn l c.args.tx.now c.requires.tx.1 c.take-turn.ensures.seen c.take-turn.ensures.same.1) work c.settle.ensures.work in
    let same : es ≡ list = init_same es list _ e (sym c.give.ensures.seen ∙ seen) in
    subst (λ l. c.end-result.new.steps ≤ c.args.steps.now + most_steps A l upto) same
    (by_lost g.D.Disk.state S c.value-guarded.result.now.core (c.end-result.new.steps ≤ c.args.steps.now + most_steps A es upto) l.at.core
    (λ is stands. c.end-result.ensures.steps S.world (tx_of S.world n work.accesses) stands (is_tx S.world n work.accesses t.live) (checked_of S n work c.args.tx.now.checked t.own t.live t.ahead))
    (λ lost is stands. let none : c.end-result.new.steps ≡ c.args.steps.now = c.end-result.ensures.no_steps S.world lost stands in omega arith))
