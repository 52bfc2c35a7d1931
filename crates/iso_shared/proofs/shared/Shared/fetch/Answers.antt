use Rattle.iso_shared.proofs.{Words.{view, arith, [], refl, sym, ◌∙◌, rules, ◌<◌, subst, ℕ, faults_of, opened, state_at}, Cores.did_fetch, Follows.follows_all, Giving.{asked, entry_may, fetch_holds, lends, live_lent, moved_fetch, stands_answer}, Mades.{held_same, turn_made, turn_seen, tx_on}}
use Rattle.iso_shared.specs.declared.entry.Call.TheVariants as call
use Rattle.iso_shared.specs.declared.entry.Entry.TheVariants as entry
use Rattle.iso_shared.proofs.shared.Shared.fetch.Goals as goal

pub fetch-result-requires : goal.fetch-result-requires
fetch-result-requires g c =
    let l = lends c.take-turn.ensures c.value-guarded.ensures.value in
    let (W, standing, t, stands, is) = asked l _ [] (live_lent l _ (held_same c.args.tx.now.number _ _ c.take-turn.ensures.same.1 c.requires.tx.1.held)) in
    let f = follows_all (opened g.O.Origin.start) (view c.take-turn.new.pass).seen in
    (W, standing, t, stands, is, subst (λ (k : ℕ). c.args.block < k) (sym f.blocks) c.requires.block, c.requires.size ∙ sym f.block)

pub give-requires : goal.give-requires
give-requires g c = record {
  lock = search rules;
  turn = search rules;
  value = (
      let d = g.D.Disk.state in
      let A = g.O.Origin.start in
      let n = c.args.tx.now.number in
      let held = held_same n _ _ c.take-turn.ensures.same.1 c.requires.tx.1.held in
      let l = lends c.take-turn.ensures c.value-guarded.ensures.value in
      let es = (view c.take-turn.new.pass).seen in
      let S = state_at A es in
      let f = follows_all (opened A) es in
      let lent = c.value-guarded.result.now.core in
      let new = c.fetch-result.new.self in
      let bytes = c.fetch-result.new.into in
      let r = c.fetch-result.result in
      stands_answer l c.of-before.result.value new (call.Fetch n c.args.block) (λ x. entry.Fetch n c.args.block bytes) r c.of-before.ensures (λ x. ((held, tt), tt)) (held, tt) (λ x T. refl)
      (moved_fetch d A es (faults_of d lent) (faults_of d new) n c.args.block bytes lent new r l.at.core c.fetch-result.ensures.unwritten)
      (did_fetch d S lent new n c.args.block bytes r l.at.core (live_lent l n held) (subst (λ (k : ℕ). c.args.block < k) (sym f.blocks) c.requires.block)
      c.fetch-result.ensures.block c.fetch-result.ensures.same c.fetch-result.ensures.down c.fetch-result.ensures.disk c.fetch-result.ensures.unwritten c.fetch-result.ensures.cause));
  held = grind (arith, held_same, entry_may);
}

pub returns-clause-tx : goal.returns-clause-tx
returns-clause-tx g c =
    let begins = turn_seen c.take-turn.ensures c.give.ensures in
    (search rules, tx_on c.args.tx.now c.give.new.pass begins (c.give.ensures.holds ∙ fetch_holds _ _ _ _ _ c.fetch-result.result _ ∙ c.take-turn.ensures.same.1) c.requires.tx.1)

pub returns-clause-made : goal.returns-clause-made
returns-clause-made g c = (
  faults_of g.D.Disk.state c.of-before.result.value,
  faults_of g.D.Disk.state c.fetch-result.new.self,
  turn_made c.take-turn.ensures c.give.ensures,
)
