use Rattle.iso_shared.proofs.{Words.{view, inl, ◌≡◌, [], ◌∷◌, ◌++◌, ap, refl, sym, subst, arith, ◌∙◌, rules, None, ℕ, IsTrue, unwrap_or, Checked, Mode, is_block_size, held_first, View, Doing, Entry, IsLegal, IsAhead, IsOwn, faults_of, standing_of, opened, state_at, begin_entry}, Begins.{began_ahead, began_own, begun_mode, block_size}, Cores.did_begin, Follows.follows_all, Giving.{entry_may, lends, stands_answer}, Mades.held_same}
use Rattle.iso_shared.specs.declared.entry.Call.TheVariants as call
use Rattle.iso_shared.specs.declared.entry.Entry.TheVariants as entry
use Rattle.iso_shared.proofs.shared.Shared.begin.Goals as goal

pub give-requires : goal.give-requires
give-requires g c = record {
  lock = search rules;
  turn = search rules;
  value = (
      let l = lends c.take-turn.ensures c.value-guarded.ensures.value in
      let r = c.begin-result.result in
      let said = c.begin-result.ensures in
      stands_answer l _ _ (call.Begin c.args.named) (λ t. entry.Begin t.tx t.at t.mode) r c.of-before.ensures (λ x. (tt, tt)) tt (λ x T. refl) (inl said.disk)
      (did_begin g.D.Disk.state _ _ _ _ _ c.args.named r l.at.core said.begun said.refused said.down said.kept said.disk));
  held = entry_may _ _ (call.Begin c.args.named) (λ t. entry.Begin t.tx t.at t.mode) _ (λ x. (tt, tt)) tt c.begin-result.result;
}

pub split-pass-requires-clause-number : goal.split-pass-requires-clause-number
split-pass-requires-clause-number g c = grind (arith, held_same, held_first)

pub begin_work-requires : goal.begin_work-requires
begin_work-requires g c =
    let S = state_at g.O.Origin.start (view c.take-turn.new.pass).seen in
    let h = (lends c.take-turn.ensures c.value-guarded.ensures.value).at.core in
    let geometry = c.geometry-geometry.ensures S.world (standing_of S.lost) h.world in
    subst (λ (k : ℕ). IsTrue (is_block_size k)) (sym (ap (λ v. v.block) geometry)) (block_size S.world h.world.kept_of.world)

pub returns-in-Ok-clause-tx : goal.returns-in-Ok-clause-tx
returns-in-Ok-clause-tx g c =
    let d = g.D.Disk.state in
    let A = g.O.Origin.start in
    let es = (view c.take-turn.new.pass).seen in
    let b = c.in-Ok.begun in
    let work = c.begin_work.result in
    let S = state_at A es in
    let none = c.take-turn.ensures.value.start in
    let h = (lends c.take-turn.ensures c.value-guarded.ensures.value).at.core in
    let geometry = c.geometry-geometry.ensures S.world (standing_of S.lost) h.world in
    let given = c.split-pass.ensures.given in
    let last : (view c.give.new.pass).seen ≡ es ++ entry.Begin b.tx b.at b.mode ∷ [] = c.give.ensures.seen ∙ ap (λ r. es ++ begin_entry (faults_of d c.of-before.result.value) (faults_of d c.begin-result.new.self) c.args.named r ∷ []) c.in-Ok.is in
    let seen : (view c.split-pass.result).seen ≡ es ++ entry.Begin b.tx b.at b.mode ∷ [] = ap (λ (v : View Entry). v.seen) given ∙ last in
    let legal = subst (IsLegal A) last c.give.ensures.legal in
    let is = c.begin_work.ensures in
    let mode = begun_mode d S c.value-guarded.result.now.core c.begin-result.new.self c.args.named c.begin-result.result b h c.begin-result.ensures.begun c.begin-result.ensures.down c.in-Ok.is in
    let begin : work.begin ≡ b.at = ap (λ (w : Doing). w.begin) is in
    let of : work.mode ≡ b.mode = ap (λ (w : Doing). w.mode) is in
    let f = follows_all (opened A) es in (
      (
        search rules,
        record {
          held = held_same b.tx _ _ (ap (λ (v : View Entry). v.holds) given) (held_first b.tx []);
          on = record { size = ap (λ (w : Doing). w.size) is ∙ ap (λ v. v.block) geometry ∙ f.block; blocks = ap (λ (w : Doing). w.blocks) is ∙ ap (λ v. v.blocks) geometry ∙ f.blocks };
          own = subst (λ l. IsOwn (state_at A l) b.tx work) (sym seen)
              (began_own A es b.tx b.at b.mode work none legal begin of
              (record { size = ap (λ (w : Doing). w.size) is ∙ ap (λ v. v.block) geometry; blocks = ap (λ (w : Doing). w.blocks) is ∙ ap (λ v. v.blocks) geometry }));
          ahead = subst (λ l. IsAhead (state_at A l) work (record { upto = b.at; clash = None })) (sym seen)
              (began_ahead A es b.tx b.at b.mode work (record { upto = b.at; clash = None }) none legal h.world.kept_of.world.history.first begin
              (ap (λ (k : ℕ). record { upto = k; clash = None }) (sym begin)));
        },
      ),
      ap (λ (w : Doing). w.accesses) is,
      of ∙ mode ∙ ap (λ (m : Mode). unwrap_or c.args.named m) f.mode,
    )

pub returns-in-Ok-clause-checked : goal.returns-in-Ok-clause-checked
returns-in-Ok-clause-checked g c = ap (λ (k : ℕ). let x : Checked = record { upto = k; clash = None } in x) (sym (ap (λ (w : Doing). w.begin) c.begin_work.ensures))
