-- The last row has one mark more, and none of what is up to date has the last row.
use Rattle.tx_table.proofs.{Words.{◌≡◌, ◌∙◌, ℕ, ◌+◌, ◌-◌, ◌<◌, ◌≤◌, false, ◌==◌, ◌&&◌, List, ◌∷◌, [], ◌++◌, None, sym, ap, subst, arith, inl, inr, length, get_or, set, map, take, ne_eqb, length-set, vec_capacity, get_or_default, AreTouched, Access, Read, Write, Span, mark_fault, marked, IsSpan, Row, AreEffects, HavePatches, access_of, Doing, IsRow, span_at}, Last.{all_set, full_fault, have_kept, have_set, if_some, marked_row, marked_set, no_fault, take_set}, Slots.all_there}

pub returns-then-index-ge-MAX_SPANS-clause-err : Rattle.tx_table.proofs.work.Work.mark.Goals.returns-then-index-ge-MAX_SPANS-clause-err
returns-then-index-ge-MAX_SPANS-clause-err c fault is = grind (arith, all_there, full_fault)

-- the last row has room for a mark that is within its block
module _ (c : Rattle.tx_table.proofs.work.Work.mark.Goals.After-self-3-1) where
  abbrev rows : List Row
  rows = c.self.inside.rows.items

  abbrev at : ℕ
  at = c.len-end.result - 1

  last : at + 1 ≡ length rows
  last = omega (arith, c.len-end.ensures, c.self.inside.rows.ok.0, c.if-end-eq0.false)

  all : IsRow c.self.inside.size (get_or rows at c.index_mut.result.now) × ((get_or rows at c.index_mut.result.now).block < c.self.inside.blocks)
  all = all_there (λ r. IsRow c.self.inside.size r × (r.block < c.self.inside.blocks)) at rows c.index_mut.result.now c.self.invariant.2 (omega (arith, last))

  less : (get_or rows at c.index_mut.result.now).count < 8
  less = subst (λ (r : Row). r.count < 8) (c.index.ensures ∙ get_or_default rows at c.index.result.now c.index_mut.result.now (omega (arith, last))) c.if-index-ge-MAX_SPANS.false

  fits : c.args.off + c.args.len ≤ c.self.inside.size
  fits = omega (arith, c.if-from-self.false, c.from.ensures, c.from-else-len-eq0.ensures)

pub invariant_of-self : Rattle.tx_table.proofs.work.Work.mark.Goals.invariant_of-self
invariant_of-self c =
    let rows = c.self.inside.rows.items in
    let size = c.self.inside.size in
    let blocks = c.self.inside.blocks in
    let i = c.len-end.result - 1 in
    let d = c.index_mut.result.now in
    let row = c.add.new.self in
    let old = c.self.inside.patches in
    let new = c.reopen_patches-self-inside.new.patches in
    let is_last = last c in
    let here : d ≡ get_or rows i d = c.index_mut.ensures.value in
    let few : d.count < 8 = subst (λ (r : Row). r.count < 8) (sym here) (less c) in
    let within = fits c in
    let span : IsSpan size (span_at c.args.off c.args.len) = record { some = omega (arith, c.if-len-eq0.false); fits = within } in
    let is_row : IsRow size row = marked_row size d row (span_at c.args.off c.args.len) (subst (IsRow size) (sym here) (all c).0) c.add.ensures.access c.add.ensures.count few span in
    let same_block : row.block ≡ d.block = ap (λ (a : Access). a.block) c.add.ensures.access in
    let same_kind' : row.kind ≡ d.kind = ap (λ (a : Access). a.kind) c.add.ensures.access in
    let block : row.block < blocks = subst (λ (n : ℕ). n < blocks) (sym (same_block ∙ ap (λ (r : Row). r.block) here)) (all c).1 in
    let long : length (set rows i row) ≡ length rows = length-set rows i row in
    let held : old.size ≡ size = c.self.invariant.1 in
    let effects : AreEffects size (take c.reopen_patches-self-inside.result (map access_of rows)) new.entries =
    (let h = c.reopen_patches-self-inside.ensures.effects (map access_of rows) in rw held at h) c.self.invariant.5 in
    let have : HavePatches (map access_of rows) new.entries = have_kept (map access_of rows) old.entries new.entries (λ b h. c.reopen_patches-self-inside.ensures.same.kept b ∙ h) c.self.invariant.6 in (
      c.self.invariant.0,
      c.reopen_patches-self-inside.ensures.same.size ∙ held,
      all_set (λ r. IsRow size r × (r.block < blocks)) i rows row c.self.invariant.2 (is_row, block),
      omega (arith, long, is_last, c.reopen_patches-self-inside.ensures.few),
      omega (arith, long, is_last, c.reopen_touched-self-inside.ensures.few),
      subst (λ (l : List Access). AreEffects size l new.entries) (sym (take_set c.reopen_patches-self-inside.result i rows row c.reopen_patches-self-inside.ensures.few)) effects,
      have_set i rows row d new.entries (same_kind' ∙ ap (λ (r : Row). r.kind) here) (same_block ∙ ap (λ (r : Row). r.block) here) have,
      subst (λ (l : List Access). AreTouched size blocks Read l c.reopen_touched-self-inside.new.reads) (sym (take_set c.reopen_touched-self-inside.result i rows row c.reopen_touched-self-inside.ensures.few))
          (c.reopen_touched-self-inside.ensures.reads size blocks Read (map access_of rows) c.self.invariant.7),
      subst (λ (l : List Access). AreTouched size blocks Write l c.reopen_touched-self-inside.new.writes) (sym (take_set c.reopen_touched-self-inside.result i rows row c.reopen_touched-self-inside.ensures.few))
          (c.reopen_touched-self-inside.ensures.writes size blocks Write (map access_of rows) c.self.invariant.8),
      if_some c.self.inside.ready (λ b room. (
        room.0,
        subst (λ (n : ℕ). n < vec_capacity c.self.inside.rows) (sym long) room.1,
        room.2,
        elim room.3 [ inl there ↦ inl (c.reopen_patches-self-inside.ensures.same.kept b ∙ there) | inr spare ↦ inr (c.reopen_patches-self-inside.ensures.same.spare ∙ spare) ],
      )) c.self.invariant.9,
      subst (λ (n : ℕ). n ≤ 4096) (sym long) c.self.invariant.10,
      c.self.invariant.11,
    )

pub returns-clause-ok : Rattle.tx_table.proofs.work.Work.mark.Goals.returns-clause-ok
returns-clause-ok c =
    let rows = c.self.inside.rows.items in
    let size = c.self.inside.size in
    let i = c.len-end.result - 1 in
    let d = c.index_mut.result.now in
    let row = c.add.new.self in
    let span : Span = span_at c.args.off c.args.len in
    let is_last = last c in
    let here : d ≡ get_or rows i d = c.index_mut.ensures.value in
    let none : mark_fault size c.args.off c.args.len (map access_of rows) ≡ None = no_fault size c.args.off c.args.len i rows d c.if-len-eq0.false (fits c) is_last (all c).0 (less c) in
    let access : access_of row ≡ record (access_of (get_or rows i d)) { spans = (access_of (get_or rows i d)).spans ++ span ∷ [] } =
    c.add.ensures.access ∙ ap (λ (r : Row). record (access_of r) { spans = (access_of r).spans ++ span ∷ [] }) here in
    let changed : map access_of (set rows i row) ≡ marked span c.args.self.now.accesses =
    marked_set i rows row d span is_last access ∙ ap (λ (w : Doing). marked span w.accesses) c.self.view_is in
    let long : length (set rows i row) ≡ length rows = length-set rows i row in
    let open_now : (c.reopen_patches-self-inside.result == length (set rows i row)) ≡ false =
    ne_eqb c.reopen_patches-self-inside.result (length (set rows i row)) (λ same. omega (arith, same, long, is_last, c.reopen_patches-self-inside.ensures.few)) in (
      sym (ap (λ (w : Doing). mark_fault w.size c.args.off c.args.len w.accesses) c.self.view_is) ∙ none,
      λ j. record {
        begin = (c.self.view_is j).begin;
        mode = (c.self.view_is j).mode;
        size = (c.self.view_is j).size;
        blocks = (c.self.view_is j).blocks;
        accesses = changed j;
        ready = (c.self.view_is j).ready;
        settled = (open_now j) && (c.reopen_touched-self-inside.result == length (set rows i row));
      },
    )
