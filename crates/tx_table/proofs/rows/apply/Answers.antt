-- One row more.
use Rattle.tx_table.proofs.{Words.{◌≡◌, ◌∙◌, ℕ, ◌+◌, true, false, List, ◌∷◌, [], ◌++◌, ap, sym, subst, length, get_or, take, map, IsTrue, Access, is_write, same_kind, Kind, Write, Row, has_patch, patch_at, AreEffects, HasTheSame, Held, access_of, IsRow}, Applied.{patch_of_row, read_applied, rows_more, then_same, write_applied}, Slots.all_there, rows.apply.Goals.{in-Write, in-Read}}

row_is : (rows : List Row) (i : ℕ) (row : Row) (P : Row → Type 0) → row ≡ get_or rows i row → P (get_or rows i row) → P row
row_is rows i row P is at = subst P (sym is) at

pub set-requires-clause-held : Rattle.tx_table.proofs.rows.apply.Goals.set-requires-clause-held
set-requires-clause-held c =
    let row = c.index-rows-at.result in
    let write : IsTrue (is_write (access_of row)) = ap (λ (k : Kind). same_kind Write k) c.in-Write.is in
    let there : IsTrue (is_write (access_of (get_or c.args.rows.now c.loop-at.at row))) = subst (λ (r : Row). IsTrue (is_write (access_of r))) c.index-rows-at.is write in
    let held = patch_of_row c.loop-at.at c.args.rows.now row c.args.patches.now.entries c.requires.held c.loop-at-test.true there in
    c.loop-at.invariant.same.kept row.block ∙ subst (λ (r : Row). has_patch r.block c.args.patches.now.entries ≡ true) (sym c.index-rows-at.is) held

pub set-requires-clause-bytes : Rattle.tx_table.proofs.rows.apply.Goals.set-requires-clause-bytes
set-requires-clause-bytes c =
    let row = c.index-rows-at.result in
    let write : IsTrue (is_write (access_of row)) = ap (λ (k : Kind). same_kind Write k) c.in-Write.is in
    let fits : IsRow c.args.patches.now.size row = subst (IsRow c.args.patches.now.size) (sym c.index-rows-at.is) (all_there (IsRow c.args.patches.now.size) c.loop-at.at c.args.rows.now row c.requires.rows c.loop-at-test.true) in
    ap (length {A = ℕ}) c.as_slice.ensures.value ∙ fits.bytes write ∙ sym c.loop-at.invariant.same.size

pub loop-at-preserved : Rattle.tx_table.proofs.rows.apply.Goals.loop-at-preserved
loop-at-preserved c =
    let row = c.index-rows-at.result in
    let rows = c.args.rows.now in
    let i = c.loop-at.at in
    let size = c.args.patches.now.size in
    let done = take i (map access_of rows) in
    let more : take (i + 1) (map access_of rows) ≡ done ++ access_of row ∷ [] =
    rows_more i rows row c.loop-at-test.true ∙ ap (λ (r : Row). take i (map access_of rows) ++ access_of r ∷ []) (sym c.index-rows-at.is) in
    elim c.match-row.branch [
      | in-Write w ↦
          (let write : is_write (access_of row) ≡ true = ap (λ (k : Kind). same_kind Write k) w.in-Write.is in
          let fits : IsRow size row = subst (IsRow size) (sym c.index-rows-at.is) (all_there (IsRow size) i rows row c.requires.rows c.loop-at-test.true) in
          record {
            same = then_same (subst (HasTheSame c.loop-at.patches) (sym w.patches-is) w.set.ensures.same) c.loop-at.invariant.same;
            effects = λ before. subst (λ (l : List Access). AreEffects size l c.match-row.patches.entries) (sym more)
                (write_applied size done (access_of row) c.loop-at.patches.entries c.match-row.patches.entries write (fits.bytes write) (c.loop-at.invariant.effects before)
                (λ b. ap (λ (h : Held). patch_at size b h.entries) w.patches-is
                ∙ (let step = w.set.ensures.values b in rw (c.loop-at.invariant.same.size, w.as_slice.ensures.value) at step)));
          })
      | in-Read w ↦
          (let read : is_write (access_of row) ≡ false = ap (λ (k : Kind). same_kind Write k) w.in-Read.is in
          record {
            same = subst (HasTheSame c.args.patches.now) (sym w.patches-is) c.loop-at.invariant.same;
            effects = λ before. subst (λ (l : List Access). AreEffects size l c.match-row.patches.entries) (sym more)
                (read_applied size done (access_of row) c.match-row.patches.entries read
                (subst (λ (h : Held). AreEffects size done h.entries) (sym w.patches-is) (c.loop-at.invariant.effects before)));
          })
    ]
