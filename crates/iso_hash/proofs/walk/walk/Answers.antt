use Rattle.iso_hash.proofs.{Words.{arith, ◌≡◌, ◌∙◌, sym, ap, ◌+◌, ◌*◌, [], ◌∷◌, take, refl, word_at, walk, look_access, Tx, may_mark, marked_access, cause_earlier, later_than, read_none, read_more, read_same, read_size}, Walking.{walk_begins, read_refused, next_inside, linked_parts, spare_is, spare_inside, missing, with_value_mark, without_value_mark, ends_broken, ends_past, goes_on, ends_at_cell}, walk.walk.Goals.{then-with_value, else-with_value}}
use Rattle.iso_hash.proofs.walk.walk.Goals as goal

pub loop-position-init : goal.loop-position-init
loop-position-init g c = grind (arith, walk_begins, read_none)

pub returns-in-Err-clause-walked : goal.returns-in-Err-clause-walked
returns-in-Err-clause-walked g c =
    let state = g.T.TxBlocks.state in
    read_refused (walk c.args.key.now.area c.args.key.now.bytes.now c.args.with_value) c.args.key.now.area c.args.key.now.bytes.now c.args.key.now.bucket c.args.with_value (c.last_position-position-end.result + 1) c.loop-position.position c.loop-position.before c.loop-position.block c.loop-position.spare
    (state c.args.tx.now) (state c.loop-position.tx) (state c.look.new.tx) (g.T.TxBlocks.device c.loop-position.tx) (g.T.TxBlocks.device c.look.new.tx) c.in-Err.e c.loop-position.invariant.here c.loop-position-test.true c.in-Err.ensures.kept c.in-Err.ensures.cause

pub returns-in-Err-clause-leaves : goal.returns-in-Err-clause-leaves
returns-in-Err-clause-leaves g c = record {
  reads = (let state = g.T.TxBlocks.state in read_same (state c.args.tx.now) (state c.loop-position.tx) (state c.look.new.tx) c.loop-position.invariant.reads c.in-Err.ensures.kept);
  is_open = tt;
  cause = grind (arith, cause_earlier);
  later = later_than (g.T.TxBlocks.device c.args.tx.now) (g.T.TxBlocks.device c.loop-position.tx) (g.T.TxBlocks.device c.look.new.tx) c.loop-position.invariant.later c.in-Err.ensures.later;
  passed = tt;
}

pub returns-then-not-is_linked-clause-walked : goal.returns-then-not-is_linked-clause-walked
returns-then-not-is_linked-clause-walked g c =
    let state = g.T.TxBlocks.state in
    ends_broken (walk c.args.key.now.area c.args.key.now.bytes.now c.args.with_value) c.args.key.now.area c.args.key.now.bytes.now c.args.key.now.bucket c.args.with_value (c.last_position-position-end.result + 1) c.loop-position.position c.loop-position.before c.loop-position.block c.loop-position.spare
    (state c.args.tx.now) (state c.loop-position.tx) c.look.new.into (record { here = c.loop-position.invariant.here; below = c.loop-position-test.true; bytes_are = c.in_default.ensures.bytes })
    (state c.look.new.tx) c.cell_count.result (g.met.T.TxBlocks.limits c.look.new.tx).count c.cell_count.ensures c.in_default.ensures.read (sym c.is_linked.ensures ∙ c.if-not-is_linked.true)

pub returns-then-not-is_linked-clause-leaves : goal.returns-then-not-is_linked-clause-leaves
returns-then-not-is_linked-clause-leaves g c = record {
  reads = (let state = g.T.TxBlocks.state in read_more (state c.args.tx.now) (state c.loop-position.tx) (state c.look.new.tx) _ c.loop-position.invariant.reads c.in_default.ensures.read refl);
  is_open = tt;
  cause = grind arith;
  later = later_than (g.T.TxBlocks.device c.args.tx.now) (g.T.TxBlocks.device c.loop-position.tx) (g.T.TxBlocks.device c.look.new.tx) c.loop-position.invariant.later c.in_default.ensures.later;
  passed = tt;
}

pub cell_with-requires-clause-parts : goal.cell_with-requires-clause-parts
cell_with-requires-clause-parts g c = linked_parts c.args.key.now.area c.args.key.now.bucket c.loop-position.position _ (sym c.is_linked.ensures ∙ c.if-not-is_linked.false)

pub mark-requires : goal.mark-requires
mark-requires g c =
    let state = g.T.TxBlocks.state in
    let size : (state c.loop-position.tx).size ≡ (state c.args.tx.now).size = read_size (state c.args.tx.now) (state c.loop-position.tx) c.loop-position.invariant.reads in
    may_mark (state c.loop-position.tx) (state c.look.new.tx) (look_access (c.args.key.now.area.start + c.loop-position.block) (record { off = 0; len = 64 + 31 * c.cell_count.result } ∷ [])) (record { off = 64 + 31 * c.cell_count.result + 33 * c.in-Some.cell; len = 33 })
    c.in_default.ensures.read c.in_default.ensures.is_open (record { some = omega arith; fits = omega (arith, size, c.requires.within.size, c.in-Some.ensures.below, c.cell_count.ensures, c.requires.within.area.least_size) }) (omega arith)

pub returns-in-Some-clause-walked : goal.returns-in-Some-clause-walked
returns-in-Some-clause-walked g c =
    let state = g.T.TxBlocks.state in
    ends_at_cell (walk c.args.key.now.area c.args.key.now.bytes.now c.args.with_value) c.args.key.now.area c.args.key.now.bytes.now c.args.key.now.bucket c.args.with_value (c.last_position-position-end.result + 1) c.loop-position.position c.loop-position.before c.loop-position.block c.loop-position.spare
    (state c.args.tx.now) (state c.loop-position.tx) c.look.new.into (record { here = c.loop-position.invariant.here; below = c.loop-position-test.true; bytes_are = c.in_default.ensures.bytes })
    (state c.if-with_value.tx) c.cell_count.result (g.met.T.TxBlocks.limits c.if-with_value.tx).count c.cell_count.ensures c.in-Some.cell (sym c.is_linked.ensures ∙ c.if-not-is_linked.false) (sym c.in-Some.ensures.value)
    (elim c.if-with_value.branch [
      | then-with_value w ↦
          ap state w.tx-is ∙ with_value_mark c.args.key.now.area (state c.loop-position.tx) (state w.mark.new.tx) (c.args.key.now.area.start + c.loop-position.block) c.cell_count.result c.in-Some.cell c.args.with_value w.if-with_value.true c.cell_count.ensures
          (marked_access (state c.loop-position.tx) (state c.look.new.tx) (state w.mark.new.tx) _ _ c.in_default.ensures.read w.mark.ensures.marked)
      | else-with_value w ↦
          ap state w.tx-is ∙ without_value_mark c.args.key.now.area (state c.loop-position.tx) (state c.look.new.tx) (c.args.key.now.area.start + c.loop-position.block) c.cell_count.result c.in-Some.cell c.args.with_value w.if-with_value.false c.cell_count.ensures c.in_default.ensures.read
    ])

pub returns-in-Some-clause-leaves : goal.returns-in-Some-clause-leaves
returns-in-Some-clause-leaves g c = record {
  reads = (let state = g.T.TxBlocks.state in
      elim c.if-with_value.branch [
        | then-with_value w ↦ read_more (state c.args.tx.now) (state c.loop-position.tx) (state c.if-with_value.tx) _ c.loop-position.invariant.reads (ap state w.tx-is ∙ marked_access (state c.loop-position.tx) (state c.look.new.tx) (state w.mark.new.tx) _ _ c.in_default.ensures.read w.mark.ensures.marked) refl
        | else-with_value w ↦ read_more (state c.args.tx.now) (state c.loop-position.tx) (state c.if-with_value.tx) _ c.loop-position.invariant.reads (ap state w.tx-is ∙ c.in_default.ensures.read) refl
      ]);
  is_open = grind arith;
  cause = tt;
  later = grind (arith, later_than);
  passed = grind arith;
}

pub returns-in-Some-clause-inside : goal.returns-in-Some-clause-inside
returns-in-Some-clause-inside g c = (record { block = c.loop-position.invariant.inside; cell = c.in-Some.ensures.below }, c.loop-position.invariant.before)

pub returns-then-next-eq0-clause-walked : goal.returns-then-next-eq0-clause-walked
returns-then-next-eq0-clause-walked g c =
    let state = g.T.TxBlocks.state in
    let spare = spare_is c.args.key.now.area c.loop-position.spare c.loop-position.block (take (64 + 31 * c.cell_count.result) c.look.new.into) _ _ c.first_spare-spare.ensures c.unused_cell.ensures.value in
    rw spare (ends_past (walk c.args.key.now.area c.args.key.now.bytes.now c.args.with_value) c.args.key.now.area c.args.key.now.bytes.now c.args.key.now.bucket c.args.with_value (c.last_position-position-end.result + 1) c.loop-position.position c.loop-position.before c.loop-position.block c.loop-position.spare
    (state c.args.tx.now) (state c.loop-position.tx) c.look.new.into (record { here = c.loop-position.invariant.here; below = c.loop-position-test.true; bytes_are = c.in_default.ensures.bytes })
    (state c.look.new.tx) c.cell_count.result (g.met.T.TxBlocks.limits c.look.new.tx).count c.cell_count.ensures c.in_default.ensures.read (sym c.is_linked.ensures ∙ c.if-not-is_linked.false)
    (missing _ _ c.cell_with.ensures.value c.in_default-cell_with.not-Some) (sym c.word_at-next.ensures ∙ c.if-next-eq0.true))

pub returns-then-next-eq0-clause-leaves : goal.returns-then-next-eq0-clause-leaves
returns-then-next-eq0-clause-leaves g c = record {
  reads = (let state = g.T.TxBlocks.state in read_more (state c.args.tx.now) (state c.loop-position.tx) (state c.look.new.tx) _ c.loop-position.invariant.reads c.in_default.ensures.read refl);
  is_open = ap (λ (t : Tx). t.is_open) c.in_default.ensures.read ∙ c.in_default.ensures.is_open;
  cause = tt;
  later = later_than (g.T.TxBlocks.device c.args.tx.now) (g.T.TxBlocks.device c.loop-position.tx) (g.T.TxBlocks.device c.look.new.tx) c.loop-position.invariant.later c.in_default.ensures.later;
  passed = c.in_default.ensures.passed ∙ c.loop-position.invariant.passed;
}

pub returns-then-next-eq0-clause-inside : goal.returns-then-next-eq0-clause-inside
returns-then-next-eq0-clause-inside g c = grind (arith, spare_inside)

pub loop-position-preserved : goal.loop-position-preserved
loop-position-preserved g c =
    let state = g.T.TxBlocks.state in
    let linked = sym c.is_linked.ensures ∙ c.if-not-is_linked.false in
    let spare = spare_is c.args.key.now.area c.loop-position.spare c.loop-position.block (take (64 + 31 * c.cell_count.result) c.look.new.into) _ _ c.first_spare-spare.ensures c.unused_cell.ensures.value in
    let more = λ (e : word_at 0 (take (64 + 31 * c.cell_count.result) c.look.new.into) ≡ 0). c.if-next-eq0.false (c.word_at-next.ensures ∙ e) in
    record {
      here = rw (spare, c.word_at-next.ensures) (goes_on (walk c.args.key.now.area c.args.key.now.bytes.now c.args.with_value) c.args.key.now.area c.args.key.now.bytes.now c.args.key.now.bucket c.args.with_value (c.last_position-position-end.result + 1) c.loop-position.position c.loop-position.before c.loop-position.block c.loop-position.spare
          (state c.args.tx.now) (state c.loop-position.tx) c.look.new.into (record { here = c.loop-position.invariant.here; below = c.loop-position-test.true; bytes_are = c.in_default.ensures.bytes })
          (state c.look.new.tx) c.cell_count.result (g.met.T.TxBlocks.limits c.look.new.tx).count c.cell_count.ensures c.in_default.ensures.read linked (missing _ _ c.cell_with.ensures.value c.in_default-cell_with.not-Some) more);
      inside = rw c.word_at-next.ensures (next_inside c.args.key.now.area c.args.key.now.bucket c.loop-position.position (take (64 + 31 * c.cell_count.result) c.look.new.into) linked more);
      before = c.loop-position.invariant.inside;
      spare = spare_inside c.args.key.now.area c.loop-position.spare c.loop-position.block c.unused_cell.result c.first_spare-spare.result c.first_spare-spare.ensures c.loop-position.invariant.spare c.loop-position.invariant.inside c.unused_cell.ensures.below;
      reads = read_more (state c.args.tx.now) (state c.loop-position.tx) (state c.look.new.tx) _ c.loop-position.invariant.reads c.in_default.ensures.read refl;
      later = later_than (g.T.TxBlocks.device c.args.tx.now) (g.T.TxBlocks.device c.loop-position.tx) (g.T.TxBlocks.device c.look.new.tx) c.loop-position.invariant.later c.in_default.ensures.later;
      passed = c.in_default.ensures.passed ∙ c.loop-position.invariant.passed;
    }
