use Rattle.iso_tree.proofs.{Words.{◌∙◌, refl, sym, subst, ◌-◌, ℕ, List, [], ◌∷◌, Err, inl, length, arith, Program, Scanned, read_join, IsAt, at_join, at_start, later_than, left_of, read_none}, Descending.{reads_after, reads_ended, reads_refused}, Scanning.{at_next, scanned_from, walk_full}, range.walk.Goals.In-Some}
use Rattle.iso_tree.proofs.range.walk.Goals as goal

-- the next node is before the others, whether its step is refused or not
module _ (g : Rattle.iso_tree.proofs.range.walk.Given.Over) (c : In-Some g) where
  abbrev whole : Program Scanned
  whole = left_of c.args.range.now c.args.unread.now []

  abbrev next : Program Scanned
  next = left_of c.args.range.now (c.in-Some.node ∷ c.pop.new.self) c.loop-alloc.found

  here : IsAt whole next (g.T.TxBlocks.state c.args.tx.now) (g.T.TxBlocks.state c.loop-alloc.tx)
  here = grind (arith, at_next) steps 100000

pub returns-in-Err : goal.returns-in-Err
returns-in-Err g c =
    let s = (goal.at.returns-in-Err g c).In-Some in
    record {
      run = scanned_from (whole g s) (next g s) (g.T.TxBlocks.state c.args.tx.now) (g.T.TxBlocks.state c.loop-alloc.tx) (g.T.TxBlocks.state c.step.new.tx) (Err c.in-Err.e) (here g s) c.in-Err.ensures.run;
      reads = reads_refused _ _ _ _ _ (reads_after _ _ _ _ _ _ (Err c.in-Err.e) c.loop-alloc.invariant.reads c.loop-alloc.invariant.later c.loop-alloc.invariant.passed c.in-Err.ensures.reads);
    }

pub loop-alloc-init : goal.loop-alloc-init
loop-alloc-init g c =
    let t = g.T.TxBlocks.state c.args.tx.now in
    let whole = left_of c.args.range.now c.args.unread.now [] in
    record {
      here = subst (λ (found : List (List ℕ × List ℕ)). IsAt whole (left_of c.args.range.now c.args.unread.now found) t t) (sym c.empty-found.ensures) (at_start whole t);
      nodes = c.requires.nodes;
      reads = read_none t;
      later = record { faults = omega arith; down = λ d. d };
      passed = refl;
    }

pub loop-alloc-preserved : goal.loop-alloc-preserved
loop-alloc-preserved g c =
    let state = g.T.TxBlocks.state in
    let s = (goal.at.loop-alloc-preserved g c).In-Some in
    record {
      here = at_join (whole g s) (next g s) (left_of c.args.range.now c.step.new.unread c.step.new.found) (state c.args.tx.now) (state c.loop-alloc.tx) (state c.step.new.tx) (here g s) c.in_default-step.ensures.run;
      nodes = c.in_default-step.ensures.nodes;
      reads = read_join (state c.args.tx.now) (state c.loop-alloc.tx) (state c.step.new.tx) c.loop-alloc.invariant.reads c.in_default-step.ensures.reads.reads;
      later = later_than (g.T.TxBlocks.device c.args.tx.now) (g.T.TxBlocks.device c.loop-alloc.tx) (g.T.TxBlocks.device c.step.new.tx) c.loop-alloc.invariant.later c.in_default-step.ensures.reads.later;
      passed = c.in_default-step.ensures.reads.passed ∙ c.loop-alloc.invariant.passed;
    }

pub returns : goal.returns
returns g c =
    let state = g.T.TxBlocks.state in
    let r = c.args.range.now in
    record {
      run = inl (walk_full r.area r.from.now r.to.now (left_of r c.args.unread.now []) (state c.args.tx.now) (state c.loop-alloc.tx) c.loop-alloc.unread (r.max - length c.loop-alloc.found) c.loop-alloc.found c.loop-alloc.invariant.here (omega (arith, c.loop-alloc-test.false)));
      reads = reads_ended _ _ _ _ _ c.loop-alloc.invariant.reads c.loop-alloc.invariant.later c.loop-alloc.invariant.passed c.requires.buffer.is_open;
    }
