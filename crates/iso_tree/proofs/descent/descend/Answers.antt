use Rattle.iso_tree.proofs.{Words.{◌≡◌, refl, suc, OnOk, ◌+◌, ◌-◌, [], arith, later_than, later_same, read_none, read_join, at_start, descend}, Descending.{step_on, step_refused, leaf_any}}
use Rattle.iso_tree.proofs.descent.descend.Goals as goal

pub returns-in-Err-clause-run : goal.returns-in-Err-clause-run
returns-in-Err-clause-run g c =
    let state = g.T.TxBlocks.state in
    let left : c.args.root.level - c.loop-passed.passed ≡ suc (c.args.root.level - (c.loop-passed.passed + 1)) = omega (arith, c.loop-passed-test.true) in
    step_refused c.args.root.area c.args.key.now c.args.with_value (descend c.args.root.area c.args.key.now c.args.with_value c.args.root.level c.args.root.block []) (c.args.root.level - (c.loop-passed.passed + 1)) c.loop-passed.block c.loop-passed.path
    (state c.args.tx.now) (state c.loop-passed.tx) (state c.enter.new.tx) (c.args.root.level - c.loop-passed.passed) c.loop-passed.path c.enter.new.buffer c.args.root.block c.args.root.level c.in-Err.e refl left c.loop-passed.invariant.here c.in-Err.ensures.reads.known c.in-Err.ensures.run

pub loop-passed-preserved : goal.loop-passed-preserved
loop-passed-preserved g c = grind (arith, step_on, read_join, later_than)

pub returns-clause-run : goal.returns-clause-run
returns-clause-run g c =
    let state = g.T.TxBlocks.state in
    leaf_any c.args.root.area c.args.key.now c.args.with_value (descend c.args.root.area c.args.key.now c.args.with_value c.args.root.level c.args.root.block []) c.loop-passed.block c.loop-passed.path (state c.args.tx.now) (state c.loop-passed.tx) (state c.read_leaf.new.tx)
    c.args.root.block c.args.root.level (c.args.root.level - c.loop-passed.passed) refl (omega (arith, c.loop-passed-test.false)) c.loop-passed.invariant.here c.read_leaf.new.buffer c.read_leaf.result c.read_leaf.ensures.block c.read_leaf.ensures.reads.known c.read_leaf.ensures.run

pub loop-passed-init : goal.loop-passed-init
loop-passed-init g c = grind (arith, at_start, read_none, later_same) steps 100000

ok_so : {X E P : Type 0} (r : Rattle.std.proofs.Common.Result X E) → P → OnOk r P
ok_so r h = grind arith

pub returns-clause-path : goal.returns-clause-path
returns-clause-path g c = ok_so c.read_leaf.result (record { inside = c.loop-passed.invariant.path_in; long = omega (arith, c.loop-passed.invariant.long, c.loop-passed-test.false, c.loop-passed.auto.passed-end) })
