use Rattle.iso_tree.proofs.{Words.{arith, ◌∷◌, List, Result, Ok, Err, OnOk, IfErr, StoreError, Tx, IsAt, left_of, HasScanned, ◌≡◌, ◌∙◌, ap, ◌-◌, ◌++◌, ℕ, length, map, take, bytes_in, pairs_with, parts_of, child_of, keys_of, values_mark, values_of}, Facts.node_parts, Rereading.{map_err, map_ok}, Scanning.{inner_step, leaf_step, step_memory, step_refused, unread_in}}
use Rattle.iso_tree.specs.{Visits.HasStepped, declared.key_range.KeyRange.KeyRange}
use Rattle.iso_tree.proofs.range.step.Goals as goal

-- a step that has gone well or not
stepped : (r : KeyRange) (nodes after : List (ℕ × ℕ)) (found more : List (List ℕ × List ℕ)) (t u : Tx) (result : Result (Unit {0}) StoreError) → OnOk result (IsAt (left_of r nodes found) (left_of r after more) t u)
    → IfErr result (λ e. HasScanned (left_of r nodes found) t u (Err e)) → HasStepped r nodes after found more t u result
stepped r nodes after found more t u (Ok done) run refused = run
stepped r nodes after found more t u (Err e) run refused = refused

pub returns-in-Err-clause-run : goal.returns-in-Err-clause-run
returns-in-Err-clause-run g c =
    let a = c.args.range.now.area in
    step_refused a c.args.range.now.from.now c.args.range.now.to.now c.args.node.0 c.args.node.1 c.args.unread.now c.args.range.now.max c.args.found.now c.requires.few (g.T.TxBlocks.state c.args.tx.now) (g.T.TxBlocks.state c.read_node.new.tx) c.in-Err.e c.in-Err.ensures.run

pub of-keys-requires : goal.of-keys-requires
of-keys-requires g c =
    let a = c.args.range.now.area in
    let parts = node_parts a.size c.args.node.0 (keys_of a c.read_node.new.buffer) c.in-Ok.ensures.visited.node in
    record { least = c.requires.block.within.area.least_size; long = c.read_node.auto.buffer ∙ c.requires.block.long; parts = parts.parts; few = parts.few }

pub returns-then-level-eq0-clause-run : goal.returns-then-level-eq0-clause-run
returns-then-level-eq0-clause-run g c =
    let state = g.T.TxBlocks.state in
    let a = c.args.range.now.area in
    let bytes = c.read_node.new.buffer in
    let keys_are : c.of-keys.result.bytes.now ≡ keys_of a bytes = c.of-keys.ensures.bytes in
    let values_are : c.values-values.result.now ≡ values_of a c.in-Ok.visit bytes = c.values-values.ensures.value ∙ ap (λ (n : ℕ). bytes_in (values_mark n c.in-Ok.visit.first c.in-Ok.visit.many) bytes) (c.read_node.auto.buffer ∙ c.requires.block.long) in
    stepped c.args.range.now (c.args.node ∷ c.args.unread.now) _ c.args.found.now _ (state c.args.tx.now) (state c.read_node.new.tx) c.add_pairs.result
    (map_ok c.add_pairs.result (λ added. leaf_step a c.args.range.now.from.now c.args.range.now.to.now c.args.node.0 c.args.node.1 c.args.unread.now c.args.range.now.max c.args.found.now c.requires.few (state c.args.tx.now) (state c.read_node.new.tx) bytes c.in-Ok.ensures.run c.in-Ok.visit c.in-Ok.ensures.visited c.if-level-eq0.true c.add_pairs.new.found
    (added ∙ (λ i. c.args.found.now ++ take (c.args.range.now.max - length c.args.found.now) (pairs_with (keys_are i) c.in-Ok.visit.first (parts_of (values_are i) c.in-Ok.visit.many))))) c.add_pairs.ensures.ok)
    (map_err c.add_pairs.result (λ e is. step_memory a c.args.range.now.from.now c.args.range.now.to.now c.args.node.0 c.args.node.1 c.args.unread.now c.args.range.now.max c.args.found.now c.requires.few (state c.args.tx.now) (state c.read_node.new.tx) c.read_node.new.buffer c.in-Ok.ensures.run e is) c.add_pairs.ensures.memory)

pub returns-clause-run : goal.returns-clause-run
returns-clause-run g c =
    let state = g.T.TxBlocks.state in
    let a = c.args.range.now.area in
    let bytes = c.read_node.new.buffer in
    let values_are : c.values-values.result.now ≡ values_of a c.in-Ok.visit bytes = c.values-values.ensures.value ∙ ap (λ (n : ℕ). bytes_in (values_mark n c.in-Ok.visit.first c.in-Ok.visit.many) bytes) (c.read_node.auto.buffer ∙ c.requires.block.long) in
    stepped c.args.range.now (c.args.node ∷ c.args.unread.now) _ c.args.found.now _ (state c.args.tx.now) (state c.read_node.new.tx) c.add_children.result
    (map_ok c.add_children.result (λ added. inner_step a c.args.range.now.from.now c.args.range.now.to.now c.args.node.0 c.args.node.1 c.args.unread.now c.args.range.now.max c.args.found.now c.requires.few (state c.args.tx.now) (state c.read_node.new.tx) bytes c.in-Ok.ensures.run c.in-Ok.visit c.in-Ok.ensures.visited c.if-level-eq0.false c.add_children.new.unread
    (added ∙ ap (λ v. map {B = ℕ × ℕ} (λ part. (c.args.node.0 - 1, child_of part)) (parts_of v c.in-Ok.visit.many) ++ c.args.unread.now) values_are)) c.add_children.ensures.ok)
    (map_err c.add_children.result (λ e is. step_memory a c.args.range.now.from.now c.args.range.now.to.now c.args.node.0 c.args.node.1 c.args.unread.now c.args.range.now.max c.args.found.now c.requires.few (state c.args.tx.now) (state c.read_node.new.tx) c.read_node.new.buffer c.in-Ok.ensures.run e is) c.add_children.ensures.memory)

pub returns-clause-nodes : goal.returns-clause-nodes
returns-clause-nodes g c = grind (arith, map_ok, unread_in)
