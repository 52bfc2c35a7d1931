use Rattle.iso_tree.proofs.{Words.{◌≡◌, ◌∙◌, ap, subst, IfOk, AreBytes, ℕ, ◌+◌, ◌-◌, List, take, arith, keys_end, count_of, node_bytes, row_from, spelled, upto_from}, Facts.node_parts, Filling.leaf_row_is}
use Rattle.iso_tree.proofs.leaf.leaf_with.Goals as goal

pub of-keys-requires : goal.of-keys-requires
of-keys-requires c =
    let parts = node_parts c.args.area.size 0 (take (keys_end c.args.area.size) c.args.old.now) c.requires.leaf.node in
    record { least = c.requires.area.least_size; long = c.requires.old; parts = parts.parts; few = parts.few }

pub invariant_of-growth : goal.invariant_of-growth
invariant_of-growth c =
    let parts = node_parts c.args.area.size 0 (take (keys_end c.args.area.size) c.args.old.now) c.requires.leaf.node in
    record {
      kind = c.requires.area;
      long = c.requires.old;
      parts = parts.parts;
      few = parts.few;
      inside = omega (arith, parts.few, c.upto-place.ensures.most, ap count_of c.of-keys.ensures.bytes);
    }

pub grown_node-requires-clause-place : goal.grown_node-requires-clause-place
grown_node-requires-clause-place c = omega (arith, c.upto-place.ensures.most, ap count_of c.of-keys.ensures.bytes, c.requires.leaf.count)

pub returns : goal.returns
returns c =
    let old = c.args.old.now in
    let size = c.args.area.size in
    let K = take (keys_end size) old in
    let new = spelled c.args.entry.now in
    let key = c.args.entry.now.key.now in
    let z : count_of K - 0 ≡ count_of K = omega arith in
    let place : c.upto-place.result ≡ upto_from key K 0 (count_of K) = c.upto-place.ensures.value ∙ ap (λ (k : List ℕ). upto_from key k 0 (count_of k - 0)) c.of-keys.ensures.bytes ∙ ap (upto_from key K 0) z in
    subst (λ (bytes : List ℕ). IfOk c.grown_node.result (λ v. AreBytes size v.items bytes))
    ((λ i. node_bytes size 0 (row_from size old (place i) new 0 (c.requires.leaf.count i + 1))) ∙ ap (node_bytes size 0) (leaf_row_is size old key new)) c.grown_node.ensures
