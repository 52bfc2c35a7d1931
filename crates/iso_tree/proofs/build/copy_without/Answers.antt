use Rattle.iso_tree.proofs.{Words.{◌≡◌, ◌∙◌, sym, refl, ap, ◌+◌, ◌*◌, ◌<◌, ◌≤◌, ℕ, List, not, cond, [], ◌∷◌, ◌++◌, length, take, drop, arith, bytes_eq, cell_count, keys_end, key_at, value_mark, bytes_in, count_of, node_bytes}, Building.{copied, copied_more, copied_long, copied_fit}, Facts.node_parts, Fits.key_short}

pub piece-part-requires : Rattle.iso_tree.proofs.build.copy_without.Goals.piece-part-requires
piece-part-requires c =
    let old = c.args.old.now in
    let keys = take (keys_end (length old)) old in
    let parts = node_parts (length old) 0 keys c.requires.node in
    omega (arith, c.requires.size.block.whole, parts.few, c.loop-cell-test.true, c.count_of-cell-end.ensures, ap count_of c.of-keys.ensures.bytes, c.cell_count.ensures)

pub of-keys-requires : Rattle.iso_tree.proofs.build.copy_without.Goals.of-keys-requires
of-keys-requires c =
    let old = c.args.old.now in
    let parts = node_parts (length old) 0 (take (keys_end (length old)) old) c.requires.node in
    record { least = c.requires.size.least; long = refl; parts = parts.parts; few = parts.few }

pub add_other-kept-requires-clause-cell : Rattle.iso_tree.proofs.build.copy_without.Goals.add_other-kept-requires-clause-cell
add_other-kept-requires-clause-cell c =
    let old = c.args.old.now in
    let keys = take (keys_end (length old)) old in
    let keys_is : c.of-keys.result.bytes.now ≡ keys = c.of-keys.ensures.bytes in
    let parts = node_parts (length old) 0 keys c.requires.node in
    let inside : c.loop-cell.cell < cell_count (length old) = omega (arith, parts.few, c.loop-cell-test.true, c.count_of-cell-end.ensures, ap count_of keys_is) in
    record { key = omega (arith, (key_short (length old) keys c.loop-cell.cell parts.parts inside), ap length (c.key_of.ensures ∙ ap (λ (k : List ℕ). key_at k c.loop-cell.cell) keys_is)); long = c.piece-part.ensures.length }

pub loop-cell-preserved : Rattle.iso_tree.proofs.build.copy_without.Goals.loop-cell-preserved
loop-cell-preserved c =
    let old = c.args.old.now in
    let size = length old in
    let key = c.args.key.now in
    let cell = c.loop-cell.cell in
    let keys = take (keys_end (length old)) old in
    let keys_is : c.of-keys.result.bytes.now ≡ keys = c.of-keys.ensures.bytes in
    let inside : cell ≤ count_of keys = omega (arith, c.loop-cell-test.true, c.count_of-cell-end.ensures, ap count_of keys_is) in
    let same : c.key_of.result.now ≡ key_at keys cell = c.key_of.ensures ∙ ap (λ (k : List ℕ). key_at k cell) keys_is in
    let part : c.piece-part.result.now ≡ bytes_in (value_mark size cell) old = c.piece-part.ensures.value ∙ ap (λ (n : ℕ). take 33 (drop (64 + 31 * n + 33 * cell) old)) c.cell_count.ensures in
    let cs = copied key size old cell in
    let fit = copied_fit key size old cell c.requires.size.block refl c.requires.node inside in
    record {
      bytes = c.add_other-kept.ensures.added size 0 cs c.loop-cell.invariant.bytes (sym c.loop-cell.invariant.count) fit (c.loop-cell.auto.into ∙ c.empty_node.auto.into ∙ c.requires.into)
          ∙ (λ i. node_bytes size 0 (cs ++ cond (not (bytes_eq (same i) key)) ((same i, part i) ∷ []) []))
          ∙ ap (node_bytes size 0) (sym (copied_more key size old cell));
      count = c.add_other-kept.ensures.count.value ∙ (λ i. c.loop-cell.invariant.count i + cond (not (bytes_eq (same i) key)) 1 0) ∙ sym (copied_long key size old cell);
      few = omega (arith, c.add_other-kept.ensures.count.most, c.loop-cell.invariant.few);
    }
