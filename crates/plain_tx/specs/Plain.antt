-- What contracts see of a plain transaction.
use Rattle.std.{specs.Prelude.{◌≡◌, ℕ, ◌+◌, ◌*◌, ◌<◌, ◌≤◌, true, List, [], Some, length, map, take, drop}, specs.List.range_with_len, proofs.Common.{arith, ap, ◌∙◌, subst}, proofs.Math.Nat.mul-le-mul_right, proofs.lemmas.List.{length-take-le, length-drop}, proofs.lemmas.List.FromFn.{length-map-range_with_len, get_or-map-range_with_len}}
use Rattle.iso_model.specs.Array.{Array}
use Rattle.tx_blocks.specs.Tx.{Tx, IsTx, IsArrayOf}
use Rattle.plain_tx.specs.declared.plain_tx.PlainTx.{PlainTx}

-- the first `count` blocks of the bytes, with `size` bytes each
abbrev pub blocks_of : (size count : ℕ) → List ℕ → Array
blocks_of size count bytes = map (λ b. take size (drop (b * size) bytes)) (range_with_len 0 count)

abbrev pub state_of : PlainTx → Tx
state_of t = record { size = t.work.size; blocks = t.count; base = Some (blocks_of t.work.size t.count t.blocks.items); accesses = t.work.accesses; is_open = true }

within : (b count size : ℕ) → b < count → b * size + size ≤ count * size
within b count size inside =
    let more = mul-le-mul_right {m = b + 1} {n = count} size (omega arith) in omega arith

same_some : {X : Type 0} (x y : X) → Some x ≡ Some y → x ≡ y
same_some x y e = cc

pub plain_limits : (t : PlainTx) → IsTx (state_of t)
plain_limits t =
    let size = t.work.size in
    let count = length-map-range_with_len (λ b. take size (drop (b * size) t.blocks.items)) 0 t.count in
    record {
      least = t.least;
      most = t.most;
      few = t.small;
      base = λ A told. subst (IsArrayOf (state_of t)) (same_some (blocks_of size t.count t.blocks.items) A told) (record {
        blocks = count;
        bytes = λ b inside.
            ap length (get_or-map-range_with_len (λ b. take size (drop (b * size) t.blocks.items)) 0 t.count b b [] inside (omega arith))
            ∙ length-take-le size (drop (b * size) t.blocks.items) (omega (arith, length-drop (b * size) t.blocks.items, t.whole, within b t.count size inside));
      });
      count = t.few;
    }
