-- A block whose next number is written, and a block 0 of which one byte of the map is.
use Rattle.iso_hash.proofs.{Words.{◌≡◌, ◌∙◌, sym, ap, ℕ, ◌+◌, ◌<◌, ◌≤◌, true, false, List, [], ◌∷◌, length, arith, inr, or_left, Span, Area, merged, bytes_in, cell_count, keys_end, keys_mark, key_mark, next_mark, word_at, is_part, last_position, next_of, is_next, is_linked, chain_from, chain, AreLinked, all_at, kept_1, laid_all, piece_of, all_pass}, Chains.{chain_is, head_of}, Rewritten.linked_again}

-- the chain of a bucket is the list that is linked to its end
pub chain_of : (a : Area) (keys : ℕ → List ℕ) (b : ℕ) (blocks : List ℕ) → AreLinked a keys b 0 blocks (1 + b) 0 → length blocks ≤ last_position a + 1 → chain a keys b ≡ blocks
chain_of a keys b [] linked fits = absurd (omega arith)
chain_of a keys b (k ∷ rest) linked fits =
    ap (chain_from keys (last_position a + 1)) linked.0 ∙ chain_is a keys b 0 (last_position a + 1) k rest (1 + b) linked (omega arith)

-- a block whose next number is written
module _ (a : Area) (old bytes : List ℕ) (long : length bytes ≡ length old) where
  pub piece_far : (span : Span) → 4 ≤ span.off → bytes_in span (merged (next_mark ∷ []) 0 old bytes) ≡ bytes_in span old
  piece_far span past = kept_1 span next_mark old bytes (inr past)

  keys_piece : (span : Span) → 4 ≤ span.off → span.off + span.len ≤ keys_end a.size → bytes_in span (bytes_in (keys_mark a.size) (merged (next_mark ∷ []) 0 old bytes)) ≡ bytes_in span (bytes_in (keys_mark a.size) old)
  keys_piece span past fits = piece_of span (keys_end a.size) (merged (next_mark ∷ []) 0 old bytes) fits ∙ piece_far span past ∙ sym (piece_of span (keys_end a.size) old fits)

  pub key_far : (i : ℕ) → i < cell_count a.size → bytes_in (key_mark i) (bytes_in (keys_mark a.size) (merged (next_mark ∷ []) 0 old bytes)) ≡ bytes_in (key_mark i) (bytes_in (keys_mark a.size) old)
  key_far i below = keys_piece (key_mark i) (omega arith) (omega arith)

  pub next_here : next_of (bytes_in (keys_mark a.size) (merged (next_mark ∷ []) 0 old bytes)) ≡ word_at 0 bytes
  next_here = ap (Rattle.std.specs.Int.from_be_bytes Rattle.std.specs.Int.w32)
      (piece_of next_mark (keys_end a.size) (merged (next_mark ∷ []) 0 old bytes) (omega arith) ∙ laid_all next_mark (next_mark ∷ []) old bytes long (λ p has. or_left _ false has))

  -- it is as well linked, where the next number may be so
  pub relinked : (bucket position next : ℕ) → is_linked a bucket position (bytes_in (keys_mark a.size) old) ≡ true → word_at 0 bytes ≡ next → is_next a position next ≡ true
      → is_linked a bucket position (bytes_in (keys_mark a.size) (merged (next_mark ∷ []) 0 old bytes)) ≡ true
  relinked bucket position next linked is may =
      let x = bytes_in (keys_mark a.size) old in
      let y = bytes_in (keys_mark a.size) (merged (next_mark ∷ []) 0 old bytes) in
      let head = head_of a bucket position x linked in
      linked_again a bucket position x y linked (keys_piece (record { off = 4; len = 4 }) (omega arith) (omega arith)) (keys_piece (record { off = 8; len = 4 }) (omega arith) (omega arith)) (keys_piece (record { off = 12; len = 52 }) (omega arith) (omega arith))
      (ap (is_next a position) (next_here ∙ is) ∙ may)
      (all_pass (λ i. is_part 28 (bytes_in (key_mark i) y)) 0 (cell_count a.size) (λ j low high. ap (is_part 28) (key_far j (omega arith)) ∙ all_at (λ i. is_part 28 (bytes_in (key_mark i) x)) 0 (cell_count a.size) j head.parts low high))
