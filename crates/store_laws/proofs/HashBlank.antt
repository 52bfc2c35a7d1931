-- A region of zeros is a well-formed hash region, and its map is empty.
use Rattle.store_laws.proofs.{Words.{IsBlank, ◌≡◌, ◌∙◌, sym, refl, ap, subst, ℕ, zero, suc, ◌+◌, ◌<◌, ◌≤◌, true, false, ◌==◌, List, [], ◌∷◌, ◌++◌, length, get_or, take, replicate, arith, inl, inr, flat_map, list_all, range_with_len, from_be_bytes, w32, empty, from_entries, and_from, both_ways, length-replicate, take-replicate, Area, Array, are_key_parts, cell_count, is_part, is_unused, is_zero, key_mark, keys_end, keys_mark, value_mark, word_at, map_bit, AreLinked, IsHashArea, IsHashRegion, IsIn, IsOverflow, Stands, bucket_pairs, buckets, chain, hash_map, is_linked, last_position, next_of, pairs_from, view_of, block_at, bytes_in, all_pass, piece_zero}, Zeros.no_bit_in_zeros}

no_pairs : (keys : List ℕ) (value : ℕ → List ℕ) (i n : ℕ) → ((j : ℕ) → i ≤ j → j < i + n → is_unused keys j ≡ true) → pairs_from keys value i n ≡ []
no_pairs keys value i zero unused = refl
no_pairs keys value i (suc n) unused =
    let here = unused i (omega arith) (omega arith) in
    rw here (no_pairs keys value (i + 1) n (λ j low high. unused j (omega arith) (omega arith)))

none_over : {X : Type 0} (f : ℕ → List X) (from n : ℕ) → ((k : ℕ) → k < from + n → f k ≡ []) → flat_map f (range_with_len from n) ≡ []
none_over f from zero none = refl
none_over f from (suc n) none =
    ap (λ first. first ++ flat_map f (range_with_len (from + 1) n)) (none from (omega arith)) ∙ none_over f (from + 1) n (λ k below. none k (omega arith))

module _ (a : Area) (A : Array) (area : IsHashArea a) (blank : IsBlank a A) where
  keys_fit : keys_end a.size ≤ a.size
  keys_fit = let least = area.least_size in omega arith

  first_in : 0 < a.blocks
  first_in = let least = area.least in omega arith

  blank_first : block_at A a.start ≡ replicate a.size 0
  blank_first = let e : a.start + 0 ≡ a.start = omega arith in ap (block_at A) (sym e) ∙ blank 0 first_in

  blank_keys : (k : ℕ) → k < a.blocks → (view_of a A).keys k ≡ replicate (keys_end a.size) 0
  blank_keys k below = ap (bytes_in (keys_mark a.size)) (blank k below) ∙ piece_zero (keys_mark a.size) a.size (let fits = keys_fit in omega arith)

  blank_value : (k i : ℕ) → k < a.blocks → i < cell_count a.size → (view_of a A).value k i ≡ replicate 33 0
  blank_value k i below cell = ap (bytes_in (value_mark a.size i)) (blank k below) ∙ piece_zero (value_mark a.size i) a.size (let least = area.least_size in omega arith)

  key_zeros : (i : ℕ) → i < cell_count a.size → bytes_in (key_mark i) (replicate (keys_end a.size) 0) ≡ replicate 31 0
  key_zeros i cell = piece_zero (key_mark i) (keys_end a.size) (omega arith)

  word_zero : (at : ℕ) → at + 4 ≤ 64 → word_at at (replicate (keys_end a.size) 0) ≡ 0
  word_zero at low = ap (from_be_bytes w32) (piece_zero (record { off = at; len = 4 }) (keys_end a.size) (omega arith))

  unused : (i : ℕ) → i < cell_count a.size → is_unused (replicate (keys_end a.size) 0) i ≡ true
  unused i cell = ap (λ (part : List ℕ). get_or part 0 0 == 0) (key_zeros i cell)

  parts : are_key_parts a.size (replicate (keys_end a.size) 0) ≡ true
  parts = all_pass (λ i. is_part 28 (bytes_in (key_mark i) (replicate (keys_end a.size) 0))) 0 (cell_count a.size) (λ j low high. ap (is_part 28) (key_zeros j (omega arith)))

  linked_zeros : (b : ℕ) → is_linked a b 0 (replicate (keys_end a.size) 0) ≡ true
  unfolding is_linked
  linked_zeros b =
      let four = word_zero 4 (omega arith) in
      let eight = word_zero 8 (omega arith) in
      let next = word_zero 0 (omega arith) in
      let rest : list_all is_zero (bytes_in (record { off = 12; len = 52 }) (replicate (keys_end a.size) 0)) ≡ true = ap (list_all is_zero) (piece_zero (record { off = 12; len = 52 }) (keys_end a.size) (omega arith)) in
      and_from _ _ (and_from _ _ (and_from _ _ (and_from _ _ (ap (λ (n : ℕ). n == 0) four) (ap (λ (n : ℕ). n == 0) eight)) rest) (ap (λ (n : ℕ). Rattle.store_model.specs.HashRegion.is_next a 0 n) next)) parts

  next_zero : (k : ℕ) → k < a.blocks → next_of ((view_of a A).keys k) ≡ 0
  next_zero k below = ap next_of (blank_keys k below) ∙ word_zero 0 (omega arith)

  bucket_in : (b : ℕ) → b < buckets a → 1 + b < a.blocks
  bucket_in b below = let least = area.least in omega arith

  one_block : (b : ℕ) → b < buckets a → chain a (view_of a A).keys b ≡ (1 + b) ∷ []
  one_block b below =
      let e : last_position a + 1 ≡ suc (last_position a) = omega arith in
      grind (arith, next_zero, bucket_in)

  is_bucket : (b k : ℕ) → b < buckets a → IsIn k (chain a (view_of a A).keys b) → k ≡ 1 + b
  is_bucket b k below has = elim (subst (IsIn k) (one_block b below) has) [ inl e ↦ sym e | inr none ↦ absurd none ]

  in_region : (b k : ℕ) → b < buckets a → IsIn k (chain a (view_of a A).keys b) → k < a.blocks
  in_region b k below has = let e = is_bucket b k below has in let inside = bucket_in b below in omega arith

  none_stands : (b k i : ℕ) → Stands a (view_of a A).keys b k i → ⊥
  none_stands b k i stands =
      both_ways (is_unused ((view_of a A).keys k) i) stands.used
      (ap (λ (keys : List ℕ). is_unused keys i) (blank_keys k (in_region b k stands.bucket_is stands.block_is)) ∙ unused i stands.cell_is)

  linked : (b : ℕ) → b < buckets a → AreLinked a (view_of a A).keys b 0 (chain a (view_of a A).keys b) (1 + b) 0
  linked b below = grind (arith, one_block, blank_keys, bucket_in, linked_zeros, next_zero) steps 100000

  no_bit : (k : ℕ) → map_bit (view_of a A).first k ≡ false
  no_bit k = ap (λ (first : List ℕ). map_bit first k) blank_first ∙ no_bit_in_zeros a.size k

  no_overflow : (k : ℕ) → IsOverflow a (view_of a A).keys k → ⊥
  no_overflow k is = let e = is_bucket is.bucket k is.below is.linked in let past = is.past in let below = is.below in omega arith

  pub blank_region : IsHashRegion a A
  blank_region = record {
    shape = λ k below. ap length (blank k below) ∙ length-replicate {A = ℕ} a.size 0;
    keyed = record {
      linked = linked;
      bits = λ k below. (λ set. absurd (both_ways (map_bit (view_of a A).first k) (no_bit k) set), λ is. absurd (no_overflow k is));
      head = ap (λ (first : List ℕ). list_all is_zero (take 64 first)) blank_first ∙ ap (list_all is_zero) (take-replicate 64 a.size 0 (let least = area.least_size in omega arith));
      in_bucket = λ b k i stands. absurd (none_stands b k i stands);
      apart = λ b k i c l j one two e. absurd (none_stands b k i one);
    };
    values = λ b k i below has cell.
        let value = blank_value k i (in_region b k below has) cell in
        (ap (is_part 32) value, λ free. ap (list_all is_zero) value);
  }

  no_bucket_pairs : (b : ℕ) → b < buckets a → bucket_pairs a (view_of a A).keys (view_of a A).value b ≡ []
  no_bucket_pairs b below =
      ap (flat_map (λ k. pairs_from ((view_of a A).keys k) ((view_of a A).value k) 0 (cell_count a.size))) (one_block b below)
      ∙ ap (λ xs. xs ++ []) (ap (λ (keys : List ℕ). pairs_from keys ((view_of a A).value (1 + b)) 0 (cell_count a.size)) (blank_keys (1 + b) (bucket_in b below))
      ∙ no_pairs (replicate (keys_end a.size) 0) ((view_of a A).value (1 + b)) 0 (cell_count a.size) (λ j low high. unused j (omega arith)))

  pub blank_map : hash_map a A ≡ empty
  unfolding hash_map
  blank_map = ap from_entries (none_over (bucket_pairs a (view_of a A).keys (view_of a A).value) 0 (buckets a) (λ b below. no_bucket_pairs b (omega arith)))
