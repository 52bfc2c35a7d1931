-- What is in a new block of a bucket.
use Rattle.iso_hash.proofs.{Words.{◌≡◌, ◌≢◌, ◌⊎◌, ◌∙◌, sym, refl, ap, ℕ, ◌+◌, ◌*◌, ◌^◌, ◌<◌, ◌≤◌, true, false, ◌==◌, cond, List, length, replicate, arith, inl, inr, eq-eqb, w32, to_be_bytes, from_be_bytes, list_all, cases_eq, and_from, nat_tests, length-replicate, from_be_bytes-to_be_bytes_4, Span, Area, bytes_in, cell_count, keys_end, keys_mark, key_mark, value_mark, word_at, is_zero, is_part, key_part, value_part, laid_at, are_key_parts, next_of, is_next, is_linked, IsHashArea, with_cell, new_block, laid_here, length-laid_at, laid_kept, piece_of, piece_zero, zeros_are, zero_part, length-part, part_is_part, all_pass}, Puts.{length-with_cell, cell_key_part, cell_value_part, cells_fit}}

pub size_most : (a : Area) → IsHashArea a → a.size ≤ 4096
size_most a area = let valid = area.block_size in grind (arith, nat_tests)

module _ (a : Area) (bucket position : ℕ) (key value : List ℕ) (area : IsHashArea a) (bucket_fits : bucket < 2 ^ 32) (position_fits : position < 2 ^ 32) (key_short : length key ≤ 28) (short : length value ≤ 32) where
  zeros : List ℕ
  zeros = replicate a.size 0

  low : List ℕ
  low = laid_at 4 (to_be_bytes w32 bucket) zeros

  head : List ℕ
  head = laid_at 8 (to_be_bytes w32 position) low

  block : List ℕ
  block = new_block a.size bucket position key value

  length_zeros : length zeros ≡ a.size
  unfolding zeros
  length_zeros = length-replicate {A = ℕ} a.size 0

  length_low : length low ≡ a.size
  unfolding low
  length_low = length-laid_at 4 (to_be_bytes w32 bucket) zeros (omega (arith, length_zeros, area.least_size)) ∙ length_zeros

  length_head : length head ≡ a.size
  unfolding head
  length_head = length-laid_at 8 (to_be_bytes w32 position) low (omega (arith, length_low, area.least_size)) ∙ length_low

  first_cell : 0 < cell_count a.size
  first_cell = let least = area.least_size in omega arith

  block_is : block ≡ with_cell a.size 0 key value head
  unfolding block head low zeros
  block_is = refl

  pub length-new_block : length (new_block a.size bucket position key value) ≡ a.size
  unfolding head low zeros
  length-new_block = length-with_cell a.size 0 key value head length_head (omega arith) short (cells_fit a 0 area first_cell) first_cell

  key_end : 64 + 31 * 0 + length (key_part key) ≡ 95
  key_end = let long = length-part 30 key (omega arith) in omega arith

  -- the bytes of a span that neither part of the first cell meets
  past_cell : (span : Span) → (span.off + span.len ≤ 64) ⊎ (95 ≤ span.off) → (span.off + span.len ≤ keys_end a.size) ⊎ (keys_end a.size + 33 ≤ span.off) → bytes_in span block ≡ bytes_in span head
  past_cell span key_far value_far =
      let one = length-laid_at (64 + 31 * 0) (key_part key) head (omega (arith, length_head, key_end, area.least_size)) in
      let value_long = length-part 32 value short in
      let fits = cells_fit a 0 area first_cell in
      ap (bytes_in span) block_is
      ∙ laid_kept span (keys_end a.size + 33 * 0) (value_part value) (laid_at (64 + 31 * 0) (key_part key) head) (omega (arith, one, length_head, value_long, fits))
      (elim value_far [ inl before ↦ inl (omega arith) | inr past ↦ inr (omega (arith, value_long)) ])
      ∙ laid_kept span (64 + 31 * 0) (key_part key) head (omega (arith, length_head, key_end, area.least_size)) (elim key_far [ inl before ↦ inl (omega arith) | inr past ↦ inr (omega (arith, key_end)) ])

  -- and those of one that meets neither number of the head
  blank : (span : Span) → (span.off + span.len ≤ 4) ⊎ (12 ≤ span.off) → (span.off + span.len ≤ 64) ⊎ (95 ≤ span.off) → (span.off + span.len ≤ keys_end a.size) ⊎ (keys_end a.size + 33 ≤ span.off) → span.off + span.len ≤ a.size
      → bytes_in span block ≡ replicate span.len 0
  unfolding head low zeros
  blank span head_far key_far value_far fits =
      past_cell span key_far value_far
      ∙ laid_kept span 8 (to_be_bytes w32 position) low (omega (arith, length_low, area.least_size)) (elim head_far [ inl before ↦ inl (omega arith) | inr past ↦ inr (omega arith) ])
      ∙ laid_kept span 4 (to_be_bytes w32 bucket) zeros (omega (arith, length_zeros, area.least_size)) (elim head_far [ inl before ↦ inl (omega arith) | inr past ↦ inr (omega arith) ])
      ∙ piece_zero span a.size fits

  keys : List ℕ
  keys = bytes_in (keys_mark a.size) block

  in_keys : (span : Span) → span.off + span.len ≤ keys_end a.size → bytes_in span keys ≡ bytes_in span block
  unfolding keys
  in_keys span fits = piece_of span (keys_end a.size) block fits

  bucket_here : bytes_in (record { off = 4; len = 4 }) block ≡ to_be_bytes w32 bucket
  unfolding head low zeros
  bucket_here =
      past_cell (record { off = 4; len = 4 }) (inl (omega arith)) (inl (omega arith))
      ∙ laid_kept (record { off = 4; len = 4 }) 8 (to_be_bytes w32 position) low (omega (arith, length_low, area.least_size)) (inl (omega arith))
      ∙ laid_here 4 4 (to_be_bytes w32 bucket) zeros refl (omega (arith, length_zeros, area.least_size))

  position_here : bytes_in (record { off = 8; len = 4 }) block ≡ to_be_bytes w32 position
  unfolding head
  position_here =
      past_cell (record { off = 8; len = 4 }) (inl (omega arith)) (inl (omega arith))
      ∙ laid_here 8 4 (to_be_bytes w32 position) low refl (omega (arith, length_low, area.least_size))

  pub new_next : next_of (bytes_in (keys_mark a.size) (new_block a.size bucket position key value)) ≡ 0
  unfolding keys block
  new_next = ap (from_be_bytes w32) (in_keys (record { off = 0; len = 4 }) (omega arith) ∙ blank (record { off = 0; len = 4 }) (inl (omega arith)) (inl (omega arith)) (inl (omega arith)) (omega (arith, area.least_size)))

  other_key : (i : ℕ) → i < cell_count a.size → i ≢ 0 → bytes_in (key_mark i) keys ≡ replicate 31 0
  other_key i below other =
      in_keys (key_mark i) (omega arith) ∙ blank (key_mark i) (inr (omega arith)) (inr (omega arith)) (inl (omega arith)) (let least = area.least_size in omega arith)

  pub new_key_here : bytes_in (key_mark 0) (bytes_in (keys_mark a.size) (new_block a.size bucket position key value)) ≡ key_part key
  unfolding keys block head low zeros
  new_key_here = in_keys (key_mark 0) (omega (arith, first_cell)) ∙ cell_key_part a.size 0 key value head length_head (omega arith) short (cells_fit a 0 area first_cell) first_cell

  pub new_unused : (i : ℕ) → i < cell_count a.size → i ≢ 0 → bytes_in (key_mark i) (bytes_in (keys_mark a.size) (new_block a.size bucket position key value)) ≡ replicate 31 0
  unfolding keys block
  new_unused i below other = other_key i below other

  pub new_value_here : bytes_in (value_mark a.size 0) (new_block a.size bucket position key value) ≡ value_part value
  unfolding head low zeros
  new_value_here = cell_value_part a.size 0 key value head length_head (omega arith) short (cells_fit a 0 area first_cell) first_cell

  pub new_value_blank : (i : ℕ) → i < cell_count a.size → i ≢ 0 → bytes_in (value_mark a.size i) (new_block a.size bucket position key value) ≡ replicate 33 0
  unfolding block
  new_value_blank i below other =
      blank (value_mark a.size i) (inr (omega arith)) (inr (omega (arith, first_cell))) (inr (omega arith)) (cells_fit a i area below)

  pub new_linked : (position == 0) ≡ false → is_linked a bucket position (bytes_in (keys_mark a.size) (new_block a.size bucket position key value)) ≡ true
  unfolding is_linked keys block
  new_linked later =
      let b : (word_at 4 keys == cond (position == 0) 0 bucket) ≡ true =
      eq-eqb (word_at 4 keys) (cond (position == 0) 0 bucket) (ap (from_be_bytes w32) (in_keys (record { off = 4; len = 4 }) (omega arith) ∙ bucket_here) ∙ from_be_bytes-to_be_bytes_4 bucket bucket_fits ∙ sym (ap (λ t. cond t 0 bucket) later)) in
      let p : (word_at 8 keys == position) ≡ true = eq-eqb (word_at 8 keys) position (ap (from_be_bytes w32) (in_keys (record { off = 8; len = 4 }) (omega arith) ∙ position_here) ∙ from_be_bytes-to_be_bytes_4 position position_fits) in
      let z : list_all is_zero (bytes_in (record { off = 12; len = 52 }) keys) ≡ true =
      ap (list_all is_zero) (in_keys (record { off = 12; len = 52 }) (omega arith) ∙ blank (record { off = 12; len = 52 }) (inr (omega arith)) (inl (omega arith)) (inl (omega arith)) (omega (arith, area.least_size))) ∙ zeros_are 52 in
      let n : is_next a position (next_of keys) ≡ true = ap (is_next a position) new_next in
      let parts : are_key_parts a.size keys ≡ true = all_pass (λ i. is_part 28 (bytes_in (key_mark i) keys)) 0 (cell_count a.size) (λ j under over.
      elim (cases_eq j 0) [
        | inl here ↦ ap (λ (i : ℕ). is_part 28 (bytes_in (key_mark i) keys)) here ∙ ap (is_part 28) new_key_here ∙ part_is_part 30 28 key key_short
        | inr other ↦ ap (is_part 28) (other_key j (omega arith) other) ∙ zero_part 28 30
      ]) in
      and_from _ _ (and_from _ _ (and_from _ _ (and_from _ _ b p) z) n) parts
