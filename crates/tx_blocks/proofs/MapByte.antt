-- A byte of the map in the first block, and that block with one byte of the map written.
use Rattle.tx_blocks.proofs.{Words.{◌≡◌, ◌≢◌, ◌∙◌, sym, refl, ap, ℕ, ◌+◌, ◌/◌, ◌<◌, ◌≤◌, false, List, [], ◌∷◌, ◌++◌, length, get_or, take, drop, replicate, arith, inl, inr, cases_lt, or_left, get_or-take, get_or-drop, get_or_at, length-replicate, length-take-le, take_at, drop_at, Area, merged, bytes_in, block_with, bit_place, bit_mark, map_mark, map_bytes}, Frames.{kept_1, laid_all}}
pub use Rattle.store_model.proofs.Laying.{length-block_with}

-- the byte of the map that a call reads
pub map_byte : (a : Area) (first : List ℕ) (k : ℕ) → k < a.blocks → get_or (bytes_in (map_mark a.blocks) first) (bit_place k) 0 ≡ get_or first (bit_place k) 0
map_byte a first k below = get_or-take (64 + map_bytes a.blocks) first (bit_place k) 0 (omega arith)

-- the byte of a span of one
pub byte_of : (p : ℕ) (x y : List ℕ) → bytes_in (record { off = p; len = 1 }) x ≡ bytes_in (record { off = p; len = 1 }) y → get_or x p 0 ≡ get_or y p 0
byte_of p x y same =
    let one : (z : List ℕ) → get_or (bytes_in (record { off = p; len = 1 }) z) 0 0 ≡ get_or z p 0 =
    λ z. get_or-take 1 (drop p z) 0 0 (omega arith) ∙ get_or-drop p z 0 0 ∙ ap (λ (n : ℕ). get_or z n 0) (let e : p + 0 ≡ p = omega arith in e) in
    sym (one x) ∙ ap (λ (z : List ℕ). get_or z 0 0) same ∙ one y

pub in_block_with : (size at n : ℕ) (bytes : List ℕ) → length bytes ≡ n → at + length bytes ≤ size → bytes_in (record { off = at; len = n }) (block_with size at bytes) ≡ bytes
in_block_with size at n bytes is fits = let long = length-replicate {A = ℕ} size 0 in
    ap (take n) (drop_at (take at (replicate size 0)) (bytes ++ drop (at + length bytes) (replicate size 0)) at (length-take-le at (replicate size 0) (omega arith)))
    ∙ take_at bytes (drop (at + length bytes) (replicate size 0)) n is

-- block 0 with one byte of the map written
module _ (old : List ℕ) (n x : ℕ) (fits : bit_place n + 1 ≤ length old) where
  pub byte_here : get_or (merged (bit_mark n ∷ []) 0 old (block_with (length old) (bit_place n) (x ∷ []))) (bit_place n) 0 ≡ x
  byte_here =
      byte_of (bit_place n) (merged (bit_mark n ∷ []) 0 old (block_with (length old) (bit_place n) (x ∷ []))) (replicate (bit_place n) 0 ++ x ∷ [])
      (laid_all (bit_mark n) (bit_mark n ∷ []) old (block_with (length old) (bit_place n) (x ∷ [])) (length-block_with (length old) (bit_place n) (x ∷ []) fits) (λ p has. or_left _ false has)
      ∙ in_block_with (length old) (bit_place n) 1 (x ∷ []) refl fits
      ∙ sym (take_at (x ∷ []) [] 1 refl)
      ∙ sym (ap (take 1) (drop_at (replicate (bit_place n) 0) (x ∷ []) (bit_place n) (length-replicate {A = ℕ} (bit_place n) 0))))
      ∙ get_or_at (replicate (bit_place n) 0) x [] 0 (bit_place n) (length-replicate {A = ℕ} (bit_place n) 0)

  pub byte_far : (k : ℕ) → k / 8 ≢ n / 8 → get_or (merged (bit_mark n ∷ []) 0 old (block_with (length old) (bit_place n) (x ∷ []))) (bit_place k) 0 ≡ get_or old (bit_place k) 0
  byte_far k apart =
      byte_of (bit_place k) (merged (bit_mark n ∷ []) 0 old (block_with (length old) (bit_place n) (x ∷ []))) old
      (kept_1 (record { off = bit_place k; len = 1 }) (bit_mark n) old (block_with (length old) (bit_place n) (x ∷ [])) (elim (cases_lt (k / 8) (n / 8)) [ inl before ↦ inl (omega arith) | inr past ↦ inr (omega arith) ]))

  pub head_far : take 64 (merged (bit_mark n ∷ []) 0 old (block_with (length old) (bit_place n) (x ∷ []))) ≡ take 64 old
  head_far = kept_1 (record { off = 0; len = 64 }) (bit_mark n) old (block_with (length old) (bit_place n) (x ∷ [])) (inl (omega arith))
