-- An image whose bytes change in the log of its current half alone.
use Rattle.iso_image.proofs.Words.{◌≡◌, ◌⊎◌, inl, inr, ◌≤◌, ◌+◌, ◌-◌, ◌*◌, ◌==◌, ℕ, zero, suc, List, ◌∷◌, length, take, drop, get_or, Bool, true, false, cond, Some, refl, sym, ◌∙◌, ap, arith, subst, nat_lt, AllByRecursion, from_be_bytes, w64, drop-drop, Geometry, LAST, image_size, header_place, base_place, log_place, History, IsImage, IsRecord, Written, blocks_of, chosen_half, current_half, generation_at, half_header, is_open_at, Torn, slice-torn, get_or-torn, take-torn, Half, IsHeld, HasLog, history_of, InLog}

-- a half that is chosen is the first or the second one
chosen_one : (a : Bool) (m : ℕ) (b : Bool) (n half : ℕ) → chosen_half a m b n ≡ Some half → half ≤ 1
chosen_one true m true n half chosen = one (nat_lt m n) chosen
  where
    one : (t : Bool) → Some (cond t 1 0) ≡ Some half → half ≤ 1
    one true e = at_most 1 e (omega arith)
      where
        at_most : (k : ℕ) → Some k ≡ Some half → k ≤ 1 → half ≤ 1
        at_most k e le = let same : k ≡ half = cc in omega (arith, same)
    one false e = let same : 0 ≡ half = cc in omega (arith, same)
chosen_one true m false n half chosen = let same : 0 ≡ half = cc in omega (arith, same)
chosen_one false m true n half chosen = let same : 1 ≡ half = cc in omega (arith, same)
chosen_one false m false n half chosen = absurd cc

-- the half of an image
pub image_half : (bytes : List ℕ) (g : Geometry) (generation : ℕ) (H : History) → (image : IsImage bytes g generation H) → image.half ≤ 1
image_half bytes g generation H image = chosen_one _ _ _ _ image.half image.current

pub held_half : (g : Geometry) (x : Half) (bytes : List ℕ) → IsHeld g x bytes → x.at ≤ 1
held_half g x bytes has = omega (arith, has.at_is, image_half bytes g x.generation (history_of g x) has.image)

-- blocks from the same bytes
pub blocks_same : (size n : ℕ) (xs ys : List ℕ) → ((i len : ℕ) → i + len ≤ n * size → take len (drop i xs) ≡ take len (drop i ys)) → blocks_of size n xs ≡ blocks_of size n ys
blocks_same size zero xs ys same = refl
blocks_same size (suc n) xs ys same =
    let first : take size xs ≡ take size ys = same 0 size (omega arith) in
    let rest : blocks_of size n (drop size xs) ≡ blocks_of size n (drop size ys) = blocks_same size n (drop size xs) (drop size ys) (λ i len fits.
    ap (take len) (drop-drop i size xs) ∙ same (size + i) len (omega arith) ∙ ap (take len) (sym (drop-drop i size ys))) in
    λ i. first i ∷ rest i

-- no header lies in the log of a half
outside : (g : Geometry) (half k at n : ℕ) → half ≤ 1 → k ≤ 1 → log_place g half ≤ at → at + n ≤ log_place g half + g.log → (header_place g k + 32 ≤ at) ⊎ (at + n ≤ header_place g k)
outside g zero zero at n half_le k_le from to = inl (omega arith)
outside g zero (suc zero) at n half_le k_le from to = inr (omega arith)
outside g (suc zero) zero at n half_le k_le from to = inl (omega arith)
outside g (suc zero) (suc zero) at n half_le k_le from to = inl (omega arith)
outside g zero (suc (suc k)) at n half_le k_le from to = absurd (omega arith)
outside g (suc zero) (suc (suc k)) at n half_le k_le from to = absurd (omega arith)
outside g (suc (suc half)) k at n half_le k_le from to = absurd (omega arith)

module _ (g : Geometry) (half at n : ℕ) (half_le : half ≤ 1) (from : log_place g half ≤ at) (to : at + n ≤ log_place g half + g.log) {old new : List ℕ} (torn : Torn at n old new) where
  -- a slice of a header
  header_slice : (k i len : ℕ) → k ≤ 1 → i + len ≤ 32 → take len (drop (header_place g k + i) new) ≡ take len (drop (header_place g k + i) old)
  header_slice k i len k_le short = slice-torn torn (header_place g k + i) len (elim (outside g half k at n half_le k_le from to) [ inl below ↦ inl (omega arith) | inr behind ↦ inr (omega arith) ])

  -- the gate of a header
  header_gate : (k : ℕ) → k ≤ 1 → get_or new (header_place g k) 0 ≡ get_or old (header_place g k) 0
  header_gate k k_le = get_or-torn torn (header_place g k) 0 (elim (outside g half k at n half_le k_le from to) [ inl below ↦ inl (omega arith) | inr behind ↦ inr (omega arith) ])

  same_half : current_half g new ≡ current_half g old
  same_half =
      let open0 : is_open_at new (header_place g 0) ≡ is_open_at old (header_place g 0) = ap (λ (b : ℕ). b == 1) (header_gate 0 (omega arith)) in
      let open1 : is_open_at new (header_place g 1) ≡ is_open_at old (header_place g 1) = ap (λ (b : ℕ). b == 1) (header_gate 1 (omega arith)) in
      let gen0 : generation_at new (header_place g 0) ≡ generation_at old (header_place g 0) = ap (from_be_bytes w64) (header_slice 0 8 8 (omega arith) (omega arith)) in
      let gen1 : generation_at new (header_place g 1) ≡ generation_at old (header_place g 1) = ap (from_be_bytes w64) (header_slice 1 8 8 (omega arith) (omega arith)) in
      λ i. chosen_half (open0 i) (gen0 i) (open1 i) (gen1 i)

  same_super : take 64 new ≡ take 64 old
  same_super = take-torn torn 64 (omega arith)

  same_header : take 32 (drop (header_place g half) new) ≡ take 32 (drop (header_place g half) old)
  same_header = slice-torn torn (header_place g half) 32 (inl (omega arith))

  same_base : blocks_of g.block g.blocks (drop (base_place g half) new) ≡ blocks_of g.block g.blocks (drop (base_place g half) old)
  same_base = blocks_same g.block g.blocks (drop (base_place g half) new) (drop (base_place g half) old) (λ i len fits.
      ap (take len) (drop-drop i (base_place g half) new)
      ∙ slice-torn torn (base_place g half + i) len (inl (omega arith))
      ∙ ap (take len) (sym (drop-drop i (base_place g half) old)))

-- the log of a half lies in the image
pub log_inside : (g : Geometry) (half : ℕ) → half ≤ 1 → log_place g half + g.log ≤ image_size g
log_inside g half le = grind arith

-- The image holds what its log tells now.
pub frame : (g : Geometry) (x : Half) (old new : List ℕ) → IsHeld g x old → InLog g x.at old new
    → (told : List Written) → AllByRecursion (IsRecord g) told → x.base + length told ≤ LAST → HasLog (log_place g x.at) g.log g (x.base + 1) told new
    → IsHeld g (record x { told = told }) new
frame g x old new has change told each last log =
    let half : ℕ = x.at in
    let half_le : half ≤ 1 = held_half g x old has in
    let is : has.image.half ≡ half = has.at_is in
    let at = change.from in
    let n = change.count in
    let from = change.starts in
    let to = change.ends in
    let torn = change.torn in
    record {
      image = record {
        super = same_super g half at n half_le from to torn ∙ has.image.super;
        valid = has.image.valid;
        size = torn.size ∙ has.image.size;
        half = half;
        current = same_half g half at n half_le from to torn ∙ has.image.current ∙ ap Some is;
        header = same_header g half at n half_le from to torn ∙ subst (λ (k : ℕ). take 32 (drop (header_place g k) old) ≡ half_header 1 g.form x.generation (x.base + 1 - 1)) is has.image.header;
        first = has.image.first;
        generation_bound = has.image.generation_bound;
        base_bound = has.image.base_bound;
        base = subst (λ (k : ℕ). x.array ≡ blocks_of g.block g.blocks (drop (base_place g k) old)) is has.image.base ∙ sym (same_base g half at n half_le from to torn);
        told = told;
        each = each;
        last = omega (arith, last);
        commits = refl;
        log = log;
      };
      at_is = refl;
      told_is = refl;
    }
