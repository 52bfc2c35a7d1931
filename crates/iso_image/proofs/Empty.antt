-- The image on which nothing was committed.
use Rattle.iso_image.proofs.Words.{◌≡◌, ◌≤◌, ◌+◌, ◌-◌, ◌*◌, ℕ, zero, suc, List, [], ◌∷◌, ◌++◌, length, take, drop, replicate, get_or, Some, IsTrue, refl, sym, ◌∙◌, ap, arith, length-append, append_assoc, length-replicate, drop-replicate, take-replicate, get_or-replicate, take_at, drop_at, drop-drop, get_or-drop, Geometry, image_size, header_place, base_place, log_place, is_valid, IsLog, superblock, half_header, blocks_of, current_half, empty_history, limits, IsHeld, empty_image, half_of}

length-super : (g : Geometry) → length (superblock 1 g) ≡ 64
unfolding superblock
length-super g = refl

length-header : (generation base : ℕ) → length (half_header 1 1 generation base) ≡ 32
unfolding half_header
length-header generation base = refl

header_open : (rest : List ℕ) → get_or (half_header 1 1 1 0 ++ rest) 0 0 ≡ 1
unfolding half_header
header_open rest = refl

-- blocks of zeros
blocks_zero : (size n m : ℕ) → n * size ≤ m → blocks_of size n (replicate m 0) ≡ replicate n (replicate size 0)
blocks_zero size zero m fits = refl
blocks_zero size (suc n) m fits =
    let first : take size (replicate m 0) ≡ replicate size 0 = take-replicate size m 0 (omega arith) in
    let rest : blocks_of size n (drop size (replicate m 0)) ≡ replicate n (replicate size 0) =
    ap (blocks_of size n) (drop-replicate size m 0) ∙ blocks_zero size n (m - size) (omega arith) in
    λ i. first i ∷ rest i

module _ (g : Geometry) where
  front : empty_image g ≡ superblock 1 g ++ (half_header 1 1 1 0 ++ replicate (image_size g - 96) 0)
  front = append_assoc (superblock 1 g) (half_header 1 1 1 0) (replicate (image_size g - 96) 0)

  behind_super : drop 64 (empty_image g) ≡ half_header 1 1 1 0 ++ replicate (image_size g - 96) 0
  behind_super = ap (drop 64) front ∙ drop_at (superblock 1 g) (half_header 1 1 1 0 ++ replicate (image_size g - 96) 0) 64 (length-super g)

  behind_header : drop 96 (empty_image g) ≡ replicate (image_size g - 96) 0
  behind_header = sym (drop-drop 32 64 (empty_image g)) ∙ ap (drop 32) behind_super ∙ drop_at (half_header 1 1 1 0) (replicate (image_size g - 96) 0) 32 (length-header 1 0)

  behind : (k : ℕ) → drop (96 + k) (empty_image g) ≡ replicate (image_size g - 96 - k) 0
  behind k = sym (drop-drop k 96 (empty_image g)) ∙ ap (drop k) behind_header ∙ drop-replicate k (image_size g - 96) 0

  first_open : get_or (empty_image g) (header_place g 0) 0 ≡ 1
  first_open =
      let place : header_place g 0 ≡ 64 + 0 = omega arith in
      ap (λ (n : ℕ). get_or (empty_image g) n 0) place ∙ sym (get_or-drop 64 (empty_image g) 0 0) ∙ ap (λ (l : List ℕ). get_or l 0 0) behind_super ∙ header_open (replicate (image_size g - 96) 0)

  second_closed : get_or (empty_image g) (header_place g 1) 0 ≡ 0
  second_closed =
      let place : header_place g 1 ≡ 96 + (g.blocks * g.block + g.log) = omega arith in
      ap (λ (n : ℕ). get_or (empty_image g) n 0) place ∙ sym (get_or-drop 96 (empty_image g) (g.blocks * g.block + g.log) 0)
      ∙ ap (λ (l : List ℕ). get_or l (g.blocks * g.block + g.log) 0) behind_header
      ∙ get_or-replicate (image_size g - 96) (g.blocks * g.block + g.log) 0 0 (omega arith)

  first_half : current_half g (empty_image g) ≡ Some 0
  first_half = grind (arith, first_open, second_closed)

  empty_log : 64 ≤ g.log → IsLog g 1 [] (take g.log (drop (log_place g 0) (empty_image g)))
  empty_log some =
      let place : log_place g 0 ≡ 96 + g.blocks * g.block = omega arith in
      let more : g.log ≡ suc (g.log - 1) = omega arith in (
        0,
        replicate (g.log - 1) 0,
        (λ one. absurd (omega (arith, one))),
        ap (λ (n : ℕ). take g.log (drop n (empty_image g))) place ∙ ap (take g.log) (behind (g.blocks * g.block))
            ∙ take-replicate g.log (image_size g - 96 - g.blocks * g.block) 0 (omega arith) ∙ ap (λ (n : ℕ). replicate n 0) more,
      )

-- it holds the empty history
pub empty_held : (g : Geometry) → IsTrue (is_valid g) → g.form ≡ 1 → IsHeld g (half_of g 0 1 0 (empty_history g)) (empty_image g)
empty_held g valid form =
    let bounds = limits g valid in
    let place : header_place g 0 ≡ 64 = omega arith in
    let base : base_place g 0 ≡ 96 = omega arith in
    record {
      image = record {
        super = ap (take 64) (front g) ∙ take_at (superblock 1 g) (half_header 1 1 1 0 ++ replicate (image_size g - 96) 0) 64 (length-super g);
        valid = valid;
        size = omega (
          arith,
          ap length (front g),
          length-append (superblock 1 g) (half_header 1 1 1 0 ++ replicate (image_size g - 96) 0),
          length-append (half_header 1 1 1 0) (replicate (image_size g - 96) 0),
          length-super g,
          length-header 1 0,
          length-replicate {A = ℕ} (image_size g - 96) 0,
        );
        half = 0;
        current = first_half g;
        header = ap (λ (n : ℕ). take 32 (drop n (empty_image g))) place ∙ ap (take 32) (behind_super g) ∙ take_at (half_header 1 1 1 0) (replicate (image_size g - 96) 0) 32 (length-header 1 0)
            ∙ ap (λ (f : ℕ). half_header 1 f 1 0) (sym form);
        first = omega arith;
        generation_bound = omega arith;
        base_bound = omega arith;
        base = sym (ap (λ (n : ℕ). blocks_of g.block g.blocks (drop n (empty_image g))) base ∙ ap (blocks_of g.block g.blocks) (behind_header g)
            ∙ blocks_zero g.block g.blocks (image_size g - 96) (omega arith));
        told = [];
        each = tt;
        last = omega arith;
        commits = refl;
        log = empty_log g bounds.least_log;
      };
      at_is = refl;
      told_is = refl;
    }
