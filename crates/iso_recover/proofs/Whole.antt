-- An image by its parts: a front, a base of zeros, records and zeros after them.
use Rattle.iso_recover.proofs.Words.{◌≡◌, ◌<◌, ◌≤◌, ◌+◌, ◌-◌, ◌*◌, ◌==◌, ℕ, zero, suc, List, [], ◌∷◌, ◌++◌, length, take, drop, replicate, get_or, true, false, Some, IsTrue, refl, sym, ◌∙◌, ap, arith, subst, length-append, append_assoc, eq-eqb, AllByRecursion, length-replicate, drop-replicate, take-replicate, get_or-replicate, replicate-append-replicate, take_at, drop_at, take-append-le, drop-append-le, drop-drop, get_or-drop, Geometry, LAST, zeros, base_place, header_place, image_size, is_valid, log_place, IsRecord, Written, blocks_of, chosen_half, current_half, generation_at, half_header, is_open_at, records, superblock, empty_history, limits, HasLog, IsHeld, has_log, new_image, whole_image}
use Rattle.iso_image.specs.Half.{half_of}

pub length-super : (g : Geometry) → length (superblock 1 g) ≡ 64
unfolding superblock
length-super g = refl

pub super_open : (g : Geometry) → get_or (superblock 1 g) 63 0 ≡ 1
unfolding superblock
super_open g = refl

pub length-header : (form generation base : ℕ) → length (half_header 1 form generation base) ≡ 32
unfolding half_header
length-header form generation base = refl

header_open : (form generation base : ℕ) (rest : List ℕ) → get_or (half_header 1 form generation base ++ rest) 0 0 ≡ 1
unfolding half_header
header_open form generation base rest = refl

-- blocks of zeros
blocks_zero : (size n m : ℕ) (rest : List ℕ) → n * size ≤ m → blocks_of size n (replicate m 0 ++ rest) ≡ replicate n (replicate size 0)
blocks_zero size zero m rest fits = refl
blocks_zero size (suc n) m rest fits =
    let long : length (replicate m 0) ≡ m = length-replicate {A = ℕ} m 0 in
    let first : take size (replicate m 0 ++ rest) ≡ replicate size 0 = take-append-le size (replicate m 0) rest (omega (arith, long)) ∙ take-replicate size m 0 (omega arith) in
    let behind : drop size (replicate m 0 ++ rest) ≡ replicate (m - size) 0 ++ rest =
    drop-append-le size (replicate m 0) rest (omega (arith, long)) ∙ ap (λ (l : List ℕ). l ++ rest) (drop-replicate size m 0) in
    let others : blocks_of size n (drop size (replicate m 0 ++ rest)) ≡ replicate n (replicate size 0) =
    ap (blocks_of size n) behind ∙ blocks_zero size n (m - size) rest (omega arith) in
    λ i. first i ∷ others i

module _ (g : Geometry) (generation base : ℕ) (told : List Written) (room : length (records g (base + 1) told) + 1 ≤ g.log) where
  -- how many zeros stand after the records
  abbrev free : ℕ
  free = image_size g - 96 - g.blocks * g.block - length (records g (base + 1) told)

  abbrev in_log : List ℕ
  in_log = records g (base + 1) told ++ replicate (image_size g - 96 - g.blocks * g.block - length (records g (base + 1) told)) 0

  abbrev in_half : List ℕ
  in_half = replicate (g.blocks * g.block) 0 ++ (records g (base + 1) told ++ replicate (image_size g - 96 - g.blocks * g.block - length (records g (base + 1) told)) 0)

  behind_super : drop 64 (whole_image g generation base told) ≡ half_header 1 g.form generation base ++ in_half
  behind_super = drop_at (superblock 1 g) (half_header 1 g.form generation base ++ in_half) 64 (length-super g)

  behind_header : drop 96 (whole_image g generation base told) ≡ in_half
  behind_header = sym (drop-drop 32 64 (whole_image g generation base told)) ∙ ap (drop 32) behind_super ∙ drop_at (half_header 1 g.form generation base) in_half 32 (length-header g.form generation base)

  behind_base : drop (96 + g.blocks * g.block) (whole_image g generation base told) ≡ in_log
  behind_base =
      sym (drop-drop (g.blocks * g.block) 96 (whole_image g generation base told)) ∙ ap (drop (g.blocks * g.block)) behind_header
      ∙ drop_at (replicate (g.blocks * g.block) 0) in_log (g.blocks * g.block) (length-replicate {A = ℕ} (g.blocks * g.block) 0)

  -- the bytes after the records are zeros
  zero_at : (k : ℕ) → k < free → get_or (whole_image g generation base told) (96 + g.blocks * g.block + (length (records g (base + 1) told) + k)) 0 ≡ 0
  zero_at k inside =
      sym (get_or-drop (96 + g.blocks * g.block) (whole_image g generation base told) (length (records g (base + 1) told) + k) 0)
      ∙ ap (λ (l : List ℕ). get_or l (length (records g (base + 1) told) + k) 0) behind_base
      ∙ sym (get_or-drop (length (records g (base + 1) told)) in_log k 0)
      ∙ ap (λ (l : List ℕ). get_or l k 0) (drop_at (records g (base + 1) told) (replicate free 0) (length (records g (base + 1) told)) refl)
      ∙ get_or-replicate free k 0 0 inside

  first_open : get_or (whole_image g generation base told) (header_place g 0) 0 ≡ 1
  first_open =
      let place : header_place g 0 ≡ 64 + 0 = omega arith in
      ap (λ (n : ℕ). get_or (whole_image g generation base told) n 0) place ∙ sym (get_or-drop 64 (whole_image g generation base told) 0 0)
      ∙ ap (λ (l : List ℕ). get_or l 0 0) behind_super ∙ header_open g.form generation base in_half

  second_closed : get_or (whole_image g generation base told) (header_place g 1) 0 ≡ 0
  second_closed =
      let place : header_place g 1 ≡ 96 + g.blocks * g.block + (length (records g (base + 1) told) + (g.log - length (records g (base + 1) told))) = omega (arith, room) in
      ap (λ (n : ℕ). get_or (whole_image g generation base told) n 0) place ∙ zero_at (g.log - length (records g (base + 1) told)) (omega (arith, room))

  first_half : current_half g (whole_image g generation base told) ≡ Some 0
  first_half =
      let one : is_open_at (whole_image g generation base told) (header_place g 0) ≡ true = eq-eqb _ 1 first_open in
      let two : is_open_at (whole_image g generation base told) (header_place g 1) ≡ false = ap (λ (b : ℕ). b == 1) second_closed in
      λ i. chosen_half (one i) (generation_at (whole_image g generation base told) (header_place g 0)) (two i) (generation_at (whole_image g generation base told) (header_place g 1))

  size_is : length (whole_image g generation base told) ≡ image_size g
  size_is = omega (
    arith,
    room,
    length-append (superblock 1 g) (half_header 1 g.form generation base ++ in_half),
    length-append (half_header 1 g.form generation base) in_half,
    length-append (replicate (g.blocks * g.block) 0) in_log,
    length-append (records g (base + 1) told) (replicate free 0),
    length-super g,
    length-header g.form generation base,
    length-replicate {A = ℕ} (g.blocks * g.block) 0,
    length-replicate {A = ℕ} free 0,
  )

  has_records : HasLog (log_place g 0) g.log g (base + 1) told (whole_image g generation base told)
  has_records =
      let place : log_place g 0 ≡ 96 + g.blocks * g.block = omega arith in
      let front : take (length (records g (base + 1) told)) (drop (log_place g 0) (whole_image g generation base told)) ≡ records g (base + 1) told =
      ap (λ (n : ℕ). take (length (records g (base + 1) told)) (drop n (whole_image g generation base told))) place ∙ ap (take (length (records g (base + 1) told))) behind_base
      ∙ take_at (records g (base + 1) told) (replicate free 0) (length (records g (base + 1) told)) refl in
      let there : log_place g 0 + length (records g (base + 1) told) ≡ 96 + g.blocks * g.block + (length (records g (base + 1) told) + 0) = omega arith in
      let gate : get_or (whole_image g generation base told) (log_place g 0 + length (records g (base + 1) told)) 0 ≡ 0 =
      ap (λ (n : ℕ). get_or (whole_image g generation base told) n 0) there ∙ zero_at 0 (omega (arith, room)) in
      has_log (log_place g 0) g.log g (base + 1) told (whole_image g generation base told) (omega (arith, size_is)) (omega (arith, room)) front (λ one. absurd (omega (arith, gate, one)))

  -- it holds the records over a base of zeros
  pub whole_held : IsTrue (is_valid g) → generation ≤ LAST → base + length told ≤ LAST → AllByRecursion (IsRecord g) told
      → IsHeld g (record { at = 0; generation = generation; base = base; array = zeros g.block g.blocks; told = told }) (whole_image g generation base told)
  whole_held valid few numbers each =
      let place : header_place g 0 ≡ 64 = omega arith in
      let base_at : base_place g 0 ≡ 96 = omega arith in
      let number : base ≡ base + 1 - 1 = omega arith in
      record {
        image = record {
          super = take_at (superblock 1 g) (half_header 1 g.form generation base ++ in_half) 64 (length-super g);
          valid = valid;
          size = size_is;
          half = 0;
          current = first_half;
          header = ap (λ (n : ℕ). take 32 (drop n (whole_image g generation base told))) place ∙ ap (take 32) behind_super
              ∙ take_at (half_header 1 g.form generation base) in_half 32 (length-header g.form generation base) ∙ ap (half_header 1 g.form generation) number;
          first = omega arith;
          generation_bound = few;
          base_bound = omega (arith, numbers);
          base = sym (ap (λ (n : ℕ). blocks_of g.block g.blocks (drop n (whole_image g generation base told))) base_at ∙ ap (blocks_of g.block g.blocks) behind_header
              ∙ blocks_zero g.block g.blocks (g.blocks * g.block) in_log (omega arith));
          told = told;
          each = each;
          last = omega (arith, numbers);
          commits = refl;
          log = has_records;
        };
        at_is = refl;
        told_is = refl;
      }

-- a new image is that without records
pub new_is_whole : (g : Geometry) → 1 ≤ g.log → new_image g ≡ whole_image g 1 0 []
new_is_whole g some =
    let sum : g.blocks * g.block + (image_size g - 96 - g.blocks * g.block - 0) ≡ image_size g - 96 = omega arith in
    let rest : replicate (image_size g - 96) 0 ≡ replicate (g.blocks * g.block) 0 ++ replicate (image_size g - 96 - g.blocks * g.block - 0) 0 =
    sym (replicate-append-replicate (g.blocks * g.block) (image_size g - 96 - g.blocks * g.block - 0) 0 ∙ ap (λ (n : ℕ). replicate n 0) sum) in
    append_assoc (superblock 1 g) (half_header 1 g.form 1 0) (replicate (image_size g - 96) 0)
    ∙ ap (λ (l : List ℕ). superblock 1 g ++ (half_header 1 g.form 1 0 ++ l)) rest

pub new_held : (g : Geometry) → IsTrue (is_valid g) → IsHeld g (half_of g 0 1 0 (empty_history g)) (new_image g)
new_held g valid =
    let least : 64 ≤ g.log = (limits g valid).least_log in
    subst (IsHeld g (half_of g 0 1 0 (empty_history g))) (sym (new_is_whole g (omega arith)))
    (whole_held g 1 0 [] (omega arith) valid (omega arith) (omega arith) tt)
