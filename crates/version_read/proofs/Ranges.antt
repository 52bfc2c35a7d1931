-- A range of a block that is right is that of the whole block.
use Rattle.version_read.proofs.Words.{◌≡◌, ◌∙◌, sym, ap, ℕ, ◌+◌, ◌-◌, ◌<◌, ◌≤◌, List, length, map, take, drop, get_or, unwrap_or, arith, range_with_len, ext_get_or, get_or-drop, get_or-take, get_or-map-range_with_len, length-drop, length-map-range_with_len, length-take-le, take_all, Version, byte_in, IsOver, IsOverIn}

-- a byte of a range
pub at_range : (off len : ℕ) (xs : List ℕ) (p : ℕ) → off ≤ p → p < off + len → get_or (take len (drop off xs)) (p - off) 0 ≡ get_or xs p 0
at_range off len xs p from to =
    let there : off + (p - off) ≡ p = omega (arith, from) in
    get_or-take len (drop off xs) (p - off) 0 (omega (arith, from, to)) ∙ get_or-drop off xs (p - off) 0 ∙ ap (λ (k : ℕ). get_or xs k 0) there

-- ranges with the same bytes
pub same_range : (off len : ℕ) (xs ys : List ℕ) → off + len ≤ length xs → off + len ≤ length ys → ((p : ℕ) → off ≤ p → p < off + len → get_or xs p 0 ≡ get_or ys p 0) → take len (drop off xs) ≡ take len (drop off ys)
same_range off len xs ys within inside same =
    let long : (zs : List ℕ) → off + len ≤ length zs → length (take len (drop off zs)) ≡ len = λ zs fits. length-take-le len (drop off zs) (omega (arith, length-drop off zs, fits)) in
    ext_get_or 0 (take len (drop off xs)) (take len (drop off ys)) (long xs within ∙ sym (long ys inside)) (λ i lt.
    let to : off + i < off + len = omega (arith, lt, long xs within) in
    let there : off + i - off ≡ i = omega arith in
    ap (λ (k : ℕ). get_or (take len (drop off xs)) k 0) (sym there) ∙ at_range off len xs (off + i) (omega arith) to ∙ same (off + i) (omega arith) to
    ∙ sym (at_range off len ys (off + i) (omega arith) to) ∙ ap (λ (k : ℕ). get_or (take len (drop off ys)) k 0) there)

-- all bytes
pub whole_range : (n : ℕ) (xs ys : List ℕ) → length xs ≡ n → length ys ≡ n → take n (drop 0 xs) ≡ take n (drop 0 ys) → xs ≡ ys
whole_range n xs ys long wide same = sym (take_all n xs (omega (arith, long))) ∙ same ∙ take_all n ys (omega (arith, wide))

-- the block of `size` bytes that the versions show
abbrev pub whole_block : (image : List ℕ) → (base size : ℕ) → List Version → List ℕ
whole_block image base size versions = map (λ p. unwrap_or (byte_in image versions p) (get_or image (base + p) 0)) (range_with_len 0 size)

module _ (image : List ℕ) (base size : ℕ) (versions : List Version) where
  pub length-whole_block : length (whole_block image base size versions) ≡ size
  length-whole_block = length-map-range_with_len (λ p. unwrap_or (byte_in image versions p) (get_or image (base + p) 0)) 0 size

  whole_at : (p : ℕ) → p < size → get_or (whole_block image base size versions) p 0 ≡ unwrap_or (byte_in image versions p) (get_or image (base + p) 0)
  whole_at p below = get_or-map-range_with_len (λ q. unwrap_or (byte_in image versions q) (get_or image (base + q) 0)) 0 size p p 0 below (omega arith)

  pub whole_is_over : IsOver image base versions (whole_block image base size versions)
  whole_is_over p below = whole_at p (omega (arith, below, length-whole_block))

  -- a block that has its bytes from one place up to another
  pub range_is_over : (off len : ℕ) (block : List ℕ) → off + len ≤ size → off + len ≤ length block → IsOverIn off (off + len) image base versions block → take len (drop off block) ≡ take len (drop off (whole_block image base size versions))
  range_is_over off len block within inside over = grind (arith, same_range, length-whole_block, whole_at)
