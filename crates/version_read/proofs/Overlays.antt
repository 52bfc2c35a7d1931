-- Bytes of an image put into a part of a block.
use Rattle.version_read.proofs.Words.{◌≡◌, ◌∙◌, ap, ℕ, ◌+◌, ◌-◌, ◌<◌, ◌≤◌, Bool, true, false, ◌&&◌, cond, nat_le, nat_lt, List, ◌++◌, length, take, drop, get_or, arith, length-take, length-drop, slice_range, leb-true, ltb-true, leb-false, ltb-false, get_or_append_left, get_or-append_right, get_or-take, get_or-drop}

-- the block with `len` bytes of the image from a place on, put at off
abbrev pub with_part : List ℕ → (place off len : ℕ) → List ℕ → List ℕ
with_part image place off len old = take off old ++ (slice_range image place (place + len) ++ drop len (drop off old))

module _ (image old : List ℕ) (place off len : ℕ) (fits : off + len ≤ length old) (inside : place + len ≤ length image) where
  front : length (take off old) ≡ off
  front = omega (arith, length-take off old)

  middle : length (slice_range image place (place + len)) ≡ len
  middle = omega (arith, length-take (place + len - place) (drop place image), length-drop place image)

  pub before : (p : ℕ) → p < off → get_or (with_part image place off len old) p 0 ≡ get_or old p 0
  before p lt = get_or_append_left (take off old) (slice_range image place (place + len) ++ drop len (drop off old)) 0 p (omega (arith, front)) ∙ get_or-take off old p 0 lt

  pub within : (p : ℕ) → off ≤ p → p < off + len → get_or (with_part image place off len old) p 0 ≡ get_or image (place + (p - off)) 0
  within p from to =
      get_or-append_right (take off old) (slice_range image place (place + len) ++ drop len (drop off old)) off p 0 front from
      ∙ get_or_append_left (slice_range image place (place + len)) (drop len (drop off old)) 0 (p - off) (omega (arith, middle))
      ∙ get_or-take (place + len - place) (drop place image) (p - off) 0 (omega arith)
      ∙ get_or-drop place image (p - off) 0

  pub behind : (p : ℕ) → off + len ≤ p → get_or (with_part image place off len old) p 0 ≡ get_or old p 0
  behind p from =
      let e : off + (len + (p - off - len)) ≡ p = omega arith in
      get_or-append_right (take off old) (slice_range image place (place + len) ++ drop len (drop off old)) off p 0 front (omega arith)
      ∙ get_or-append_right (slice_range image place (place + len)) (drop len (drop off old)) len (p - off) 0 middle (omega arith)
      ∙ get_or-drop len (drop off old) (p - off - len) 0
      ∙ get_or-drop off old (len + (p - off - len)) 0
      ∙ ap (λ (k : ℕ). get_or old k 0) e

  -- each byte is the image's or the old one
  pub part_at : (p : ℕ) (early late : Bool) → nat_le off p ≡ early → nat_lt p (off + len) ≡ late
      → get_or (with_part image place off len old) p 0 ≡ cond (early && late) (get_or image (place + (p - off)) 0) (get_or old p 0)
  part_at p true true early late = within p (leb-true off p early) (ltb-true p (off + len) late)
  part_at p true false early late = behind p (ltb-false p (off + len) late)
  part_at p false late early is = before p (leb-false off p early)
