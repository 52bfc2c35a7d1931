-- A file block that is laid number by number.
use Rattle.iso_fs.proofs.{Words.{◌≡◌, ◌∙◌, sym, refl, ap, ℕ, ◌+◌, ◌-◌, ◌*◌, ◌≤◌, List, [], ◌∷◌, ◌++◌, length, replicate, take, drop, arith, append_assoc, length-append, flat_map, range_with_len, map, w32, to_be_bytes, flat_map-append, append-nil, drop-drop, drop-replicate, drop_at, take_at, laid_at, file_block}, FileBlocks.length-numbers, Pieces.range_split}
use Rattle.iso_fs.specs.Grows.{AddsEntries}

module _ (n b : ℕ) (es : List ℕ) (k i : ℕ) (is : length es ≡ i) (fits : 64 + 4 * i + 4 ≤ n) where
  abbrev word : List ℕ
  word = to_be_bytes w32 k

  abbrev head : List ℕ
  head = (3 ∷ 0 ∷ 0 ∷ 0 ∷ to_be_bytes w32 b) ++ replicate 56 0

  abbrev numbers : List ℕ
  numbers = flat_map (to_be_bytes w32) es

  abbrev m : ℕ
  m = 64 + 4 * i

  abbrev z : ℕ
  z = n - 64 - 4 * length es

  abbrev block : List ℕ
  block = file_block n b es

  parts : block ≡ (head ++ numbers) ++ replicate z 0
  parts = sym (append_assoc (3 ∷ 0 ∷ 0 ∷ 0 ∷ to_be_bytes w32 b) (replicate 56 0) (numbers ++ replicate z 0)) ∙ sym (append_assoc head numbers (replicate z 0))

  long : length (head ++ numbers) ≡ m
  long = omega (arith, length-append head numbers, length-numbers es, is)

  first : take m block ≡ head ++ numbers
  first = ap (take m) parts ∙ take_at (head ++ numbers) (replicate z 0) m long

  rest : drop (m + 4) block ≡ replicate (z - 4) 0
  rest = sym (drop-drop 4 m block) ∙ ap (drop 4) (ap (drop m) parts ∙ drop_at (head ++ numbers) (replicate z 0) m long) ∙ drop-replicate 4 z 0

  all_numbers : flat_map (to_be_bytes w32) (es ++ k ∷ []) ≡ numbers ++ word
  all_numbers = flat_map-append (to_be_bytes w32) es (k ∷ []) ∙ ap (λ (w : List ℕ). numbers ++ w) (append-nil word)

  zeros : z - 4 ≡ n - 64 - 4 * length (es ++ k ∷ [])
  zeros = omega (arith, length-append es (k ∷ []), is, fits)

  new_parts : file_block n b (es ++ k ∷ []) ≡ (head ++ numbers) ++ (word ++ replicate (z - 4) 0)
  new_parts =
      sym (append_assoc (3 ∷ 0 ∷ 0 ∷ 0 ∷ to_be_bytes w32 b) (replicate 56 0) (flat_map (to_be_bytes w32) (es ++ k ∷ []) ++ replicate (n - 64 - 4 * length (es ++ k ∷ [])) 0))
      ∙ (λ j. head ++ (all_numbers j ++ replicate (sym zeros j) 0))
      ∙ ap (λ (xs : List ℕ). head ++ xs) (append_assoc numbers word (replicate (z - 4) 0))
      ∙ sym (append_assoc head numbers (word ++ replicate (z - 4) 0))

  pub laid_entry : laid_at (64 + 4 * i) (to_be_bytes w32 k) (file_block n b es) ≡ file_block n b (es ++ k ∷ [])
  laid_entry = (λ j. first j ++ (word ++ rest j)) ∙ sym new_parts

-- numbers that are added after others
pub adds_more : (before mid now news more all : List ℕ) (count at : ℕ) → at ≡ count + length news → length mid ≡ length before → all ≡ news ++ more
    → AddsEntries count before mid news → AddsEntries at mid now more → AddsEntries count before now all
adds_more before mid now news more all count at at_is same all_is first second = λ bytes es long is.
    let so = es ++ news in
    second bytes so (omega (arith, length-append es news, long, at_is)) (first bytes es long is ∙ ap (λ (n : ℕ). file_block n bytes so) (sym same))
    ∙ ap (λ (n : ℕ). file_block n bytes (so ++ more)) same
    ∙ ap (file_block (length before) bytes) (append_assoc es news more ∙ ap (λ (xs : List ℕ). es ++ xs) (sym all_is))

-- the size in an empty file block
pub laid_size : (n b : ℕ) → laid_at 4 (to_be_bytes w32 b) (file_block n 0 []) ≡ file_block n b []
laid_size n b = refl

pub one_more : (f : ℕ → ℕ) (i : ℕ) → map f (range_with_len 0 (i + 1)) ≡ map f (range_with_len 0 i) ++ f i ∷ []
one_more f i = range_split f 0 i 1 ∙ (let e : 0 + i ≡ i = omega arith in ap (λ (n : ℕ). map f (range_with_len 0 i) ++ f n ∷ []) e)
