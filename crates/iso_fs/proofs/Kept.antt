-- A file whose blocks stay has the same bytes.
use Rattle.iso_fs.proofs.{Words.{◌≡◌, ◌∙◌, refl, ap, ℕ, zero, suc, ◌+◌, ◌/◌, ◌%◌, ◌<◌, List, ◌∷◌, get_or, map, Some, arith, range_with_len, Array, FileAreas, bytes_of, entry_at, Uses, content, file_at, file_byte, number_at}, Files.place_below}

pub same_bytes_by : (f g : ℕ → ℕ) (from n : ℕ) → ((p : ℕ) → p < from + n → f p ≡ g p) → map f (range_with_len from n) ≡ map g (range_with_len from n)
same_bytes_by f g from zero each = refl
same_bytes_by f g from (suc n) each = (λ i. each from (omega arith) i ∷ same_bytes_by f g (from + 1) n (λ p below. each p (omega arith)) i)

-- the name has its file on both arrays, and the blocks that the file uses on the first stay
module _ (a : FileAreas) (A C : Array) (name : List ℕ) (number : ℕ) (was : number_at a A name ≡ Some number) (is : number_at a C name ≡ Some number)
    (kept : (place block : ℕ) → Uses a A name place block → file_at a C block ≡ file_at a A block) where
  pub kept_file : file_at a C number ≡ file_at a A number
  kept_file = kept 0 number (record { number = number; named = was; inside = omega arith; is = refl })

  pub kept_uses : (place block : ℕ) → Uses a C name place block → Uses a A name place block
  kept_uses place block uses = grind (arith, kept_file) steps 100000

  pub still_uses : (place block : ℕ) → Uses a A name place block → Uses a C name place block
  still_uses place block uses = grind (arith, kept_file) steps 100000

  pub kept_content : 0 < a.files.size → content a C number ≡ content a A number
  kept_content some =
      ap (λ (f : List ℕ). map (file_byte a C f) (range_with_len 0 (bytes_of f))) kept_file
      ∙ same_bytes_by (file_byte a C (file_at a A number)) (file_byte a A (file_at a A number)) 0 (bytes_of (file_at a A number))
      (λ p below.
      let file = file_at a A number in
      let place = p / a.files.size in
      let inside = place_below a.files.size (bytes_of file) p some (omega arith) in
      ap (λ (block : List ℕ). get_or block (p % a.files.size) 0)
      (kept (suc place) (entry_at file place) (record { number = number; named = was; inside = omega arith; is = refl })))
