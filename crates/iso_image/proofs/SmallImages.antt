-- A small image and its changes: blocks of 64 bytes, 4 of them, a log of 256 bytes, serial.
use Rattle.iso_image.proofs.RefusalWords.{[], ◌∷◌, ◌++◌, map, take, replicate, codes, OpenError, Opened, opened, refusal}
use Rattle.std.specs.Prelude.{◌≡◌, ℕ, ◌+◌, List, Option, Some, length, drop, option_map}

-- as it is made
unfoldable pub blank : List ℕ
blank =
    codes "ISOTOPE1" ++ 0 ∷ 0 ∷ 0 ∷ 1 ∷ 0 ∷ 0 ∷ 0 ∷ 64 ∷ 0 ∷ 0 ∷ 0 ∷ 4 ∷ 0 ∷ 0 ∷ 1 ∷ 0 ∷ [] ++ replicate 39 0 ++ 1 ∷ []
    ++ 1 ∷ 1 ∷ replicate 13 0 ++ 1 ∷ [] ++ replicate 1072 0

-- the bytes with this piece at this place
abbrev pub with_piece : (at : ℕ) → List ℕ → List ℕ → List ℕ
with_piece at piece bytes = take at bytes ++ piece ++ drop (at + length piece) bytes

-- the bytes with this one at this place
abbrev pub with_byte : (at byte : ℕ) → List ℕ → List ℕ
with_byte at byte bytes = with_piece at (byte ∷ []) bytes

-- the record of commit 1, which writes ab cd at byte 5 of block 2
abbrev pub put_record : List ℕ
put_record =
    1 ∷ 1 ∷ 0 ∷ 0 ∷ 0 ∷ 0 ∷ 0 ∷ 1 ∷ 0 ∷ 0 ∷ 0 ∷ 10 ∷ 0 ∷ 0 ∷ 0 ∷ 0 ∷ 0 ∷ 0 ∷ 0 ∷ 1 ∷ 0 ∷ 0 ∷ 0 ∷ 2 ∷ 0 ∷ 5 ∷ 0 ∷ 2 ∷ 171 ∷ 205 ∷ []

-- the image that holds it
unfoldable pub one_commit : List ℕ
unfolding blank
one_commit = with_piece 352 put_record blank

-- what each of these images is refused for
abbrev pub AreRefused : List (List ℕ × Option OpenError) → Type 0
AreRefused rows = map (λ row. refusal row.0) rows ≡ map (λ row. row.1) rows

-- what is seen of the history that each of them opens to
abbrev pub OpenTo : {A : Type 0} → (Opened → A) → List (List ℕ × A) → Type 0
OpenTo see rows = map (λ row. option_map see (opened row.0)) rows ≡ map (λ row. Some row.1) rows
