-- The first 64 bytes of a side: what they hold, its epoch, and which of two images counts.
use Rattle.std.specs.{Prelude.{◌≡◌, ℕ, ◌+◌, ◌≤◌, ◌==◌, List, [], ◌∷◌, ◌++◌, length, take, drop, replicate, cond, nat_lt, slice_index}, Int.{w64, from_be_bytes, to_be_bytes}}
use Rattle.commit_gate.specs.Gate.{IsOpen}

-- the number of eight bytes from a place on, the highest byte first
abbrev pub number_at : (at : ℕ) → List ℕ → ℕ
number_at at bytes = from_be_bytes w64 (take 8 (drop at bytes))

-- the epoch after the gate at this place, or 0 where it is closed
abbrev pub slot_epoch : (at : ℕ) → List ℕ → ℕ
slot_epoch at bytes = cond (slice_index bytes at == 1) (number_at (at + 8) bytes) 0

abbrev pub larger : ℕ → ℕ → ℕ
larger m n = cond (nat_lt m n) n m

-- the epoch of a side: the largest one after an open gate
abbrev pub epoch : List ℕ → ℕ
epoch bytes = larger (slot_epoch 16 bytes) (slot_epoch 32 bytes)

-- the bytes that a side mirrors
abbrev pub body : List ℕ → List ℕ
body bytes = drop 64 bytes

-- of the images of two sides, the mirrored bytes of the one with the larger epoch, and of the first one where both have the same
abbrev pub chosen : List ℕ → List ℕ → List ℕ
chosen first second = cond (nat_lt (epoch first) (epoch second)) (body second) (body first)

-- the word that a header begins with: ISOMIRR1
abbrev pub word : List ℕ
word = 73 ∷ 83 ∷ 79 ∷ 77 ∷ 73 ∷ 82 ∷ 82 ∷ 49 ∷ []

-- the largest epoch
abbrev pub last_epoch : ℕ
last_epoch = 9223372036854775807

-- what is after the gate of a slot
abbrev pub slot_body : ℕ → List ℕ
slot_body e = replicate 7 0 ++ to_be_bytes w64 e

-- A slot: where its gate is open, seven zeros and an epoch. Nothing is asked of one that is closed.
pub record IsSlot (at : ℕ) (image : List ℕ) : Type 0 where
  pub zeros : IsOpen at image → take 7 (drop (at + 1) image) ≡ replicate 7 0
  pub least : IsOpen at image → 1 ≤ number_at (at + 8) image
  pub most : IsOpen at image → number_at (at + 8) image ≤ last_epoch

-- the word of a header, and the zeros around its slots
pub record IsFramed (image : List ℕ) : Type 0 where
  pub begins : take 8 image ≡ word
  pub gap : take 8 (drop 8 image) ≡ replicate 8 0
  pub end : take 16 (drop 48 image) ≡ replicate 16 0

-- the image of a side of a mirror: its first 64 bytes are a header
pub record IsHeader (image : List ℕ) : Type 0 where
  pub size : 64 ≤ length image
  pub begins : take 8 image ≡ word
  pub gap : take 8 (drop 8 image) ≡ replicate 8 0
  pub first : IsSlot 16 image
  pub second : IsSlot 32 image
  pub end : take 16 (drop 48 image) ≡ replicate 16 0
  -- a slot is open
  pub has_epoch : 1 ≤ epoch image

-- the header of a blank side: epoch 1 in the first slot
abbrev pub blank_header : List ℕ
blank_header = word ++ replicate 8 0 ++ (1 ∷ replicate 14 0) ++ (1 ∷ replicate 32 0)
