-- What a small image is refused for whose superblock or whose half is damaged, by computation.
use Rattle.iso_image.proofs.{RefusalWords.{[], ◌∷◌, take, replicate, half_of, super_of, refusal, NotIsotope, BadGeometry, WrongSize, NoHalf, Damaged, UnknownForm}, SmallImages.{AreRefused, blank, with_piece, with_byte}}
use Rattle.std.specs.Prelude.{None, Some, refl}

-- the superblock and the size
pub superblocks : AreRefused (
    -- As it is made it is not refused.
    (blank, None) ∷
    -- Another name.
    (with_byte 0 74 blank, Some NotIsotope) ∷
    -- The gate of the superblock is closed.
    (with_byte 63 2 blank, Some NotIsotope) ∷
    -- Fewer than 64 bytes, though they begin as an image.
    (take 63 blank, Some NotIsotope) ∷
    -- Zeros.
    (replicate 1152 0, Some NotIsotope) ∷
    -- Another version.
    (with_byte 11 2 blank, Some (BadGeometry 1)) ∷
    -- A block size of 65.
    (with_byte 15 65 blank, Some (BadGeometry 2)) ∷
    -- No blocks.
    (with_byte 19 0 blank, Some (BadGeometry 3)) ∷
    -- A log of 63 bytes.
    (with_piece 20 (0 ∷ 0 ∷ 0 ∷ 63 ∷ []) blank, Some (BadGeometry 4)) ∷
    -- Mode 2.
    (with_byte 24 2 blank, Some (BadGeometry 5)) ∷
    -- A byte of the superblock that is to be zero.
    (with_byte 36 1 blank, Some (BadGeometry 6)) ∷
    -- A region of a store in blocks of 64 bytes.
    (with_byte 31 3 blank, Some (BadGeometry 7)) ∷
    -- The first wrong field counts: the mode before the zero bytes.
    (with_byte 24 2 (with_byte 36 1 blank), Some (BadGeometry 5)) ∷
    -- The last byte is missing.
    (take 1151 blank, Some (WrongSize 1152 1151)) ∷
    -- The size comes after the geometry and before the halves.
    (take 1151 (with_byte 36 1 blank), Some (BadGeometry 6)) ∷
    (take 1151 (with_byte 64 0 blank), Some (WrongSize 1152 1151)) ∷
    [])
unfolding blank refusal super_of half_of
superblocks = refl

-- the halves, whose headers are tested before the records
pub halves : AreRefused (
    -- Both gates are closed.
    (with_byte 64 0 blank, Some NoHalf) ∷
    -- Form 3.
    (with_byte 65 3 blank, Some (UnknownForm 3)) ∷
    -- The second half is open and has the larger generation, but no form.
    (with_byte 608 1 (with_byte 623 2 blank), Some (UnknownForm 0)) ∷
    -- A byte of the header that is to be zero, in front of its numbers.
    (with_byte 66 1 blank, Some (Damaged 66 3)) ∷
    -- A byte of the header that is to be zero, after its numbers, comes before a generation that is too large.
    (with_byte 88 1 (with_byte 72 128 blank), Some (Damaged 88 3)) ∷
    -- The form comes before the zero bytes.
    (with_byte 65 3 (with_byte 66 1 blank), Some (UnknownForm 3)) ∷
    -- The generation is 2^63 + 1.
    (with_byte 72 128 blank, Some (Damaged 72 8)) ∷
    -- The base number is 2^63.
    (with_byte 80 128 blank, Some (Damaged 80 8)) ∷
    -- No gate is open: the form is not asked for.
    (with_byte 64 0 (with_byte 65 3 blank), Some NoHalf) ∷
    -- The generation comes before the base number.
    (with_byte 72 128 (with_byte 80 128 blank), Some (Damaged 72 8)) ∷
    -- The base number comes before the records.
    (with_byte 80 128 (with_byte 352 1 blank), Some (Damaged 80 8)) ∷
    [])
unfolding blank refusal super_of half_of
halves = refl
