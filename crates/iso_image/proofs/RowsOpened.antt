-- What small images open to, by computation.
use Rattle.iso_image.proofs.{RefusalWords.{[], ◌∷◌, ◌++◌, map, take, replicate, slice_index_or, Mode, Serial, Snapshot, put, last, half_of, super_of, fault_of, parts_fault, Opened, opened, recovered, refusal}, SmallImages.{OpenTo, blank, with_piece, with_byte, put_record, one_commit}}
use Rattle.std.specs.Prelude.{ℕ, List, drop, refl}

-- it is opened at the first generation to the empty history
abbrev fresh : Opened
fresh = record {
  geometry = record { block = 64; blocks = 4; log = 256; mode = Serial; hash = 0; tree = 0; form = 1 };
  generation = 1;
  history = record { first = 1; base = replicate 4 (replicate 64 0); commits = [] };
}

-- its last number, and bytes 4 to 7 of block 2
abbrev glance : Opened → List ℕ
glance image = last image.history ∷ take 4 (drop 4 (slice_index_or (recovered image) 2 []))

abbrev modes : Opened → List Mode
modes image = map (λ c. c.mode) image.history.commits

-- images of the empty history
pub fresh_images : OpenTo (λ image. image) (
    -- As it is made.
    (blank, fresh) ∷
    -- The gate of the record is closed: the log ends in front of it.
    (with_byte 352 7 one_commit, fresh) ∷
    -- What is after a closed gate is not tested: a record of two parts that touch.
    (with_piece 352 (7 ∷ 1 ∷ 0 ∷ 0 ∷ 0 ∷ 0 ∷ 0 ∷ 2 ∷ 0 ∷ 0 ∷ 0 ∷ 18 ∷ 0 ∷ 0 ∷ 0 ∷ 0 ∷ 0 ∷ 0 ∷ 0 ∷ 1 ∷ 0 ∷ 0 ∷ 0 ∷ 2 ∷ 0 ∷ 0 ∷ 0 ∷ 1 ∷ 170 ∷ 0 ∷ 0 ∷ 0 ∷ 1 ∷ 0 ∷ 0 ∷ 0 ∷ 1 ∷ 187 ∷ []) blank, fresh) ∷
    [])
unfolding blank one_commit refusal opened super_of half_of fault_of parts_fault put
fresh_images = refl

-- the last number and four bytes
pub images_with_commits : OpenTo glance (
    -- With one commit, which shows.
    (one_commit, 1 ∷ 0 ∷ 171 ∷ 205 ∷ 0 ∷ []) ∷
    -- A whole record after a closed one is not kept.
    (with_byte 352 0 (with_piece 382 put_record (with_byte 371 2 one_commit)), 0 ∷ 0 ∷ 0 ∷ 0 ∷ 0 ∷ []) ∷
    -- Two commits: the second writes 01 at byte 6 of block 2.
    (with_piece 382 (1 ∷ 1 ∷ 0 ∷ 0 ∷ 0 ∷ 0 ∷ 0 ∷ 1 ∷ 0 ∷ 0 ∷ 0 ∷ 9 ∷ 0 ∷ 0 ∷ 0 ∷ 0 ∷ 0 ∷ 0 ∷ 0 ∷ 2 ∷ 0 ∷ 0 ∷ 0 ∷ 2 ∷ 0 ∷ 6 ∷ 0 ∷ 1 ∷ 1 ∷ []) one_commit, 2 ∷ 0 ∷ 171 ∷ 1 ∷ 0 ∷ []) ∷
    -- A record of 255 bytes fills the log up to its last gate.
    (with_piece 352 (1 ∷ 1 ∷ 0 ∷ 0 ∷ 0 ∷ 0 ∷ 0 ∷ 4 ∷ 0 ∷ 0 ∷ 0 ∷ 235 ∷ 0 ∷ 0 ∷ 0 ∷ 0 ∷ 0 ∷ 0 ∷ 0 ∷ 1 ∷ 0 ∷ 0 ∷ 0 ∷ 0 ∷ 0 ∷ 0 ∷ 0 ∷ 64 ∷ replicate 64 17 ++ 0 ∷ 0 ∷ 0 ∷ 1 ∷ 0 ∷ 0 ∷ 0 ∷ 64 ∷ replicate 64 17 ++ 0 ∷ 0 ∷ 0 ∷ 2 ∷ 0 ∷ 0 ∷ 0 ∷ 64 ∷ replicate 64 17 ++ 0 ∷ 0 ∷ 0 ∷ 3 ∷ 0 ∷ 0 ∷ 0 ∷ 11 ∷ replicate 11 17) blank, 1 ∷ 17 ∷ 17 ∷ 17 ∷ 17 ∷ []) ∷
    -- The second half is open too and has commit 5 as its base: with the same generation the first half counts.
    (with_piece 608 (1 ∷ 1 ∷ 0 ∷ 0 ∷ 0 ∷ 0 ∷ 0 ∷ 0 ∷ 0 ∷ 0 ∷ 0 ∷ 0 ∷ 0 ∷ 0 ∷ 0 ∷ 1 ∷ 0 ∷ 0 ∷ 0 ∷ 0 ∷ 0 ∷ 0 ∷ 0 ∷ 5 ∷ []) one_commit, 1 ∷ 0 ∷ 171 ∷ 205 ∷ 0 ∷ []) ∷
    -- With a larger generation the second half counts.
    (with_piece 608 (1 ∷ 1 ∷ 0 ∷ 0 ∷ 0 ∷ 0 ∷ 0 ∷ 0 ∷ 0 ∷ 0 ∷ 0 ∷ 0 ∷ 0 ∷ 0 ∷ 0 ∷ 2 ∷ 0 ∷ 0 ∷ 0 ∷ 0 ∷ 0 ∷ 0 ∷ 0 ∷ 5 ∷ []) one_commit, 5 ∷ 0 ∷ 0 ∷ 0 ∷ 0 ∷ []) ∷
    -- Of a half that does not count nothing else is tested.
    (with_piece 608 (1 ∷ 7 ∷ 7 ∷ []) one_commit, 1 ∷ 0 ∷ 171 ∷ 205 ∷ 0 ∷ []) ∷
    -- The base number may be the last number.
    (with_piece 80 (127 ∷ 255 ∷ 255 ∷ 255 ∷ 255 ∷ 255 ∷ 255 ∷ 255 ∷ []) blank, 9223372036854775807 ∷ 0 ∷ 0 ∷ 0 ∷ 0 ∷ []) ∷
    [])
unfolding blank one_commit refusal opened super_of half_of fault_of parts_fault put
images_with_commits = refl

-- the modes of the commits
pub images_of_both_modes : OpenTo modes (
    -- In form 2 a record of kind 2 is a commit of the other mode, in a serial image a snapshot commit.
    (with_byte 65 2 (with_byte 353 2 one_commit), Snapshot ∷ []) ∷
    -- A record of kind 1 is a commit of the image's mode there too.
    (with_byte 65 2 one_commit, Serial ∷ []) ∷
    -- In a snapshot image it is the other way round.
    (with_byte 24 1 (with_byte 65 2 (with_byte 353 2 one_commit)), Serial ∷ []) ∷
    [])
unfolding blank one_commit refusal opened super_of half_of fault_of parts_fault put
images_of_both_modes = refl
