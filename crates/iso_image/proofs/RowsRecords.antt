-- What a small image is refused for whose log is damaged, by computation.
use Rattle.iso_image.proofs.{RefusalWords.{[], ◌∷◌, ◌++◌, replicate, half_of, super_of, fault_of, parts_fault, refusal, Damaged}, SmallImages.{AreRefused, blank, with_piece, with_byte, put_record, one_commit}}
use Rattle.std.specs.Prelude.{Some, refl}

-- the records of a log
pub logs : AreRefused (
    -- A gate is open, and zeros follow it.
    (with_byte 352 1 blank, Some (Damaged 353 2)) ∷
    -- Kind 2 in form 1.
    (with_byte 353 2 one_commit, Some (Damaged 353 2)) ∷
    -- Kind 3 in form 2.
    (with_byte 65 2 (with_byte 353 3 one_commit), Some (Damaged 353 2)) ∷
    -- A byte of the record that is to be zero.
    (with_byte 354 1 one_commit, Some (Damaged 354 3)) ∷
    -- No parts.
    (with_byte 359 0 one_commit, Some (Damaged 356 4)) ∷
    -- The body is longer than the log.
    (with_byte 363 255 one_commit, Some (Damaged 360 1)) ∷
    -- The record ends with the log, so that no gate follows it.
    (with_byte 363 236 one_commit, Some (Damaged 360 1)) ∷
    -- With a body one byte shorter the gate is the last byte, and bytes are left after the part.
    (with_byte 363 235 one_commit, Some (Damaged 382 7)) ∷
    -- One byte of the body after the part.
    (with_byte 363 11 one_commit, Some (Damaged 382 7)) ∷
    -- Commit 2 as the first one.
    (with_byte 371 2 one_commit, Some (Damaged 364 8)) ∷
    -- A part of block 4 of 4.
    (with_byte 375 4 one_commit, Some (Damaged 372 6)) ∷
    -- Two parts that touch.
    (with_piece 352 (1 ∷ 1 ∷ 0 ∷ 0 ∷ 0 ∷ 0 ∷ 0 ∷ 2 ∷ 0 ∷ 0 ∷ 0 ∷ 18 ∷ 0 ∷ 0 ∷ 0 ∷ 0 ∷ 0 ∷ 0 ∷ 0 ∷ 1 ∷ 0 ∷ 0 ∷ 0 ∷ 2 ∷ 0 ∷ 0 ∷ 0 ∷ 1 ∷ 170 ∷ 0 ∷ 0 ∷ 0 ∷ 1 ∷ 0 ∷ 0 ∷ 0 ∷ 1 ∷ 187 ∷ []) blank, Some (Damaged 381 5)) ∷
    -- The second record has the number of the first: its place counts from the end of the first.
    (with_piece 382 put_record one_commit, Some (Damaged 394 8)) ∷
    -- The base number is the last number, and a record follows it.
    (with_byte 364 128 (with_byte 371 0 (with_piece 80 (127 ∷ 255 ∷ 255 ∷ 255 ∷ 255 ∷ 255 ∷ 255 ∷ 255 ∷ []) one_commit)), Some (Damaged 364 8)) ∷
    -- A record of 256 bytes fills the log, and leaves no gate.
    (with_piece 352 (1 ∷ 1 ∷ 0 ∷ 0 ∷ 0 ∷ 0 ∷ 0 ∷ 4 ∷ 0 ∷ 0 ∷ 0 ∷ 236 ∷ 0 ∷ 0 ∷ 0 ∷ 0 ∷ 0 ∷ 0 ∷ 0 ∷ 1 ∷ 0 ∷ 0 ∷ 0 ∷ 0 ∷ 0 ∷ 0 ∷ 0 ∷ 64 ∷ replicate 64 17 ++ 0 ∷ 0 ∷ 0 ∷ 1 ∷ 0 ∷ 0 ∷ 0 ∷ 64 ∷ replicate 64 17 ++ 0 ∷ 0 ∷ 0 ∷ 2 ∷ 0 ∷ 0 ∷ 0 ∷ 64 ∷ replicate 64 17 ++ 0 ∷ 0 ∷ 0 ∷ 3 ∷ 0 ∷ 0 ∷ 0 ∷ 12 ∷ replicate 12 17) blank, Some (Damaged 360 1)) ∷
    [])
unfolding blank one_commit refusal super_of half_of fault_of parts_fault
logs = refl
