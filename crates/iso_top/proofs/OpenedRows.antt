-- What scripts begin with on images that were opened: computed from the bytes.
use Rattle.iso_top.proofs.Words.{option_map, codes, fresh, super_of, half_of, fault_of, parts_fault, put, blank, one_commit, with_piece, answers, text, operation_of, other_operation, step, begin_step, words_of, number_of, reply_text, digits, numbers, versions, get_step, runs}
use Rattle.std.specs.Prelude.{◌≡◌, [], ◌∷◌, ℕ, List, Some, refl}
use Rattle.iso_image.proofs.RefusalWords.{Opened, opened, refusal}

-- a half with commit 5 as its base and commit 6 after it, which writes 01 at byte 6 of block 2
abbrev later_half : List ℕ
later_half =
    with_piece 608 (1 ∷ 1 ∷ 0 ∷ 0 ∷ 0 ∷ 0 ∷ 0 ∷ 0 ∷ 0 ∷ 0 ∷ 0 ∷ 0 ∷ 0 ∷ 0 ∷ 0 ∷ 2 ∷ 0 ∷ 0 ∷ 0 ∷ 0 ∷ 0 ∷ 0 ∷ 0 ∷ 5 ∷ [])
    (with_piece 896 (1 ∷ 1 ∷ 0 ∷ 0 ∷ 0 ∷ 0 ∷ 0 ∷ 1 ∷ 0 ∷ 0 ∷ 0 ∷ 9 ∷ 0 ∷ 0 ∷ 0 ∷ 0 ∷ 0 ∷ 0 ∷ 0 ∷ 6 ∷ 0 ∷ 0 ∷ 0 ∷ 2 ∷ 0 ∷ 6 ∷ 0 ∷ 1 ∷ 1 ∷ []) one_commit)

-- what the world that an image opens to answers to lines
abbrev answers_of : List (List ℕ) → Opened → List ℕ
answers_of lines image = answers (fresh image.geometry image.generation image.history) lines

-- The trim number begins at the number of the base, not at none and not at the last commit, and a trim raises it.
pub trim_begins_at_the_base :
    option_map (answers_of (codes "1 stat" ∷ codes "1 trim" ∷ codes "1 stat" ∷ [])) (opened later_half)
    ≡ Some (text (codes "1 ok last 6 base 5 trim 5 live 0 used 29 versions 1" ∷ codes "1 ok trim 6" ∷ codes "1 ok last 6 base 5 trim 6 live 0 used 29 versions 1" ∷ []))
unfolding blank one_commit refusal opened super_of half_of fault_of parts_fault put operation_of other_operation step begin_step get_step numbers versions runs words_of number_of reply_text digits
trim_begins_at_the_base = refl
