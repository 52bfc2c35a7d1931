-- Bytes that stand at a place of an image.
use Rattle.version_read.proofs.Words.{◌≡◌, ◌∙◌, sym, refl, ap, ℕ, ◌+◌, ◌-◌, ◌<◌, ◌≤◌, List, ◌++◌, length, take, drop, get_or, arith, subst, length-append, length-take, get_or_append_left, get_or-append_right, get_or-take, get_or-drop, take-append-drop, Geometry, Written, records, HasLog, log_front, records-append}

-- the image has these bytes from the place on
abbrev pub StandsAt : List ℕ → ℕ → List ℕ → Type 0
StandsAt image at bytes = (i : ℕ) → i < length bytes → get_or image (at + i) 0 ≡ get_or bytes i 0

pub stands_first : (image : List ℕ) (at : ℕ) (xs ys : List ℕ) → StandsAt image at (xs ++ ys) → StandsAt image at xs
stands_first image at xs ys both i below =
    both i (omega (arith, below, length-append xs ys)) ∙ get_or_append_left xs ys 0 i below

pub stands_rest : (image : List ℕ) (at : ℕ) (xs ys : List ℕ) → StandsAt image at (xs ++ ys) → StandsAt image (at + length xs) ys
stands_rest image at xs ys both i below =
    let there : at + length xs + i ≡ at + (length xs + i) = omega arith in
    let back : length xs + i - length xs ≡ i = omega arith in
    ap (λ (k : ℕ). get_or image k 0) there
    ∙ both (length xs + i) (omega (arith, below, length-append xs ys))
    ∙ get_or-append_right xs ys (length xs) (length xs + i) 0 refl (omega arith)
    ∙ ap (λ (k : ℕ). get_or ys k 0) back

-- the records of a log stand in the image
pub log_stands : (place room : ℕ) (g : Geometry) (first : ℕ) (told : List Written) (c : List ℕ) → HasLog place room g first told c → StandsAt c place (records g first told)
log_stands place room g first told c has i below =
    let front : take (length (records g first told)) (take room (drop place c)) ≡ records g first told = log_front place room g first told c has in
    let short : length (records g first told) ≤ room = omega (arith, ap (λ (l : List ℕ). length l) front, length-take (length (records g first told)) (take room (drop place c)), length-take room (drop place c)) in
    sym (get_or-drop place c i 0) ∙ sym (get_or-take room (drop place c) i 0 (omega (arith, below, short))) ∙ sym (get_or-take (length (records g first told)) (take room (drop place c)) i 0 below)
    ∙ ap (λ (l : List ℕ). get_or l i 0) front

-- and so do the first of them
pub first_stand : (g : Geometry) (first m at : ℕ) (told : List Written) (c : List ℕ) → StandsAt c at (records g first told) → StandsAt c at (records g first (take m told))
first_stand g first m at told c all =
    stands_first c at (records g first (take m told)) (records g (first + length (take m told)) (drop m told))
    (subst (StandsAt c at) (ap (records g first) (sym (take-append-drop m told)) ∙ records-append g first (take m told) (drop m told)) all)
