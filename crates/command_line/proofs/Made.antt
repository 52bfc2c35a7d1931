-- Words that ask for a new image.
use Rattle.command_line.proofs.Words.{◌≡◌, ◌≤◌, ℕ, [], ◌∷◌, ◌++◌, Option, Some, refl, codes, true, ◌∙◌, IsTrue, nat_le, option_and_then, option_map, le-leb, clap_on_literals, Text, Geometry, Mode, is_valid, mode_of, number_of, Bench, New, rows_found, for_image, geometry_of, geometry_with, if_valid, request_of, task_of, count_of, long_number_of}

-- the words of a bench, before their values are read
bench_words : (program image s n : Text) → request_of (program ∷ codes "bench" ∷ codes "--" ∷ image ∷ s ∷ n ∷ [])
    ≡ option_map (for_image image) (option_and_then (λ seed. option_and_then (λ count. Some (Bench seed count)) (count_of n)) (long_number_of s))
unfolding clap_on_literals request_of rows_found task_of
bench_words program image s n = refl

bench_values : (image s n : Text) (seed count : ℕ) → long_number_of s ≡ Some seed → number_of n ≡ Some count → nat_le count 100000 ≡ true
    → option_map (for_image image) (option_and_then (λ seed. option_and_then (λ count. Some (Bench seed count)) (count_of n)) (long_number_of s))
    ≡ Some (image, Bench seed count)
bench_values image s n seed count is_seed is_count few = rw (is_seed, is_count, few) refl

pub bench_is_made : (program image s n : Text) (seed count : ℕ) → long_number_of s ≡ Some seed → number_of n ≡ Some count → count ≤ 100000
    → request_of (program ∷ codes "bench" ∷ codes "--" ∷ image ∷ s ∷ n ∷ []) ≡ Some (image, Bench seed count)
bench_is_made program image s n seed count is_seed is_count few =
    bench_words program image s n ∙ bench_values image s n seed count is_seed is_count (le-leb count 100000 few)

abbrev geometry_spelled : (b n l m h t : Text) → Option Geometry
geometry_spelled b n l m h t =
    option_and_then (λ block. option_and_then (λ blocks. option_and_then (λ log. option_and_then (λ mode. option_and_then (λ hash. option_and_then (λ tree.
    if_valid (geometry_with block blocks log mode hash tree))
    (number_of t)) (number_of h)) (mode_of m)) (number_of l)) (number_of n)) (number_of b)

-- the words of a new image, before their values are read
image_words : (program image b n l m h t : Text)
    → request_of (program ∷ codes "new" ∷ (codes "--block-size=" ++ b) ∷ (codes "--blocks=" ++ n) ∷ (codes "--log=" ++ l) ∷ (codes "--mode=" ++ m) ∷ (codes "--hash=" ++ h) ∷ (codes "--tree=" ++ t) ∷ codes "--" ∷ image ∷ [])
    ≡ option_map (for_image image) (option_map New (geometry_spelled b n l m h t))
unfolding clap_on_literals request_of rows_found task_of geometry_of
image_words program image b n l m h t = refl

image_values : (image b n l m h t : Text) (block blocks log : ℕ) (mode : Mode) (hash tree : ℕ)
    → number_of b ≡ Some block → number_of n ≡ Some blocks → number_of l ≡ Some log → mode_of m ≡ Some mode → number_of h ≡ Some hash → number_of t ≡ Some tree
    → IsTrue (is_valid (geometry_with block blocks log mode hash tree))
    → option_map (for_image image) (option_map New (geometry_spelled b n l m h t)) ≡ Some (image, New (geometry_with block blocks log mode hash tree))
image_values image b n l m h t block blocks log mode hash tree is_block is_blocks is_log is_mode is_hash is_tree valid = rw (is_block, is_blocks, is_log, is_mode, is_hash, is_tree, valid) refl

pub image_is_made : (program image b n l m h t : Text) (block blocks log : ℕ) (mode : Mode) (hash tree : ℕ)
    → number_of b ≡ Some block → number_of n ≡ Some blocks → number_of l ≡ Some log → mode_of m ≡ Some mode → number_of h ≡ Some hash → number_of t ≡ Some tree
    → IsTrue (is_valid (geometry_with block blocks log mode hash tree))
    → request_of (program ∷ codes "new" ∷ (codes "--block-size=" ++ b) ∷ (codes "--blocks=" ++ n) ∷ (codes "--log=" ++ l) ∷ (codes "--mode=" ++ m) ∷ (codes "--hash=" ++ h) ∷ (codes "--tree=" ++ t) ∷ codes "--" ∷ image ∷ [])
    ≡ Some (image, New (geometry_with block blocks log mode hash tree))
image_is_made program image b n l m h t block blocks log mode hash tree is_block is_blocks is_log is_mode is_hash is_tree valid =
    image_words program image b n l m h t ∙ image_values image b n l m h t block blocks log mode hash tree is_block is_blocks is_log is_mode is_hash is_tree valid
