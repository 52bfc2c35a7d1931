-- Worked examples of the generator, of a bench and of what recovery prints.
use Rattle.script_model.proofs.{Words.{◌≡◌, [], ◌∷◌, ◌++◌, refl, codes, digits, sha256, digest_bytes, hash_after, compress, rounds, schedule, first_words, Serial, put, zeros, bench_output, bench_summary, bench_text, drawn, number_drawn, recover_output, round_text, clash, runs, step, put_step, get_step, put_access, begin_step, commit_step, end_step, words_of, number_of, hex_of, reply_text, script, operation_of, other_operation, empty_history}, Small.{small, text, lines_of}}

-- The first number that is drawn from seed 0.
pub the_first_draw_of_seed_0 : number_drawn (drawn 0) ≡ 335903614
the_first_draw_of_seed_0 = refl

-- A round whose numbers are known.
pub a_round :
    round_text 63 0 2 3 171 9
    ≡ text (codes "1 begin" ∷ codes "2 begin" ∷ codes "1 get 63 8 4" ∷ codes "1 put 0 12 ab" ∷ codes "2 get 0 8 4" ∷ codes "2 put 63 8 09" ∷ codes "1 end" ∷ codes "2 end" ∷ [])
unfolding digits
a_round = refl

-- A bench of no rounds.
pub a_bench_of_no_rounds :
    bench_output 0 0 ≡ codes "rounds 0 commits 0 conflicts 0 sha256 e3b0c44298fc1c149afbf4c8996fb92427ae41e4649b934ca495991b7852b855" ++ 10 ∷ []
unfolding bench_text script digits sha256 digest_bytes hash_after compress rounds schedule first_words
a_bench_of_no_rounds = refl

-- An image of one block of 64 bytes on which nothing was committed.
pub a_fresh_image_of_one_block :
    recover_output (empty_history (record small { blocks = 1; log = 64 }))
    ≡ codes "last 0 base 0 sha256 f5a5fd42d16a20302798ef6ed309979b43003d2320d9f0e8ea9831a92759fb4b" ++ 10 ∷ []
unfolding digits sha256 digest_bytes hash_after compress rounds schedule first_words
a_fresh_image_of_one_block = refl

-- The first round of seed 0, and the first line of the second: six draws a round, in their order.
pub rounds_of_seed_0 :
    bench_text 2 0
    ≡ text (codes "1 begin" ∷ codes "2 begin" ∷ codes "1 get 62 8 4" ∷ codes "1 put 17 36 da" ∷ codes "2 get 17 8 4" ∷ codes "2 put 62 8 36" ∷ codes "1 end" ∷ codes "2 end"
    ∷ codes "1 begin" ∷ codes "2 begin" ∷ codes "1 get 48 4 4" ∷ codes "1 put 14 28 9e" ∷ codes "2 get 14 4 4" ∷ codes "2 put 48 4 a4" ∷ codes "1 end" ∷ codes "2 end" ∷ [])
unfolding bench_text digits
rounds_of_seed_0 = refl

-- What that round prints: two commits, and no conflict.
pub summary_of_one_round :
    bench_summary 1 (lines_of (codes "1 begin" ∷ codes "2 begin" ∷ codes "1 get 62 8 4" ∷ codes "1 put 17 36 da" ∷ codes "2 get 17 8 4" ∷ codes "2 put 62 8 36" ∷ codes "1 end" ∷ codes "2 end" ∷ []))
    ≡ codes "rounds 1 commits 2 conflicts 0 sha256 7cb5fa4d67847410648e86c762990cf304e9a20936a8f9a9feb958d75499acc2" ++ 10 ∷ []
unfolding put clash runs operation_of other_operation step begin_step put_step get_step commit_step end_step words_of number_of hex_of reply_text digits sha256 digest_bytes hash_after compress rounds schedule first_words
summary_of_one_round = refl

-- An image whose base holds two commits, and whose log holds one.
pub an_image_above_its_base :
    recover_output (record { first = 3; base = zeros 64 1; commits = record { begin = 2; mode = Serial; accesses = put_access 64 0 0 (1 ∷ []) ∷ [] } ∷ [] })
    ≡ codes "last 3 base 2 sha256 16abab341fb7f370e27e4dadcf81766dd0dfd0ae64469477bb2cf6614938b2af" ++ 10 ∷ []
unfolding put digits sha256 digest_bytes hash_after compress rounds schedule first_words
an_image_above_its_base = refl
