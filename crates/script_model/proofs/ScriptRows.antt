-- Worked examples of scripts: computed.
use Rattle.script_model.proofs.{Words.{◌≡◌, ◌*◌, [], ◌∷◌, ◌++◌, Some, refl, codes, map, replicate, digits, begin_step, commit_step, end_step, Stat, put, clash, runs, script, last_piece, bad_line, parse_whole, parse, said, operation_of, other_operation, store_operation, tree_operation, file_operation, replies, step, put_step, read_step, words_of, number_of, hex_of, reply_text, fresh, empty_history, Skip, Says}, Small.{small, text}}
use Rattle.std.specs.Prelude.{ℕ, List, Ok, Err, true}

-- n bytes in hexadecimal, all 17
abbrev elevens : ℕ → List ℕ
elevens n = replicate (2 * n) 49

-- what the fresh small image answers to an input
abbrev pub answers : List ℕ → List ℕ
answers input = replies (fresh small 1 (empty_history small)) (script input).lines

-- One put, committed.
pub one_put :
    answers (text (codes "1 begin" ∷ codes "1 put 2 5 abcd" ∷ codes "1 end" ∷ []))
    ≡ text (codes "1 ok begin 0" ∷ codes "1 ok" ∷ codes "1 ok commit 1" ∷ [])
unfolding put clash runs script parse_whole parse said operation_of other_operation step begin_step put_step read_step commit_step end_step words_of number_of hex_of reply_text digits
one_put = refl

-- A transaction that only reads never conflicts, and reads as of its begin.
pub a_reader_of_an_old_snapshot :
    answers (text (codes "1 begin" ∷ codes "2 begin" ∷ codes "2 put 0 0 01" ∷ codes "2 end" ∷ codes "2 begin" ∷ codes "2 put 0 0 02" ∷ codes "2 end" ∷ codes "1 read 0" ∷ codes "1 end" ∷ []))
    ≡ text (codes "1 ok begin 0" ∷ codes "2 ok begin 0" ∷ codes "2 ok" ∷ codes "2 ok commit 1" ∷ codes "2 ok begin 1" ∷ codes "2 ok" ∷ codes "2 ok commit 2" ∷ (codes "1 ok " ++ replicate 128 48) ∷ codes "1 ok read-only" ∷ [])
unfolding put clash runs script parse_whole parse said operation_of other_operation step begin_step put_step read_step commit_step end_step words_of number_of hex_of reply_text digits
a_reader_of_an_old_snapshot = refl

-- With a write it conflicts with the first commit that wrote what it read.
pub a_writer_of_an_old_snapshot :
    answers (text (codes "1 begin" ∷ codes "2 begin" ∷ codes "2 put 0 0 01" ∷ codes "2 end" ∷ codes "2 begin" ∷ codes "2 put 0 0 02" ∷ codes "2 end" ∷ codes "1 read 0" ∷ codes "1 put 1 0 aa" ∷ codes "1 end" ∷ []))
    ≡ text (codes "1 ok begin 0" ∷ codes "2 ok begin 0" ∷ codes "2 ok" ∷ codes "2 ok commit 1" ∷ codes "2 ok begin 1" ∷ codes "2 ok" ∷ codes "2 ok commit 2" ∷ (codes "1 ok " ++ replicate 128 48) ∷ codes "1 ok" ∷ codes "1 conflict with 1 block 0 at 0" ∷ [])
unfolding put clash runs script parse_whole parse said operation_of other_operation step begin_step put_step read_step commit_step end_step words_of number_of hex_of reply_text digits
a_writer_of_an_old_snapshot = refl

-- Two clients on one block.
pub conflict_of_two_clients :
    answers (text (codes "1 begin" ∷ codes "2 begin" ∷ codes "2 read 0" ∷ codes "1 put 0 0 aa" ∷ codes "2 put 0 1 bb" ∷ codes "1 end" ∷ codes "2 end" ∷ codes "1 begin" ∷ codes "1 read 0" ∷ []))
    ≡ text (codes "1 ok begin 0" ∷ codes "2 ok begin 0" ∷ (codes "2 ok " ++ replicate 128 48) ∷ codes "1 ok" ∷ codes "2 ok" ∷ codes "1 ok commit 1" ∷ codes "2 conflict with 1 block 0 at 0" ∷ codes "1 ok begin 1" ∷ (codes "1 ok aa" ++ replicate 126 48) ∷ [])
unfolding put clash runs script parse_whole parse said operation_of other_operation step begin_step put_step read_step commit_step end_step words_of number_of hex_of reply_text digits
conflict_of_two_clients = refl

-- The log is filled to its last byte but one, which is the next gate.
pub log_filled_exactly :
    answers (text (codes "1 begin" ∷ (codes "1 put 0 0 " ++ elevens 64) ∷ codes "1 end" ∷ codes "1 begin" ∷ (codes "1 put 0 0 " ++ elevens 64) ∷ codes "1 end" ∷ codes "1 begin" ∷ (codes "1 put 0 0 " ++ elevens 43) ∷ codes "1 end" ∷ codes "1 begin" ∷ codes "1 put 0 0 01" ∷ codes "1 end" ∷ []))
    ≡ text (codes "1 ok begin 0" ∷ codes "1 ok" ∷ codes "1 ok commit 1" ∷ codes "1 ok begin 1" ∷ codes "1 ok" ∷ codes "1 ok commit 2" ∷ codes "1 ok begin 2" ∷ codes "1 ok" ∷ codes "1 ok commit 3" ∷ codes "1 ok begin 3" ∷ codes "1 ok" ∷ codes "1 log full need 30 free 1" ∷ [])
unfolding put clash runs script parse_whole parse said operation_of other_operation step begin_step put_step read_step commit_step end_step words_of number_of hex_of reply_text digits
log_filled_exactly = refl

-- One byte more does not fit, and the transaction stays.
pub log_one_byte_too_short :
    answers (text (codes "1 begin" ∷ (codes "1 put 0 0 " ++ elevens 64) ∷ codes "1 end" ∷ codes "1 begin" ∷ (codes "1 put 0 0 " ++ elevens 64) ∷ codes "1 end" ∷ codes "1 begin" ∷ (codes "1 put 0 0 " ++ elevens 44) ∷ codes "1 end" ∷ codes "1 begin" ∷ codes "1 abort" ∷ codes "1 end" ∷ []))
    ≡ text (codes "1 ok begin 0" ∷ codes "1 ok" ∷ codes "1 ok commit 1" ∷ codes "1 ok begin 1" ∷ codes "1 ok" ∷ codes "1 ok commit 2" ∷ codes "1 ok begin 2" ∷ codes "1 ok" ∷ codes "1 log full need 73 free 72" ∷ codes "1 in-tx" ∷ codes "1 ok" ∷ codes "1 not-in-tx" ∷ [])
unfolding put clash runs script parse_whole parse said operation_of other_operation step begin_step put_step read_step commit_step end_step words_of number_of hex_of reply_text digits
log_one_byte_too_short = refl

-- An unknown operation is bad, and the lines before it stand.
pub the_first_bad_line :
    (script (text (codes "1 begin" ∷ codes "1 jump" ∷ []))).bad
    ≡ Some (record { line = 2; cause = 2 })
unfolding put clash runs script parse_whole parse said operation_of other_operation store_operation tree_operation file_operation step begin_step put_step read_step commit_step end_step words_of number_of hex_of reply_text digits
the_first_bad_line = refl

-- A carriage return before a line feed, a comment, and a last line without a line feed.
pub line_ends :
    answers (codes "1 begin" ++ 13 ∷ 10 ∷ [] ++ codes "# x" ++ 10 ∷ [] ++ codes "1 end")
    ≡ text (codes "1 ok begin 0" ∷ codes "1 ok read-only" ∷ [])
unfolding put clash runs script parse_whole parse said operation_of other_operation step begin_step put_step read_step commit_step end_step words_of number_of hex_of reply_text digits
line_ends = refl

-- The first test that a line fails.
pub causes :
    map (λ line. parse (codes line)) ("65 begin" ∷ "01 begin" ∷ "1" ∷ "1 begin x" ∷ "1 put 00 0 aa" ∷ "1 put x 0 a" ∷ "1 put 0 0 a" ∷ [])
    ≡ map Err (1 ∷ 1 ∷ 2 ∷ 10 ∷ 4 ∷ 4 ∷ 5 ∷ [])
unfolding put clash runs script parse_whole parse said operation_of other_operation step begin_step put_step read_step commit_step end_step words_of number_of hex_of reply_text digits
causes = refl

-- A line that is too long is bad even where it says nothing.
pub a_line_of_spaces :
    parse (replicate 16385 32) ∷ parse (replicate 16384 32) ∷ []
    ≡ Err 7 ∷ Ok Skip ∷ []
unfolding parse
a_line_of_spaces = refl

-- A byte that is not printable.
pub a_tab :
    parse (codes "1" ++ 9 ∷ [] ++ codes "begin")
    ≡ Err 8
unfolding parse
a_tab = refl

-- The last piece of an input that was cut fails the test of its length first.
pub cut_and_too_long : last_piece true 1 (replicate 16385 48) ∷ last_piece true 1 (replicate 16384 48) ∷ [] ≡ bad_line 1 7 ∷ bad_line 1 9 ∷ []
unfolding parse
cut_and_too_long = refl

-- The edges of numbers and bytes.
pub edges_of_a_line :
    map (λ line. parse (codes line)) ("0 begin" ∷ "1 put 0 4294967296 a" ∷ "1 begin~" ∷ "1 begin x y" ∷ "1 release A" ∷ [])
    ≡ map Err (1 ∷ 4 ∷ 2 ∷ 3 ∷ 6 ∷ [])
unfolding put clash runs script parse_whole parse said operation_of other_operation store_operation tree_operation file_operation step begin_step put_step read_step commit_step end_step words_of number_of hex_of reply_text digits
edges_of_a_line = refl

pub a_byte_above_the_last_printable_one : parse (codes "1 begin" ++ 127 ∷ []) ≡ Err 8
unfolding parse
a_byte_above_the_last_printable_one = refl

-- A carriage return at the end of the last piece is a byte of it.
pub a_return_in_the_last_piece : (script (codes "1 begin" ++ 13 ∷ [])).bad ≡ Some (record { line = 1; cause = 8 })
unfolding script parse_whole parse said operation_of words_of number_of
a_return_in_the_last_piece = refl

-- The last client there is.
pub the_last_client : parse (codes "64 stat") ≡ Ok (Says (record { client = 64; op = Stat }))
unfolding parse said operation_of other_operation words_of number_of
the_last_client = refl
