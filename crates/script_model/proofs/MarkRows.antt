-- Worked examples of marks, of the accesses that they narrow, and of the two modes.
use Rattle.script_model.proofs.{Words.{◌≡◌, [], ◌∷◌, ◌++◌, refl, codes, replicate, digits, Snapshot, put, clash, runs, begin_step, commit_step, end_step, operation_of, other_operation, step, put_step, read_step, get_step, write_step, fill_step, mark_step, words_of, number_of, hex_of, reply_text}, Small.{small, made, text, answers, zero_text}}

-- Two clients write two bytes of one block, and both commit.
pub merge_on_one_block :
    answers (made small) (codes "1 begin" ∷ codes "2 begin" ∷ codes "1 put 0 0 aa" ∷ codes "2 put 0 1 bb" ∷ codes "1 end" ∷ codes "2 end" ∷ codes "1 begin" ∷ codes "1 get 0 0 2" ∷ codes "1 end" ∷ [])
    ≡ text (codes "1 ok begin 0" ∷ codes "2 ok begin 0" ∷ codes "1 ok" ∷ codes "2 ok" ∷ codes "1 ok commit 1" ∷ codes "2 ok commit 2" ∷ codes "1 ok begin 2" ∷ codes "1 ok aabb" ∷ codes "1 ok read-only" ∷ [])
unfolding put clash runs operation_of other_operation step begin_step put_step read_step get_step commit_step end_step words_of number_of hex_of reply_text digits
merge_on_one_block = refl

-- One that read the whole block conflicts.
pub a_read_of_the_whole_block :
    answers (made small) (codes "1 begin" ∷ codes "2 begin" ∷ codes "2 read 0" ∷ codes "1 put 0 0 aa" ∷ codes "2 put 0 1 bb" ∷ codes "1 end" ∷ codes "2 end" ∷ codes "1 begin" ∷ codes "1 get 0 0 2" ∷ codes "1 end" ∷ [])
    ≡ text (codes "1 ok begin 0" ∷ codes "2 ok begin 0" ∷ (codes "2 ok " ++ zero_text 64) ∷ codes "1 ok" ∷ codes "2 ok" ∷ codes "1 ok commit 1" ∷ codes "2 conflict with 1 block 0 at 0" ∷ codes "1 ok begin 1" ∷ codes "1 ok aa00" ∷ codes "1 ok read-only" ∷ [])
unfolding put clash runs operation_of other_operation step begin_step put_step read_step get_step commit_step end_step words_of number_of hex_of reply_text digits
a_read_of_the_whole_block = refl

-- Marked on another byte, it does not.
pub a_read_marked_on_another_byte :
    answers (made small) (codes "1 begin" ∷ codes "2 begin" ∷ codes "2 read 0" ∷ codes "2 mark 1 1" ∷ codes "1 put 0 0 aa" ∷ codes "2 put 0 1 bb" ∷ codes "1 end" ∷ codes "2 end" ∷ codes "1 begin" ∷ codes "1 get 0 0 2" ∷ codes "1 end" ∷ [])
    ≡ text (codes "1 ok begin 0" ∷ codes "2 ok begin 0" ∷ (codes "2 ok " ++ zero_text 64) ∷ codes "2 ok" ∷ codes "1 ok" ∷ codes "2 ok" ∷ codes "1 ok commit 1" ∷ codes "2 ok commit 2" ∷ codes "1 ok begin 2" ∷ codes "1 ok aabb" ∷ codes "1 ok read-only" ∷ [])
unfolding put clash runs operation_of other_operation step begin_step put_step read_step get_step mark_step commit_step end_step words_of number_of hex_of reply_text digits
a_read_marked_on_another_byte = refl

-- Two writes of one byte in a snapshot image: the first that commits wins.
pub the_first_committer_wins :
    answers (made (record small { mode = Snapshot })) (codes "1 begin" ∷ codes "2 begin" ∷ codes "1 put 0 0 aa" ∷ codes "2 put 0 0 bb" ∷ codes "1 end" ∷ codes "2 end" ∷ [])
    ≡ text (codes "1 ok begin 0" ∷ codes "2 ok begin 0" ∷ codes "1 ok" ∷ codes "2 ok" ∷ codes "1 ok commit 1" ∷ codes "2 conflict with 1 block 0 at 0" ∷ [])
unfolding put clash runs operation_of other_operation step begin_step put_step commit_step end_step words_of number_of hex_of reply_text digits
the_first_committer_wins = refl

-- In a serial image both commit, and the later bytes stand.
pub the_later_bytes_stand :
    answers (made small) (codes "1 begin" ∷ codes "2 begin" ∷ codes "1 put 0 0 aa" ∷ codes "2 put 0 0 bb" ∷ codes "1 end" ∷ codes "2 end" ∷ codes "1 begin" ∷ codes "1 get 0 0 1" ∷ [])
    ≡ text (codes "1 ok begin 0" ∷ codes "2 ok begin 0" ∷ codes "1 ok" ∷ codes "2 ok" ∷ codes "1 ok commit 1" ∷ codes "2 ok commit 2" ∷ codes "1 ok begin 2" ∷ codes "1 ok bb" ∷ [])
unfolding put clash runs operation_of other_operation step begin_step put_step get_step commit_step end_step words_of number_of hex_of reply_text digits
the_later_bytes_stand = refl

-- Marks that are refused, each by its first reason; eight are taken, overlapping ones counted.
pub marks_that_are_refused :
    answers (made small) (codes "1 begin" ∷ codes "1 mark 0 1" ∷ codes "1 read 3" ∷ codes "1 mark 63 1" ∷ codes "1 mark 63 2" ∷ codes "1 mark 0 0" ∷ replicate 8 (codes "1 mark 0 1") ++ codes "1 read 4" ∷ [])
    ≡ text (codes "1 ok begin 0" ∷ codes "1 no-access" ∷ (codes "1 ok " ++ zero_text 64) ∷ codes "1 ok" ∷ codes "1 bad-range" ∷ codes "1 bad-range" ∷ replicate 7 (codes "1 ok") ++ codes "1 too-many-marks" ∷ codes "1 bad-block" ∷ [])
unfolding put clash runs operation_of other_operation step begin_step put_step read_step mark_step words_of number_of hex_of reply_text digits
marks_that_are_refused = refl

-- The mark of a put is the first of its eight, and a mark that is out of range is so before any access is there.
pub the_mark_of_a_put_counts :
    answers (made small) (codes "1 begin" ∷ codes "1 mark 0 65" ∷ codes "1 put 0 0 aa" ∷ replicate 8 (codes "1 mark 0 1"))
    ≡ text (codes "1 ok begin 0" ∷ codes "1 bad-range" ∷ codes "1 ok" ∷ replicate 7 (codes "1 ok") ++ codes "1 too-many-marks" ∷ [])
unfolding put clash runs operation_of other_operation step begin_step put_step mark_step words_of number_of hex_of reply_text digits
the_mark_of_a_put_counts = refl

-- The first mark of a write takes the rest of its block out of it, and later reads of the transaction see that.
pub a_marked_write :
    answers (made small) (codes "1 begin" ∷ codes "1 fill 0 11" ∷ codes "1 get 0 0 3" ∷ codes "1 abort" ∷ codes "1 begin" ∷ codes "1 fill 0 11" ∷ codes "1 mark 1 1" ∷ codes "1 get 0 0 3" ∷ [])
    ≡ text (codes "1 ok begin 0" ∷ codes "1 ok" ∷ codes "1 ok 111111" ∷ codes "1 ok" ∷ codes "1 ok begin 0" ∷ codes "1 ok" ∷ codes "1 ok" ∷ codes "1 ok 001100" ∷ [])
unfolding put clash runs operation_of other_operation step begin_step put_step get_step fill_step mark_step words_of number_of hex_of reply_text digits
a_marked_write = refl

-- What each access is refused for.
pub accesses_that_are_refused :
    answers (made small) (codes "1 get 0 0 1" ∷ codes "1 begin" ∷ codes "1 get 4 0 0" ∷ codes "1 get 3 0 0" ∷ codes "1 get 3 63 2" ∷ codes "1 write 4 aa" ∷ codes "1 write 3 aa" ∷ codes "1 fill 4 aabb" ∷ codes "1 fill 3 aabb" ∷ codes "1 end" ∷ [])
    ≡ text (codes "1 not-in-tx" ∷ codes "1 ok begin 0" ∷ codes "1 bad-block" ∷ codes "1 bad-range" ∷ codes "1 bad-range" ∷ codes "1 bad-block" ∷ codes "1 bad-range" ∷ codes "1 bad-block" ∷ codes "1 bad-range" ∷ codes "1 ok read-only" ∷ [])
unfolding put clash runs operation_of other_operation step begin_step get_step write_step fill_step end_step words_of number_of hex_of reply_text digits
accesses_that_are_refused = refl

-- The log is filled to its last byte but one, which is the next gate; the transaction that does not fit stays.
pub log_filled_exactly :
    answers (made small) (codes "1 begin" ∷ codes "1 fill 0 11" ∷ codes "1 end" ∷ codes "1 begin" ∷ codes "1 fill 0 11" ∷ codes "1 end" ∷ codes "1 begin" ∷ (codes "1 put 0 0 " ++ replicate 86 49) ∷ codes "1 end" ∷ codes "1 begin" ∷ codes "1 put 0 0 01" ∷ codes "1 end" ∷ codes "1 mark 0 1" ∷ codes "1 begin" ∷ codes "1 abort" ∷ [])
    ≡ text (codes "1 ok begin 0" ∷ codes "1 ok" ∷ codes "1 ok commit 1" ∷ codes "1 ok begin 1" ∷ codes "1 ok" ∷ codes "1 ok commit 2" ∷ codes "1 ok begin 2" ∷ codes "1 ok" ∷ codes "1 ok commit 3" ∷ codes "1 ok begin 3" ∷ codes "1 ok" ∷ codes "1 log full need 30 free 1" ∷ codes "1 ok" ∷ codes "1 in-tx" ∷ codes "1 ok" ∷ [])
unfolding put clash runs operation_of other_operation step begin_step put_step fill_step mark_step commit_step end_step words_of number_of hex_of reply_text digits
log_filled_exactly = refl
