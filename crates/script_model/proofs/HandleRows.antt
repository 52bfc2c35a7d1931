-- Worked examples of handles under labels, of trimming, of compaction and of the two forms.
use Rattle.script_model.proofs.{Words.{◌≡◌, [], ◌∷◌, ◌++◌, refl, codes, digits, Geometry, put, clash, runs, begin_step, commit_step, end_step, switch_step, operation_of, other_operation, step, put_step, read_step, get_step, mark_step, numbers, words_of, number_of, hex_of, reply_text, versions}, Small.{small, made, text, answers, after_lines, zero_text}}

-- The snapshot moves with the handle.
pub the_snapshot_moves_with_the_handle :
    answers (made small) (codes "1 begin" ∷ codes "1 get 0 0 1" ∷ codes "1 release a" ∷ codes "2 begin" ∷ codes "2 put 0 0 cc" ∷ codes "2 end" ∷ codes "3 takeover a" ∷ codes "3 get 0 0 1" ∷ codes "3 end" ∷ [])
    ≡ text (codes "1 ok begin 0" ∷ codes "1 ok 00" ∷ codes "1 ok" ∷ codes "2 ok begin 0" ∷ codes "2 ok" ∷ codes "2 ok commit 1" ∷ codes "3 ok begin 0" ∷ codes "3 ok 00" ∷ codes "3 ok read-only" ∷ [])
unfolding put clash runs operation_of other_operation step begin_step put_step get_step commit_step end_step words_of number_of hex_of reply_text digits
the_snapshot_moves_with_the_handle = refl

-- Trimming and compaction leave it what it is shown; without it they go on.
pub a_released_transaction_holds_the_floor :
    answers (made small) (codes "1 begin" ∷ codes "1 get 0 0 1" ∷ codes "1 release a" ∷ codes "2 begin" ∷ codes "2 put 0 0 cc" ∷ codes "2 end" ∷ codes "2 trim" ∷ codes "2 compact" ∷ codes "2 stat" ∷ codes "3 takeover a" ∷ codes "3 get 0 0 1" ∷ codes "3 end" ∷ codes "3 compact" ∷ codes "3 stat" ∷ [])
    ≡ text (codes "1 ok begin 0" ∷ codes "1 ok 00" ∷ codes "1 ok" ∷ codes "2 ok begin 0" ∷ codes "2 ok" ∷ codes "2 ok commit 1" ∷ codes "2 ok trim 0" ∷ codes "2 ok compact 0" ∷ codes "2 ok last 1 base 0 trim 0 live 1 used 29 versions 1" ∷ codes "3 ok begin 0" ∷ codes "3 ok 00" ∷ codes "3 ok read-only" ∷ codes "3 ok compact 1" ∷ codes "3 ok last 1 base 1 trim 1 live 0 used 0 versions 0" ∷ [])
unfolding put clash runs operation_of other_operation step begin_step put_step get_step commit_step end_step switch_step numbers versions words_of number_of hex_of reply_text digits
a_released_transaction_holds_the_floor = refl

-- What a handle is refused for.
pub handles_that_are_refused :
    answers (made small) (codes "1 takeover zz" ∷ codes "1 begin" ∷ codes "1 begin" ∷ codes "1 release a" ∷ codes "1 begin" ∷ codes "1 release a" ∷ codes "1 takeover a" ∷ codes "1 takeover zz" ∷ codes "1 abort" ∷ codes "1 end" ∷ codes "1 release a" ∷ codes "1 await a" ∷ codes "1 abort" ∷ [])
    ≡ text (codes "1 no-handle" ∷ codes "1 ok begin 0" ∷ codes "1 in-tx" ∷ codes "1 ok" ∷ codes "1 ok begin 0" ∷ codes "1 label-taken" ∷ codes "1 in-tx" ∷ codes "1 in-tx" ∷ codes "1 ok" ∷ codes "1 not-in-tx" ∷ codes "1 not-in-tx" ∷ codes "1 ok begin 0" ∷ codes "1 ok" ∷ [])
unfolding put clash runs operation_of other_operation step begin_step end_step words_of number_of hex_of reply_text digits
handles_that_are_refused = refl

-- A mark after a takeover speaks of the last access, whoever made it.
pub a_mark_after_a_takeover :
    answers (made small) (codes "1 begin" ∷ codes "1 read 0" ∷ codes "1 put 3 0 01" ∷ codes "1 read 0" ∷ codes "1 release a" ∷ codes "2 begin" ∷ codes "2 put 0 5 cc" ∷ codes "2 end" ∷ codes "3 takeover a" ∷ codes "3 mark 0 1" ∷ codes "3 end" ∷ [])
    ≡ text (codes "1 ok begin 0" ∷ (codes "1 ok " ++ zero_text 64) ∷ codes "1 ok" ∷ (codes "1 ok " ++ zero_text 64) ∷ codes "1 ok" ∷ codes "2 ok begin 0" ∷ codes "2 ok" ∷ codes "2 ok commit 1" ∷ codes "3 ok begin 0" ∷ codes "3 ok" ∷ codes "3 conflict with 1 block 0 at 5" ∷ [])
unfolding put clash runs operation_of other_operation step begin_step put_step read_step mark_step commit_step end_step words_of number_of hex_of reply_text digits
a_mark_after_a_takeover = refl

-- Three commits, two of which write one byte: at the last of them the first write shows nothing more.
pub a_version_that_shows_nothing_is_dropped :
    answers (made small) (codes "1 begin" ∷ codes "1 put 0 0 01" ∷ codes "1 end" ∷ codes "1 begin" ∷ codes "1 put 0 0 02" ∷ codes "1 end" ∷ codes "1 begin" ∷ codes "1 put 0 1 03" ∷ codes "1 end" ∷ codes "1 stat" ∷ codes "1 trim" ∷ codes "1 stat" ∷ [])
    ≡ text (codes "1 ok begin 0" ∷ codes "1 ok" ∷ codes "1 ok commit 1" ∷ codes "1 ok begin 1" ∷ codes "1 ok" ∷ codes "1 ok commit 2" ∷ codes "1 ok begin 2" ∷ codes "1 ok" ∷ codes "1 ok commit 3" ∷ codes "1 ok last 3 base 0 trim 0 live 0 used 87 versions 3" ∷ codes "1 ok trim 3" ∷ codes "1 ok last 3 base 0 trim 3 live 0 used 87 versions 2" ∷ [])
unfolding put clash runs operation_of other_operation step begin_step put_step commit_step end_step numbers versions words_of number_of hex_of reply_text digits
a_version_that_shows_nothing_is_dropped = refl

-- A run of which one byte is written over still shows the other, and a live begin keeps what it is shown.
pub a_version_that_shows_a_byte_is_kept :
    answers (made small) (codes "1 begin" ∷ codes "1 put 0 0 0101" ∷ codes "1 end" ∷ codes "2 begin" ∷ codes "1 begin" ∷ codes "1 put 0 0 02" ∷ codes "1 end" ∷ codes "1 trim" ∷ codes "2 abort" ∷ codes "1 trim" ∷ codes "1 stat" ∷ codes "1 begin" ∷ codes "1 put 0 1 03" ∷ codes "1 end" ∷ codes "1 trim" ∷ codes "1 stat" ∷ [])
    ≡ text (codes "1 ok begin 0" ∷ codes "1 ok" ∷ codes "1 ok commit 1" ∷ codes "2 ok begin 1" ∷ codes "1 ok begin 1" ∷ codes "1 ok" ∷ codes "1 ok commit 2" ∷ codes "1 ok trim 1" ∷ codes "2 ok" ∷ codes "1 ok trim 2" ∷ codes "1 ok last 2 base 0 trim 2 live 0 used 59 versions 2" ∷ codes "1 ok begin 2" ∷ codes "1 ok" ∷ codes "1 ok commit 3" ∷ codes "1 ok trim 3" ∷ codes "1 ok last 3 base 0 trim 3 live 0 used 88 versions 2" ∷ [])
unfolding put clash runs operation_of other_operation step begin_step put_step commit_step end_step numbers versions words_of number_of hex_of reply_text digits
a_version_that_shows_a_byte_is_kept = refl

-- A log that is full has room again after a compaction, and only the commits above the base count.
pub a_full_log_after_a_compaction :
    answers (after_lines (made small) (codes "1 begin" ∷ codes "1 put 0 0 0102" ∷ codes "1 end" ∷ codes "1 begin" ∷ codes "1 put 0 0 03" ∷ codes "1 end" ∷ [])) (codes "1 begin" ∷ codes "1 compact" ∷ codes "1 put 0 0 01" ∷ codes "1 end" ∷ codes "1 stat" ∷ [])
    ≡ text (codes "1 ok begin 2" ∷ codes "1 ok compact 2" ∷ codes "1 ok" ∷ codes "1 ok commit 3" ∷ codes "1 ok last 3 base 2 trim 2 live 0 used 29 versions 1" ∷ [])
unfolding put clash runs operation_of other_operation step begin_step put_step commit_step end_step switch_step numbers versions words_of number_of hex_of reply_text digits
a_full_log_after_a_compaction = refl

-- the small image of form 2
abbrev two_modes : Geometry
two_modes = record small { form = 2 }

-- In form 2 a transaction of the other mode: a snapshot one does not conflict by what it read.
pub a_snapshot_transaction_in_a_serial_image :
    answers (made two_modes) (codes "1 begin snapshot" ∷ codes "2 begin" ∷ codes "1 read 0" ∷ codes "2 put 0 0 aa" ∷ codes "2 end" ∷ codes "1 put 1 0 bb" ∷ codes "1 end" ∷ [])
    ≡ text (codes "1 ok begin 0" ∷ codes "2 ok begin 0" ∷ (codes "1 ok " ++ zero_text 64) ∷ codes "2 ok" ∷ codes "2 ok commit 1" ∷ codes "1 ok" ∷ codes "1 ok commit 2" ∷ [])
unfolding put clash runs operation_of other_operation step begin_step put_step read_step commit_step end_step words_of number_of hex_of reply_text digits
a_snapshot_transaction_in_a_serial_image = refl

-- A serial one does.
pub a_serial_transaction_in_form_2 :
    answers (made two_modes) (codes "1 begin serial" ∷ codes "2 begin" ∷ codes "1 read 0" ∷ codes "2 put 0 0 aa" ∷ codes "2 end" ∷ codes "1 put 1 0 bb" ∷ codes "1 end" ∷ [])
    ≡ text (codes "1 ok begin 0" ∷ codes "2 ok begin 0" ∷ (codes "1 ok " ++ zero_text 64) ∷ codes "2 ok" ∷ codes "2 ok commit 1" ∷ codes "1 ok" ∷ codes "1 conflict with 1 block 0 at 0" ∷ [])
unfolding put clash runs operation_of other_operation step begin_step put_step read_step commit_step end_step words_of number_of hex_of reply_text digits
a_serial_transaction_in_form_2 = refl

-- In form 1 no other mode than the image's may be named, and a transaction that is there is told of first.
pub a_mode_that_is_fixed :
    answers (made small) (codes "1 begin snapshot" ∷ codes "1 begin serial" ∷ codes "1 begin snapshot" ∷ [])
    ≡ text (codes "1 mode-fixed" ∷ codes "1 ok begin 0" ∷ codes "1 in-tx" ∷ [])
unfolding put clash runs operation_of other_operation step begin_step words_of number_of hex_of reply_text digits
a_mode_that_is_fixed = refl

-- An upgrade lets a transaction name the other mode.
pub an_upgrade_frees_the_mode :
    answers (made small) (codes "1 begin" ∷ codes "1 put 0 0 aa" ∷ codes "1 end" ∷ codes "1 begin snapshot" ∷ codes "1 upgrade" ∷ codes "1 begin snapshot" ∷ codes "1 end" ∷ codes "1 stat" ∷ codes "1 upgrade" ∷ [])
    ≡ text (codes "1 ok begin 0" ∷ codes "1 ok" ∷ codes "1 ok commit 1" ∷ codes "1 mode-fixed" ∷ codes "1 ok upgrade 1" ∷ codes "1 ok begin 1" ∷ codes "1 ok read-only" ∷ codes "1 ok last 1 base 1 trim 1 live 0 used 0 versions 0" ∷ codes "1 ok upgrade 1" ∷ [])
unfolding put clash runs operation_of other_operation step begin_step put_step commit_step end_step switch_step numbers versions words_of number_of hex_of reply_text digits
an_upgrade_frees_the_mode = refl
