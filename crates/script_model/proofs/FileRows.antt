-- Worked examples of the operations on files.
use Rattle.script_model.proofs.{Words.{◌≡◌, [], ◌∷◌, refl, codes, digits, map, Ok, Err, Geometry, Serial, begin_step, commit_step, end_step, put, clash, runs, operation_of, other_operation, store_operation, tree_operation, file_operation, file_blocks, step, store_step, tree_put_step, fill_step, Op, file_new_step, file_write_step, file_read_step, file_move_step, file_delete_step, create_program, write_program, read_program, rename_program, remove_program, words_of, number_of, hex_of, reply_text, FileNew, FileWrite, FileRead, FileMove, FileDelete, is_file, is_node}, Small.{made, text, answers}}
use Rattle.store_model.specs.TreeCalls.{get_program, put_program, del_program}
use Rattle.std.specs.Prelude.{ℕ, List, Result}

-- sixteen blocks, of which the first four are a tree store and the others the region of the files
abbrev files : Geometry
files = record { block = 256; blocks = 16; log = 8192; mode = Serial; hash = 0; tree = 4; form = 1 }

-- A file is made, written, read and renamed, and removed.
pub a_file_from_its_making_to_its_end :
    answers (made files) (codes "1 begin" ∷ codes "1 fnew 61" ∷ codes "1 fwrite 61 0 0102" ∷ codes "1 fwrite 61 3 01" ∷ codes "1 fread 61 1 9" ∷ codes "1 fnew 61" ∷ codes "1 fmove 61 62" ∷ codes "1 fread 61 0 1" ∷ codes "1 fread 62 0 2" ∷ codes "1 fdel 62" ∷ codes "1 end" ∷ [])
    ≡ text (codes "1 ok begin 0" ∷ codes "1 ok" ∷ codes "1 ok" ∷ codes "1 bad-range" ∷ codes "1 ok 02" ∷ codes "1 exists" ∷ codes "1 ok" ∷ codes "1 ok none" ∷ codes "1 ok 0102" ∷ codes "1 ok" ∷ codes "1 ok commit 1" ∷ [])
unfolding put clash runs is_node is_file operation_of other_operation store_operation tree_operation file_operation step begin_step end_step commit_step store_step file_new_step file_write_step file_read_step file_move_step file_delete_step create_program write_program read_program rename_program remove_program get_program put_program del_program words_of number_of hex_of reply_text digits
a_file_from_its_making_to_its_end = refl

-- Two clients that write different bytes of a file do not conflict; two that append do, since both write its file block.
pub writes_of_one_file_and_appends :
    answers (made files) (codes "1 begin" ∷ codes "1 fnew 61" ∷ codes "1 fwrite 61 0 0102" ∷ codes "1 end" ∷ codes "1 begin" ∷ codes "2 begin" ∷ codes "1 fwrite 61 0 aa" ∷ codes "2 fwrite 61 1 bb" ∷ codes "1 end" ∷ codes "2 end" ∷ codes "1 begin" ∷ codes "2 begin" ∷ codes "1 fread 61 0 2" ∷ codes "1 fwrite 61 2 cc" ∷ codes "2 fwrite 61 2 dd" ∷ codes "1 end" ∷ codes "2 end" ∷ [])
    ≡ text (codes "1 ok begin 0" ∷ codes "1 ok" ∷ codes "1 ok" ∷ codes "1 ok commit 1" ∷ codes "1 ok begin 1" ∷ codes "2 ok begin 1" ∷ codes "1 ok" ∷ codes "2 ok" ∷ codes "1 ok commit 2" ∷ codes "2 ok commit 3" ∷ codes "1 ok begin 3" ∷ codes "2 ok begin 3" ∷ codes "1 ok aabb" ∷ codes "1 ok" ∷ codes "2 ok" ∷ codes "1 ok commit 4" ∷ codes "2 conflict with 4 block 5 at 0" ∷ [])
unfolding put clash runs is_node is_file operation_of other_operation store_operation tree_operation file_operation step begin_step end_step commit_step store_step file_new_step file_write_step file_read_step create_program write_program read_program get_program put_program words_of number_of hex_of reply_text digits
writes_of_one_file_and_appends = refl

-- Names are tested before ranges, and both before the name is looked up; an empty file has no byte to read.
pub names_and_ranges :
    answers (made files) (codes "1 fnew 61" ∷ codes "1 begin" ∷ codes "1 fnew -" ∷ codes "1 fread - 0 0" ∷ codes "1 fread 61 0 0" ∷ codes "1 fread 61 0 4097" ∷ codes "1 fwrite - 0 01" ∷ codes "1 fmove 61 -" ∷ codes "1 fmove 61 62" ∷ codes "1 fdel 61" ∷ codes "1 fwrite 61 0 01" ∷ codes "1 fnew 61" ∷ codes "1 fread 61 0 1" ∷ codes "1 fread 61 1 1" ∷ codes "1 fmove 61 61" ∷ [])
    ≡ text (codes "1 not-in-tx" ∷ codes "1 ok begin 0" ∷ codes "1 bad-name" ∷ codes "1 bad-name" ∷ codes "1 bad-range" ∷ codes "1 bad-range" ∷ codes "1 bad-name" ∷ codes "1 bad-name" ∷ codes "1 ok none" ∷ codes "1 ok none" ∷ codes "1 ok none" ∷ codes "1 ok" ∷ codes "1 ok -" ∷ codes "1 bad-range" ∷ codes "1 exists" ∷ [])
unfolding put clash runs is_node is_file operation_of other_operation store_operation tree_operation file_operation step begin_step store_step file_new_step file_write_step file_read_step file_move_step file_delete_step create_program write_program read_program rename_program remove_program get_program put_program words_of number_of hex_of reply_text digits
names_and_ranges = refl

-- A file that has no room for its bytes stays as it was; the value of a name that is not the number of a block is refused.
pub files_that_are_refused :
    answers (made (record files { blocks = 6 })) (codes "1 begin" ∷ codes "1 fnew 61" ∷ codes "1 fwrite 61 0 01" ∷ codes "1 fnew 62" ∷ codes "1 tput 63 ff" ∷ codes "1 fread 63 0 1" ∷ codes "1 fread 61 0 1" ∷ codes "1 fill 5 07" ∷ codes "1 fdel 61" ∷ [])
    ≡ text (codes "1 ok begin 0" ∷ codes "1 ok" ∷ codes "1 no-blocks need 1 free 0" ∷ codes "1 no-blocks need 1 free 0" ∷ codes "1 ok" ∷ codes "1 broken block 0" ∷ codes "1 ok -" ∷ codes "1 ok" ∷ codes "1 broken block 5" ∷ [])
unfolding put clash runs is_node is_file operation_of other_operation store_operation tree_operation file_operation step begin_step fill_step store_step tree_put_step file_new_step file_write_step file_read_step file_delete_step create_program write_program read_program remove_program get_program put_program words_of number_of hex_of reply_text digits
files_that_are_refused = refl

-- The region of the files: none without a tree store or with one block alone, and no more blocks than one block of the map has
-- bits for.
pub regions_of_files :
    map file_blocks (files ∷ record files { tree = 0 } ∷ record files { tree = 15 } ∷ record files { tree = 14 } ∷ record files { hash = 3; blocks = 1600 } ∷ record files { hash = 3; blocks = 1542 } ∷ [])
    ≡ 12 ∷ 0 ∷ 0 ∷ 2 ∷ 1536 ∷ 1535 ∷ []
regions_of_files = refl

-- what the words after a client say
abbrev said : List (List ℕ) → Result Op ℕ
said [] = Err 2
said (name ∷ arguments) = operation_of name arguments

-- Lines on files, and bad ones.
pub lines_on_files :
    map (λ line. said (words_of (codes line))) ("fnew 61" ∷ "fwrite - 7 0aFF" ∷ "fread 61 0 4096" ∷ "fmove 61 -" ∷ "fdel 61" ∷ [])
    ≡ Ok (FileNew (97 ∷ [])) ∷ Ok (FileWrite [] 7 (10 ∷ 255 ∷ [])) ∷ Ok (FileRead (97 ∷ []) 0 4096) ∷ Ok (FileMove (97 ∷ []) []) ∷ Ok (FileDelete (97 ∷ [])) ∷ []
unfolding operation_of other_operation store_operation tree_operation file_operation words_of number_of hex_of
lines_on_files = refl

pub bad_lines_on_files :
    map (λ line. said (words_of (codes line))) ("fnew" ∷ "fnew 6" ∷ "fwrite 61 0" ∷ "fwrite 61 00 0" ∷ "fwrite 61 0 -" ∷ "fread 61 0 4294967296" ∷ "fmove 61" ∷ "fdel 61 62" ∷ "fscan" ∷ [])
    ≡ map Err (3 ∷ 5 ∷ 3 ∷ 4 ∷ 5 ∷ 4 ∷ 3 ∷ 3 ∷ 2 ∷ [])
unfolding operation_of other_operation store_operation tree_operation file_operation words_of number_of hex_of
bad_lines_on_files = refl
