-- Worked examples: what lines and their replies tell of the calls of a tree store, and of those on files.
use Rattle.store_scripts.proofs.Words.{codes, digits, Geometry, Serial, begin_step, commit_step, end_step, End, Committed, put, clash, runs, after, operation_of, other_operation, store_operation, tree_operation, fill_step, get_step, mark_step, read_step, step, store_step, tree_get_step, tree_put_step, tree_delete_step, hex_of, number_of, words_of, is_node, lines_of, made, Del, Got, WasPut, WasThere, OnKey, Told, no_notes, notes_after, group_step, the_files, the_tree, is_file, file_operation, file_move_step, file_new_step, file_read_step, create_program, read_program, rename_program, FileMade, WasRead, FileThere, MakeFile, ReadFile, RenameFile}
use Rattle.std.specs.Prelude.{◌≡◌, ℕ, true, false, List, [], ◌∷◌, Some, None, refl}
use Rattle.iso_model.specs.declared.access.GroupReply.TheVariants as member
use Rattle.store_model.specs.TreeCalls as tree
use Rattle.store_laws.specs.Calls.{Get, Put}

-- eight blocks, of which the first three are a tree store, and the others the files that are named in it
abbrev trees : Geometry
trees = record { block = 256; blocks = 8; log = 4096; mode = Serial; hash = 0; tree = 3; form = 1 }

-- what these lines tell of the first transaction
abbrev told : List (List ℕ) → Told the_tree
told texts = notes_after the_tree (made trees) (no_notes the_tree) (lines_of texts) 1

-- A transaction that another client took over goes on with its calls; a refused call is none.
pub calls_go_on_behind_a_takeover :
    told (codes "1 begin" ∷ codes "1 tget 61" ∷ codes "1 tget -" ∷ codes "1 release a" ∷ codes "2 takeover a" ∷ codes "2 tdel 62" ∷ [])
    ≡ record {
      hash = record { calls = []; answers = [] };
      second = record { calls = OnKey (Get (97 ∷ [])) ∷ OnKey (Del (98 ∷ [])) ∷ []; answers = Got None ∷ WasThere false ∷ [] };
      over = 2;
      kept = true;
    }
unfolding put operation_of other_operation store_operation tree_operation step begin_step store_step tree_get_step tree_delete_step tree.get_program tree.del_program words_of number_of hex_of digits
calls_go_on_behind_a_takeover = refl

-- What it put, it gets.
pub puts_and_gets_are_told :
    told (codes "1 begin" ∷ codes "1 tput 61 31" ∷ codes "1 tget 61" ∷ [])
    ≡ record {
      hash = record { calls = []; answers = [] };
      second = record { calls = OnKey (Put (97 ∷ []) (49 ∷ [])) ∷ OnKey (Get (97 ∷ [])) ∷ []; answers = WasPut ∷ Got (Some (49 ∷ [])) ∷ [] };
      over = 6;
      kept = true;
    }
unfolding put operation_of other_operation store_operation tree_operation step begin_step store_step tree_get_step tree_put_step tree.get_program tree.put_program is_node words_of number_of hex_of digits
puts_and_gets_are_told = refl

-- A plain write outside of the stores keeps to them, one inside does not.
pub plain_writes_keep_outside : (told (codes "1 begin" ∷ codes "1 tget 61" ∷ codes "1 fill 3 ff" ∷ [])).kept ≡ true
unfolding put operation_of other_operation store_operation tree_operation step begin_step fill_step store_step tree_get_step tree.get_program words_of number_of hex_of digits
plain_writes_keep_outside = refl

pub plain_writes_break_inside : (told (codes "1 begin" ∷ codes "1 tget 61" ∷ codes "1 fill 2 ff" ∷ [])).kept ≡ false
unfolding put operation_of other_operation store_operation tree_operation step begin_step fill_step store_step tree_get_step tree.get_program words_of number_of hex_of digits
plain_writes_break_inside = refl

-- A mark after a call is on an access of it; one after another access is not.
pub marks_break_calls : (told (codes "1 begin" ∷ codes "1 tget 61" ∷ codes "1 mark 0 8" ∷ [])).kept ≡ false
unfolding put operation_of other_operation store_operation tree_operation step begin_step mark_step store_step tree_get_step tree.get_program words_of number_of hex_of digits
marks_break_calls = refl

pub marks_keep_other_accesses : (told (codes "1 begin" ∷ codes "1 tget 61" ∷ codes "1 get 4 0 8" ∷ codes "1 mark 9 1" ∷ [])).kept ≡ true
unfolding put operation_of other_operation store_operation tree_operation step begin_step get_step mark_step store_step tree_get_step tree.get_program words_of number_of hex_of digits
marks_keep_other_accesses = refl

-- A mark that is refused puts nothing on an access of a call.
pub refused_marks_keep : (told (codes "1 begin" ∷ codes "1 tget 61" ∷ codes "1 mark 0 0" ∷ [])).kept ≡ true
unfolding put operation_of other_operation store_operation tree_operation step begin_step mark_step store_step tree_get_step tree.get_program words_of number_of hex_of digits
refused_marks_keep = refl

-- A plain read inside of the stores keeps to them, and so does a plain write outside after a call that writes.
pub plain_reads_keep_inside : (told (codes "1 begin" ∷ codes "1 tget 61" ∷ codes "1 read 1" ∷ [])).kept ≡ true
unfolding put operation_of other_operation store_operation tree_operation step begin_step read_step store_step tree_get_step tree.get_program words_of number_of hex_of digits
plain_reads_keep_inside = refl

pub plain_writes_keep_behind_a_put : (told (codes "1 begin" ∷ codes "1 tput 61 31" ∷ codes "1 fill 3 ff" ∷ [])).kept ≡ true
unfolding put operation_of other_operation store_operation tree_operation step begin_step fill_step store_step tree_put_step tree.get_program tree.put_program is_node words_of number_of hex_of digits
plain_writes_keep_behind_a_put = refl

-- What broke them once does not keep again.
pub what_is_broken_stays_so : (told (codes "1 begin" ∷ codes "1 fill 2 ff" ∷ codes "1 fill 3 ff" ∷ [])).kept ≡ false
unfolding put operation_of other_operation step begin_step fill_step words_of number_of hex_of digits
what_is_broken_stays_so = refl

-- What is told of it commits.
pub told_calls_commit : (step (after (made trees) (lines_of (codes "1 begin" ∷ codes "1 tput 61 31" ∷ codes "1 tget 61" ∷ []))) 1 End).0 ≡ Committed 1
unfolding put clash runs operation_of other_operation store_operation tree_operation step begin_step end_step commit_step store_step tree_get_step tree_put_step tree.get_program tree.put_program is_node words_of number_of hex_of digits
told_calls_commit = refl

-- and so it does where another client's group ends it
pub told_calls_commit_in_a_group :
    (group_step (after (made trees) (lines_of (codes "1 begin" ∷ codes "1 tput 61 31" ∷ codes "1 tget 61" ∷ codes "1 release a" ∷ []))) (codes "a" ∷ codes "a" ∷ [])).0
    ≡ Some (member.Committed 1) ∷ None ∷ []
unfolding put clash runs operation_of other_operation store_operation tree_operation step begin_step end_step commit_step store_step tree_get_step tree_put_step tree.get_program tree.put_program is_node words_of number_of hex_of digits group_step
told_calls_commit_in_a_group = refl

-- WITH FILES
abbrev told_of_files : List (List ℕ) → Told the_files
told_of_files texts = notes_after the_files (made trees) (no_notes the_files) (lines_of texts) 1

-- A file is made with eight accesses, and read with three; a look-up in the tree store is none of its calls, and keeps.
pub calls_on_files_are_told :
    told_of_files (codes "1 begin" ∷ codes "1 fnew 61" ∷ codes "1 fread 61 0 9" ∷ codes "1 fmove 62 63" ∷ codes "1 tget 62" ∷ [])
    ≡ record {
      hash = record { calls = []; answers = [] };
      second = record { calls = MakeFile (97 ∷ []) ∷ ReadFile (97 ∷ []) 0 9 ∷ RenameFile (98 ∷ []) (99 ∷ []) ∷ []; answers = FileMade ∷ WasRead (Some []) ∷ FileThere false ∷ [] };
      over = 13;
      kept = true;
    }
unfolding put operation_of other_operation store_operation tree_operation file_operation step begin_step store_step file_new_step file_read_step file_move_step tree_get_step create_program read_program rename_program tree.get_program tree.put_program is_node is_file words_of number_of hex_of digits
calls_on_files_are_told = refl

-- A put into the tree store does not keep to the files, and making a file does not keep to the tree store.
pub puts_break_the_files : (told_of_files (codes "1 begin" ∷ codes "1 tput 61 31" ∷ [])).kept ≡ false
unfolding put operation_of other_operation store_operation tree_operation step begin_step store_step tree_put_step tree.put_program is_node words_of number_of hex_of digits
puts_break_the_files = refl

pub files_break_the_tree : (told (codes "1 begin" ∷ codes "1 fnew 61" ∷ [])).kept ≡ false
unfolding put operation_of other_operation store_operation tree_operation file_operation step begin_step store_step file_new_step create_program tree.get_program tree.put_program is_node words_of number_of hex_of digits
files_break_the_tree = refl
