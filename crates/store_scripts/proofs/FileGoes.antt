-- Where the operations on files and on the tree store lead, with what is told of calls of the hash store and on files.
use Rattle.store_scripts.proofs.{Words.{◌≡◌, refl, ℕ, ◌-◌, ◌==◌, ◌&&◌, length, Some, None, Op, Reply, TreePut, TreeGet, TreeDelete, TreeScan, FileNew, FileWrite, FileRead, FileMove, FileDelete, MAX_ACCESSES, array_of, file_refusal, found_reply, pairs_reply, removed_reply, store_refusal, tree_delete_step, tree_get_step, tree_put_step, tree_scan_step, file_new_step, file_write_step, file_read_step, file_move_step, file_delete_step, file_blocks, files_area, tree_area, is_key, OfSecond, make_answer, read_answer, there_answer, the_files, FsError, create_program, read_program, remove_program, rename_program, write_program, FileMade, WasRead, FileThere, MakeFile, ReadFile, RemoveFile, RenameFile, WriteFile}, Acting.{SecondGoes, found_told, removed_told, shape_at}, Blocks.files_second, Calls.{foreign_call, foreign_goes, foreign_in_store, refusals_of, told_call}, FileLocality.{file_was_made, file_was_read, file_was_removed, file_was_renamed, file_was_written}, Noted.{choose, stays}}
use Rattle.script_model.specs.declared.script.Reply.TheVariants as reply
use Rattle.store_model.specs.declared.files.FsError.TheVariants as fs
use Rattle.store_model.specs.declared.stores.StoreError.TheVariants as store
use Rattle.store_model.specs.TreeCalls as tree

-- no call on files is answered so
record IsRefusal (r : Reply) : Type 0 where
  pub make : make_answer r ≡ None
  pub read : read_answer r ≡ None
  pub there : there_answer r ≡ None

file_refused : (e : FsError) → IsRefusal (file_refusal e)
file_refused (fs.Store (store.NoBlocks need free)) = record { make = refl; read = refl; there = refl }
file_refused (fs.Store (store.Broken block)) = record { make = refl; read = refl; there = refl }
file_refused (fs.Store (store.Tx e)) = record { make = refl; read = refl; there = refl }
file_refused e = record { make = refl; read = refl; there = refl }

pub file_goes : SecondGoes the_files
unfolding tree_put_step tree_get_step tree_delete_step tree_scan_step file_new_step file_write_step file_read_step file_move_step file_delete_step
file_goes Q n W notes is c t found =
    let room : ℕ = MAX_ACCESSES - length t.accesses in
    let shape = shape_at the_files Q n W notes is c t found in
    let there_told = removed_told there_answer (λ there. FileThere there) refl refl in
    record {
      make = λ name.
          told_call the_files files_second Q n W notes is c (FileNew name) t found (λ answer. OfSecond (MakeFile name) answer) make_answer (λ r. refl) file_refusal
          (refusals_of the_files files_second Q n W notes is c (FileNew name) t found (λ answer. OfSecond (MakeFile name) answer) make_answer (λ r. refl) file_refusal refl refl refl (λ e. (file_refused e).make))
          (file_blocks W.geometry) (create_program (files_area W.geometry) name) (λ done. reply.Done) (λ done. FileMade) (λ r. refl) (λ some r ends. file_was_made W.geometry is.world.valid some (array_of W t) shape room name r ends);
      write = λ name off bytes.
          told_call the_files files_second Q n W notes is c (FileWrite name off bytes) t found (λ answer. OfSecond (WriteFile name off bytes) answer) there_answer (λ r. refl) file_refusal
          (refusals_of the_files files_second Q n W notes is c (FileWrite name off bytes) t found (λ answer. OfSecond (WriteFile name off bytes) answer) there_answer (λ r. refl) file_refusal refl refl refl (λ e. (file_refused e).there))
          (file_blocks W.geometry) (write_program (files_area W.geometry) name off bytes) removed_reply (λ there. FileThere there) there_told (λ some r ends. file_was_written W.geometry is.world.valid some (array_of W t) shape room name off bytes r ends);
      read = λ name off len.
          told_call the_files files_second Q n W notes is c (FileRead name off len) t found (λ answer. OfSecond (ReadFile name off len) answer) read_answer (λ r. refl) file_refusal
          (refusals_of the_files files_second Q n W notes is c (FileRead name off len) t found (λ answer. OfSecond (ReadFile name off len) answer) read_answer (λ r. refl) file_refusal refl refl refl (λ e. (file_refused e).read))
          (file_blocks W.geometry) (read_program (files_area W.geometry) name off len) found_reply (λ bytes. WasRead bytes) (found_told read_answer (λ bytes. WasRead bytes) refl (λ bytes. refl)) (λ some r ends. file_was_read W.geometry is.world.valid some (array_of W t) shape room name off len r ends);
      move = λ from to.
          told_call the_files files_second Q n W notes is c (FileMove from to) t found (λ answer. OfSecond (RenameFile from to) answer) there_answer (λ r. refl) file_refusal
          (refusals_of the_files files_second Q n W notes is c (FileMove from to) t found (λ answer. OfSecond (RenameFile from to) answer) there_answer (λ r. refl) file_refusal refl refl refl (λ e. (file_refused e).there))
          (file_blocks W.geometry) (rename_program (files_area W.geometry) from to) removed_reply (λ there. FileThere there) there_told (λ some r ends. file_was_renamed W.geometry is.world.valid some (array_of W t) shape room from to r ends);
      remove = λ name.
          told_call the_files files_second Q n W notes is c (FileDelete name) t found (λ answer. OfSecond (RemoveFile name) answer) there_answer (λ r. refl) file_refusal
          (refusals_of the_files files_second Q n W notes is c (FileDelete name) t found (λ answer. OfSecond (RemoveFile name) answer) there_answer (λ r. refl) file_refusal refl refl refl (λ e. (file_refused e).there))
          (file_blocks W.geometry) (remove_program (files_area W.geometry) name) removed_reply (λ there. FileThere there) there_told (λ some r ends. file_was_removed W.geometry is.world.valid some (array_of W t) shape room name r ends);
      put = λ key value. foreign_call the_files files_second Q n W notes is c (TreePut key value) t found store_refusal W.geometry.tree (tree.put_program (tree_area W.geometry) key value) (λ done. reply.Done) (λ r. refl);
      get = λ key. foreign_call the_files files_second Q n W notes is c (TreeGet key) t found store_refusal W.geometry.tree (tree.get_program (tree_area W.geometry) key) found_reply (λ r. refl);
      delete = λ key. foreign_call the_files files_second Q n W notes is c (TreeDelete key) t found store_refusal W.geometry.tree (tree.del_program (tree_area W.geometry) key) removed_reply (λ r. refl);
      scan = λ from to most.
          let op : Op = TreeScan from to most in
          foreign_in_store the_files files_second Q n W notes is c op t found (λ r. refl) W.geometry.tree _
          (choose the_files Q n W notes c op (Some t) (is_key from && is_key to && (most == 0)) _ _ (stays the_files Q n W notes is c op (Some t) reply.BadRange refl) (λ good.
          foreign_goes the_files files_second Q n W notes is c op t found store_refusal (tree.scan_program (tree_area W.geometry) from to most) pairs_reply (λ r. refl)));
    }
