-- Where the operations on the tree store and on files lead, with what is told of calls of the hash store and the tree store.
use Rattle.store_scripts.proofs.{Words.{Answered, StoreAnswer, TreeCall, refl, ap, ℕ, ◌-◌, ◌==◌, ◌&&◌, length, option_map, Some, Op, TreePut, TreeGet, TreeDelete, TreeScan, FileNew, FileWrite, FileRead, FileMove, FileDelete, MAX_ACCESSES, StoreError, array_of, file_refusal, found_reply, pairs_reply, removed_reply, store_refusal, tree_delete_step, tree_get_step, tree_put_step, tree_scan_step, file_new_step, file_write_step, file_read_step, file_move_step, file_delete_step, file_blocks, files_area, tree_area, is_key, OnKey, Scan, OfSecond, the_tree, create_program, read_program, remove_program, rename_program, write_program, Del, WasFound, GetKey, Got, PutKey, WasPut, WasThere, put_answer, get_answer, del_answer, scan_answer}, Acting.{SecondGoes, got_told, pairs_told, shape_at, store_refused, there_told}, Blocks.tree_second, Calls.{foreign_call, in_store_goes, refusals_of, told_call, told_goes}, Locality.{tree_found, tree_got, tree_was_put, tree_was_there}, Noted.{choose, stays}, Seconds.AreRefusals}
use Rattle.script_model.specs.declared.script.Reply.TheVariants as reply
use Rattle.store_model.specs.TreeCalls as tree

pub tree_goes : SecondGoes the_tree
unfolding tree_put_step tree_get_step tree_delete_step tree_scan_step file_new_step file_write_step file_read_step file_move_step file_delete_step
tree_goes Q n W notes is c t found =
    let room : ℕ = MAX_ACCESSES - length t.accesses in
    let shape = shape_at the_tree Q n W notes is c t found in
    record {
      put = λ key value.
          told_call the_tree tree_second Q n W notes is c (TreePut key value) t found (λ answer. OfSecond (OnKey (PutKey key value)) answer) put_answer (λ r. refl) store_refusal
          (refusals_of the_tree tree_second Q n W notes is c (TreePut key value) t found (λ answer. OfSecond (OnKey (PutKey key value)) answer) put_answer (λ r. refl) store_refusal refl refl refl (λ e. (store_refused e).put))
          W.geometry.tree (tree.put_program (tree_area W.geometry) key value) (λ done. reply.Done) (λ done. WasPut) (λ r. refl) (λ some r ends. tree_was_put W.geometry is.world.valid (array_of W t) shape room key value r some ends);
      get = λ key.
          told_call the_tree tree_second Q n W notes is c (TreeGet key) t found (λ answer. OfSecond (OnKey (GetKey key)) answer) get_answer (λ r. refl) store_refusal
          (refusals_of the_tree tree_second Q n W notes is c (TreeGet key) t found (λ answer. OfSecond (OnKey (GetKey key)) answer) get_answer (λ r. refl) store_refusal refl refl refl (λ e. (store_refused e).get))
          W.geometry.tree (tree.get_program (tree_area W.geometry) key) found_reply (λ value. Got value) got_told (λ some r ends. tree_got W.geometry is.world.valid (array_of W t) shape room key r some ends);
      delete = λ key.
          told_call the_tree tree_second Q n W notes is c (TreeDelete key) t found (λ answer. OfSecond (OnKey (Del key)) answer) del_answer (λ r. refl) store_refusal
          (refusals_of the_tree tree_second Q n W notes is c (TreeDelete key) t found (λ answer. OfSecond (OnKey (Del key)) answer) del_answer (λ r. refl) store_refusal refl refl refl (λ e. (store_refused e).del))
          W.geometry.tree (tree.del_program (tree_area W.geometry) key) removed_reply (λ there. WasThere there) there_told (λ some r ends. tree_was_there W.geometry is.world.valid (array_of W t) shape room key r some ends);
      scan = λ from to most.
          let op : Op = TreeScan from to most in
          let call : StoreAnswer → Answered TreeCall StoreAnswer = λ answer. OfSecond (Scan from to most) answer in
          let refusals : AreRefusals the_tree StoreError op store_refusal =
          refusals_of the_tree tree_second Q n W notes is c op t found call scan_answer (λ r. refl) store_refusal refl refl refl (λ e. (store_refused e).scan) in
          in_store_goes the_tree tree_second Q n W notes is c op t found store_refusal refusals W.geometry.tree _ (λ some serial.
          choose the_tree Q n W notes c op (Some t) (is_key from && is_key to && (most == 0)) _ _ (stays the_tree Q n W notes is c op (Some t) reply.BadRange refl) (λ good.
          told_goes the_tree tree_second Q n W notes is c op t found store_refusal refusals (tree.scan_program (tree_area W.geometry) from to most) pairs_reply (λ pairs. call (WasFound pairs)) (λ r. ap (option_map call) (pairs_told r)) serial
          (λ r ends. tree_found W.geometry is.world.valid (array_of W t) shape room from to most r some ends)));
      make = λ name. foreign_call the_tree tree_second Q n W notes is c (FileNew name) t found file_refusal (file_blocks W.geometry) (create_program (files_area W.geometry) name) (λ done. reply.Done) (λ r. refl);
      write = λ name off bytes. foreign_call the_tree tree_second Q n W notes is c (FileWrite name off bytes) t found file_refusal (file_blocks W.geometry) (write_program (files_area W.geometry) name off bytes) removed_reply (λ r. refl);
      read = λ name off len. foreign_call the_tree tree_second Q n W notes is c (FileRead name off len) t found file_refusal (file_blocks W.geometry) (read_program (files_area W.geometry) name off len) found_reply (λ r. refl);
      move = λ from to. foreign_call the_tree tree_second Q n W notes is c (FileMove from to) t found file_refusal (file_blocks W.geometry) (rename_program (files_area W.geometry) from to) removed_reply (λ r. refl);
      remove = λ name. foreign_call the_tree tree_second Q n W notes is c (FileDelete name) t found file_refusal (file_blocks W.geometry) (remove_program (files_area W.geometry) name) removed_reply (λ r. refl);
    }
