-- The operations on stores of a client alone: one form for all of them.
use Rattle.store_scripts.proofs.{ThreadWords.{IsOnStore, ◌≡◌, refl, ap, ℕ, zero, suc, ◌-◌, ◌+◌, cond, List, [], ◌++◌, length, take, Some, AllByRecursion, Access, Geometry, MAX_ACCESSES, Array, own, all_own, with_accesses, Live, World, attached, Op, Reply, array_of, found_reply, in_store, in_transaction, pairs_reply, removed_reply, file_delete_step, file_move_step, file_new_step, file_read_step, file_write_step, hash_delete_step, hash_get_step, hash_put_step, step, store_step, tree_delete_step, tree_get_step, tree_put_step, tree_scan_step, FileAreas, create_program, read_program, remove_program, rename_program, write_program, filed, is_empty_scan, store_areas, store_blocks, store_ended, stored, Own, alone, blocks_read, live_of, Commit}, Agree.{Same, agrees}}
use Rattle.script_model.specs.declared.script.Op.TheVariants as op
use Rattle.script_model.specs.declared.script.Reply.TheVariants as reply
use Rattle.store_model.specs.HashCalls as hash
use Rattle.store_model.specs.TreeCalls as tree

abbrev pub ended_in : World → Live → Op → List Access × Reply
ended_in W t x = store_ended (store_areas W.geometry x) x (MAX_ACCESSES - length t.accesses) (array_of W t)

-- what the rules answer where the store is there
abbrev pub acted : World → Live → Op → Reply × World
acted W t x = ((ended_in W t x).1, with_accesses W t (t.accesses ++ (ended_in W t x).0))

-- what an operation on a store does in the transaction of a client
abbrev pub on_store : World → Live → Op → Reply × World
on_store W t x = in_store W t (store_blocks W.geometry x) (cond (is_empty_scan x) (reply.BadRange, W) (acted W t x))

pub stores_step : (W : World) (t : Live) (x : Op) → IsOnStore x → attached W 1 ≡ Some t → step W 1 x ≡ on_store W t x
unfolding step hash_put_step hash_get_step hash_delete_step tree_put_step tree_get_step tree_delete_step tree_scan_step file_new_step file_write_step file_read_step file_move_step file_delete_step store_step
stores_step W t (op.HashPut key value) is at = ap (λ o. in_transaction W o (λ u. hash_put_step W u key value)) at
stores_step W t (op.HashGet key) is at = ap (λ o. in_transaction W o (λ u. hash_get_step W u key)) at
stores_step W t (op.HashDelete key) is at = ap (λ o. in_transaction W o (λ u. hash_delete_step W u key)) at
stores_step W t (op.TreePut key value) is at = ap (λ o. in_transaction W o (λ u. tree_put_step W u key value)) at
stores_step W t (op.TreeGet key) is at = ap (λ o. in_transaction W o (λ u. tree_get_step W u key)) at
stores_step W t (op.TreeDelete key) is at = ap (λ o. in_transaction W o (λ u. tree_delete_step W u key)) at
stores_step W t (op.TreeScan from to most) is at = ap (λ o. in_transaction W o (λ u. tree_scan_step W u from to most)) at
stores_step W t (op.FileNew name) is at = ap (λ o. in_transaction W o (λ u. file_new_step W u name)) at
stores_step W t (op.FileWrite name off bytes) is at = ap (λ o. in_transaction W o (λ u. file_write_step W u name off bytes)) at
stores_step W t (op.FileRead name off len) is at = ap (λ o. in_transaction W o (λ u. file_read_step W u name off len)) at
stores_step W t (op.FileMove from to) is at = ap (λ o. in_transaction W o (λ u. file_move_step W u from to)) at
stores_step W t (op.FileDelete name) is at = ap (λ o. in_transaction W o (λ u. file_delete_step W u name)) at
stores_step W t x is at = absurd is

-- it reads the same, and does the same, on two arrays that have the same bytes in each block that it reads
pub ended_agrees : (a : FileAreas) (x : Op) (room : ℕ) (B C : Array) (accesses : List Access) → AllByRecursion (Same B C) (blocks_read (store_ended a x room (own B accesses)).0)
    → store_ended a x room (own B accesses) ≡ store_ended a x room (own C accesses)
ended_agrees a (op.HashPut key value) room B C accesses all = ap (stored (λ done. reply.Done)) (agrees (hash.put_program a.files key value) room B C accesses all)
ended_agrees a (op.HashGet key) room B C accesses all = ap (stored found_reply) (agrees (hash.get_program a.files key) room B C accesses all)
ended_agrees a (op.HashDelete key) room B C accesses all = ap (stored removed_reply) (agrees (hash.del_program a.files key) room B C accesses all)
ended_agrees a (op.TreePut key value) room B C accesses all = ap (stored (λ done. reply.Done)) (agrees (tree.put_program a.files key value) room B C accesses all)
ended_agrees a (op.TreeGet key) room B C accesses all = ap (stored found_reply) (agrees (tree.get_program a.files key) room B C accesses all)
ended_agrees a (op.TreeDelete key) room B C accesses all = ap (stored removed_reply) (agrees (tree.del_program a.files key) room B C accesses all)
ended_agrees a (op.TreeScan from to most) room B C accesses all = ap (stored pairs_reply) (agrees (tree.scan_program a.files from to most) room B C accesses all)
ended_agrees a (op.FileNew name) room B C accesses all = ap (filed (λ done. reply.Done)) (agrees (create_program a name) room B C accesses all)
ended_agrees a (op.FileWrite name off bytes) room B C accesses all = ap (filed removed_reply) (agrees (write_program a name off bytes) room B C accesses all)
ended_agrees a (op.FileRead name off len) room B C accesses all = ap (filed found_reply) (agrees (read_program a name off len) room B C accesses all)
ended_agrees a (op.FileMove from to) room B C accesses all = ap (filed removed_reply) (agrees (rename_program a from to) room B C accesses all)
ended_agrees a (op.FileDelete name) room B C accesses all = ap (filed removed_reply) (agrees (remove_program a name) room B C accesses all)
ended_agrees a x room B C accesses all = refl

take-none : (n : ℕ) → ◌≡◌ {A = List Commit} (take n []) []
take-none zero = refl
take-none (suc n) = refl

-- the array that a client alone is shown
pub shown_alone : (g : Geometry) (B : Array) (o : Own) → array_of (alone g B (Some o)) (live_of o) ≡ own B o.accesses
shown_alone g B o = ap (λ c. own (all_own B c) o.accesses) (take-none (o.begin + 1 - 1))
