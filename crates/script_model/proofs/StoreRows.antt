-- Worked examples of the stores' operations.
use Rattle.script_model.proofs.{Words.{◌≡◌, [], ◌∷◌, refl, codes, digits, Geometry, Serial, Snapshot, begin_step, commit_step, end_step, switch_step, compress, digest_bytes, first_words, hash_after, rounds, schedule, sha256, bucket_of, is_linked, Pairs, put, clash, runs, walk, get_program, put_program, operation_of, other_operation, store_operation, tree_operation, file_operation, file_read_step, step, store_step, hash_put_step, hash_get_step, hash_delete_step, tree_put_step, tree_get_step, tree_delete_step, tree_scan_step, scan_program, words_of, number_of, hex_of, reply_text}, Small.{small, made, text, answers}}
use Rattle.store_model.specs.TreeCalls as tree

-- eight blocks, of which the first three are a hash store
abbrev stores : Geometry
stores = record { block = 256; blocks = 8; log = 4096; mode = Serial; hash = 3; tree = 0; form = 1 }

-- A key has 1 to 28 bytes.
pub keys_have_their_lengths :
    answers (made stores) (codes "1 hget 61" ∷ codes "1 begin" ∷ codes "1 hget -" ∷ codes "1 hput - 31" ∷ [])
    ≡ text (codes "1 not-in-tx" ∷ codes "1 ok begin 0" ∷ codes "1 bad-key" ∷ codes "1 bad-key" ∷ [])
unfolding put clash runs operation_of other_operation store_operation step begin_step store_step hash_put_step hash_get_step get_program put_program walk words_of number_of hex_of reply_text digits
keys_have_their_lengths = refl

-- An image without a store has none; the store of a transaction that is not serial is refused.
pub stores_are_refused :
    answers (made small) (codes "1 begin" ∷ codes "1 hget 61" ∷ codes "1 hput - 31" ∷ codes "1 hdel 61" ∷ [])
    ≡ text (codes "1 ok begin 0" ∷ codes "1 no-store" ∷ codes "1 no-store" ∷ codes "1 no-store" ∷ [])
unfolding put clash runs operation_of other_operation store_operation step begin_step hash_put_step hash_get_step hash_delete_step words_of number_of hex_of reply_text digits
stores_are_refused = refl

pub snapshot_transactions_have_no_store :
    answers (made stores) (codes "1 upgrade" ∷ codes "1 begin snapshot" ∷ codes "1 hget 61" ∷ codes "1 hput - 31" ∷ codes "1 hdel -" ∷ [])
    ≡ text (codes "1 ok upgrade 0" ∷ codes "1 ok begin 0" ∷ codes "1 store-mode" ∷ codes "1 store-mode" ∷ codes "1 store-mode" ∷ [])
unfolding put clash runs operation_of other_operation store_operation step begin_step switch_step hash_put_step hash_get_step hash_delete_step words_of number_of hex_of reply_text digits
snapshot_transactions_have_no_store = refl

-- Whether there is a store is tested before the mode of the transaction: a snapshot image has neither stores nor files.
pub snapshot_images_have_no_store :
    answers (made (record small { mode = Snapshot })) (codes "1 begin" ∷ codes "1 hget 61" ∷ codes "1 hput - 31" ∷ codes "1 tdel 61" ∷ codes "1 tscan 61 - 0" ∷ codes "1 fread 61 0 1" ∷ [])
    ≡ text (codes "1 ok begin 0" ∷ codes "1 no-store" ∷ codes "1 no-store" ∷ codes "1 no-store" ∷ codes "1 no-store" ∷ codes "1 no-store" ∷ [])
unfolding put clash runs operation_of other_operation store_operation tree_operation file_operation step begin_step hash_put_step hash_get_step tree_delete_step tree_scan_step file_read_step words_of number_of hex_of reply_text digits
snapshot_images_have_no_store = refl

-- eight blocks, of which the first three are a tree store
abbrev trees : Geometry
trees = record { block = 256; blocks = 8; log = 4096; mode = Serial; hash = 0; tree = 3; form = 1 }

-- Keys are tested before the number of pairs.
pub scans_have_their_arguments :
    answers (made trees) (codes "1 tscan 61 62 1" ∷ codes "1 begin" ∷ codes "1 tscan - 62 0" ∷ codes "1 tscan 61 - 0" ∷ codes "1 tscan 61 62 0" ∷ codes "1 tput - 31" ∷ codes "1 tget -" ∷ codes "1 tdel -" ∷ codes "1 hget 61" ∷ [])
    ≡ text (codes "1 not-in-tx" ∷ codes "1 ok begin 0" ∷ codes "1 bad-key" ∷ codes "1 bad-key" ∷ codes "1 bad-range" ∷ codes "1 bad-key" ∷ codes "1 bad-key" ∷ codes "1 bad-key" ∷ codes "1 no-store" ∷ [])
unfolding put clash runs operation_of other_operation store_operation tree_operation step begin_step store_step tree_put_step tree_get_step tree_delete_step tree_scan_step hash_get_step scan_program tree.get_program tree.put_program tree.del_program words_of number_of hex_of reply_text digits
scans_have_their_arguments = refl

-- The texts of pairs, and of none.
pub pairs_have_their_text : reply_text (Pairs (((97 ∷ []), (49 ∷ 50 ∷ [])) ∷ ((98 ∷ []), []) ∷ [])) ≡ codes "ok 61=3132 62=-"
unfolding reply_text
pairs_have_their_text = refl

-- Two clients that put a value at one key that is there write the value alone: both commit, and the later commit's value stays.
pub values_of_one_key_do_not_conflict :
    answers (made stores) (codes "1 begin" ∷ codes "1 hput 61 30" ∷ codes "1 end" ∷ codes "1 begin" ∷ codes "2 begin" ∷ codes "1 hput 61 39" ∷ codes "2 hput 61 38" ∷ codes "1 end" ∷ codes "2 end" ∷ codes "1 begin" ∷ codes "1 hget 61" ∷ [])
    ≡ text (codes "1 ok begin 0" ∷ codes "1 ok" ∷ codes "1 ok commit 1" ∷ codes "1 ok begin 1" ∷ codes "2 ok begin 1" ∷ codes "1 ok" ∷ codes "2 ok" ∷ codes "1 ok commit 2" ∷ codes "2 ok commit 3" ∷ codes "1 ok begin 3" ∷ codes "1 ok 38" ∷ [])
unfolding put clash runs operation_of other_operation store_operation step begin_step end_step commit_step store_step hash_put_step hash_get_step get_program put_program walk bucket_of is_linked sha256 digest_bytes hash_after compress rounds schedule first_words words_of number_of hex_of reply_text digits
values_of_one_key_do_not_conflict = refl
