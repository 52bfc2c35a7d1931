-- What each operation of a client is answered, and the world after it.
use Rattle.std.specs.Prelude.{ℕ, ◌-◌, Bool, true, false, ◌&&◌, ◌==◌, if◌then◌else◌, List, [], ◌∷◌, ◌++◌, Option, Some, None, Result, Ok, Err, length, take, drop, replicate, nat_le, slice_index, not}
use Rattle.iso_model.specs.{declared.access.Access.Access, declared.access.Span.Span, declared.access.MarkError.MarkError, declared.limits.TheConstants.MAX_ACCESSES, Array.Array, declared.access.GroupReply.GroupReply, Geometry.is_serial, Effect.own, History.{array_at, last}, Marks.{is_outside, mark_fault, marked}, Versions.versions, World.{World, Live, client, label, attached, held, floor, used}, Group.group_step, Step.{put_access, read_access, get_access, write_access, with_accesses, placed, after_leaving, mode_named, shown_to, after_trim, begin_step, end_step, switch_step}}
use Rattle.iso_model.specs.declared.core_reply.CoreReply.TheVariants as core
use Rattle.script_model.specs.{declared.script.Op.Op, declared.script.Op.TheVariants.{Begin, End, Abort, Put, Read as ReadBlock, Get, Write as WriteBlock, Fill, Mark, Release, Takeover, Await, Group, Trim, Stat, Compact, Upgrade, HashPut, HashGet, HashDelete, TreePut, TreeGet, TreeDelete, TreeScan, FileNew, FileWrite, FileRead, FileMove, FileDelete}, declared.script.Reply.Reply, FilesArea.{file_blocks, files_area}, CoreReplies.as_step}
use Rattle.iso_model.specs.declared.access.MarkError.TheVariants as mark
use Rattle.script_model.specs.declared.script.Reply.TheVariants as reply
use Rattle.store_model.specs.{declared.stores.StoreError.StoreError, declared.files.FsError.FsError, HashCalls.{del_program, get_program, put_program, is_key}, Stores.{Program, outcome}, TreeCalls.scan_program, FileCalls.{Call, create_program, write_program, read_program, rename_program, remove_program}, Areas.{hash_area, tree_area}}
use Rattle.store_model.specs.declared.stores.StoreError.TheVariants as store
use Rattle.store_model.specs.declared.files.FsError.TheVariants as fs
use Rattle.store_model.specs.TreeCalls as tree

-- the world in which the transaction has one more access
abbrev pub with_access : World → Live → Access → World
with_access W t a = with_accesses W t (t.accesses ++ a ∷ [])

-- an access, which is refused outside the array, where its bytes are wrong, and where the transaction has as many as it may
abbrev pub access_step : World → Live → (block : ℕ) → (is_wrong : Bool) → Reply → Access → Reply × World
access_step W t block is_wrong answer a =
    if nat_le W.geometry.blocks block then (reply.BadBlock, W)
    else if is_wrong then (reply.BadRange, W)
    else if nat_le MAX_ACCESSES (length t.accesses) then (reply.TooManyAccesses, W)
    else (answer, with_access W t a)

unfoldable pub put_step : World → Live → (block off : ℕ) → List ℕ → Reply × World
put_step W t block off bytes =
    access_step W t block (is_outside W.geometry.block off (length bytes)) reply.Done (put_access W.geometry.block block off bytes)

unfoldable pub read_step : World → Live → (block : ℕ) → Reply × World
read_step W t block = access_step W t block false (reply.Shown (shown_to W t block)) (read_access block)

unfoldable pub get_step : World → Live → (block off len : ℕ) → Reply × World
get_step W t block off len =
    access_step W t block (is_outside W.geometry.block off len) (reply.Shown (take len (drop off (shown_to W t block)))) (get_access block off len)

unfoldable pub write_step : World → Live → (block : ℕ) → List ℕ → Reply × World
write_step W t block bytes = access_step W t block (not (length bytes == W.geometry.block)) reply.Done (write_access block bytes)

unfoldable pub fill_step : World → Live → (block : ℕ) → List ℕ → Reply × World
fill_step W t block bytes =
    access_step W t block (not (length bytes == 1)) reply.Done (write_access block (replicate W.geometry.block (slice_index bytes 0)))

abbrev pub mark_refused : MarkError → Reply
mark_refused mark.BadRange = reply.BadRange
mark_refused mark.NoAccess = reply.NoAccess
mark_refused mark.TooManyMarks = reply.TooManyMarks

-- a mark, once the reason for which it is refused is known, if there is one
abbrev pub marked_step : World → Live → Span → Option MarkError → Reply × World
marked_step W t span (Some fault) = (mark_refused fault, W)
marked_step W t span None = (reply.Done, with_accesses W t (marked span t.accesses))

-- one more mark on the last access
unfoldable pub mark_step : World → Live → (off len : ℕ) → Reply × World
mark_step W t off len = marked_step W t (record { off = off; len = len }) (mark_fault W.geometry.block off len t.accesses)

-- the array that the transaction is shown
abbrev pub array_of : World → Live → Array
array_of W t = own (array_at W.history t.begin) t.accesses

-- what a store that refuses is answered; a program has no refusal of a transaction, and wants no memory
abbrev pub store_refusal : StoreError → Reply
store_refusal store.BadKey = reply.BadKey
store_refusal store.BadValue = reply.BadValue
store_refusal (store.NoBlocks need free) = reply.NoBlocks need free
store_refusal (store.Broken block) = reply.Broken block
store_refusal (store.Tx e) = reply.TooManyAccesses
store_refusal store.Memory = reply.TooManyAccesses

-- what a call on files that is refused is answered
abbrev pub file_refusal : FsError → Reply
file_refusal fs.BadName = reply.BadName
file_refusal fs.BadRange = reply.BadRange
file_refusal fs.Exists = reply.Exists
file_refusal (fs.Store e) = store_refusal e

-- What a call of a store is answered whose program ended so, by what a refusal is answered and what an answer: it has no answer
-- where an access did not fit.
abbrev pub store_reply : {E R : Type 0} → (E → Reply) → (R → Reply) → Option (Result R E) → Reply
store_reply refusal answer None = reply.TooManyAccesses
store_reply refusal answer (Some (Ok r)) = answer r
store_reply refusal answer (Some (Err e)) = refusal e

-- the reply and the world after accesses of a store's program and its answer
abbrev pub after_store : {E R : Type 0} → World → Live → (E → Reply) → (R → Reply) → List Access × Option (Result R E) → Reply × World
after_store W t refusal answer ended = (store_reply refusal answer ended.1, with_accesses W t (t.accesses ++ ended.0))

-- A call of a store: its program on the array that the transaction is shown. The accesses that it made before a refusal stay.
unfoldable pub store_step : {E R : Type 0} → World → Live → Program (Result R E) → (E → Reply) → (R → Reply) → Reply × World
store_step W t program refusal answer = after_store W t refusal answer (outcome (MAX_ACCESSES - length t.accesses) program (array_of W t))

-- a store of `blocks` blocks that is there, in a transaction that is serial
abbrev pub in_store : World → Live → (blocks : ℕ) → Reply × World → Reply × World
in_store W t blocks result =
    if blocks == 0 then (reply.NoStore, W)
    else if is_serial t.mode then result
    else (reply.StoreMode, W)

-- what a look-up answers, and a call that answers whether the key or the file was there
abbrev pub found_reply : Option (List ℕ) → Reply
found_reply None = reply.Missing
found_reply (Some value) = reply.Found value

abbrev pub removed_reply : Bool → Reply
removed_reply true = reply.Done
removed_reply false = reply.Missing

unfoldable pub hash_put_step : World → Live → (key value : List ℕ) → Reply × World
hash_put_step W t key value = in_store W t W.geometry.hash (store_step W t (put_program (hash_area W.geometry) key value) store_refusal (λ done. reply.Done))

unfoldable pub hash_get_step : World → Live → (key : List ℕ) → Reply × World
hash_get_step W t key = in_store W t W.geometry.hash (store_step W t (get_program (hash_area W.geometry) key) store_refusal found_reply)

unfoldable pub hash_delete_step : World → Live → (key : List ℕ) → Reply × World
hash_delete_step W t key = in_store W t W.geometry.hash (store_step W t (del_program (hash_area W.geometry) key) store_refusal removed_reply)

unfoldable pub tree_put_step : World → Live → (key value : List ℕ) → Reply × World
tree_put_step W t key value = in_store W t W.geometry.tree (store_step W t (tree.put_program (tree_area W.geometry) key value) store_refusal (λ done. reply.Done))

unfoldable pub tree_get_step : World → Live → (key : List ℕ) → Reply × World
tree_get_step W t key = in_store W t W.geometry.tree (store_step W t (tree.get_program (tree_area W.geometry) key) store_refusal found_reply)

unfoldable pub tree_delete_step : World → Live → (key : List ℕ) → Reply × World
tree_delete_step W t key = in_store W t W.geometry.tree (store_step W t (tree.del_program (tree_area W.geometry) key) store_refusal removed_reply)

-- what a scan answers
abbrev pub pairs_reply : List (List ℕ × List ℕ) → Reply
pairs_reply [] = reply.Missing
pairs_reply (pair ∷ pairs) = reply.Pairs (pair ∷ pairs)

-- a scan, which is to find at least one pair at most
unfoldable pub tree_scan_step : World → Live → (from to : List ℕ) → (most : ℕ) → Reply × World
tree_scan_step W t from to most =
    in_store W t W.geometry.tree
    (if is_key from && is_key to && (most == 0) then (reply.BadRange, W)
    else store_step W t (scan_program (tree_area W.geometry) from to most) store_refusal pairs_reply)

-- a call on files, where the image has room for them
abbrev pub file_step : {R : Type 0} → World → Live → Call R → (R → Reply) → Reply × World
file_step W t program answer = in_store W t (file_blocks W.geometry) (store_step W t program file_refusal answer)

unfoldable pub file_new_step : World → Live → (name : List ℕ) → Reply × World
file_new_step W t name = file_step W t (create_program (files_area W.geometry) name) (λ done. reply.Done)

unfoldable pub file_write_step : World → Live → (name : List ℕ) → (off : ℕ) → (bytes : List ℕ) → Reply × World
file_write_step W t name off bytes = file_step W t (write_program (files_area W.geometry) name off bytes) removed_reply

unfoldable pub file_read_step : World → Live → (name : List ℕ) → (off len : ℕ) → Reply × World
file_read_step W t name off len = file_step W t (read_program (files_area W.geometry) name off len) found_reply

unfoldable pub file_move_step : World → Live → (from to : List ℕ) → Reply × World
file_move_step W t from to = file_step W t (rename_program (files_area W.geometry) from to) removed_reply

unfoldable pub file_delete_step : World → Live → (name : List ℕ) → Reply × World
file_delete_step W t name = file_step W t (remove_program (files_area W.geometry) name) removed_reply

-- a release under a label, once it is known who is there
abbrev pub release_step : World → Live → List ℕ → Option Live → Reply × World
release_step W t text (Some other) = (reply.LabelTaken, W)
release_step W t text None = (reply.Done, placed W t (label text))

-- a takeover by a client, once it is known who is under the label
abbrev pub takeover_step : World → (c : ℕ) → Option Live → Reply × World
takeover_step W c None = (reply.NoHandle, W)
takeover_step W c (Some t) = (reply.Began t.begin, placed W t (client c))

-- what a group is answered, and the world after it
abbrev pub grouped : List (Option GroupReply) × World → Reply × World
grouped ended = (reply.Grouped ended.0, ended.1)

-- the numbers of the image
unfoldable pub numbers : World → Reply
numbers W = reply.Numbers (last W.history) W.base W.trim (length W.live) (used W) (versions W)

-- an operation that needs that there is no transaction
abbrev pub out_of_transaction : World → Option Live → Reply × World → Reply × World
out_of_transaction W (Some t) result = (reply.InTx, W)
out_of_transaction W None result = result

-- an operation that needs a transaction: refused where the client has none
abbrev pub in_transaction : World → Option Live → (Live → Reply × World) → Reply × World
in_transaction W None act = (reply.NotInTx, W)
in_transaction W (Some t) act = act t

-- the reply to a client's operation, and the world after it
unfoldable pub step : World → (c : ℕ) → Op → Reply × World
step W c (Begin mode) = out_of_transaction W (attached W c) (as_step (begin_step W (client c) (mode_named W mode)))
step W c (Put block off bytes) = in_transaction W (attached W c) (λ t. put_step W t block off bytes)
step W c (ReadBlock block) = in_transaction W (attached W c) (λ t. read_step W t block)
step W c (Get block off len) = in_transaction W (attached W c) (λ t. get_step W t block off len)
step W c (WriteBlock block bytes) = in_transaction W (attached W c) (λ t. write_step W t block bytes)
step W c (Fill block bytes) = in_transaction W (attached W c) (λ t. fill_step W t block bytes)
step W c (Mark off len) = in_transaction W (attached W c) (λ t. mark_step W t off len)
step W c End = in_transaction W (attached W c) (λ t. as_step (end_step W t))
step W c Abort = in_transaction W (attached W c) (λ t. (reply.Done, after_leaving W t))
step W c (Release text) = in_transaction W (attached W c) (λ t. release_step W t text (held W text))
step W c (Takeover text) = out_of_transaction W (attached W c) (takeover_step W c (held W text))
step W c (Await text) = out_of_transaction W (attached W c) (takeover_step W c (held W text))
step W c (Group texts) = grouped (group_step W texts)
step W c Trim = (reply.Trimmed (floor W), after_trim W)
step W c Stat = (numbers W, W)
step W c Compact = as_step (switch_step W W.geometry.form (core.Compacted (floor W)))
step W c Upgrade = as_step (switch_step W 2 (core.Upgraded (floor W)))
step W c (HashPut key value) = in_transaction W (attached W c) (λ t. hash_put_step W t key value)
step W c (HashGet key) = in_transaction W (attached W c) (λ t. hash_get_step W t key)
step W c (HashDelete key) = in_transaction W (attached W c) (λ t. hash_delete_step W t key)
step W c (TreePut key value) = in_transaction W (attached W c) (λ t. tree_put_step W t key value)
step W c (TreeGet key) = in_transaction W (attached W c) (λ t. tree_get_step W t key)
step W c (TreeDelete key) = in_transaction W (attached W c) (λ t. tree_delete_step W t key)
step W c (TreeScan from to most) = in_transaction W (attached W c) (λ t. tree_scan_step W t from to most)
step W c (FileNew name) = in_transaction W (attached W c) (λ t. file_new_step W t name)
step W c (FileWrite name off bytes) = in_transaction W (attached W c) (λ t. file_write_step W t name off bytes)
step W c (FileRead name off len) = in_transaction W (attached W c) (λ t. file_read_step W t name off len)
step W c (FileMove from to) = in_transaction W (attached W c) (λ t. file_move_step W t from to)
step W c (FileDelete name) = in_transaction W (attached W c) (λ t. file_delete_step W t name)
