-- Each step of a sound world leads to a sound one.
use Rattle.script_model.proofs.{Words.{◌≢◌, ℕ, ◌<◌, ◌≤◌, Bool, false, ◌&&◌, ◌==◌, not, IsTrue, List, length, Option, Result, nat_le, slice_index, arith, leb-false, eqb-false, eqb-true, not-false, length-append, length_push, length-replicate, Access, MarkError, Span, MAX_ACCESSES, Line, Op, Reply, StoreError, is_serial, del_program, get_program, put_program, is_key, array_at, IsAccess, AreBytes, HasShape, after, is_outside, mark_fault, step, access_step, put_step, read_step, get_step, write_step, fill_step, mark_step, marked_step, release_step, takeover_step, with_access, out_of_transaction, in_transaction, array_of, store_step, in_store, hash_put_step, hash_get_step, hash_delete_step, found_reply, removed_reply, pairs_reply, tree_put_step, tree_get_step, tree_delete_step, tree_scan_step, store_refusal, file_refusal, file_step, file_new_step, file_write_step, file_read_step, file_move_step, file_delete_step, file_blocks, files_area, Call, create_program, write_program, read_program, rename_program, remove_program, put_access, read_access, get_access, write_access, shown_to, after_leaving, mode_named, begin_step, hash_area, tree_area, Program, outcome, scan_program, is_label, World, Live, client, label, attached, held, floor, is_under_label, IsLive, IsWorld, LeadsTo, as_step, IsOp, AreLines, limits, replicate_bytes, all_find, all_apart, all_apart_from_label, all_push, IsIn, del_fits, get_fits, hash_area_is, put_fits, array_shape, own_shape, AllFit, FitsOn, fits_on, outcome_fits, IsTreeIn, tree_area_is, tree_del_fits, tree_get_fits, tree_put_fits, tree_scan_fits, get_is_access, inside_block, length-marked, marked_are, put_is_access, read_is_access, write_is_access, begin_leads, end_leads, leads_on, stays, leaves, accesses_are, all_append, places, chosen, live_at, trim_leads, switch_leads, group_step_leads, Begin, End, Abort, Put, ReadBlock, Get, WriteBlock, Fill, Mark, Release, Takeover, Await, Group, Trim, Stat, Compact, Upgrade, HashPut, HashGet, HashDelete, TreePut, TreeGet, TreeDelete, TreeScan, FileNew, FileWrite, FileRead, FileMove, FileDelete}, FileAccesses.{IsFilesIn, files_area_is, create_fits, write_fits, read_fits, rename_fits, remove_fits}}
use Rattle.std.proofs.Common.{◌≡◌, refl, ◌-◌, [], ◌∷◌, ◌++◌, Some, None, replicate}
use Rattle.iso_model.specs.declared.core_reply.CoreReply.TheVariants as core
use Rattle.script_model.specs.declared.script.Reply.TheVariants as reply
use Rattle.store_model.specs.TreeCalls as tree

-- with one access more
accesses_more : (W : World) (c : ℕ) (t : Live) (a : Access) → IsWorld W → attached W c ≡ Some t → IsLive W t → length t.accesses < MAX_ACCESSES
    → IsAccess W.geometry a → LeadsTo W (with_access W t a)
accesses_more W c t a is found live few access =
    accesses_are W c t (t.accesses ++ a ∷ []) is found live (omega (arith, length_push t.accesses a))
    (all_push (IsAccess W.geometry) t.accesses a live.accesses access)

-- a call of a store, on the array that the transaction is shown
store_leads : {E R : Type 0} (W : World) (c : ℕ) (t : Live) (program : Program (Result R E)) (refusal : E → Reply) (answer : R → Reply) → IsWorld W → attached W c ≡ Some t → IsLive W t
    → (HasShape W.geometry (array_of W t) → FitsOn W.geometry (λ r B. Unit {0}) program (array_of W t)) → LeadsTo W (store_step W t program refusal answer).1
unfolding store_step
store_leads W c t program refusal answer is found live fit =
    let ended = outcome (MAX_ACCESSES - length t.accesses) program (array_of W t) in
    let shape = own_shape W.geometry (array_at W.history t.begin) t.accesses live.accesses (array_shape W.geometry W.history t.begin is.history) in
    let fits = outcome_fits W.geometry (λ r B. Unit {0}) (MAX_ACCESSES - length t.accesses) program (array_of W t) (fit shape) in
    let few : length t.accesses ≤ MAX_ACCESSES = live.count in
    accesses_are W c t (t.accesses ++ ended.0) is found live (omega (arith, length-append t.accesses ended.0, fits.count, few))
    (all_append (IsAccess W.geometry) t.accesses ended.0 live.accesses fits.accesses)

-- a call of a store that is there, in a transaction that is serial
in_store_leads : (W : World) (t : Live) (blocks : ℕ) (result : Reply × World) → IsWorld W → (blocks ≢ 0 → LeadsTo W result.1) → LeadsTo W (in_store W t blocks result).1
in_store_leads W t blocks result is leads =
    chosen W (blocks == 0) _ _ (stays W is) (λ some.
    chosen W (is_serial t.mode) _ _ (leads (eqb-false blocks 0 some)) (λ snapshot. stays W is))

-- a call of the hash store
hash_leads : {R : Type 0} (W : World) (c : ℕ) (t : Live) (program : Program (Result R StoreError)) (answer : R → Reply) → IsWorld W → attached W c ≡ Some t → IsLive W t
    → (IsIn W.geometry (hash_area W.geometry) → AllFit W.geometry (λ r. Unit {0}) program) → LeadsTo W (in_store W t W.geometry.hash (store_step W t program store_refusal answer)).1
hash_leads W c t program answer is found live fit =
    let bounds = limits W.geometry is.valid in
    in_store_leads W t W.geometry.hash _ is (λ some.
    store_leads W c t program store_refusal answer is found live (λ shape. fits_on W.geometry (λ r. Unit {0}) program (array_of W t) shape
    (fit (record { area = hash_area_is W.geometry is.valid some; size = refl; fits = omega (arith, bounds.regions) }))))

hash_put_leads : (W : World) (c : ℕ) (t : Live) (key value : List ℕ) → IsWorld W → AreBytes key → AreBytes value → attached W c ≡ Some t → IsLive W t → LeadsTo W (hash_put_step W t key value).1
unfolding hash_put_step
hash_put_leads W c t key value is key_values value_values found live =
    hash_leads W c t (put_program (hash_area W.geometry) key value) _ is found live (λ there. put_fits W.geometry (hash_area W.geometry) there key value key_values value_values)

hash_get_leads : (W : World) (c : ℕ) (t : Live) (key : List ℕ) → IsWorld W → attached W c ≡ Some t → IsLive W t → LeadsTo W (hash_get_step W t key).1
unfolding hash_get_step
hash_get_leads W c t key is found live =
    hash_leads W c t (get_program (hash_area W.geometry) key) found_reply is found live (λ there. get_fits W.geometry (hash_area W.geometry) there key)

hash_delete_leads : (W : World) (c : ℕ) (t : Live) (key : List ℕ) → IsWorld W → attached W c ≡ Some t → IsLive W t → LeadsTo W (hash_delete_step W t key).1
unfolding hash_delete_step
hash_delete_leads W c t key is found live =
    hash_leads W c t (del_program (hash_area W.geometry) key) removed_reply is found live (λ there. del_fits W.geometry (hash_area W.geometry) there key)

-- a call of the tree store
tree_leads : {R : Type 0} (W : World) (c : ℕ) (t : Live) (program : Program (Result R StoreError)) (answer : R → Reply) → IsWorld W → W.geometry.tree ≢ 0 → attached W c ≡ Some t → IsLive W t
    → (IsTreeIn W.geometry (tree_area W.geometry) (array_of W t) → FitsOn W.geometry (λ r B. Unit {0}) program (array_of W t)) → LeadsTo W (store_step W t program store_refusal answer).1
tree_leads W c t program answer is some found live fit =
    let bounds = limits W.geometry is.valid in
    store_leads W c t program store_refusal answer is found live (λ shape.
    fit (record { area = tree_area_is W.geometry is.valid some; size = refl; fits = bounds.regions; shape = shape }))

tree_put_leads : (W : World) (c : ℕ) (t : Live) (key value : List ℕ) → IsWorld W → AreBytes key → AreBytes value → attached W c ≡ Some t → IsLive W t → LeadsTo W (tree_put_step W t key value).1
unfolding tree_put_step
tree_put_leads W c t key value is key_values value_values found live =
    in_store_leads W t W.geometry.tree _ is (λ some. tree_leads W c t (tree.put_program (tree_area W.geometry) key value) _ is some found live
    (λ there. tree_put_fits W.geometry (tree_area W.geometry) (array_of W t) there key value key_values value_values))

tree_get_leads : (W : World) (c : ℕ) (t : Live) (key : List ℕ) → IsWorld W → attached W c ≡ Some t → IsLive W t → LeadsTo W (tree_get_step W t key).1
unfolding tree_get_step
tree_get_leads W c t key is found live =
    in_store_leads W t W.geometry.tree _ is (λ some. tree_leads W c t (tree.get_program (tree_area W.geometry) key) found_reply is some found live
    (λ there. tree_get_fits W.geometry (tree_area W.geometry) (array_of W t) there key))

tree_delete_leads : (W : World) (c : ℕ) (t : Live) (key : List ℕ) → IsWorld W → attached W c ≡ Some t → IsLive W t → LeadsTo W (tree_delete_step W t key).1
unfolding tree_delete_step
tree_delete_leads W c t key is found live =
    in_store_leads W t W.geometry.tree _ is (λ some. tree_leads W c t (tree.del_program (tree_area W.geometry) key) removed_reply is some found live
    (λ there. tree_del_fits W.geometry (tree_area W.geometry) (array_of W t) there key))

tree_scan_leads : (W : World) (c : ℕ) (t : Live) (from to : List ℕ) (most : ℕ) → IsWorld W → attached W c ≡ Some t → IsLive W t → LeadsTo W (tree_scan_step W t from to most).1
unfolding tree_scan_step
tree_scan_leads W c t from to most is found live =
    in_store_leads W t W.geometry.tree _ is (λ some. chosen W (is_key from && is_key to && (most == 0)) _ _ (stays W is)
    (λ good. tree_leads W c t (scan_program (tree_area W.geometry) from to most) pairs_reply is some found live
    (λ there. tree_scan_fits W.geometry (tree_area W.geometry) (array_of W t) there from to most)))

-- a call on files
file_leads : {R : Type 0} (W : World) (c : ℕ) (t : Live) (program : Call R) (answer : R → Reply) → IsWorld W → attached W c ≡ Some t → IsLive W t
    → (IsFilesIn W.geometry (files_area W.geometry) (array_of W t) → FitsOn W.geometry (λ r B. Unit {0}) program (array_of W t)) → LeadsTo W (file_step W t program answer).1
file_leads W c t program answer is found live fit =
    in_store_leads W t (file_blocks W.geometry) _ is (λ some.
    store_leads W c t program file_refusal answer is found live (λ shape. fit (files_area_is W.geometry (array_of W t) is.valid shape some)))

file_new_leads : (W : World) (c : ℕ) (t : Live) (name : List ℕ) → IsWorld W → AreBytes name → attached W c ≡ Some t → IsLive W t → LeadsTo W (file_new_step W t name).1
unfolding file_new_step
file_new_leads W c t name is values found live =
    file_leads W c t (create_program (files_area W.geometry) name) _ is found live (λ there. create_fits W.geometry (files_area W.geometry) (array_of W t) there name values)

file_write_leads : (W : World) (c : ℕ) (t : Live) (name : List ℕ) (off : ℕ) (bytes : List ℕ) → IsWorld W → AreBytes bytes → attached W c ≡ Some t → IsLive W t → LeadsTo W (file_write_step W t name off bytes).1
unfolding file_write_step
file_write_leads W c t name off bytes is values found live =
    file_leads W c t (write_program (files_area W.geometry) name off bytes) removed_reply is found live (λ there. write_fits W.geometry (files_area W.geometry) (array_of W t) there name off bytes values)

file_read_leads : (W : World) (c : ℕ) (t : Live) (name : List ℕ) (off len : ℕ) → IsWorld W → attached W c ≡ Some t → IsLive W t → LeadsTo W (file_read_step W t name off len).1
unfolding file_read_step
file_read_leads W c t name off len is found live =
    file_leads W c t (read_program (files_area W.geometry) name off len) found_reply is found live (λ there. read_fits W.geometry (files_area W.geometry) (array_of W t) there name off len)

file_move_leads : (W : World) (c : ℕ) (t : Live) (from to : List ℕ) → IsWorld W → AreBytes to → attached W c ≡ Some t → IsLive W t → LeadsTo W (file_move_step W t from to).1
unfolding file_move_step
file_move_leads W c t from to is values found live =
    file_leads W c t (rename_program (files_area W.geometry) from to) removed_reply is found live (λ there. rename_fits W.geometry (files_area W.geometry) (array_of W t) there from to values)

file_delete_leads : (W : World) (c : ℕ) (t : Live) (name : List ℕ) → IsWorld W → attached W c ≡ Some t → IsLive W t → LeadsTo W (file_delete_step W t name).1
unfolding file_delete_step
file_delete_leads W c t name is found live =
    file_leads W c t (remove_program (files_area W.geometry) name) removed_reply is found live (λ there. remove_fits W.geometry (files_area W.geometry) (array_of W t) there name)

-- an access that is there once it is not refused
access_leads : (W : World) (c : ℕ) (t : Live) (block : ℕ) (is_wrong : Bool) (answer : Reply) (a : Access) → IsWorld W → attached W c ≡ Some t → IsLive W t
    → (block < W.geometry.blocks → is_wrong ≡ false → IsAccess W.geometry a) → LeadsTo W (access_step W t block is_wrong answer a).1
access_leads W c t block is_wrong answer a is found live access =
    chosen W (nat_le W.geometry.blocks block) _ _ (stays W is) (λ inside.
    chosen W is_wrong _ _ (stays W is) (λ right.
    chosen W (nat_le MAX_ACCESSES (length t.accesses)) _ _ (stays W is) (λ few.
    accesses_more W c t a is found live (leb-false MAX_ACCESSES (length t.accesses) few) (access (leb-false W.geometry.blocks block inside) right))))

put_leads : (W : World) (c : ℕ) (t : Live) (block off : ℕ) (bytes : List ℕ) → IsWorld W → AreBytes bytes → attached W c ≡ Some t → IsLive W t
    → LeadsTo W (put_step W t block off bytes).1
unfolding put_step
put_leads W c t block off bytes is values found live =
    access_leads W c t block (is_outside W.geometry.block off (length bytes)) reply.Done (put_access W.geometry.block block off bytes) is found live (λ inside right.
    let span = inside_block W.geometry.block off (length bytes) right in
    put_is_access W.geometry block off bytes inside span.some span.fits values)

read_leads : (W : World) (c : ℕ) (t : Live) (block : ℕ) → IsWorld W → attached W c ≡ Some t → IsLive W t → LeadsTo W (read_step W t block).1
unfolding read_step
read_leads W c t block is found live =
    access_leads W c t block false (reply.Shown (shown_to W t block)) (read_access block) is found live (λ inside right. read_is_access W.geometry block inside)

get_leads : (W : World) (c : ℕ) (t : Live) (block off len : ℕ) → IsWorld W → attached W c ≡ Some t → IsLive W t → LeadsTo W (get_step W t block off len).1
unfolding get_step
get_leads W c t block off len is found live =
    access_leads W c t block (is_outside W.geometry.block off len) _ (get_access block off len) is found live (λ inside right.
    get_is_access W.geometry block off len inside (inside_block W.geometry.block off len right))

write_leads : (W : World) (c : ℕ) (t : Live) (block : ℕ) (bytes : List ℕ) → IsWorld W → AreBytes bytes → attached W c ≡ Some t → IsLive W t
    → LeadsTo W (write_step W t block bytes).1
unfolding write_step
write_leads W c t block bytes is values found live =
    access_leads W c t block (not (length bytes == W.geometry.block)) reply.Done (write_access block bytes) is found live (λ inside right.
    write_is_access W.geometry block bytes inside (eqb-true (length bytes) W.geometry.block (not-false (length bytes == W.geometry.block) right)) values)

fill_leads : (W : World) (c : ℕ) (t : Live) (block : ℕ) (bytes : List ℕ) → IsWorld W → AreBytes bytes → attached W c ≡ Some t → IsLive W t
    → LeadsTo W (fill_step W t block bytes).1
unfolding fill_step
fill_leads W c t block bytes is values found live =
    access_leads W c t block (not (length bytes == 1)) reply.Done (write_access block (replicate W.geometry.block (slice_index bytes 0))) is found live (λ inside right.
    write_is_access W.geometry block (replicate W.geometry.block (slice_index bytes 0)) inside (length-replicate W.geometry.block (slice_index bytes 0))
    (replicate_bytes W.geometry.block (slice_index bytes 0) (values 0)))

mark_leads : (W : World) (c : ℕ) (t : Live) (off len : ℕ) → IsWorld W → attached W c ≡ Some t → IsLive W t → LeadsTo W (mark_step W t off len).1
unfolding mark_step
mark_leads W c t off len is found live = go (mark_fault W.geometry.block off len t.accesses) refl
  where
    span : Span
    span = record { off = off; len = len }

    go : (o : Option MarkError) → mark_fault W.geometry.block off len t.accesses ≡ o → LeadsTo W (marked_step W t span o).1
    go (Some fault) e = stays W is
    go None e = grind (arith, accesses_are, length-marked, marked_are)

release_leads : (W : World) (t : Live) (text : List ℕ) → IsWorld W → IsLive W t → IsTrue (is_label text) → LeadsTo W (release_step W t text (held W text)).1
release_leads W t text is live good = go (held W text) refl
  where
    go : (o : Option Live) → held W text ≡ o → LeadsTo W (release_step W t text o).1
    go (Some other) e = stays W is
    go None e = places W t (label text) is live good (all_apart_from_label text W.live e)

takeover_leads : (W : World) (c : ℕ) (text : List ℕ) → IsWorld W → attached W c ≡ None → LeadsTo W (takeover_step W c (held W text)).1
takeover_leads W c text is none = go (held W text) refl
  where
    go : (o : Option Live) → held W text ≡ o → LeadsTo W (takeover_step W c o).1
    go None e = stays W is
    go (Some t) e = places W t (client c) is (all_find (IsLive W) (λ u. is_under_label text u.place) W.live t is.live e) tt (all_apart c W.live none)

out_leads : (W : World) (o : Option Live) (result : Reply × World) → IsWorld W → (o ≡ None → LeadsTo W result.1) → LeadsTo W (out_of_transaction W o result).1
out_leads W (Some t) result is leads = stays W is
out_leads W None result is leads = leads refl

in_leads : (W : World) (o : Option Live) (act : Live → Reply × World) → IsWorld W → ((t : Live) → o ≡ Some t → LeadsTo W (act t).1)
    → LeadsTo W (in_transaction W o act).1
in_leads W None act is leads = stays W is
in_leads W (Some t) act is leads = leads t refl

-- of a client's transaction, which is live
in_live : (W : World) (c : ℕ) (act : Live → Reply × World) → IsWorld W → ((t : Live) → attached W c ≡ Some t → IsLive W t → LeadsTo W (act t).1) → LeadsTo W (in_transaction W (attached W c) act).1
in_live W c act is leads = in_leads W (attached W c) act is (λ t found. leads t found (live_at W c t is found))

-- one step
pub step_leads : (W : World) (c : ℕ) (op : Op) → IsWorld W → IsOp op → LeadsTo W (step W c op).1
unfolding step
step_leads W c (Begin mode) is good =
    out_leads W (attached W c) (as_step (begin_step W (client c) (mode_named W mode))) is
    (λ none. begin_leads W (client c) (mode_named W mode) is tt (all_apart c W.live none))
step_leads W c (Put block off bytes) is good = in_live W c _ is (λ t found live. put_leads W c t block off bytes is good found live)
step_leads W c (ReadBlock block) is good = in_live W c _ is (λ t found live. read_leads W c t block is found live)
step_leads W c Abort is good = in_leads W (attached W c) (λ t. (reply.Done, after_leaving W t)) is (λ t found. leaves W t is)
step_leads W c End is good = in_live W c _ is (λ t found live. end_leads W t is live)
step_leads W c (Get block off len) is good = in_live W c _ is (λ t found live. get_leads W c t block off len is found live)
step_leads W c (WriteBlock block bytes) is good = in_live W c _ is (λ t found live. write_leads W c t block bytes is good found live)
step_leads W c (Fill block bytes) is good = in_live W c _ is (λ t found live. fill_leads W c t block bytes is good found live)
step_leads W c (Mark off len) is good = in_live W c _ is (λ t found live. mark_leads W c t off len is found live)
step_leads W c (Release text) is good = in_live W c _ is (λ t found live. release_leads W t text is live good)
step_leads W c (Takeover text) is good =
    out_leads W (attached W c) (takeover_step W c (held W text)) is (λ none. takeover_leads W c text is none)
step_leads W c (Await text) is good =
    out_leads W (attached W c) (takeover_step W c (held W text)) is (λ none. takeover_leads W c text is none)
step_leads W c (Group texts) is good = group_step_leads W texts is
step_leads W c Trim is good = trim_leads W is
step_leads W c Stat is good = stays W is
step_leads W c Compact is good = switch_leads W W.geometry.form (core.Compacted (floor W)) is (omega arith) ((limits W.geometry is.valid).largest_form)
step_leads W c Upgrade is good = switch_leads W 2 (core.Upgraded (floor W)) is ((limits W.geometry is.valid).largest_form) (omega arith)
step_leads W c (HashPut key value) is good = in_live W c _ is (λ t found live. hash_put_leads W c t key value is good.0 good.1 found live)
step_leads W c (HashGet key) is good = in_live W c _ is (λ t found live. hash_get_leads W c t key is found live)
step_leads W c (HashDelete key) is good = in_live W c _ is (λ t found live. hash_delete_leads W c t key is found live)
step_leads W c (TreePut key value) is good = in_live W c _ is (λ t found live. tree_put_leads W c t key value is good.0 good.1 found live)
step_leads W c (TreeGet key) is good = in_live W c _ is (λ t found live. tree_get_leads W c t key is found live)
step_leads W c (TreeDelete key) is good = in_live W c _ is (λ t found live. tree_delete_leads W c t key is found live)
step_leads W c (TreeScan from to most) is good = in_live W c _ is (λ t found live. tree_scan_leads W c t from to most is found live)
step_leads W c (FileNew name) is good = in_live W c _ is (λ t found live. file_new_leads W c t name is good found live)
step_leads W c (FileWrite name off bytes) is good = in_live W c _ is (λ t found live. file_write_leads W c t name off bytes is good found live)
step_leads W c (FileRead name off len) is good = in_live W c _ is (λ t found live. file_read_leads W c t name off len is found live)
step_leads W c (FileMove from to) is good = in_live W c _ is (λ t found live. file_move_leads W c t from to is good found live)
step_leads W c (FileDelete name) is good = in_live W c _ is (λ t found live. file_delete_leads W c t name is found live)

-- all lines
pub after_leads : (W : World) (lines : List (ℕ × Line)) → IsWorld W → AreLines lines → LeadsTo W (after W lines)
after_leads W [] is good = stays W is
after_leads W (line ∷ lines) is good =
    let one = step_leads W line.1.client line.1.op is good.0 in
    leads_on W (step W line.1.client line.1.op).1 (after W (line ∷ lines)) one (after_leads (step W line.1.client line.1.op).1 lines one.world good.1)
