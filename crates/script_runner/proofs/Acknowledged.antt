-- A commit that a reply tells is one of the world after it.
use Rattle.script_runner.proofs.{Words.{◌≡◌, ◌<◌, ◌≤◌, ◌+◌, refl, ◌&&◌, ◌==◌, not, ℕ, Bool, true, false, cond, List, [], ◌∷◌, length, nat_le, nat_lt, Option, Some, None, Result, Ok, Err, inl, inr, drop, take, length-append, subst, sym, arith, Access, Clash, MarkError, Mode, Span, CoreReply, Line, Op, Reply, StoreError, LAST, MAX_LIVE, clash, has_write, same_mode, del_program, get_program, put_program, History, last, mark_fault, after, access_step, after_store, fill_step, found_reply, get_step, hash_delete_step, hash_get_step, hash_put_step, in_store, in_transaction, mark_step, marked_step, numbers, out_of_transaction, put_step, read_step, release_step, removed_reply, step, store_step, takeover_step, write_step, pairs_reply, tree_put_step, tree_get_step, tree_delete_step, tree_scan_step, FsError, Call, store_refusal, file_refusal, file_step, file_new_step, file_write_step, file_read_step, file_move_step, file_delete_step, file_blocks, files_area, create_program, write_program, read_program, rename_program, remove_program, after_commit, begin_step, commit_step, end_step, switch_step, mode_named, read_access, shown_to, as_reply, as_step, as_either, hash_area, tree_area, Program, Live, Place, World, attached, client, floor, held, AreLines, IsWorld, after_leads, step_leads, AreRepliesTo, TellsCommit, Acknowledges, SameButShown, longer, GroupReply, IsAmongGrouped, SaysCommit, group_step, grouped, Begin, End, Abort, Put, ReadBlock, Get, WriteBlock, Fill, Mark, Release, Takeover, Await, Group, Trim, Stat, Compact, Upgrade, HashPut, HashGet, HashDelete, TreePut, TreeGet, TreeDelete, TreeScan, FileNew, FileWrite, FileRead, FileMove, FileDelete}, Grouped.group_kept}
use Rattle.iso_model.specs.declared.core_reply.CoreReply.TheVariants as core
use Rattle.script_model.specs.declared.script.Reply.TheVariants as reply
use Rattle.store_model.specs.TreeCalls as tree

-- a commit that the reply tells is one of the world beside it
record Tells (result : Reply × World) : Type 0 where
  each : (n : ℕ) → SaysCommit result.0 n → n ≤ last result.1.history

tells_either : (t : Bool) (x y : Reply × World) → Tells x → Tells y → Tells (cond t x y)
tells_either true x y first second = first
tells_either false x y first second = second

-- whether a reply may tell commits
abbrev tells_some : Reply → Bool
tells_some (reply.Committed n) = true
tells_some (reply.Grouped answers) = true
tells_some r = false

silent : (r : Reply) (n : ℕ) → tells_some r ≡ false → SaysCommit r n → ⊥
silent r n none (inl is) = let no : true ≡ false = subst (λ (x : Reply). tells_some x ≡ false) is none in cc
silent r n none (inr told) = let no : true ≡ false = subst (λ (x : Reply). tells_some x ≡ false) told.1 none in cc

-- an answer that is no commit
other : (r : Reply) (V : World) → tells_some r ≡ false → Tells (r, V)
other r V none = record { each = λ n e. absurd (silent r n none e) }

-- a refusal, and else the rest
refuses : (t : Bool) (r : Reply) (V : World) (y : Reply × World) → tells_some r ≡ false → Tells y → Tells (cond t (r, V) y)
refuses true r V y none rest = other r V none
refuses false r V y none rest = rest

-- the answer to a group
group_tells : (W : World) (texts : List (List ℕ)) → IsWorld W → Tells (grouped (group_step W texts))
group_tells W texts is = record { each = told }
  where
    told : (n : ℕ) → SaysCommit (reply.Grouped (group_step W texts).0) n → n ≤ last (group_step W texts).1.history
    told n (inl e) = let no : reply.Grouped (group_step W texts).0 ≡ reply.Committed n = e in cc
    told n (inr said) =
        let same : (group_step W texts).0 ≡ said.0 = cc in
        group_kept W texts n is.history.first (subst (λ (answers : List (Option GroupReply)). IsAmongGrouped n answers) (sym same) said.2)

begin_tells : (W : World) (place : Place) (mode : Mode) → Tells (as_step (begin_step W place mode))
unfolding begin_step
begin_tells W place mode =
    as_either Tells ((W.geometry.form == 1) && not (same_mode mode W.geometry.mode)) _ _ (other reply.ModeFixed W refl)
    (as_either Tells (nat_le MAX_LIVE (length W.live)) _ _ (other reply.TooManyTx W refl)
    (as_either Tells (nat_lt LAST W.next) _ _ (other reply.Worn W refl) (other (reply.Began (last W.history)) _ refl)))

access_tells : (W : World) (t : Live) (block : ℕ) (wrong : Bool) (answer : Reply) (a : Access) → tells_some answer ≡ false → Tells (access_step W t block wrong answer a)
access_tells W t block wrong answer a none = grind (arith, refuses)

put_tells : (W : World) (t : Live) (block off : ℕ) (bytes : List ℕ) → Tells (put_step W t block off bytes)
unfolding put_step
put_tells W t block off bytes = access_tells W t block _ reply.Done _ refl

read_tells : (W : World) (t : Live) (block : ℕ) → Tells (read_step W t block)
unfolding read_step
read_tells W t block = access_tells W t block false (reply.Shown (shown_to W t block)) (read_access block) refl

get_tells : (W : World) (t : Live) (block off len : ℕ) → Tells (get_step W t block off len)
unfolding get_step
get_tells W t block off len = access_tells W t block _ (reply.Shown (take len (drop off (shown_to W t block)))) _ refl

write_tells : (W : World) (t : Live) (block : ℕ) (bytes : List ℕ) → Tells (write_step W t block bytes)
unfolding write_step
write_tells W t block bytes = access_tells W t block _ reply.Done _ refl

fill_tells : (W : World) (t : Live) (block : ℕ) (bytes : List ℕ) → Tells (fill_step W t block bytes)
unfolding fill_step
fill_tells W t block bytes = access_tells W t block _ reply.Done _ refl

marked_tells : (W : World) (t : Live) (span : Span) (fault : Option MarkError) → Tells (marked_step W t span fault)
marked_tells W t span fault = grind arith

mark_tells : (W : World) (t : Live) (off len : ℕ) → Tells (mark_step W t off len)
unfolding mark_step
mark_tells W t off len = marked_tells W t (record { off = off; len = len }) (mark_fault W.geometry.block off len t.accesses)

committed : (W : World) (t : Live) → 0 < W.history.first → last W.history + 1 ≤ last (after_commit W t).history
committed W t first =
    omega (arith, first, length-append W.history.commits (record { begin = t.begin; mode = t.mode; accesses = t.accesses } ∷ []))

commit_tells : (W : World) (t : Live) (found : Option Clash) → IsWorld W → Tells (as_step (commit_step W t found))
unfolding commit_step
commit_tells W t (Some c) is = other _ _ refl
commit_tells W t None is = grind (arith, as_either, committed)

end_tells : (W : World) (t : Live) → IsWorld W → Tells (as_step (end_step W t))
unfolding end_step
end_tells W t is = as_either Tells (has_write t.accesses) _ _ (commit_tells W t (clash W.geometry W.history t.mode t.begin t.accesses) is) (other reply.ReadOnly _ refl)

-- a call of a store makes no commit
stored_tells : {E R : Type 0} (W : World) (t : Live) (refusal : E → Reply) (answer : R → Reply) → ((e : E) → tells_some (refusal e) ≡ false) → ((r : R) → tells_some (answer r) ≡ false)
    → (done : List Access) (end : Option (Result R E)) → Tells (after_store W t refusal answer (done, end))
stored_tells W t refusal answer refused none done None = other _ _ refl
stored_tells W t refusal answer refused none done (Some (Ok r)) = other (answer r) _ (none r)
stored_tells W t refusal answer refused none done (Some (Err e)) = other (refusal e) _ (refused e)

call_tells : {E R : Type 0} (W : World) (t : Live) (program : Program (Result R E)) (refusal : E → Reply) (answer : R → Reply) → ((e : E) → tells_some (refusal e) ≡ false)
    → ((r : R) → tells_some (answer r) ≡ false) → Tells (store_step W t program refusal answer)
unfolding store_step
call_tells W t program refusal answer refused none = grind (arith, stored_tells)

refused_tells : (e : StoreError) → tells_some (store_refusal e) ≡ false
refused_tells e = grind arith

file_refused_tells : (e : FsError) → tells_some (file_refusal e) ≡ false
file_refused_tells e = grind (arith, refused_tells)

store_tells : {R : Type 0} (W : World) (t : Live) (program : Program (Result R StoreError)) (answer : R → Reply) → ((r : R) → tells_some (answer r) ≡ false)
    → Tells (store_step W t program store_refusal answer)
store_tells W t program answer none = call_tells W t program store_refusal answer refused_tells none

in_store_tells : (W : World) (t : Live) (blocks : ℕ) (result : Reply × World) → Tells result → Tells (in_store W t blocks result)
in_store_tells W t blocks result tells = refuses _ reply.NoStore W _ refl (tells_either _ _ _ tells (other reply.StoreMode _ refl))

-- what the calls answer
done_tells : (r : Unit {0}) → tells_some reply.Done ≡ false
done_tells r = refl

found_tells : (r : Option (List ℕ)) → tells_some (found_reply r) ≡ false
found_tells r = grind arith

removed_tells : (r : Bool) → tells_some (removed_reply r) ≡ false
removed_tells r = grind arith

pairs_tells : (r : List (List ℕ × List ℕ)) → tells_some (pairs_reply r) ≡ false
pairs_tells r = grind arith

hash_put_tells : (W : World) (t : Live) (key value : List ℕ) → Tells (hash_put_step W t key value)
unfolding hash_put_step
hash_put_tells W t key value = in_store_tells W t W.geometry.hash _ (store_tells W t (put_program (hash_area W.geometry) key value) (λ done. reply.Done) done_tells)

hash_get_tells : (W : World) (t : Live) (key : List ℕ) → Tells (hash_get_step W t key)
unfolding hash_get_step
hash_get_tells W t key = in_store_tells W t W.geometry.hash _ (store_tells W t (get_program (hash_area W.geometry) key) found_reply found_tells)

hash_delete_tells : (W : World) (t : Live) (key : List ℕ) → Tells (hash_delete_step W t key)
unfolding hash_delete_step
hash_delete_tells W t key = in_store_tells W t W.geometry.hash _ (store_tells W t (del_program (hash_area W.geometry) key) removed_reply removed_tells)

tree_put_tells : (W : World) (t : Live) (key value : List ℕ) → Tells (tree_put_step W t key value)
unfolding tree_put_step
tree_put_tells W t key value = in_store_tells W t W.geometry.tree _ (store_tells W t (tree.put_program (tree_area W.geometry) key value) (λ done. reply.Done) done_tells)

tree_get_tells : (W : World) (t : Live) (key : List ℕ) → Tells (tree_get_step W t key)
unfolding tree_get_step
tree_get_tells W t key = in_store_tells W t W.geometry.tree _ (store_tells W t (tree.get_program (tree_area W.geometry) key) found_reply found_tells)

tree_delete_tells : (W : World) (t : Live) (key : List ℕ) → Tells (tree_delete_step W t key)
unfolding tree_delete_step
tree_delete_tells W t key = in_store_tells W t W.geometry.tree _ (store_tells W t (tree.del_program (tree_area W.geometry) key) removed_reply removed_tells)

tree_scan_tells : (W : World) (t : Live) (from to : List ℕ) (most : ℕ) → Tells (tree_scan_step W t from to most)
unfolding tree_scan_step
tree_scan_tells W t from to most = grind (arith, in_store_tells, refuses, store_tells, pairs_tells)

-- calls on files
file_tells : {R : Type 0} (W : World) (t : Live) (program : Call R) (answer : R → Reply) → ((r : R) → tells_some (answer r) ≡ false) → Tells (file_step W t program answer)
file_tells W t program answer none = in_store_tells W t (file_blocks W.geometry) _ (call_tells W t program file_refusal answer file_refused_tells none)

file_new_tells : (W : World) (t : Live) (name : List ℕ) → Tells (file_new_step W t name)
unfolding file_new_step
file_new_tells W t name = file_tells W t (create_program (files_area W.geometry) name) (λ done. reply.Done) done_tells

file_write_tells : (W : World) (t : Live) (name : List ℕ) (off : ℕ) (bytes : List ℕ) → Tells (file_write_step W t name off bytes)
unfolding file_write_step
file_write_tells W t name off bytes = file_tells W t (write_program (files_area W.geometry) name off bytes) removed_reply removed_tells

file_read_tells : (W : World) (t : Live) (name : List ℕ) (off len : ℕ) → Tells (file_read_step W t name off len)
unfolding file_read_step
file_read_tells W t name off len = file_tells W t (read_program (files_area W.geometry) name off len) found_reply found_tells

file_move_tells : (W : World) (t : Live) (from to : List ℕ) → Tells (file_move_step W t from to)
unfolding file_move_step
file_move_tells W t from to = file_tells W t (rename_program (files_area W.geometry) from to) removed_reply removed_tells

file_delete_tells : (W : World) (t : Live) (name : List ℕ) → Tells (file_delete_step W t name)
unfolding file_delete_step
file_delete_tells W t name = file_tells W t (remove_program (files_area W.geometry) name) removed_reply removed_tells

release_tells : (W : World) (t : Live) (text : List ℕ) (found : Option Live) → Tells (release_step W t text found)
release_tells W t text found = grind arith

takeover_tells : (W : World) (c : ℕ) (found : Option Live) → Tells (takeover_step W c found)
takeover_tells W c found = grind arith

switch_tells : (W : World) (form : ℕ) (answer : CoreReply) → tells_some (as_reply answer) ≡ false → Tells (as_step (switch_step W form answer))
unfolding switch_step
switch_tells W form answer none = as_either Tells (W.generation == LAST) _ _ (other reply.Worn W refl) (other (as_reply answer) _ none)

out_tells : (W : World) (found : Option Live) (result : Reply × World) → Tells result → Tells (out_of_transaction W found result)
out_tells W (Some t) result tells = other _ _ refl
out_tells W None result tells = tells

in_tells : (W : World) (found : Option Live) (act : Live → Reply × World) → ((t : Live) → Tells (act t)) → Tells (in_transaction W found act)
in_tells W None act tells = other _ _ refl
in_tells W (Some t) act tells = tells t

step_tells : (W : World) (c : ℕ) (op : Op) → IsWorld W → Tells (step W c op)
unfolding step numbers
step_tells W c (Begin mode) is = out_tells W (attached W c) _ (begin_tells W (client c) (mode_named W mode))
step_tells W c (Put block off bytes) is = in_tells W (attached W c) _ (λ t. put_tells W t block off bytes)
step_tells W c (ReadBlock block) is = in_tells W (attached W c) _ (λ t. read_tells W t block)
step_tells W c (Get block off len) is = in_tells W (attached W c) _ (λ t. get_tells W t block off len)
step_tells W c (WriteBlock block bytes) is = in_tells W (attached W c) _ (λ t. write_tells W t block bytes)
step_tells W c (Fill block bytes) is = in_tells W (attached W c) _ (λ t. fill_tells W t block bytes)
step_tells W c (Mark off len) is = in_tells W (attached W c) _ (λ t. mark_tells W t off len)
step_tells W c End is = in_tells W (attached W c) _ (λ t. end_tells W t is)
step_tells W c Abort is = in_tells W (attached W c) _ (λ t. other reply.Done _ refl)
step_tells W c (Release text) is = in_tells W (attached W c) _ (λ t. release_tells W t text (held W text))
step_tells W c (Takeover text) is = out_tells W (attached W c) _ (takeover_tells W c (held W text))
step_tells W c (Await text) is = out_tells W (attached W c) _ (takeover_tells W c (held W text))
step_tells W c (Group texts) is = group_tells W texts is
step_tells W c Trim is = other _ _ refl
step_tells W c Stat is = other _ _ refl
step_tells W c Compact is = switch_tells W W.geometry.form (core.Compacted (floor W)) refl
step_tells W c Upgrade is = switch_tells W 2 (core.Upgraded (floor W)) refl
step_tells W c (HashPut key value) is = in_tells W (attached W c) _ (λ t. hash_put_tells W t key value)
step_tells W c (HashGet key) is = in_tells W (attached W c) _ (λ t. hash_get_tells W t key)
step_tells W c (HashDelete key) is = in_tells W (attached W c) _ (λ t. hash_delete_tells W t key)
step_tells W c (TreePut key value) is = in_tells W (attached W c) _ (λ t. tree_put_tells W t key value)
step_tells W c (TreeGet key) is = in_tells W (attached W c) _ (λ t. tree_get_tells W t key)
step_tells W c (TreeDelete key) is = in_tells W (attached W c) _ (λ t. tree_delete_tells W t key)
step_tells W c (TreeScan from to most) is = in_tells W (attached W c) _ (λ t. tree_scan_tells W t from to most)
step_tells W c (FileNew name) is = in_tells W (attached W c) _ (λ t. file_new_tells W t name)
step_tells W c (FileWrite name off bytes) is = in_tells W (attached W c) _ (λ t. file_write_tells W t name off bytes)
step_tells W c (FileRead name off len) is = in_tells W (attached W c) _ (λ t. file_read_tells W t name off len)
step_tells W c (FileMove from to) is = in_tells W (attached W c) _ (λ t. file_move_tells W t from to)
step_tells W c (FileDelete name) is = in_tells W (attached W c) _ (λ t. file_delete_tells W t name)

-- all lines
pub all_kept : (W : World) (xs : List (ℕ × Line)) → IsWorld W → AreLines xs → (n : ℕ) → Acknowledges W xs n → n ≤ last (after W xs).history
all_kept W [] is good n told = absurd told
all_kept W (x ∷ xs) is good n (inl says) =
    let U = (step W x.1.client x.1.op).1 in
    let one = step_leads W x.1.client x.1.op is good.0 in
    omega (arith, (step_tells W x.1.client x.1.op is).each n says, longer U (after U xs) (after_leads U xs one.world good.1))
all_kept W (x ∷ xs) is good n (inr later) =
    let one = step_leads W x.1.client x.1.op is good.0 in
    all_kept (step W x.1.client x.1.op).1 xs one.world good.1 n later

-- ON ANY DISK
-- the history grows
replies_longer : (U V : World) (xs : List (ℕ × Line)) (rs : List Reply) → IsWorld U → AreLines xs → AreRepliesTo U xs rs V → last U.history ≤ last V.history
replies_longer U V [] [] is good are = subst (λ (X : World). last U.history ≤ last X.history) (sym are) (omega arith)
replies_longer U V [] (r ∷ rs) is good are = absurd are
replies_longer U V (x ∷ xs) [] is good are = absurd are
replies_longer U V (x ∷ xs) (r ∷ rs) is good are =
    let leads = step_leads U x.1.client x.1.op is good.0 in
    let next : last U.history ≤ last are.0.history =
    subst (λ (H : History). last U.history ≤ last H) (sym are.1.history) (longer U (step U x.1.client x.1.op).1 leads) in
    let rest = replies_longer are.0 V xs rs are.1.sound good.1 are.2 in
    omega arith

-- a reply that says a commit shows no bytes
says_same : (n : ℕ) (r s : Reply) → SameButShown r s → SaysCommit r n → SaysCommit s n
says_same n r s same (inl is) = grind arith
says_same n r s same (inr said) = grind arith

-- a commit that was told of is one of the world that the lines led to
pub told_kept : (W V : World) (xs : List (ℕ × Line)) (rs : List Reply) → IsWorld W → AreLines xs → AreRepliesTo W xs rs V → (n : ℕ) → TellsCommit xs rs n → n ≤ last V.history
told_kept W V [] rs is good are n told = absurd told
told_kept W V (x ∷ xs) [] is good are n told = absurd told
told_kept W V (x ∷ xs) (r ∷ rs) is good are n (inl says) =
    let U = (step W x.1.client x.1.op).1 in
    let here : n ≤ last U.history = (step_tells W x.1.client x.1.op is).each n (says_same n r (step W x.1.client x.1.op).0 (are.1.plain says.0).0 says.1) in
    let next : n ≤ last are.0.history = subst (λ (H : History). n ≤ last H) (sym are.1.history) here in
    let rest = replies_longer are.0 V xs rs are.1.sound good.1 are.2 in
    omega arith
told_kept W V (x ∷ xs) (r ∷ rs) is good are n (inr later) = told_kept are.0 V xs rs are.1.sound good.1 are.2 n later
