-- A refused call of a store leaves whether its transaction keeps to the stores.
use Rattle.store_scripts.proofs.{Words.{Mark, ◌≡◌, ◌∙◌, sym, refl, ap, subst, ℕ, ◌-◌, ◌==◌, ◌&&◌, ◌||◌, not, Bool, true, false, cond, List, [], ◌∷◌, ◌++◌, length, drop, append-nil, Option, Some, None, Result, Ok, Err, list_all, Access, MAX_ACCESSES, Op, End, HashPut, HashGet, HashDelete, TreePut, TreeGet, TreeDelete, TreeScan, Reply, is_key, array_of, found_reply, hash_delete_step, hash_get_step, hash_put_step, in_store, in_transaction, pairs_reply, removed_reply, step, store_reply, store_step, tree_delete_step, tree_get_step, tree_put_step, tree_scan_step, hash_area, tree_area, with_accesses, is_serial, AreReads, Program, outcome, Live, World, attached, IsWorld, OnKey, Scan, Answered, CallsStore, Notes, OfHash, accesses_or_none, answered, noted, spares_calls, spares_stores, told_by, told_more, OfSecond, SecondStore, second_store, store_refusal, FileRead, file_read_step, file_refusal, file_blocks, files_area, Call, StoreAnswer, TreeCall, option_map, StoreError, Del, Found, GetKey, Got, PutKey, WasPut, WasThere, in_area, read_program, read_reads}, Finding.attached_with, Acting.{got_told, pairs_told, there_told}, Seconds.IsSecond, Noted.drop_past, Refused.{IsRefusal, hash_del_last, hash_put_last, reads_so_far, refused_reads, tree_del_last, tree_put_last}}
use Rattle.script_model.specs.declared.script.Reply.TheVariants as reply
use Rattle.store_model.specs.HashCalls as hash
use Rattle.store_model.specs.TreeCalls as tree
use Rattle.iso_hash.proofs.Gets as hash_gets
use Rattle.iso_tree.proofs.Gets as tree_gets
use Rattle.iso_tree.proofs.ScanCalls as tree_scans

-- a call of a store puts no mark
no_mark : (op : Op) (r : Reply) (over count : ℕ) → CallsStore op → spares_calls op r over count ≡ true
no_mark (Mark off len) r over count calls = absurd calls
no_mark x r over count calls = refl

both_pass : (k x y : Bool) → x ≡ true → y ≡ true → (k && x && y) ≡ k
both_pass true true true one two = refl
both_pass true true false one two = cc
both_pass true false y one two = cc
both_pass false x y one two = refl

module _ (S : SecondStore) (lawful : IsSecond S) where
  module _ (W : World) (is : IsWorld W) (c : ℕ) (t : Live) (found : attached W c ≡ Some t) (op : Op) where
    -- where a line was refused, what it added to the transaction writes nothing
    abbrev Spares : Reply × World → Type 0
    Spares x = answered op x.0 ≡ None → list_all (spares_stores S W.geometry) (drop (length t.accesses) (accesses_or_none (attached x.1 c))) ≡ true

    reads_pass : (accesses : List Access) → AreReads accesses → list_all (spares_stores S W.geometry) accesses ≡ true
    reads_pass [] reads = refl
    reads_pass (a ∷ accesses) reads =
        subst (λ (b : Bool). ((not b || (not (in_area (hash_area W.geometry) a.block) && not ((second_store S W.geometry).has_block a.block))) && list_all (spares_stores S W.geometry) accesses) ≡ true) (sym reads.0) (reads_pass accesses reads.1)

    added_passes : (r : Reply) (done : List Access) → AreReads done → Spares (r, with_accesses W t (t.accesses ++ done))
    added_passes r done reads none =
        ap (λ (after : List Access). list_all (spares_stores S W.geometry) (drop (length t.accesses) after)) (ap accesses_or_none (attached_with W c t (t.accesses ++ done) is found))
        ∙ ap (list_all (spares_stores S W.geometry)) (drop_past t.accesses done)
        ∙ reads_pass done reads

    same_passes : (r : Reply) → Spares (r, W)
    same_passes r none =
        ap (λ (o : Option Live). list_all (spares_stores S W.geometry) (drop (length t.accesses) (accesses_or_none o))) found
        ∙ ap (list_all (spares_stores S W.geometry)) (sym (ap (drop (length t.accesses)) (append-nil t.accesses)) ∙ drop_past t.accesses [])

    pub choose : (test : Bool) (x y : Reply × World) → Spares x → Spares y → Spares (cond test x y)
    choose true x y one two = one
    choose false x y one two = two

    pub in_store_spares : (blocks : ℕ) (x : Reply × World) → Spares x → Spares (in_store W t blocks x)
    in_store_spares blocks x spares =
        choose (blocks == 0) _ _ (same_passes reply.NoStore) (choose (is_serial t.mode) _ _ spares (same_passes reply.StoreMode))

    called : {R : Type 0} (answer : R → Reply) (name : R → Answered TreeCall StoreAnswer) (done : List Access) (end : Option (Result R StoreError)) → ((r : R) → answered op (answer r) ≡ Some (name r))
        → (IsRefusal end → AreReads done) → Spares (store_reply store_refusal answer end, with_accesses W t (t.accesses ++ done))
    called answer name done None named reads = added_passes _ done (reads tt)
    called answer name done (Some (Err e)) named reads = added_passes _ done (reads tt)
    called answer name done (Some (Ok r)) named reads = λ none. absurd (let e : Some (name r) ≡ None = sym (named r) ∙ none in cc)

    pub store_spares : {R : Type 0} (program : Program (Result R StoreError)) (answer : R → Reply) (name : R → Answered TreeCall StoreAnswer) → ((r : R) → answered op (answer r) ≡ Some (name r))
        → (IsRefusal (outcome (MAX_ACCESSES - length t.accesses) program (array_of W t)).1 → AreReads (outcome (MAX_ACCESSES - length t.accesses) program (array_of W t)).0)
        → Spares (store_step W t program store_refusal answer)
    unfolding store_step
    store_spares program answer name named reads =
        called answer name (outcome (MAX_ACCESSES - length t.accesses) program (array_of W t)).0 (outcome (MAX_ACCESSES - length t.accesses) program (array_of W t)).1 named reads

    read_spares : {R : Type 0} (program : Call R) (answer : R → Reply) → AreReads (outcome (MAX_ACCESSES - length t.accesses) program (array_of W t)).0 → Spares (store_step W t program file_refusal answer)
    unfolding store_step
    read_spares program answer reads = added_passes (store_reply file_refusal answer (outcome (MAX_ACCESSES - length t.accesses) program (array_of W t)).1) (outcome (MAX_ACCESSES - length t.accesses) program (array_of W t)).0 reads

  -- a line of a transaction's client
  spares_in : (W : World) (c : ℕ) (op : Op) (o : Option Live) (act : Live → Reply × World) (t : Live) → o ≡ Some t
      → (answered op (act t).0 ≡ None → list_all (spares_stores S W.geometry) (drop (length t.accesses) (accesses_or_none (attached (act t).1 c))) ≡ true)
      → answered op (in_transaction W o act).0 ≡ None → list_all (spares_stores S W.geometry) (drop (length t.accesses) (accesses_or_none (attached (in_transaction W o act).1 c))) ≡ true
  spares_in W c op o act t at spares =
      subst (λ (p : Option Live). answered op (in_transaction W p act).0 ≡ None
      → list_all (spares_stores S W.geometry) (drop (length t.accesses) (accesses_or_none (attached (in_transaction W p act).1 c))) ≡ true) (sym at) spares

  module _ (W : World) (is : IsWorld W) (c : ℕ) (t : Live) (found : attached W c ≡ Some t) where
    abbrev Passes : Op → Reply × World → Type 0
    Passes op x = answered op x.0 ≡ None → list_all (spares_stores S W.geometry) (drop (length t.accesses) (accesses_or_none (attached x.1 c))) ≡ true

    abbrev room : ℕ
    room = MAX_ACCESSES - length t.accesses

    hash_put_passes : (key value : List ℕ) → Passes (HashPut key value) (hash_put_step W t key value)
    unfolding hash_put_step
    hash_put_passes key value =
        let op : Op = HashPut key value in
        in_store_spares W is c t found op W.geometry.hash _ (store_spares W is c t found op (hash.put_program (hash_area W.geometry) key value) (λ done. reply.Done) (λ done. OfHash (PutKey key value) WasPut) (λ r. refl)
        (refused_reads room (hash.put_program (hash_area W.geometry) key value) (array_of W t) (hash_put_last (hash_area W.geometry) key value)))

    hash_get_passes : (key : List ℕ) → Passes (HashGet key) (hash_get_step W t key)
    unfolding hash_get_step
    hash_get_passes key =
        let op : Op = HashGet key in
        in_store_spares W is c t found op W.geometry.hash _ (store_spares W is c t found op (hash.get_program (hash_area W.geometry) key) found_reply (λ r. OfHash (GetKey key) (Got r)) (λ r. ap (option_map (OfHash (GetKey key))) (got_told r))
        (λ refused. reads_so_far room (hash.get_program (hash_area W.geometry) key) (array_of W t) (hash_gets.get_reads (hash_area W.geometry) key (array_of W t))))

    hash_delete_passes : (key : List ℕ) → Passes (HashDelete key) (hash_delete_step W t key)
    unfolding hash_delete_step
    hash_delete_passes key =
        let op : Op = HashDelete key in
        in_store_spares W is c t found op W.geometry.hash _ (store_spares W is c t found op (hash.del_program (hash_area W.geometry) key) removed_reply (λ r. OfHash (Del key) (WasThere r)) (λ r. ap (option_map (OfHash (Del key))) (there_told r))
        (refused_reads room (hash.del_program (hash_area W.geometry) key) (array_of W t) (hash_del_last (hash_area W.geometry) key)))

    tree_put_passes : (key value : List ℕ) → Passes (TreePut key value) (tree_put_step W t key value)
    unfolding tree_put_step
    tree_put_passes key value =
        let op : Op = TreePut key value in
        in_store_spares W is c t found op W.geometry.tree _ (store_spares W is c t found op (tree.put_program (tree_area W.geometry) key value) (λ done. reply.Done) (λ done. OfSecond (OnKey (PutKey key value)) WasPut) (λ r. refl)
        (refused_reads room (tree.put_program (tree_area W.geometry) key value) (array_of W t) (tree_put_last (tree_area W.geometry) key value)))

    tree_get_passes : (key : List ℕ) → Passes (TreeGet key) (tree_get_step W t key)
    unfolding tree_get_step
    tree_get_passes key =
        let op : Op = TreeGet key in
        in_store_spares W is c t found op W.geometry.tree _ (store_spares W is c t found op (tree.get_program (tree_area W.geometry) key) found_reply (λ r. OfSecond (OnKey (GetKey key)) (Got r)) (λ r. ap (option_map (OfSecond (OnKey (GetKey key)))) (got_told r))
        (λ refused. reads_so_far room (tree.get_program (tree_area W.geometry) key) (array_of W t) (tree_gets.get_reads (tree_area W.geometry) key (array_of W t))))

    tree_delete_passes : (key : List ℕ) → Passes (TreeDelete key) (tree_delete_step W t key)
    unfolding tree_delete_step
    tree_delete_passes key =
        let op : Op = TreeDelete key in
        in_store_spares W is c t found op W.geometry.tree _ (store_spares W is c t found op (tree.del_program (tree_area W.geometry) key) removed_reply (λ r. OfSecond (OnKey (Del key)) (WasThere r)) (λ r. ap (option_map (OfSecond (OnKey (Del key)))) (there_told r))
        (refused_reads room (tree.del_program (tree_area W.geometry) key) (array_of W t) (tree_del_last (tree_area W.geometry) key)))

    tree_scan_passes : (from to : List ℕ) (most : ℕ) → Passes (TreeScan from to most) (tree_scan_step W t from to most)
    unfolding tree_scan_step
    tree_scan_passes from to most =
        let op : Op = TreeScan from to most in
        in_store_spares W is c t found op W.geometry.tree _ (choose W is c t found op (is_key from && is_key to && (most == 0)) _ _ (same_passes W is c t found op reply.BadRange)
        (store_spares W is c t found op (tree.scan_program (tree_area W.geometry) from to most) pairs_reply (λ r. OfSecond (Scan from to most) (Found r)) (λ r. ap (option_map (OfSecond (Scan from to most))) (pairs_told r))
        (λ refused. reads_so_far room (tree.scan_program (tree_area W.geometry) from to most) (array_of W t) (tree_scans.program_reads (tree_area W.geometry) from to most (array_of W t)))))

    step_passes : (op : Op) → CallsStore op → Passes op (step W c op)
    unfolding step
    step_passes (HashPut key value) calls = spares_in W c (HashPut key value) (attached W c) (λ u. hash_put_step W u key value) t found (hash_put_passes key value)
    step_passes (HashGet key) calls = spares_in W c (HashGet key) (attached W c) (λ u. hash_get_step W u key) t found (hash_get_passes key)
    step_passes (HashDelete key) calls = spares_in W c (HashDelete key) (attached W c) (λ u. hash_delete_step W u key) t found (hash_delete_passes key)
    step_passes (TreePut key value) calls = spares_in W c (TreePut key value) (attached W c) (λ u. tree_put_step W u key value) t found (tree_put_passes key value)
    step_passes (TreeGet key) calls = spares_in W c (TreeGet key) (attached W c) (λ u. tree_get_step W u key) t found (tree_get_passes key)
    step_passes (TreeDelete key) calls = spares_in W c (TreeDelete key) (attached W c) (λ u. tree_delete_step W u key) t found (tree_delete_passes key)
    step_passes (TreeScan from to most) calls = spares_in W c (TreeScan from to most) (attached W c) (λ u. tree_scan_step W u from to most) t found (tree_scan_passes from to most)
    step_passes x calls = absurd calls

    read_passes : (name : List ℕ) (off len : ℕ) → list_all (spares_stores S W.geometry) (drop (length t.accesses) (accesses_or_none (attached (step W c (FileRead name off len)).1 c))) ≡ true
    unfolding step file_read_step
    read_passes name off len =
        let p = read_program (files_area W.geometry) name off len in
        let done = in_store_spares W is c t found End (file_blocks W.geometry) _ (read_spares W is c t found End p found_reply (reads_so_far room p (array_of W t) (read_reads (files_area W.geometry) name off len (array_of W t)))) in
        spares_in W c End (attached W c) (λ u. file_read_step W u name off len) t found (λ none. done refl) refl

  -- a line that added reads alone and was answered no call of these stores
  kept_so : (W : World) (notes : Notes S) (c number : ℕ) (op : Op) → ((t : Live) → attached W c ≡ Some t → list_all (spares_stores S W.geometry) (drop (length t.accesses) (accesses_or_none (attached (step W c op).1 c))) ≡ true)
      → ((r : Reply) (over count : ℕ) → spares_calls op r over count ≡ true) → S.answered op (step W c op).0 ≡ None → (noted S W notes c op number).kept ≡ (notes number).kept
  kept_so W notes c number op spares unmarked none = go (attached W c) refl
    where
      owner : (t : Live) → attached W c ≡ Some t
          → (told_more S W.geometry op (step W c op).0 t.accesses (accesses_or_none (attached (step W c op).1 c)) (notes number) (S.answered op (step W c op).0)).kept ≡ (notes number).kept
      owner t found =
          ap (λ (a : Option (Answered S.Call S.Answer)). (told_more S W.geometry op (step W c op).0 t.accesses (accesses_or_none (attached (step W c op).1 c)) (notes number) a).kept) none
          ∙ both_pass (notes number).kept _ _ (spares t found) (unmarked (step W c op).0 (notes number).over (length t.accesses))

      go : (o : Option Live) → attached W c ≡ o → (told_by S W.geometry c number op o (step W c op) (notes number)).kept ≡ (notes number).kept
      go None at = refl
      go (Some t) at =
          elim (t.number == number) as (λ (b : Bool).
          (cond b (told_more S W.geometry op (step W c op).0 t.accesses (accesses_or_none (attached (step W c op).1 c)) (notes number) (S.answered op (step W c op).0)) (notes number)).kept ≡ (notes number).kept) [
            | true ↦ owner t at
            | false ↦ refl
          ]

  -- a refused call of the hash store or the tree store
  pub refused_keeps : (W : World) (notes : Notes S) (c number : ℕ) (op : Op) → IsWorld W → CallsStore op → answered op (step W c op).0 ≡ None → (noted S W notes c op number).kept ≡ (notes number).kept
  refused_keeps W notes c number op is calls none =
      kept_so W notes c number op (λ t found. step_passes W is c t found op calls none) (λ r over count. no_mark op r over count calls) (lawful.refused op calls (step W c op).0 none)

  -- a read of a file that is no call of these stores, as it is refused or they are others
  pub read_keeps : (W : World) (notes : Notes S) (c number : ℕ) (name : List ℕ) (off len : ℕ) → IsWorld W → S.answered (FileRead name off len) (step W c (FileRead name off len)).0 ≡ None
      → (noted S W notes c (FileRead name off len) number).kept ≡ (notes number).kept
  read_keeps W notes c number name off len is none =
      kept_so W notes c number (FileRead name off len) (λ t found. read_passes W is c t found name off len) (λ r over count. refl) none
