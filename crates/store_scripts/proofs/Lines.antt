-- What is told of transactions stays true along the lines of a script.
use Rattle.store_scripts.proofs.{Words.{KeyCall, StoreAnswer, StoreError, Program, Result, Ok, outcome, in_store, store_step, put_answer, get_answer, del_answer, ◌≢◌, ◌≡◌, ◌∙◌, refl, ℕ, ◌-◌, ◌<◌, ◌≤◌, false, IsTrue, length, option_map, List, [], ◌∷◌, Option, Some, None, arith, Line, Op, Begin, End, Abort, Put, Read, Get, Write, Fill, Mark, Release, Takeover, Await, Group, Trim, Stat, Compact, Upgrade, HashPut, HashGet, HashDelete, TreePut, TreeGet, TreeDelete, TreeScan, Reply, Geometry, MAX_ACCESSES, last, after, after_leaving, end_step, mode_named, read_access, shown_to, as_step, array_of, fill_step, found_reply, get_step, hash_delete_step, hash_get_step, hash_put_step, in_transaction, mark_step, numbers, put_step, read_step, release_step, removed_reply, step, store_refusal, tree_delete_step, tree_get_step, tree_put_step, tree_scan_step, write_step, hash_area, Live, World, attached, client, held, AreLines, IsOp, IsWorld, live_at, step_leads, begins_by_both, BeginsWell, image_hash, CommitKeeps, CommitsKeep, Notes, OfHash, no_notes, noted, notes_after, nothing_told, told_by, all_weaker, group_step, grouped, SecondStore, second_store, FileNew, FileWrite, FileRead, FileMove, FileDelete, file_new_step, file_write_step, file_read_step, file_move_step, file_delete_step, Del, GetKey, Got, PutKey, WasPut, WasThere}, Members.{group_next, labels_noted}, Noted.{Goes, IsKept, IsNoted, notes_by, other_is, quiet, stays}, Steps.{access_goes, begin_goes, in_goes, kept_of, leaves, out_goes, release_goes, switch_goes, takeover_goes, trim_goes}, Acting.{SecondGoes, got_told, shape_at, store_refused, there_told}, Calls.{end_goes, mark_goes, refusals_of, told_call}, Locality.{hash_got, hash_was_put, hash_was_there}, Seconds.{IsCallOf, IsSecond}}
use Rattle.script_model.specs.declared.script.Reply.TheVariants as reply
use Rattle.store_model.specs.HashCalls as hash

module _ (S : SecondStore) (lawful : IsSecond S) (second : SecondGoes S) where
  module _ (Q : Type 0) (n : ℕ) (W : World) (notes : Notes S) (is : IsNoted S Q n W notes) (c : ℕ) where
    abbrev g : Geometry
    g = W.geometry

    -- a call of the hash store, by the answers that its replies tell
    hash_goes : {R : Type 0} (t : Live) (op : Op) → attached W c ≡ Some t → (call : KeyCall) (tell : Reply → Option StoreAnswer) → ((r : Reply) → S.answered op r ≡ option_map (OfHash call) (tell r))
        → tell reply.NoStore ≡ None → tell reply.StoreMode ≡ None → tell reply.TooManyAccesses ≡ None → ((e : StoreError) → tell (store_refusal e) ≡ None)
        → (program : Program (Result R StoreError)) (answer : R → Reply) (name : R → StoreAnswer) → ((r : R) → tell (answer r) ≡ Some (name r))
        → (g.hash ≢ 0 → (r : R) → (outcome (MAX_ACCESSES - length t.accesses) program (array_of W t)).1 ≡ Some (Ok r)
        → IsCallOf (image_hash g) (second_store S g) call (array_of W t) (outcome (MAX_ACCESSES - length t.accesses) program (array_of W t)).0 (name r))
        → Goes S Q n W notes c op (Some t) (in_store W t g.hash (store_step W t program store_refusal answer))
    hash_goes t op found call tell told store mode full error program answer name named local =
        told_call S lawful Q n W notes is c op t found (OfHash call) tell told store_refusal (refusals_of S lawful Q n W notes is c op t found (OfHash call) tell told store_refusal store mode full error)
        g.hash program answer name named local

    hash_put_goes : (t : Live) (key value : List ℕ) → attached W c ≡ Some t → Goes S Q n W notes c (HashPut key value) (Some t) (hash_put_step W t key value)
    unfolding hash_put_step
    hash_put_goes t key value found =
        hash_goes t (HashPut key value) found (PutKey key value) put_answer (lawful.hash_put key value) refl refl refl (λ e. (store_refused e).put) (hash.put_program (hash_area g) key value) (λ done. reply.Done) (λ done. WasPut) (λ r. refl)
        (λ some r ends. hash_was_put S lawful g is.world.valid (array_of W t) (shape_at S Q n W notes is c t found) (MAX_ACCESSES - length t.accesses) key value r some ends)

    hash_get_goes : (t : Live) (key : List ℕ) → attached W c ≡ Some t → Goes S Q n W notes c (HashGet key) (Some t) (hash_get_step W t key)
    unfolding hash_get_step
    hash_get_goes t key found =
        hash_goes t (HashGet key) found (GetKey key) get_answer (lawful.hash_get key) refl refl refl (λ e. (store_refused e).get) (hash.get_program (hash_area g) key) found_reply (λ value. Got value) got_told
        (λ some r ends. hash_got S lawful g is.world.valid (array_of W t) (shape_at S Q n W notes is c t found) (MAX_ACCESSES - length t.accesses) key r some ends)

    hash_delete_goes : (t : Live) (key : List ℕ) → attached W c ≡ Some t → Goes S Q n W notes c (HashDelete key) (Some t) (hash_delete_step W t key)
    unfolding hash_delete_step
    hash_delete_goes t key found =
        hash_goes t (HashDelete key) found (Del key) del_answer (lawful.hash_delete key) refl refl refl (λ e. (store_refused e).del) (hash.del_program (hash_area g) key) removed_reply (λ there. WasThere there) there_told
        (λ some r ends. hash_was_there S lawful g is.world.valid (array_of W t) (shape_at S Q n W notes is c t found) (MAX_ACCESSES - length t.accesses) key r some ends)

    put_goes : (t : Live) (block off : ℕ) (bytes : List ℕ) → attached W c ≡ Some t → Goes S Q n W notes c (Put block off bytes) (Some t) (put_step W t block off bytes)
    unfolding put_step
    put_goes t block off bytes found = access_goes S Q n W notes is c (Put block off bytes) t block _ reply.Done _ found (λ r. lawful.quiet (Put block off bytes) tt r)

    read_goes : (t : Live) (block : ℕ) → attached W c ≡ Some t → Goes S Q n W notes c (Read block) (Some t) (read_step W t block)
    unfolding read_step
    read_goes t block found = access_goes S Q n W notes is c (Read block) t block false (reply.Shown (shown_to W t block)) (read_access block) found (λ r. lawful.quiet (Read block) tt r)

    get_goes : (t : Live) (block off len : ℕ) → attached W c ≡ Some t → Goes S Q n W notes c (Get block off len) (Some t) (get_step W t block off len)
    unfolding get_step
    get_goes t block off len found = access_goes S Q n W notes is c (Get block off len) t block _ _ _ found (λ r. lawful.quiet (Get block off len) tt r)

    write_goes : (t : Live) (block : ℕ) (bytes : List ℕ) → attached W c ≡ Some t → Goes S Q n W notes c (Write block bytes) (Some t) (write_step W t block bytes)
    unfolding write_step
    write_goes t block bytes found = access_goes S Q n W notes is c (Write block bytes) t block _ reply.Done _ found (λ r. lawful.quiet (Write block bytes) tt r)

    fill_goes : (t : Live) (block : ℕ) (bytes : List ℕ) → attached W c ≡ Some t → Goes S Q n W notes c (Fill block bytes) (Some t) (fill_step W t block bytes)
    unfolding fill_step
    fill_goes t block bytes found = access_goes S Q n W notes is c (Fill block bytes) t block _ reply.Done _ found (λ r. lawful.quiet (Fill block bytes) tt r)

    end_with : (o : Option Live) → attached W c ≡ o → ((t : Live) (k : ℕ) → o ≡ Some t → (in_transaction W o (λ u. as_step (end_step W u))).0 ≡ reply.Committed k → Q → IsTrue (notes t.number).kept)
        → Goes S Q n W notes c End o (in_transaction W o (λ u. as_step (end_step W u)))
    end_with None at keeps = stays S Q n W notes is c End None reply.NotInTx (lawful.outside End)
    end_with (Some t) at keeps = end_goes S lawful Q n W notes is c (Some t) t (live_at W c t is.world at) (kept_of S Q n W notes is c End t at) (λ k done. keeps t k refl done)

    -- a group, by which nothing more is told of any transaction
    group_goes : (texts : List (List ℕ)) → (Q → CommitKeeps S W notes c (Group texts)) → Goes S Q n W notes c (Group texts) (attached W c) (grouped (group_step W texts))
    group_goes texts keeps =
        let x : Reply × World = grouped (group_step W texts) in
        let V : World = x.1 in
        let noted = labels_noted S lawful Q n texts W notes is (λ t k ends q. (keeps q).each t k ends) in
        record {
          next = omega (arith, group_next texts W);
          each = all_weaker (IsKept S Q n V.geometry V.history notes) (IsKept S Q n V.geometry V.history (notes_by S W notes c (Group texts) (attached W c) x))
              (λ u. quiet S Q n W notes is c (Group texts) V.geometry V.history (attached W c) x u (lawful.quiet (Group texts) tt x.0)) V.live noted.each;
          low = noted.low;
          by = noted.by;
        }

    step_goes : (op : Op) → IsOp op → (Q → CommitKeeps S W notes c op) → Goes S Q n W notes c op (attached W c) (step W c op)
    unfolding step
    step_goes (Begin mode) good keeps =
        out_goes S Q n W notes is c (Begin mode) (attached W c) _ (lawful.quiet (Begin mode) tt reply.InTx) (begin_goes S Q n W notes is c (Begin mode) (client c) (mode_named W mode) (λ r. lawful.quiet (Begin mode) tt r))
    step_goes (Put block off bytes) good keeps = grind (arith, in_goes, put_goes)
    step_goes (Read block) good keeps = in_goes S Q n W notes is c (Read block) (attached W c) (λ t. read_step W t block) refl (lawful.outside (Read block)) (λ t found. read_goes t block found)
    step_goes (Get block off len) good keeps = grind (arith, in_goes, get_goes)
    step_goes (Write block bytes) good keeps = in_goes S Q n W notes is c (Write block bytes) (attached W c) (λ t. write_step W t block bytes) refl (lawful.outside (Write block bytes)) (λ t found. write_goes t block bytes found)
    step_goes (Fill block bytes) good keeps = in_goes S Q n W notes is c (Fill block bytes) (attached W c) (λ t. fill_step W t block bytes) refl (lawful.outside (Fill block bytes)) (λ t found. fill_goes t block bytes found)
    step_goes (Mark off len) good keeps = in_goes S Q n W notes is c (Mark off len) (attached W c) (λ t. mark_step W t off len) refl (lawful.outside (Mark off len)) (λ t found. mark_goes S lawful Q n W notes is c t found off len)
    step_goes End good keeps = end_with (attached W c) refl (λ t k at done q. (keeps q).one t k at done)
    step_goes Abort good keeps = in_goes S Q n W notes is c Abort (attached W c) (λ t. (reply.Done, after_leaving W t)) refl (lawful.outside Abort) (λ t found. leaves S Q n W notes is c Abort (Some t) t reply.Done (lawful.quiet Abort tt reply.Done))
    step_goes (Release text) good keeps =
        in_goes S Q n W notes is c (Release text) (attached W c) (λ t. release_step W t text (held W text)) refl (lawful.outside (Release text)) (λ t found. release_goes S Q n W notes is c (Release text) t text (held W text) found (λ r. lawful.quiet (Release text) tt r))
    step_goes (Takeover text) good keeps = out_goes S Q n W notes is c (Takeover text) (attached W c) _ (lawful.quiet (Takeover text) tt reply.InTx) (takeover_goes S Q n W notes is c (Takeover text) text (held W text) refl (λ r. lawful.quiet (Takeover text) tt r))
    step_goes (Await text) good keeps = out_goes S Q n W notes is c (Await text) (attached W c) _ (lawful.quiet (Await text) tt reply.InTx) (takeover_goes S Q n W notes is c (Await text) text (held W text) refl (λ r. lawful.quiet (Await text) tt r))
    step_goes (Group texts) good keeps = group_goes texts keeps
    step_goes Trim good keeps = trim_goes S Q n W notes is c Trim (attached W c) _ (lawful.quiet Trim tt _)
    step_goes Stat good keeps = stays S Q n W notes is c Stat (attached W c) (numbers W) (lawful.quiet Stat tt (numbers W))
    step_goes Compact good keeps = switch_goes S Q n W notes is c Compact W.geometry.form (attached W c) _ (λ r. lawful.quiet Compact tt r) (step_leads W c Compact is.world good).world
    step_goes Upgrade good keeps = switch_goes S Q n W notes is c Upgrade 2 (attached W c) _ (λ r. lawful.quiet Upgrade tt r) (step_leads W c Upgrade is.world good).world
    step_goes (HashPut key value) good keeps = in_goes S Q n W notes is c (HashPut key value) (attached W c) (λ t. hash_put_step W t key value) refl (lawful.outside (HashPut key value)) (λ t found. hash_put_goes t key value found)
    step_goes (HashGet key) good keeps = in_goes S Q n W notes is c (HashGet key) (attached W c) (λ t. hash_get_step W t key) refl (lawful.outside (HashGet key)) (λ t found. hash_get_goes t key found)
    step_goes (HashDelete key) good keeps = in_goes S Q n W notes is c (HashDelete key) (attached W c) (λ t. hash_delete_step W t key) refl (lawful.outside (HashDelete key)) (λ t found. hash_delete_goes t key found)
    step_goes (TreePut key value) good keeps = in_goes S Q n W notes is c (TreePut key value) (attached W c) (λ t. tree_put_step W t key value) refl (lawful.outside (TreePut key value)) (λ t found. (second Q n W notes is c t found).put key value)
    step_goes (TreeGet key) good keeps = in_goes S Q n W notes is c (TreeGet key) (attached W c) (λ t. tree_get_step W t key) refl (lawful.outside (TreeGet key)) (λ t found. (second Q n W notes is c t found).get key)
    step_goes (TreeDelete key) good keeps = in_goes S Q n W notes is c (TreeDelete key) (attached W c) (λ t. tree_delete_step W t key) refl (lawful.outside (TreeDelete key)) (λ t found. (second Q n W notes is c t found).delete key)
    step_goes (TreeScan from to most) good keeps = in_goes S Q n W notes is c (TreeScan from to most) (attached W c) (λ t. tree_scan_step W t from to most) refl (lawful.outside (TreeScan from to most)) (λ t found. (second Q n W notes is c t found).scan from to most)
    step_goes (FileNew name) good keeps = in_goes S Q n W notes is c (FileNew name) (attached W c) (λ t. file_new_step W t name) refl (lawful.outside (FileNew name)) (λ t found. (second Q n W notes is c t found).make name)
    step_goes (FileWrite name off bytes) good keeps = in_goes S Q n W notes is c (FileWrite name off bytes) (attached W c) (λ t. file_write_step W t name off bytes) refl (lawful.outside (FileWrite name off bytes)) (λ t found. (second Q n W notes is c t found).write name off bytes)
    step_goes (FileRead name off len) good keeps = in_goes S Q n W notes is c (FileRead name off len) (attached W c) (λ t. file_read_step W t name off len) refl (lawful.outside (FileRead name off len)) (λ t found. (second Q n W notes is c t found).read name off len)
    step_goes (FileMove from to) good keeps = in_goes S Q n W notes is c (FileMove from to) (attached W c) (λ t. file_move_step W t from to) refl (lawful.outside (FileMove from to)) (λ t found. (second Q n W notes is c t found).move from to)
    step_goes (FileDelete name) good keeps = in_goes S Q n W notes is c (FileDelete name) (attached W c) (λ t. file_delete_step W t name) refl (lawful.outside (FileDelete name)) (λ t found. (second Q n W notes is c t found).remove name)

    -- nothing is told of transactions that did not begin
    fresh_after : (op : Op) (o : Option Live) (x : Reply × World) → attached W c ≡ o → W.next ≤ x.1.next → (number : ℕ) → x.1.next ≤ number → told_by S W.geometry c number op o x (notes number) ≡ nothing_told S
    fresh_after op None x at next number past = is.fresh number (omega arith)
    fresh_after op (Some t) x at next number past =
        let below : t.number < W.next = (live_at W c t is.world at).number in
        other_is S Q n W notes is c op t number x (notes number) (λ e. absurd (omega arith)) ∙ is.fresh number (omega arith)

    pub noted_step : (op : Op) → IsOp op → (Q → CommitKeeps S W notes c op) → IsNoted S Q n (step W c op).1 (noted S W notes c op)
    noted_step op good keeps =
        let goes = step_goes op good keeps in
        record {
          world = (step_leads W c op is.world good).world;
          each = goes.each;
          low = goes.low;
          by = goes.by;
          fresh = fresh_after op (attached W c) (step W c op) refl goes.next;
        }

  pub noted_after : (Q : Type 0) (n : ℕ) (W : World) (notes : Notes S) (lines : List (ℕ × Line)) → IsNoted S Q n W notes → AreLines lines → (Q → CommitsKeep S W notes lines) → IsNoted S Q n (after W lines) (notes_after S W notes lines)
  noted_after Q n W notes [] is good keeps = is
  noted_after Q n W notes (line ∷ lines) is good keeps =
      noted_after Q n (step W line.1.client line.1.op).1 (noted S W notes line.1.client line.1.op) lines (noted_step Q n W notes is line.1.client line.1.op good.0 (λ q. (keeps q).0)) good.1 (λ q. (keeps q).1)

  pub noted_begins : (W : World) → BeginsWell S W → IsNoted S (Unit {0}) (last W.history) W (no_notes S)
  noted_begins W begins = grind (arith, begins_by_both)

  -- where nothing is known of the commits
  pub noted_alone : (W : World) → IsWorld W → W.live ≡ [] → IsNoted S ⊥ 0 W (no_notes S)
  noted_alone W is none = grind arith
