-- Where a call of a store, a mark and an end lead, with what is told of the transactions.
use Rattle.store_scripts.proofs.{Words.{◌≡◌, ◌≢◌, ◌∙◌, sym, refl, ap, option_map, subst, ℕ, ◌+◌, ◌-◌, ◌≤◌, ◌==◌, ◌&&◌, not, Bool, true, false, cond, IsTrue, List, [], ◌∷◌, ◌++◌, length, drop, Option, Some, None, Result, Ok, arith, nat_lt, list_all, and_parts, eqb-false, ltb-false, ltb-true, length-append, Access, Clash, MarkError, Mode, Serial, Snapshot, Span, LAST, MAX_ACCESSES, Op, End, Mark, Reply, clash, has_write, is_serial, array_at, last, mark_fault, marked, appended, after_commit, after_leaving, need, commit_from, commit_step, end_step, as_step, array_of, in_store, mark_refused, mark_step, marked_step, store_step, Program, outcome, Live, World, attached, used, IsLive, all_filter, both_of, commits, live_at, BothWellFormed, both_well_formed, array_longer, stays_by_both, image_hash, Notes, spares_stores, told_more, SecondStore, second_store, Answered, store_reply}, Growing.{call_told, kept_with, mark_told, of_both}, Seconds.{AreRefusals, IsCall, IsSecond}, Noted.{Goes, Holds, IsKept, IsNoted, adds, changes, choose, notes_by, quiet, stays}, Blocks.hash_blocks, Reading.{call_by_map, front_reads, marked_writes}, Steps.{called, kept_of, leaves}}
use Rattle.iso_model.specs.declared.core_reply.CoreReply.TheVariants as core
use Rattle.script_model.specs.declared.script.Reply.TheVariants as reply

serial_is : (m : Mode) → is_serial m ≡ true → m ≡ Serial
serial_is Serial is = refl
serial_is Snapshot is = cc

module _ (S : SecondStore) (lawful : IsSecond S) where
  module _ (Q : Type 0) (n : ℕ) (W : World) (notes : Notes S) (is : IsNoted S Q n W notes) (c : ℕ) (op : Op) (t : Live) (found : attached W c ≡ Some t) where
    abbrev ended : {E R : Type 0} → Program (Result R E) → List Access × Option (Result R E)
    ended program = outcome (MAX_ACCESSES - length t.accesses) program (array_of W t)

    -- the stores at the transaction's begin
    begins_well : n ≤ t.begin → Q → BothWellFormed (image_hash W.geometry) (second_store S W.geometry) (array_at W.history t.begin)
    begins_well since q =
        both_well_formed (image_hash W.geometry) (second_store S W.geometry) (hash_blocks W.geometry is.world.valid) (lawful.blocks W.geometry is.world.valid) W.geometry W.history n t.begin (is.by q) since
        (live_at W c t is.world found).begin

    pub in_store_goes : {E : Type 0} (refusal : E → Reply) (refusals : AreRefusals S E op refusal) (blocks : ℕ) (x : Reply × World) → (blocks ≢ 0 → t.mode ≡ Serial → Goes S Q n W notes c op (Some t) x) → Goes S Q n W notes c op (Some t) (in_store W t blocks x)
    in_store_goes refusal refusals blocks x goes =
        choose S Q n W notes c op (Some t) (blocks == 0) _ _ (stays S Q n W notes is c op (Some t) reply.NoStore refusals.store) (λ some. go (is_serial t.mode) refl (eqb-false blocks 0 some))
      where
        go : (b : Bool) → is_serial t.mode ≡ b → blocks ≢ 0 → Goes S Q n W notes c op (Some t) (cond b x (reply.StoreMode, W))
        go true serial some = goes some (serial_is t.mode serial)
        go false snapshot some = stays S Q n W notes is c op (Some t) reply.StoreMode refusals.mode

    pub told_goes : {E R : Type 0} (refusal : E → Reply) (refusals : AreRefusals S E op refusal) (program : Program (Result R E)) (answer : R → Reply) (name : R → Answered S.Call S.Answer) → ((r : R) → S.answered op (answer r) ≡ Some (name r))
        → t.mode ≡ Serial → ((r : R) → (ended program).1 ≡ Some (Ok r) → IsCall S W.geometry (name r) (array_of W t) (ended program).0) → Goes S Q n W notes c op (Some t) (store_step W t program refusal answer)
    unfolding store_step
    told_goes refusal refusals program answer name named serial local =
        called S Q n W notes is c op t program refusal answer name (ended program).1 found refusals.full refusals.error named refl
        (λ r done ends done_is told.
        let is_call = subst (λ (d : List Access). IsCall S W.geometry (name r) (array_of W t) d) (sym done_is) (local r ends) in
        record {
          since = told.since;
          made = λ more. call_told S W.geometry (array_at W.history t.begin) t.accesses t.mode (notes t.number) (told.made (subst IsTrue (kept_with S (notes t.number) (name r) (length (t.accesses ++ done))) more)) (name r) done serial is_call;
          by_map = λ q reads.
              let before = front_reads t.accesses done reads in
              call_by_map S W.geometry (array_at W.history t.begin) t.accesses done (notes t.number) (length (t.accesses ++ done)) before (told.by_map q before) (name r) (begins_well told.since q) is_call;
        })

    -- a call of a store of which nothing is told here: its accesses are others
    pub foreign_in_store : ((r : Reply) → S.answered op r ≡ None) → (blocks : ℕ) (x : Reply × World) → Goes S Q n W notes c op (Some t) x → Goes S Q n W notes c op (Some t) (in_store W t blocks x)
    foreign_in_store quiet blocks x goes =
        choose S Q n W notes c op (Some t) (blocks == 0) _ _ (stays S Q n W notes is c op (Some t) reply.NoStore (quiet _)) (λ some.
        choose S Q n W notes c op (Some t) (is_serial t.mode) _ _ goes (λ other. stays S Q n W notes is c op (Some t) reply.StoreMode (quiet _)))

    pub foreign_goes : {E R : Type 0} (refusal : E → Reply) (program : Program (Result R E)) (answer : R → Reply) → ((r : Reply) → S.answered op r ≡ None)
        → Goes S Q n W notes c op (Some t) (store_step W t program refusal answer)
    unfolding store_step
    foreign_goes refusal program answer quiet =
        adds S Q n W notes is c op t (store_reply refusal answer (ended program).1) (ended program).0 found (kept_of S Q n W notes is c op t found) (quiet _)

    pub foreign_call : {E R : Type 0} (refusal : E → Reply) (blocks : ℕ) (program : Program (Result R E)) (answer : R → Reply) → ((r : Reply) → S.answered op r ≡ None) → Goes S Q n W notes c op (Some t) (in_store W t blocks (store_step W t program refusal answer))
    foreign_call refusal blocks program answer quiet = foreign_in_store quiet blocks _ (foreign_goes refusal program answer quiet)

    -- The replies tell of a call by these answers, none of which a refusal is.
    pub refusals_of : {A E : Type 0} (of : A → Answered S.Call S.Answer) (tell : Reply → Option A) → ((r : Reply) → S.answered op r ≡ option_map of (tell r)) → (refusal : E → Reply)
        → tell reply.NoStore ≡ None → tell reply.StoreMode ≡ None → tell reply.TooManyAccesses ≡ None → ((e : E) → tell (refusal e) ≡ None) → AreRefusals S E op refusal
    refusals_of of tell told refusal store mode full error = grind arith

    -- a call of which it is told so, in a store of `blocks` blocks
    pub told_call : {A E R : Type 0} (of : A → Answered S.Call S.Answer) (tell : Reply → Option A) → ((r : Reply) → S.answered op r ≡ option_map of (tell r)) → (refusal : E → Reply) → AreRefusals S E op refusal
        → (blocks : ℕ) (program : Program (Result R E)) (answer : R → Reply) (name : R → A) → ((r : R) → tell (answer r) ≡ Some (name r))
        → (blocks ≢ 0 → (r : R) → (ended program).1 ≡ Some (Ok r) → IsCall S W.geometry (of (name r)) (array_of W t) (ended program).0) → Goes S Q n W notes c op (Some t) (in_store W t blocks (store_step W t program refusal answer))
    told_call of tell told refusal refusals blocks program answer name named local =
        in_store_goes refusal refusals blocks _ (λ some serial.
        told_goes refusal refusals program answer (λ r. of (name r)) (λ r. told (answer r) ∙ ap (option_map of) (named r)) serial (local some))

  module _ (Q : Type 0) (n : ℕ) (W : World) (notes : Notes S) (is : IsNoted S Q n W notes) (c : ℕ) (t : Live) (found : attached W c ≡ Some t) where
    -- a mark on an access since the last call
    pub mark_goes : (off len : ℕ) → Goes S Q n W notes c (Mark off len) (Some t) (mark_step W t off len)
    unfolding mark_step
    mark_goes off len = go (mark_fault W.geometry.block off len t.accesses)
      where
        span : Span
        span = record { off = off; len = len }

        go : (o : Option MarkError) → Goes S Q n W notes c (Mark off len) (Some t) (marked_step W t span o)
        go (Some fault) = stays S Q n W notes is c (Mark off len) (Some t) (mark_refused fault) (lawful.quiet (Mark off len) tt (mark_refused fault))
        go None =
            let told = notes t.number in
            let kept = kept_of S Q n W notes is c (Mark off len) t found in
            changes S Q n W notes is c (Mark off len) t reply.Done (marked span t.accesses) found (subst (λ (a : Option (Answered S.Call S.Answer)).
            Holds S Q n W.geometry (array_at W.history t.begin) t.begin (marked span t.accesses) t.mode (told_more S W.geometry (Mark off len) reply.Done t.accesses (marked span t.accesses) told a))
            (sym (lawful.quiet (Mark off len) tt reply.Done)) (record {
              since = kept.since;
              made = λ more.
                  let both = and_parts (told.kept && list_all (spares_stores S W.geometry) (drop (length t.accesses) (marked span t.accesses))) (nat_lt told.over (length t.accesses)) more in
                  mark_told S W.geometry (array_at W.history t.begin) t.accesses t.mode told (kept.made (and_parts told.kept _ both.0).0) span
                  (told_more S W.geometry (Mark off len) reply.Done t.accesses (marked span t.accesses) told None).kept (ltb-true told.over (length t.accesses) both.1);
              by_map = λ q reads. let was = kept.by_map q (sym (marked_writes span t.accesses) ∙ reads) in record { hash = was.hash; second = was.second };
            }))

  -- an end of a transaction, whoever's it is
  module _ (Q : Type 0) (n : ℕ) (W : World) (notes : Notes S) (is : IsNoted S Q n W notes) (c : ℕ) (o : Option Live) (t : Live) (live_t : IsLive W t) (kept_t : IsKept S Q n W.geometry W.history notes t) where
    longer : (u : Live) (notes : Notes S) → IsLive W u → IsKept S Q n W.geometry W.history notes u → IsKept S Q n W.geometry (appended W.history (commit_from t)) notes u
    longer u notes live kept = grind (arith, array_longer)

    committed : (k : ℕ) → has_write t.accesses ≡ true → clash W.geometry W.history t.mode t.begin t.accesses ≡ None → last W.history ≢ LAST → need W t ≤ W.geometry.log - used W
        → (Q → IsTrue (notes t.number).kept) → Goes S Q n W notes c End o (reply.Committed k, after_commit W t)
    committed k write none unworn fits kept =
        let x : Reply × World = (reply.Committed k, after_commit W t) in
        let leads = commits W t is.world live_t write none unworn fits in
        let more = length-append W.history.commits (commit_from t ∷ []) in
        let low : n ≤ last W.history = is.low in
        record {
          next = omega arith;
          each = all_filter (IsKept S Q n W.geometry (appended W.history (commit_from t)) (notes_by S W notes c End o x)) (λ (u : Live). not (u.number == t.number)) W.live
              (both_of (IsLive W) (IsKept S Q n W.geometry W.history notes) (IsKept S Q n W.geometry (appended W.history (commit_from t)) (notes_by S W notes c End o x))
              (λ u live was. longer u (notes_by S W notes c End o x) live (quiet S Q n W notes is c End W.geometry W.history o x u (lawful.quiet End tt (reply.Committed k)) was)) W.live is.world.live is.each);
          low = omega arith;
          by = λ q. stays_by_both (image_hash W.geometry) (second_store S W.geometry) W.geometry W.history (commit_from t) n (is.by q) leads.world.isolated
              (of_both S W.geometry W.history (commit_from t) (notes t.number) (kept_t.made (kept q)));
        }

    commit_goes : (met : Option Clash) → has_write t.accesses ≡ true → clash W.geometry W.history t.mode t.begin t.accesses ≡ met
        → ((k : ℕ) → (as_step (commit_step W t met)).0 ≡ reply.Committed k → Q → IsTrue (notes t.number).kept) → Goes S Q n W notes c End o (as_step (commit_step W t met))
    unfolding commit_step
    commit_goes (Some d) write found keeps = leaves S Q n W notes is c End o t (reply.Conflict d) (lawful.quiet End tt (reply.Conflict d))
    commit_goes None write none keeps = one (last W.history == LAST) refl keeps
      where
        two : (b : Bool) → nat_lt (W.geometry.log - used W) (need W t) ≡ b → last W.history ≢ LAST
            → ((k : ℕ) → (as_step (cond b (core.LogFull (need W t) (W.geometry.log - used W), W) (core.Committed (last W.history + 1), after_commit W t))).0 ≡ reply.Committed k → Q → IsTrue (notes t.number).kept)
            → Goes S Q n W notes c End o (as_step (cond b (core.LogFull (need W t) (W.geometry.log - used W), W) (core.Committed (last W.history + 1), after_commit W t)))
        two true full unworn keeps = stays S Q n W notes is c End o (reply.LogFull (need W t) (W.geometry.log - used W)) (lawful.quiet End tt _)
        two false fits unworn keeps =
            committed (last W.history + 1) write none unworn (ltb-false (W.geometry.log - used W) (need W t) fits) (keeps (last W.history + 1) refl)

        one : (b : Bool) → (last W.history == LAST) ≡ b
            → ((k : ℕ) → (as_step (cond b (core.Worn, W) (cond (nat_lt (W.geometry.log - used W) (need W t)) (core.LogFull (need W t) (W.geometry.log - used W), W) (core.Committed (last W.history + 1), after_commit W t)))).0 ≡ reply.Committed k → Q → IsTrue (notes t.number).kept)
            → Goes S Q n W notes c End o (as_step (cond b (core.Worn, W) (cond (nat_lt (W.geometry.log - used W) (need W t)) (core.LogFull (need W t) (W.geometry.log - used W), W) (core.Committed (last W.history + 1), after_commit W t))))
        one true worn keeps = stays S Q n W notes is c End o reply.Worn (lawful.quiet End tt reply.Worn)
        one false unworn keeps = two (nat_lt (W.geometry.log - used W) (need W t)) refl (eqb-false (last W.history) LAST unworn) keeps

    pub end_goes : ((k : ℕ) → (as_step (end_step W t)).0 ≡ reply.Committed k → Q → IsTrue (notes t.number).kept) → Goes S Q n W notes c End o (as_step (end_step W t))
    unfolding end_step
    end_goes keeps = go (has_write t.accesses) refl keeps
      where
        go : (b : Bool) → has_write t.accesses ≡ b
            → ((k : ℕ) → (as_step (cond b (commit_step W t (clash W.geometry W.history t.mode t.begin t.accesses)) (core.ReadOnly, after_leaving W t))).0 ≡ reply.Committed k → Q → IsTrue (notes t.number).kept)
            → Goes S Q n W notes c End o (as_step (cond b (commit_step W t (clash W.geometry W.history t.mode t.begin t.accesses)) (core.ReadOnly, after_leaving W t)))
        go true write keeps = commit_goes (clash W.geometry W.history t.mode t.begin t.accesses) write refl keeps
        go false none keeps = leaves S Q n W notes is c End o t reply.ReadOnly (lawful.quiet End tt reply.ReadOnly)
