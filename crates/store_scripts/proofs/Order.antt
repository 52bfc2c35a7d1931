-- The calls that are told of a transaction answer in order, by what its parts are.
use Rattle.store_scripts.proofs.{Words.{◌≡◌, ◌∙◌, sym, ap, subst, ℕ, ◌+◌, ◌-◌, ◌<◌, ◌≤◌, ◌==◌, Bool, true, false, cond, IsTrue, IfSome, List, [], ◌∷◌, slice_get, Option, Some, None, arith, nat_lt, length-append, Access, Clash, Commit, Geometry, LAST, End, Reply, Array, clash, has_write, own, array_at, last, appended, after_commit, after_leaving, need, commit_from, commit_step, end_step, as_step, array_of, in_transaction, step, Live, World, attached, is_at_client, used, IsLive, IsWorld, all_find, live_at, step_leads, AreMixed, BothInOrder, IsOfBoth, firsts, seconds, answers_in, calls_in, array_longer, last_of, stays_by_both, both_commits, both_live, both_well_formed, IsToldOf, ToldByMap, ToldInOrder, image_hash, Notes, Told, SecondStore, second_store}, Blocks.hash_blocks, Growing.{AreAll, StorePart, all_are, all_parts, of_both}, Noted.{IsKept, IsNoted}, Seconds.IsSecond}
use Rattle.iso_model.specs.declared.core_reply.CoreReply.TheVariants as core
use Rattle.script_model.specs.declared.script.Reply.TheVariants as reply

module _ (S : SecondStore) (lawful : IsSecond S) where
  -- WHAT IS TOLD, BY ITS PARTS
  told_in_order : (g : Geometry) (told : Told S) (parts : List (StorePart S)) (A B : Array) → calls_in (firsts parts) ≡ told.hash.calls → answers_in (firsts parts) ≡ told.hash.answers
      → calls_in (seconds parts) ≡ told.second.calls → answers_in (seconds parts) ≡ told.second.answers → BothInOrder (image_hash g) (second_store S g) parts A B → ToldInOrder S g told A B
  told_in_order g told parts A B hash_calls hash_answers second_calls second_answers order = grind arith

  -- what is told of the transaction of a client is true
  kept_is : (Q : Type 0) (n : ℕ) (V : World) (notes : Notes S) → IsNoted S Q n V notes → (c : ℕ) (t : Live) → attached V c ≡ Some t → IsTrue (notes t.number).kept
      → (n ≤ t.begin) × IsToldOf S V.geometry (array_at V.history t.begin) t.accesses t.mode (notes t.number)
  kept_is Q n V notes is c t found kept = grind (arith, all_find)

  -- without a write, each call by the map at its begin
  pub read_only_told : (n : ℕ) (V : World) (notes : Notes S) → IsNoted S (Unit {0}) n V notes → (c : ℕ) (t : Live) → attached V c ≡ Some t → has_write t.accesses ≡ false
      → ToldByMap S V.geometry (notes t.number) (array_at V.history t.begin)
  read_only_told n V notes is c t found none = grind (arith, all_find)

  pub told_is : (Q : Type 0) (n : ℕ) (V : World) (notes : Notes S) → IsNoted S Q n V notes → (c : ℕ) (t : Live) → attached V c ≡ Some t → IsTrue (notes t.number).kept
      → IsToldOf S V.geometry (array_at V.history t.begin) t.accesses t.mode (notes t.number)
  told_is Q n V notes is c t found kept = (kept_is Q n V notes is c t found kept).1

  module _ (n : ℕ) (V : World) (notes : Notes S) (is : IsNoted S (Unit {0}) n V notes) (t : Live) (live : IsLive V t) (holds : IsKept S (Unit {0}) n V.geometry V.history notes t) (kept : IsTrue (notes t.number).kept) where
    abbrev g : Geometry
    g = V.geometry

    abbrev A : Array
    A = array_at V.history t.begin

    has : (n ≤ t.begin) × IsToldOf S g A t.accesses t.mode (notes t.number)
    has = (holds.since, holds.made kept)

    abbrev parts : List (StorePart S)
    parts = all_parts S g A t.accesses t.mode (notes t.number) has.1

    all_is : AreAll S g A t.accesses t.mode (notes t.number) parts
    all_is = all_are S g A t.accesses t.mode (notes t.number) has.1

    one_told : ToldInOrder S g (notes t.number) A (array_of V t)
    one_told =
        let one = hash_blocks g is.world.valid in
        let two = lawful.blocks g is.world.valid in
        let well = both_well_formed (image_hash g) (second_store S g) one two g V.history n t.begin (is.by tt) has.0 live.begin in
        told_in_order g (notes t.number) parts A (own A t.accesses) all_is.hash_calls all_is.hash_answers all_is.second_calls all_is.second_answers
        (subst (λ (accesses : List Access). BothInOrder (image_hash g) (second_store S g) parts A (own A accesses)) all_is.are
        (both_live (image_hash g) (second_store S g) one two A parts all_is.made well))

    -- AN END THAT COMMITS
    commit_only : (o : Option Clash) (k : ℕ) → (as_step (commit_step V t o)).0 ≡ reply.Committed k → (as_step (commit_step V t o) ≡ (reply.Committed k, after_commit V t)) × (k ≡ last V.history + 1)
    unfolding commit_step
    commit_only (Some d) k done = cc
    commit_only None k done = one (last V.history == LAST) (nat_lt (V.geometry.log - used V) (need V t)) done
      where
        one : (a b : Bool)
            → (as_step (cond a (core.Worn, V) (cond b (core.LogFull (need V t) (V.geometry.log - used V), V) (core.Committed (last V.history + 1), after_commit V t)))).0 ≡ reply.Committed k
            → (as_step (cond a (core.Worn, V) (cond b (core.LogFull (need V t) (V.geometry.log - used V), V) (core.Committed (last V.history + 1), after_commit V t)))
            ≡ (reply.Committed k, after_commit V t)) × (k ≡ last V.history + 1)
        one true b done = cc
        one false true done = cc
        one false false done = (ap (λ (r : Reply). (r, after_commit V t)) done, sym (let e : last V.history + 1 ≡ k = cc in e))

    pub end_only : (k : ℕ) → (as_step (end_step V t)).0 ≡ reply.Committed k → (as_step (end_step V t) ≡ (reply.Committed k, after_commit V t)) × (k ≡ last V.history + 1)
    unfolding end_step
    end_only k done = go (has_write t.accesses) done
      where
        go : (b : Bool) → (as_step (cond b (commit_step V t (clash V.geometry V.history t.mode t.begin t.accesses)) (core.ReadOnly, after_leaving V t))).0 ≡ reply.Committed k
            → (as_step (cond b (commit_step V t (clash V.geometry V.history t.mode t.begin t.accesses)) (core.ReadOnly, after_leaving V t)) ≡ (reply.Committed k, after_commit V t)) × (k ≡ last V.history + 1)
        go true done = commit_only (clash V.geometry V.history t.mode t.begin t.accesses) k done
        go false done = cc

    pub committed_told : (k : ℕ) → k ≡ last V.history + 1 → IsWorld (after_commit V t) → ToldInOrder S g (notes t.number) (array_at (appended V.history (commit_from t)) (k - 1)) (array_at (appended V.history (commit_from t)) k)
    committed_told k at sound =
        let one = hash_blocks g is.world.valid in
        let two = lawful.blocks g is.world.valid in
        let H = appended V.history (commit_from t) in
        let of = of_both S g V.history (commit_from t) (notes t.number) has.1 in
        let by = stays_by_both (image_hash g) (second_store S g) g V.history (commit_from t) n (is.by tt) sound.isolated of in
        let more = length-append V.history.commits (commit_from t ∷ []) in
        let first : 0 < V.history.first = is.world.history.first in
        let low : n ≤ last V.history = is.low in
        let is_last : slice_get H.commits (k - H.first) ≡ Some (commit_from t) = last_of V.history.commits (commit_from t) (k - H.first) (omega arith) in
        let order = both_commits (image_hash g) (second_store S g) one two g H n by k (omega arith) (omega arith) in
        let here = subst (λ (o : Option Commit). IfSome o (λ d. (d_of : IsOfBoth (image_hash g) (second_store S g) H d) → BothInOrder (image_hash g) (second_store S g) d_of.parts (array_at H (k - 1)) (array_at H k))) is_last order in
        told_in_order g (notes t.number) parts (array_at H (k - 1)) (array_at H k) all_is.hash_calls all_is.hash_answers all_is.second_calls all_is.second_answers
        (here (record {
          parts = parts;
          are = all_is.are;
          made = subst (λ (B : Array). AreMixed (image_hash g) (second_store S g) B parts) (sym (array_longer V.history (commit_from t) t.begin first live.begin)) all_is.made;
          mode = all_is.serial;
        }))

  -- the transaction of a client
  module _ (n : ℕ) (V : World) (notes : Notes S) (is : IsNoted S (Unit {0}) n V notes) (c : ℕ) (t : Live) (found : attached V c ≡ Some t) (kept : IsTrue (notes t.number).kept) where
    holds_of : IsKept S (Unit {0}) n V.geometry V.history notes t
    holds_of = all_find (IsKept S (Unit {0}) n V.geometry V.history notes) (λ u. is_at_client c u.place) V.live t is.each found

    pub live_told : ToldInOrder S V.geometry (notes t.number) (array_at V.history t.begin) (array_of V t)
    live_told = one_told n V notes is t (live_at V c t is.world found) holds_of kept

    ends_so : (k : ℕ) → (step V c End).0 ≡ reply.Committed k → (step V c End ≡ (reply.Committed k, after_commit V t)) × (k ≡ last V.history + 1)
    unfolding step
    ends_so k done =
        let act : Live → Reply × World = λ u. as_step (end_step V u) in
        let is_end : in_transaction V (attached V c) act ≡ act t = ap (λ (o : Option Live). in_transaction V o act) found in
        let ends = end_only n V notes is t (live_at V c t is.world found) holds_of kept k (sym (ap (λ (x : Reply × World). x.0) is_end) ∙ done) in
        (is_end ∙ ends.0, ends.1)

    pub commit_told : (k : ℕ) → (step V c End).0 ≡ reply.Committed k → ToldInOrder S V.geometry (notes t.number) (array_at (step V c End).1.history (k - 1)) (array_at (step V c End).1.history k)
    commit_told k done =
        let ends = ends_so k done in
        let world_is : (step V c End).1 ≡ after_commit V t = ap (λ (x : Reply × World). x.1) ends.0 in
        let sound = subst IsWorld world_is (step_leads V c End is.world tt).world in
        subst (λ (U : World). ToldInOrder S V.geometry (notes t.number) (array_at U.history (k - 1)) (array_at U.history k)) (sym world_is) (committed_told n V notes is t (live_at V c t is.world found) holds_of kept k ends.1 sound)

    -- the commit is the last one then
    pub committed_last : (k : ℕ) → (step V c End).0 ≡ reply.Committed k → k ≤ last (step V c End).1.history
    committed_last k done =
        let ends = ends_so k done in
        let more = length-append V.history.commits (commit_from t ∷ []) in
        let first : 0 < V.history.first = is.world.history.first in
        subst (λ (U : World). k ≤ last U.history) (sym (ap (λ (x : Reply × World). x.1) ends.0)) (let at = ends.1 in omega arith)
