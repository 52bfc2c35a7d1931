-- A descent, step by step.
use Rattle.iso_tree.proofs.Words.{arith, ◌≡◌, ◌≢◌, ◌∙◌, ap, refl, sym, subst, ℕ, zero, suc, ◌+◌, ◌≤◌, Bool, true, cond, List, [], ◌∷◌, take, Result, Ok, Err, IfOk, IfErr, Area, StoreError, Program, Done, Look, further_bytes, then_do, keys_end, keys_mark, Tx, Device, IsLater, Ran, IsCut, Behaves, HasRun, HasRead, IsAt, at_then, ran_at, cut_then, later_same, later_than, read_none, cause_since, cut_from, read_join, store_cause, Leaf, is_node, child_of, count_of, Descent, AtLeaf, AtBroken, descend, leaf_further, IsWalkError, OnlyReads, child_program, leaf_program, HasDescended, HasReadLeaf, at_as, at_start}
use Rattle.store_model.specs.declared.stores.StoreError.TheVariants as store
use Rattle.store_model.specs.declared.stores.TxError.TheVariants as error

module _ (a : Area) (key : List ℕ) (with_value : Bool) where
  -- what follows a step, and the read of the leaf
  abbrev after_step : (level block : ℕ) → List (ℕ × ℕ) → Result (ℕ × ℕ) StoreError → Program Descent
  after_step level block path (Ok x) = descend a key with_value level x.0 ((block, x.1) ∷ path)
  after_step level block path (Err (store.Broken broken)) = Done (AtBroken broken)
  after_step level block path (Err store.BadKey) = Done (AtBroken 0)
  after_step level block path (Err store.BadValue) = Done (AtBroken 0)
  after_step level block path (Err (store.NoBlocks need free)) = Done (AtBroken 0)
  after_step level block path (Err (store.Tx e)) = Done (AtBroken 0)
  after_step level block path (Err store.Memory) = Done (AtBroken 0)

  abbrev after_leaf : (block : ℕ) → List (ℕ × ℕ) → Result (List ℕ × List ℕ) StoreError → Program Descent
  after_leaf block path (Ok x) = Done (AtLeaf path block x.0 x.1)
  after_leaf block path (Err (store.Broken broken)) = Done (AtBroken broken)
  after_leaf block path (Err store.BadKey) = Done (AtBroken 0)
  after_leaf block path (Err store.BadValue) = Done (AtBroken 0)
  after_leaf block path (Err (store.NoBlocks need free)) = Done (AtBroken 0)
  after_leaf block path (Err (store.Tx e)) = Done (AtBroken 0)
  after_leaf block path (Err store.Memory) = Done (AtBroken 0)

  step_same : (level block : ℕ) (path : List (ℕ × ℕ)) (keys value : List ℕ) (t : Bool)
      → cond t (descend a key with_value level (child_of value) ((block, count_of keys) ∷ path)) (Done (AtBroken (a.start + block)))
      ≡ after_step level block path (cond t (Ok (child_of value, count_of keys)) (Err (store.Broken (a.start + block))))
  step_same level block path keys value t = grind arith

  leaf_same : (block : ℕ) (path : List (ℕ × ℕ)) (keys value : List ℕ) (t : Bool)
      → cond t (Done (AtLeaf path block keys value)) (Done (AtBroken (a.start + block))) ≡ after_leaf block path (cond t (Ok (keys, value)) (Err (store.Broken (a.start + block))))
  leaf_same block path keys value t = grind arith

  step_as : (level block : ℕ) (path : List (ℕ × ℕ)) → descend a key with_value (suc level) block path ≡ then_do (child_program a key (suc level) block) (after_step level block path)
  step_as level block path = grind (arith, step_same)

  leaf_as : (block : ℕ) (path : List (ℕ × ℕ)) → descend a key with_value zero block path ≡ then_do (leaf_program a key with_value block) (after_leaf block path)
  leaf_as block path = λ i. Look (a.start + block) (keys_mark a.size) (leaf_further a key with_value) (λ keys value. leaf_same block path keys value (is_node a.size 0 keys) i)

  module _ (whole : Program Descent) (level block : ℕ) (path : List (ℕ × ℕ)) (t u v : Tx) where
    pub step_on : (l : ℕ) (x : ℕ × ℕ) → l ≡ suc level → IsAt whole (descend a key with_value l block path) t u → Ran (child_program a key l block) u v (Ok x)
        → IsAt whole (descend a key with_value level x.0 ((block, x.1) ∷ path)) t v
    step_on l x e now ran =
        at_then whole (child_program a key (suc level) block) (after_step level block path) t u v (Ok x)
        (at_as whole _ _ t u (step_as level block path) (subst (λ (n : ℕ). IsAt whole (descend a key with_value n block path) t u) e now))
        (subst (λ (n : ℕ). Ran (child_program a key n block) u v (Ok x)) e ran)

    -- a step that is refused
    pub step_refused : (l : ℕ) (path' : List (ℕ × ℕ)) (buffer : List ℕ) (root top : ℕ) (e : StoreError) → whole ≡ descend a key with_value top root [] → l ≡ suc level → IsAt whole (descend a key with_value l block path) t u
        → IsWalkError e → HasRun (child_program a key l block) u v (Err e) → HasDescended a key with_value root top t v path' buffer (Err e)
    step_refused l path' buffer root top store.BadKey same e now known run = known
    step_refused l path' buffer root top store.BadValue same e now known run = known
    step_refused l path' buffer root top (store.NoBlocks need free) same e now known run = known
    step_refused l path' buffer root top (store.Broken broken) same e now known run =
        subst (λ (p : Program Descent). Ran p t v (AtBroken broken)) same
        (ran_at whole t v (AtBroken broken) (at_then whole (child_program a key (suc level) block) (after_step level block path) t u v (Err (store.Broken broken))
        (at_as whole _ _ t u (step_as level block path) (subst (λ (n : ℕ). IsAt whole (descend a key with_value n block path) t u) e now))
        (subst (λ (n : ℕ). Ran (child_program a key n block) u v (Err (store.Broken broken))) e run)))
    step_refused l path' buffer root top (store.Tx x) same e now known run =
        subst (λ (p : Program Descent). IsCut p t v x) same
        (cut_from whole (then_do (child_program a key (suc level) block) (after_step level block path)) t u v x
        (at_as whole _ _ t u (step_as level block path) (subst (λ (n : ℕ). IsAt whole (descend a key with_value n block path) t u) e now))
        (cut_then (child_program a key (suc level) block) (after_step level block path) u v x (subst (λ (n : ℕ). IsCut (child_program a key n block) u v x) e run)))
    step_refused l path' buffer root top store.Memory same e now known run = run

  module _ (whole : Program Descent) (block : ℕ) (path : List (ℕ × ℕ)) (t u v : Tx) (root top l : ℕ) (same : whole ≡ descend a key with_value top root []) (last : l ≡ 0)
      (now : IsAt whole (descend a key with_value l block path) t u) where
    at_leaf : IsAt whole (then_do (leaf_program a key with_value block) (after_leaf block path)) t u
    at_leaf = at_as whole _ _ t u (leaf_as block path) (subst (λ (n : ℕ). IsAt whole (descend a key with_value n block path) t u) last now)

    -- the leaf was read
    pub leaf_ends : (buffer : List ℕ) (leaf : Leaf) → leaf.block ≡ block → HasReadLeaf a key with_value block u v buffer (Ok leaf) → HasDescended a key with_value root top t v path buffer (Ok leaf)
    leaf_ends buffer leaf here ran =
        let x : List ℕ × List ℕ = (take (keys_end a.size) buffer, further_bytes (leaf_further a key with_value (take (keys_end a.size) buffer)) buffer) in
        subst (λ (b : ℕ). Ran (descend a key with_value top root []) t v (AtLeaf path b x.0 x.1)) (sym here)
        (subst (λ (p : Program Descent). Ran p t v (AtLeaf path block x.0 x.1)) same
        (ran_at whole t v (AtLeaf path block x.0 x.1) (at_then whole (leaf_program a key with_value block) (after_leaf block path) t u v (Ok x) at_leaf ran)))

    pub leaf_refused : (path' : List (ℕ × ℕ)) (buffer : List ℕ) (e : StoreError) → IsWalkError e → HasReadLeaf a key with_value block u v buffer (Err e) → HasDescended a key with_value root top t v path' buffer (Err e)
    leaf_refused path' buffer store.BadKey known ran = known
    leaf_refused path' buffer store.BadValue known ran = known
    leaf_refused path' buffer (store.NoBlocks need free) known ran = known
    leaf_refused path' buffer (store.Broken broken) known ran =
        subst (λ (p : Program Descent). Ran p t v (AtBroken broken)) same
        (ran_at whole t v (AtBroken broken) (at_then whole (leaf_program a key with_value block) (after_leaf block path) t u v (Err (store.Broken broken)) at_leaf ran))
    leaf_refused path' buffer (store.Tx x) known ran =
        subst (λ (p : Program Descent). IsCut p t v x) same
        (cut_from whole (then_do (leaf_program a key with_value block) (after_leaf block path)) t u v x at_leaf (cut_then (leaf_program a key with_value block) (after_leaf block path) u v x ran))
    leaf_refused path' buffer store.Memory known ran = ran

    pub leaf_any : (buffer : List ℕ) (result : Result Leaf StoreError) → IfOk result (λ (leaf : Leaf). leaf.block ≡ block) → IfErr result IsWalkError → HasReadLeaf a key with_value block u v buffer result
        → HasDescended a key with_value root top t v path buffer result
    leaf_any buffer (Ok leaf) here known ran = leaf_ends buffer leaf here ran
    leaf_any buffer (Err e) here known ran = leaf_refused path buffer e known ran

-- a call that begins with a descent is refused as the descent is
pub descent_refused : {X : Type 0} (whole : Program (Result X StoreError)) (a : Area) (key : List ℕ) (with_value : Bool) (root level : ℕ) (f : Descent → Program (Result X StoreError)) (t u : Tx)
    → whole ≡ then_do (descend a key with_value level root []) f → ((block : ℕ) → f (AtBroken block) ≡ Done (Err (store.Broken block))) → (path : List (ℕ × ℕ)) (buffer : List ℕ) (e : StoreError)
    → HasDescended a key with_value root level t u path buffer (Err e) → HasRun whole t u (Err e)
descent_refused whole a key with_value root level f t u is broken path buffer store.BadKey ended = absurd ended
descent_refused whole a key with_value root level f t u is broken path buffer store.BadValue ended = absurd ended
descent_refused whole a key with_value root level f t u is broken path buffer (store.NoBlocks need free) ended = absurd ended
descent_refused whole a key with_value root level f t u is broken path buffer (store.Broken block) ended =
    ran_at whole t u (Err (store.Broken block)) (at_as whole _ _ t u (broken block) (at_then whole (descend a key with_value level root []) f t t u (AtBroken block) (at_as whole _ _ t t is (at_start whole t)) ended))
descent_refused whole a key with_value root level f t u is broken path buffer (store.Tx e) ended = subst (λ (p : Program (Result _ StoreError)). IsCut p t u e) (sym is) (cut_then (descend a key with_value level root []) f t u e ended)
descent_refused whole a key with_value root level f t u is broken path buffer store.Memory ended = absurd ended

-- after reads that went well
pub reads_after : {R : Type 0} (t u v : Tx) (before mid now : Device) (result : Result R StoreError) → HasRead t u → IsLater before mid → mid.faults ≡ before.faults → OnlyReads u v mid now result → OnlyReads t v before now result
reads_after t u v before mid now (Ok x) read later passed is = grind (arith, read_join, later_than)
reads_after t u v before mid now (Err e) read later passed is = grind (arith, read_join, cause_since, later_than)

-- the same of another part: refused for the same cause, answered, or refused for what it has read
pub reads_refused : {R S : Type 0} (t u : Tx) (before now : Device) (e : StoreError) → OnlyReads {R = R} t u before now (Err e) → OnlyReads {R = S} t u before now (Err e)
reads_refused t u before now e is = record { reads = is.reads; cause = is.cause; known = is.known; later = is.later; passed = tt; is_open = tt }

pub reads_answered : {R S : Type 0} (t u : Tx) (before now : Device) (x : R) (y : S) → OnlyReads t u before now (Ok x) → OnlyReads t u before now (Ok y)
reads_answered t u before now x y is = record { reads = is.reads; cause = tt; known = tt; later = is.later; passed = is.passed; is_open = is.is_open }

pub reads_broken : {R S : Type 0} (t u : Tx) (before now : Device) (x : R) (block : ℕ) → OnlyReads t u before now (Ok x) → OnlyReads {R = S} t u before now (Err (store.Broken block))
reads_broken t u before now x block is = record { reads = is.reads; cause = is.passed; known = tt; later = is.later; passed = tt; is_open = tt }

pub reads_ended : {R : Type 0} (t u : Tx) (before now : Device) (x : R) → HasRead t u → IsLater before now → now.faults ≡ before.faults → t.is_open ≡ true → OnlyReads t u before now (Ok x)
reads_ended t u before now x read later passed is_open = record { reads = read; cause = tt; known = tt; later = later; passed = passed; is_open = ap (λ (w : Tx). w.is_open) read.is ∙ is_open }

pub reads_memory : {R : Type 0} (t : Tx) (now : Device) (e : StoreError) → e ≡ store.Tx error.Memory → OnlyReads {R = R} t t now now (Err e)
reads_memory {R = R} t now e is =
    subst (λ (x : StoreError). OnlyReads {R = R} t t now now (Err x)) (sym is) (record { reads = read_none t; cause = refl; known = tt; later = later_same now now refl; passed = tt; is_open = tt })

-- and of a part that might have written
walk_known : (e : StoreError) → IsWalkError e → (e ≢ store.BadKey) × (e ≢ store.BadValue)
walk_known (store.Broken block) known = (λ x. cc, λ x. cc)
walk_known (store.Tx e) known = (λ x. cc, λ x. cc)
walk_known store.BadKey known = absurd known
walk_known store.BadValue known = absurd known
walk_known (store.NoBlocks need free) known = absurd known
walk_known store.Memory known = absurd known

pub behaves_refused : {R S : Type 0} (t u : Tx) (writes : ℕ) (before now : Device) (e : StoreError) → 1 ≤ writes → OnlyReads {R = R} t u before now (Err e) → Behaves {R = S} t u writes before now (Err e)
behaves_refused t u writes before now e le is = record { cause = store_cause u 1 writes before now e le is.cause; unwritten = λ other. is.reads; known = walk_known e is.known; later = is.later; passed = tt }

pub behaves_answered : {R S : Type 0} (t u : Tx) (writes : ℕ) (before now : Device) (x : R) (y : S) → OnlyReads t u before now (Ok x) → Behaves t u writes before now (Ok y)
behaves_answered t u writes before now x y is = record { cause = tt; unwritten = tt; known = tt; later = is.later; passed = is.passed }
