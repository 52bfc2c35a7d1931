-- A scan, node by node.
use Rattle.iso_tree.proofs.{Words.{◌≡◌, ◌⊎◌, inl, inr, ◌∙◌, sym, refl, ap, subst, ℕ, zero, suc, ◌+◌, ◌-◌, ◌<◌, ◌&&◌, Bool, true, false, cond, List, [], ◌∷◌, ◌++◌, length, map, take, Result, Ok, Err, IfOk, arith, ne_eqb, AllByRecursion, and_parts, append-nil, Area, StoreError, is_key, Program, Done, Look, LookWhole, Reserve, Store, then_do, child_of, and_then, first_in, many_in, pairs_with, parts_of, scan_below, scan_children, scan_from, scan_program, with_head, Scanned, scan_op, tree_map, IsTreeRegion, Tx, Ran, HasEnded, HasRun, IsLocalCall, WantsMemory, IsAt, at_start, at_then, began_at, ran_at, ran_done, began_from, ended_from, run_from, scanned_ok, Visit, keys_of, node_read, scan_nodes, values_of, visit_program, AreIn, HasScanned, IsVisited, head_program, at_as, refused_then}, Getting.head_at, ScanCalls.scan_call, Visiting.{children_in, inner_parts, parts_are}}
use Rattle.std.proofs.Common.{append_assoc, length-append}
use Rattle.store_model.specs.declared.stores.StoreError.TheVariants as store
use Rattle.store_model.specs.declared.stores.TxError.TheVariants as error

-- PROGRAMS
pub then_assoc : {R S Q : Type 0} (p : Program R) (f : R → Program S) (g : S → Program Q) → then_do (then_do p f) g ≡ then_do p (λ r. then_do (f r) g)
then_assoc (Done r) f g = refl
then_assoc (Look block mark further next) f g = λ i. Look block mark further (λ xs ys. then_assoc (next xs ys) f g i)
then_assoc (LookWhole block next) f g = λ i. LookWhole block (λ xs. then_assoc (next xs) f g i)
then_assoc (Reserve count next) f g = λ i. Reserve count (then_assoc next f g i)
then_assoc (Store block spans bytes next) f g = λ i. Store block spans bytes (then_assoc next f g i)

then_done : {R : Type 0} (p : Program R) → then_do p (λ r. Done r) ≡ p
then_done (Done r) = refl
then_done (Look block mark further next) = λ i. Look block mark further (λ xs ys. then_done (next xs ys) i)
then_done (LookWhole block next) = λ i. LookWhole block (λ xs. then_done (next xs) i)
then_done (Reserve count next) = λ i. Reserve count (then_done next i)
then_done (Store block spans bytes next) = λ i. Store block spans bytes (then_done next i)

-- WHAT FOLLOWS THE READ OF A NODE
module _ (a : Area) (from to : List ℕ) where
  abbrev after_visit : (level : ℕ) → (most : ℕ) → Result (List ℕ × List ℕ) StoreError → Program Scanned
  after_visit zero most (Ok x) = Done (Ok (take most (pairs_with x.0 (first_in 0 from x.0) (parts_of x.1 (many_in 0 from to x.0)))))
  after_visit zero most (Err e) = Done (Err e)
  after_visit (suc level) most (Ok x) = scan_children (scan_from a from to level) (map child_of (parts_of x.1 (many_in (suc level) from to x.0))) most []
  after_visit (suc level) most (Err e) = Done (Err e)

  leaf_same : (most block : ℕ) (keys values : List ℕ) (c : Bool)
      → cond c (Done (Ok (take most (pairs_with keys (first_in 0 from keys) (parts_of values (many_in 0 from to keys)))))) (Done (Err (store.Broken (a.start + block))))
      ≡ after_visit zero most (cond c (Ok (keys, values)) (Err (store.Broken (a.start + block))))
  leaf_same most block keys values c = grind arith

  inner_same : (level most block : ℕ) (keys values : List ℕ) (c : Bool)
      → cond c (scan_children (scan_from a from to level) (map child_of (parts_of values (many_in (suc level) from to keys))) most []) (Done (Err (store.Broken (a.start + block))))
      ≡ after_visit (suc level) most (cond c (Ok (keys, values)) (Err (store.Broken (a.start + block))))
  inner_same level most block keys values c = grind arith

  visit_as : (level block most : ℕ) → scan_from a from to level block most ≡ then_do (visit_program a from to level block) (after_visit level most)
  visit_as level block most = grind (arith, leaf_same, inner_same)

  -- what follows the scan of a node
  abbrev then_nodes : List (ℕ × ℕ) → (most : ℕ) → List (List ℕ × List ℕ) → Scanned → Program Scanned
  then_nodes nodes most found r = and_then r (λ pairs. scan_nodes a from to nodes (most - length pairs) (found ++ pairs))

  abbrev on_visit : (level : ℕ) → List (ℕ × ℕ) → (most : ℕ) → List (List ℕ × List ℕ) → Result (List ℕ × List ℕ) StoreError → Program Scanned
  on_visit level nodes most found r = then_do (after_visit level most r) (then_nodes nodes most found)

  nodes_as : (level block : ℕ) (nodes : List (ℕ × ℕ)) (most : ℕ) (found : List (List ℕ × List ℕ)) → 0 < most
      → scan_nodes a from to ((level, block) ∷ nodes) most found ≡ then_do (scan_from a from to level block most) (then_nodes nodes most found)
  nodes_as level block nodes zero found some = absurd (omega arith)
  nodes_as level block nodes (suc most) found some = refl

  next_as : (level block : ℕ) (nodes : List (ℕ × ℕ)) (most : ℕ) (found : List (List ℕ × List ℕ)) → 0 < most
      → scan_nodes a from to ((level, block) ∷ nodes) most found ≡ then_do (visit_program a from to level block) (on_visit level nodes most found)
  next_as level block nodes most found some = grind (arith, nodes_as, visit_as, then_assoc) steps 100000

  on_refusal : (level : ℕ) (nodes : List (ℕ × ℕ)) (most : ℕ) (found : List (List ℕ × List ℕ)) (e : StoreError) → on_visit level nodes most found (Err e) ≡ Done (Err e)
  on_refusal level nodes most found e = grind arith

  -- no pair is wanted any more, or no node is left
  pub none_wanted : (nodes : List (ℕ × ℕ)) (found : List (List ℕ × List ℕ)) → scan_nodes a from to nodes 0 found ≡ Done (Ok found)
  none_wanted [] found = refl
  none_wanted (node ∷ nodes) found = refl

  -- the children of a node, before the other nodes
  children_nodes : (level : ℕ) (nodes : List (ℕ × ℕ)) (most : ℕ) (found : List (List ℕ × List ℕ)) (children : List ℕ) (left : ℕ) (pairs : List (List ℕ × List ℕ)) → left ≡ most - length pairs
      → then_do (scan_children (scan_from a from to level) children left pairs) (then_nodes nodes most found) ≡ scan_nodes a from to (map (λ child. (level, child)) children ++ nodes) left (found ++ pairs)
  children_nodes level nodes most found [] left pairs is = ap (λ (n : ℕ). scan_nodes a from to nodes n (found ++ pairs)) (sym is)
  children_nodes level nodes most found (child ∷ children) zero pairs is = ap (λ (n : ℕ). scan_nodes a from to nodes n (found ++ pairs)) (sym is) ∙ none_wanted nodes (found ++ pairs)
  children_nodes level nodes most found (child ∷ children) (suc left) pairs is =
      let scan = scan_from a from to level in
      let others : List (List ℕ × List ℕ) → Program Scanned = λ more. scan_children scan children (suc left - length more) (pairs ++ more) in
      let goal : List (List ℕ × List ℕ) → Program Scanned = λ more. scan_nodes a from to (map (λ c. (level, c)) children ++ nodes) (suc left - length more) (found ++ pairs ++ more) in
      let each : (r : Scanned) → then_do (and_then r others) (then_nodes nodes most found) ≡ and_then r goal = λ r. elim r as (λ (x : Scanned). then_do (and_then x others) (then_nodes nodes most found) ≡ and_then x goal) [
        | Ok more ↦
            (let rest : suc left - length more ≡ most - length (pairs ++ more) = (let sum = length-append pairs more in omega arith) in
            children_nodes level nodes most found children (suc left - length more) (pairs ++ more) rest
            ∙ ap (scan_nodes a from to (map (λ c. (level, c)) children ++ nodes) (suc left - length more)) (sym (append_assoc found pairs more)))
        | Err e ↦ refl
      ] in
      then_assoc (scan child (suc left)) (λ r. and_then r others) (then_nodes nodes most found) ∙ ap (then_do (scan child (suc left))) (λ i. λ r. each r i)

  -- after the read of a leaf
  abbrev pairs_of : (level most : ℕ) → List ℕ × List ℕ → List (List ℕ × List ℕ)
  pairs_of level most x = take most (pairs_with x.0 (first_in level from x.0) (parts_of x.1 (many_in level from to x.0)))

  leaf_rest : (level : ℕ) (nodes : List (ℕ × ℕ)) (most : ℕ) (found : List (List ℕ × List ℕ)) (x : List ℕ × List ℕ) → level ≡ 0
      → on_visit level nodes most found (Ok x) ≡ scan_nodes a from to nodes (most - length (pairs_of level most x)) (found ++ pairs_of level most x)
  leaf_rest zero nodes most found x is = refl
  leaf_rest (suc level) nodes most found x is = absurd (omega arith)

  -- after the read of an inner node
  inner_rest : (level below : ℕ) (nodes : List (ℕ × ℕ)) (most : ℕ) (found : List (List ℕ × List ℕ)) (x : List ℕ × List ℕ) → level ≡ suc below
      → on_visit level nodes most found (Ok x) ≡ scan_nodes a from to (map (λ child. (below, child)) (map child_of (parts_of x.1 (many_in level from to x.0))) ++ nodes) most found
  inner_rest level below nodes most found x is =
      let none : most ≡ most - 0 = omega arith in
      let here = children_nodes below nodes most found (map child_of (parts_of x.1 (many_in (suc below) from to x.0))) most [] none
      ∙ ap (scan_nodes a from to (map (λ child. (below, child)) (map child_of (parts_of x.1 (many_in (suc below) from to x.0))) ++ nodes) most) (append-nil found) in
      subst (λ (l : ℕ). on_visit l nodes most found (Ok x) ≡ scan_nodes a from to (map (λ child. (below, child)) (map child_of (parts_of x.1 (many_in l from to x.0))) ++ nodes) most found) (sym is) here

map_both : (level : ℕ) (parts : List (List ℕ)) → map {B = ℕ × ℕ} (λ child. (level, child)) (map child_of parts) ≡ map {B = ℕ × ℕ} (λ part. (level, child_of part)) parts
map_both level [] = refl
map_both level (part ∷ parts) = ap (λ l. (level, child_of part) ∷ l) (map_both level parts)

nodes_in : (a : Area) (level : ℕ) (parts : List (List ℕ)) (nodes : List (ℕ × ℕ)) → AllByRecursion (λ (part : List ℕ). child_of part < a.blocks) parts → AreIn a nodes → AreIn a (map (λ part. (level, child_of part)) parts ++ nodes)
nodes_in a level [] nodes all others = others
nodes_in a level (part ∷ parts) nodes all others = (all.0, nodes_in a level parts nodes all.1 others)

-- the children of a node come before the other nodes
pub unread_in : (a : Area) (from to : List ℕ) (level : ℕ) (bytes : List ℕ) (visit : Visit) (nodes unread : List (ℕ × ℕ)) → IsVisited a from to level bytes visit → (level ≡ 0 → ⊥) → AreIn a nodes
    → unread ≡ map (λ part. (level - 1, child_of part)) (parts_of (values_of a visit bytes) visit.many) ++ nodes → AreIn a unread
unread_in a from to level bytes visit nodes unread is inner others same =
    subst (AreIn a) (sym same)
    (nodes_in a (level - 1) (parts_of (values_of a visit bytes) visit.many) nodes
    (children_in a level (parts_of (values_of a visit bytes) visit.many) (sym (inner_parts a level (parts_of (values_of a visit bytes) visit.many) inner) ∙ is.parts)) others)

-- A STEP
module _ (a : Area) (from to : List ℕ) (level block : ℕ) (nodes : List (ℕ × ℕ)) (max : ℕ) (found : List (List ℕ × List ℕ)) (some : length found < max) (t v : Tx) where
  abbrev most : ℕ
  most = max - length found

  abbrev whole : Program Scanned
  whole = scan_nodes a from to ((level, block) ∷ nodes) (max - length found) found

  wanted : 0 < most
  wanted = omega arith

  -- the read of the node was refused
  pub step_refused : (e : StoreError) → HasRun (visit_program a from to level block) t v (Err e) → HasScanned whole t v (Err e)
  step_refused e run = inl
      (subst (λ (p : Program Scanned). HasRun p t v (Err e)) (sym (next_as a from to level block nodes most found wanted))
      (refused_then (visit_program a from to level block) (on_visit a from to level nodes most found) t v e (on_refusal a from to level nodes most found e) run))

  module _ (bytes : List ℕ) (ran : Ran (visit_program a from to level block) t v (Ok (node_read a from to level bytes))) where
    at_read : IsAt whole (on_visit a from to level nodes most found (Ok (node_read a from to level bytes))) t v
    at_read = at_then whole (visit_program a from to level block) (on_visit a from to level nodes most found) t t v (Ok (node_read a from to level bytes))
        (at_as whole whole _ t t (next_as a from to level block nodes most found wanted) (at_start whole t)) ran

    -- memory is wanting after it
    pub step_memory : (e : StoreError) → e ≡ store.Tx error.Memory → HasScanned whole t v (Err e)
    step_memory e is = inr (ap (λ x. Err x) is, began_at whole (on_visit a from to level nodes most found (Ok (node_read a from to level bytes))) t v v at_read refl)

    module _ (visit : Visit) (is : IsVisited a from to level bytes visit) where
      abbrev parts : List (List ℕ)
      parts = parts_of (values_of a visit bytes) visit.many

      -- a leaf: its pairs are found
      pub leaf_step : level ≡ 0 → (now : List (List ℕ × List ℕ)) → now ≡ found ++ take (max - length found) (pairs_with (keys_of a bytes) visit.first parts) → IsAt whole (scan_nodes a from to nodes (max - length now) now) t v
      leaf_step leaf now added =
          let pairs = pairs_of a from to level most (node_read a from to level bytes) in
          let same : take most (pairs_with (keys_of a bytes) visit.first parts) ≡ pairs =
          (λ i. take most (pairs_with (keys_of a bytes) (is.first i) (sym (parts_are a from to level bytes visit.first visit.many is.node is.first is.many) i))) in
          let now_is : now ≡ found ++ pairs = added ∙ ap (λ p. found ++ p) same in
          let left : most - length pairs ≡ max - length now = (let long = ap length now_is in let sum = length-append found pairs in omega arith) in
          at_as whole (on_visit a from to level nodes most found (Ok (node_read a from to level bytes))) (scan_nodes a from to nodes (max - length now) now) t v
          (leaf_rest a from to level nodes most found (node_read a from to level bytes) leaf ∙ (λ i. scan_nodes a from to nodes (left i) (sym now_is i))) at_read

      -- an inner node: its children come first
      pub inner_step : (level ≡ 0 → ⊥) → (unread : List (ℕ × ℕ)) → unread ≡ map (λ part. (level - 1, child_of part)) parts ++ nodes → IsAt whole (scan_nodes a from to unread (max - length found) found) t v
      inner_step inner unread added =
          let below : level ≡ suc (level - 1) = omega arith in
          let same : map (λ child. (level - 1, child)) (map child_of (parts_of (node_read a from to level bytes).1 (many_in level from to (keys_of a bytes)))) ++ nodes ≡ unread =
          ap (λ l. l ++ nodes) (map_both (level - 1) _ ∙ ap (map (λ part. (level - 1, child_of part))) (parts_are a from to level bytes visit.first visit.many is.node is.first is.many)) ∙ sym added in
          at_as whole (on_visit a from to level nodes most found (Ok (node_read a from to level bytes))) (scan_nodes a from to unread (max - length found) found) t v
          (inner_rest a from to level (level - 1) nodes most found (node_read a from to level bytes) below ∙ ap (λ (us : List (ℕ × ℕ)). scan_nodes a from to us most found) same) at_read

-- a part of a scan that ends the scan
pub scanned_from : (whole rest : Program Scanned) (t u v : Tx) (result : Scanned) → IsAt whole rest t u → HasScanned rest u v result → HasScanned whole t v result
scanned_from whole rest t u v result now (inl run) = inl (run_from whole rest t u v result now run)
scanned_from whole rest t u v result now (inr wants) = inr (wants.0, began_from whole rest t u v now wants.1)

-- root and level were read, and the rest is scanned
pub head_scanned : (a : Area) (next : ℕ → ℕ → Program Scanned) (t u v : Tx) (x : ℕ × ℕ) (result : Scanned) → Ran (head_program a) t u (Ok x) → HasScanned (next x.0 x.1) u v result → HasScanned (with_head a next) t v result
head_scanned a next t u v x result ran rest = scanned_from (with_head a next) (next x.0 x.1) t u v result (head_at a next t u x ran) rest

-- THE WALK
module _ (a : Area) (from to : List ℕ) (whole : Program Scanned) (t u : Tx) where
  -- a node is next
  pub at_next : (nodes : List (ℕ × ℕ)) (first : ℕ × ℕ) (rest : List (ℕ × ℕ)) (left : ℕ) (found : List (List ℕ × List ℕ)) → nodes ≡ first ∷ rest → IsAt whole (scan_nodes a from to nodes left found) t u → IsAt whole (scan_nodes a from to (first ∷ rest) left found) t u
  at_next nodes first rest left found is now = subst (λ (ns : List (ℕ × ℕ)). IsAt whole (scan_nodes a from to ns left found) t u) is now

  -- no node is left, or as many pairs as are wanted are found
  pub walk_ends : (nodes : List (ℕ × ℕ)) (left : ℕ) (found : List (List ℕ × List ℕ)) → IsAt whole (scan_nodes a from to nodes left found) t u → nodes ≡ [] → Ran whole t u (Ok found)
  walk_ends nodes left found now none = ran_at whole t u (Ok found) (at_as whole _ _ t u (ap (λ (ns : List (ℕ × ℕ)). scan_nodes a from to ns left found) none) now)

  pub walk_full : (nodes : List (ℕ × ℕ)) (left : ℕ) (found : List (List ℕ × List ℕ)) → IsAt whole (scan_nodes a from to nodes left found) t u → left ≡ 0 → Ran whole t u (Ok found)
  walk_full nodes left found now none = grind (arith, ran_at, at_as, none_wanted) steps 100000

-- THE CALL
each_done : (r : Scanned) → and_then r (λ pairs. Done (Ok pairs)) ≡ Done r
each_done r = grind arith

below_as : (a : Area) (from to : List ℕ) (most root level : ℕ) → (root ≡ 0 → ⊥) → 0 < most → scan_nodes a from to ((level, root) ∷ []) most [] ≡ scan_below a from to most root level
below_as a from to most root level some wanted =
    nodes_as a from to level root [] most [] wanted ∙ ap (then_do (scan_from a from to level root most)) (λ i. λ r. each_done r i) ∙ then_done (scan_from a from to level root most)
    ∙ sym (ap (λ (b : Bool). cond b (Done (Ok [])) (scan_from a from to level root most)) (ne_eqb root 0 some))

pub below_run : (a : Area) (from to : List ℕ) (most root level : ℕ) (t u : Tx) (result : Scanned) (nodes : List (ℕ × ℕ)) → (root ≡ 0 → ⊥) → 0 < most → nodes ≡ (level, root) ∷ []
    → HasScanned (scan_nodes a from to nodes (most - 0) []) t u result → HasScanned (scan_below a from to most root level) t u result
below_run a from to most root level t u result nodes some wanted is run =
    let all : most - 0 ≡ most = omega arith in
    subst (λ (p : Program Scanned). HasScanned p t u result) ((λ i. scan_nodes a from to (is i) (all i) []) ∙ below_as a from to most root level some wanted) run

pub below_memory : (a : Area) (from to : List ℕ) (most root level : ℕ) (t : Tx) (e : StoreError) → e ≡ store.Tx error.Memory → HasScanned (scan_below a from to most root level) t t (Err e)
below_memory a from to most root level t e is = let p = scan_below a from to most root level in inr (ap (λ x. Err x) is, began_at p p t t t (at_start p t) refl)

pub scan_run : (a : Area) (from to : List ℕ) (most : ℕ) (t u : Tx) (result : Scanned) → (is_key from && is_key to) ≡ true → HasScanned (with_head a (scan_below a from to most)) t u result → HasScanned (scan_program a from to most) t u result
unfolding scan_program
scan_run a from to most t u result are run = rw are run

pub bad_keys : (a : Area) (from to : List ℕ) (most : ℕ) (t : Tx) → (is_key from && is_key to) ≡ false → Ran (scan_program a from to most) t t (Err store.BadKey)
unfolding scan_program
bad_keys a from to most t not = rw not (ran_done (Err store.BadKey) t)

-- what was a part of the call is the call, or its buffer was not had
pub scan_ended : (a : Area) (from to : List ℕ) (most : ℕ) (t u : Tx) (result : Scanned) → HasScanned (scan_program a from to most) t u result
    → HasEnded (scan_program a from to most) t u result ⊎ WantsMemory (scan_program a from to most) t u result
scan_ended a from to most t u result (inl run) = inl (ended_from (scan_program a from to most) t u result run)
scan_ended a from to limit t u result (inr wants) = inr wants

pub scan_any : (a : Area) (from to : List ℕ) (most : ℕ) (t u : Tx) (result : Scanned) → (is_key from && is_key to) ≡ true → HasScanned (scan_program a from to most) t u result
    → IfOk result (IsLocalCall (IsTreeRegion a) (tree_map a) (scan_op from to most) t u)
scan_any a from to most t u (Ok pairs) are run = let both = and_parts (is_key from) (is_key to) are in scan_call a from to most t u (Ok pairs) both.0 both.1 (scanned_ok (scan_program a from to most) t u pairs run)
scan_any a from to limit t u (Err e) are run = tt
