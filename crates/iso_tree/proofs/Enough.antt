-- The way up of a put over the path of its descent is the put below the root.
use Rattle.iso_tree.proofs.{Words.{◌≡◌, ◌∙◌, sym, refl, ap, ℕ, zero, suc, ◌<◌, ◌≤◌, true, ◌&&◌, ◌==◌, cond, nat_le, List, [], ◌∷◌, ◌++◌, take, length, map, Option, Some, None, arith, inl, inr, eq-eqb, AllByRecursion, cases_eq, nat_tests, append_assoc, Cell, child_of, child_part, tree_at, AreChildren, IsOrdered, put_after, Put, halves, fit, Climb, placed, climb_on, climb, full_row, length-placed, ◌⊎◌, subst, ◌+◌, false, ne_eqb, and_from, map-append, length-append}, Climbs.child_ordered, Order.{all_left, all_right, length-put_after}, Shapes.{kids, after_child, child_for, put_below}}

-- the nodes that the descent of a key passes, the leaf first
abbrev pub path_below : (ℕ → List Cell) → (key : List ℕ) → (level block : ℕ) → List (ℕ × List Cell)
path_below cells key zero block = (block, cells block) ∷ []
path_below cells key (suc level) block = path_below cells key level (child_of (child_for key (cells block))) ++ (block, cells block) ∷ []

climb_more : (p q : Put) (on : List ℕ × ℕ → Climb) (s : Option (List ℕ × ℕ))
    → ◌≡◌ {A = Climb} (record { writes = p.writes ++ (climb_on q on s).writes; root = (climb_on q on s).root })
    (climb_on (record { writes = p.writes ++ q.writes; second = q.second; taken = p.taken ++ q.taken; left = q.left; enough = p.enough && q.enough }) on s)
climb_more p q on None = refl
climb_more p q on (Some s) = λ i. record { writes = sym (append_assoc p.writes q.writes (on s).writes) i; root = (on s).root }

at_node : (n : ℕ) (key : List ℕ) (level block : ℕ) (cs : List Cell) (child : ℕ) (rest : List (ℕ × List Cell)) (p : Put) (s : Option (List ℕ × ℕ)) (some : 0 < length cs) → p.second ≡ s
    → climb_on p (λ s. climb n key (suc level) (s.0, child_part s.1) child ((block, cs) ∷ rest) p.left) s
    ≡ climb_on (after_child n child_part key level block cs p s) (λ s'. climb n key (suc (suc level)) (s'.0, child_part s'.1) block rest (after_child n child_part key level block cs p s).left) (after_child n child_part key level block cs p s).second
at_node n key level block [] child rest p s some e = absurd (omega arith)
at_node n key level block (c ∷ cs) child rest p None some e = grind arith steps 100000
at_node n key level block (c ∷ cs) child rest p (Some s) some e = grind (arith, climb_more) steps 100000

has_child : (cells : ℕ → List Cell) (level : ℕ) (low : List ℕ) (high : Option (List ℕ)) (cs : List Cell) → AreChildren (IsOrdered level) low high (kids cells level cs) → 0 < length cs
has_child cells level low high [] is = absurd is
has_child cells level low high (c ∷ cs) is = omega arith

-- the way up over the path of a descent, and what comes above it
pub climb_below : (n : ℕ) (key value : List ℕ) (cells : ℕ → List Cell) (level block below : ℕ) (low : List ℕ) (high : Option (List ℕ)) (rest : List (ℕ × List Cell)) (news : List ℕ)
    → IsOrdered level low high (tree_at cells level block)
    → climb n key 0 (key, value) below (path_below cells key level block ++ rest) news
    ≡ climb_on (put_below n child_part cells key value level block news)
    (λ s. climb n key (suc level) (s.0, child_part s.1) block rest (put_below n child_part cells key value level block news).left) (put_below n child_part cells key value level block news).second
climb_below n key value cells zero block below low high rest news order = refl
climb_below n key value cells (suc level) block below low high rest news order =
    let child = child_of (child_for key (cells block)) in
    let range = child_ordered cells level key low high (cells block) order in
    let p = put_below n child_part cells key value level child news in
    ap (λ (nodes : List (ℕ × List Cell)). climb n key 0 (key, value) below nodes news) (append_assoc (path_below cells key level child) ((block, cells block) ∷ []) rest)
    ∙ climb_below n key value cells level child below range.0 range.1 ((block, cells block) ∷ rest) news range.2
    ∙ at_node n key level block (cells block) child rest p p.second (has_child cells level low high (cells block) order) refl

-- the counts of nodes
abbrev pub counts : List (ℕ × List Cell) → List (ℕ × ℕ)
counts nodes = map (λ w. (w.0, length w.1)) nodes

fits : (n level block : ℕ) (cs : List Cell) (news : List ℕ) → length cs ≤ n → (fit n level block cs news).second ≡ None
fits n level block cs news less = grind arith steps 100000

on_same : (q : Put) (f g : List ℕ × ℕ → Climb) (s : Option (List ℕ × ℕ)) → ((x : List ℕ × ℕ) → f x ≡ g x) → climb_on q f s ≡ climb_on q g s
on_same q f g None same = refl
on_same q f g (Some x) same = λ i. record { writes = q.writes ++ (same x i).writes; root = (same x i).root }

-- The way up ends at the first node that is not full: the nodes above it are not wanted.
pub climb_take : (n : ℕ) (key : List ℕ) (level : ℕ) (new : Cell) (below : ℕ) (nodes : List (ℕ × List Cell)) (news : List ℕ) → AllByRecursion (λ (w : ℕ × List Cell). length w.1 ≤ n) nodes
    → climb n key level new below (take (suc (full_row n (counts nodes))) nodes) news ≡ climb n key level new below nodes news
climb_take n key level new below [] news all = refl
climb_take n key level new below (node ∷ nodes) news all =
    let q = fit n level node.0 (placed level key new node.1) news in
    elim (cases_eq (length node.1) n) [
      | inl full ↦
          (let e : (length node.1 == n) ≡ true = eq-eqb (length node.1) n full in
          ap (λ t. climb n key level new below (node ∷ take (cond t (suc (full_row n (counts nodes))) 0) nodes) news) e
          ∙ on_same q _ _ q.second (λ s. climb_take n key (suc level) (s.0, child_part s.1) node.0 nodes q.left all.1))
      | inr room ↦
          (let e : q.second ≡ None = fits n level node.0 (placed level key new node.1) news (omega (arith, all.0, length-placed level key new node.1)) in
          let ends : (f g : List ℕ × ℕ → Climb) → climb_on q f q.second ≡ climb_on q g q.second = λ f g. ap (climb_on q f) e ∙ ap (climb_on q g) (sym e) in
          ends _ _)
    ]

-- How many blocks a put takes: one for each full node in a row from the leaf up.
-- WHAT IS TAKEN AND WHAT IS LEFT
fit_blocks : (n level block : ℕ) (cs : List Cell) (news : List ℕ) → news ≡ (fit n level block cs news).taken ++ (fit n level block cs news).left
fit_blocks n level block cs news = grind arith

after_blocks : (n : ℕ) (key : List ℕ) (level block : ℕ) (cs : List Cell) (news : List ℕ) (p : Put) (s : Option (List ℕ × ℕ)) → news ≡ p.taken ++ p.left
    → news ≡ (after_child n child_part key level block cs p s).taken ++ (after_child n child_part key level block cs p s).left
after_blocks n key level block [] news p s is = is
after_blocks n key level block (c ∷ cs) news p None is = is
after_blocks n key level block (c ∷ cs) news p (Some s) is =
    let q = fit n (suc level) block (c ∷ put_after key (s.0, child_part s.1) cs) p.left in
    is ∙ ap (λ l. p.taken ++ l) (fit_blocks n (suc level) block (c ∷ put_after key (s.0, child_part s.1) cs) p.left) ∙ sym (append_assoc p.taken q.taken q.left)

pub put_blocks : (n : ℕ) (cells : ℕ → List Cell) (key value : List ℕ) (level block : ℕ) (news : List ℕ)
    → news ≡ (put_below n child_part cells key value level block news).taken ++ (put_below n child_part cells key value level block news).left
put_blocks n cells key value zero block news = fit_blocks n zero block (put_after key (key, value) (cells block)) news
put_blocks n cells key value (suc level) block news =
    let p = put_below n child_part cells key value level (child_of (child_for key (cells block))) news in
    after_blocks n key level block (cells block) news p p.second (put_blocks n cells key value level (child_of (child_for key (cells block))) news)

-- FULL NODES
pub row_most : (n : ℕ) (path : List (ℕ × ℕ)) → full_row n path ≤ length path
row_most n [] = omega arith
row_most n (w ∷ path) = let rest = row_most n path in elim (w.1 == n) as (λ t. cond t (suc (full_row n path)) 0 ≤ suc (length path)) [ true ↦ omega arith | false ↦ omega arith ]

row_all : (n : ℕ) (path : List (ℕ × ℕ)) (w : ℕ × ℕ) → full_row n path ≡ length path → full_row n (path ++ w ∷ []) ≡ length path + cond (w.1 == n) 1 0
row_all n [] w is = elim (w.1 == n) as (λ t. cond t 1 0 ≡ 0 + cond t 1 0) [ true ↦ refl | false ↦ refl ]
row_all n (v ∷ path) w is =
    elim (cases_eq v.1 n) [
      | inl full ↦
          (let e : (v.1 == n) ≡ true = eq-eqb v.1 n full in
          let here : full_row n (v ∷ path) ≡ suc (full_row n path) = ap (λ t. cond t (suc (full_row n path)) 0) e in
          let rest = row_all n path w (omega arith) in
          ap (λ t. cond t (suc (full_row n (path ++ w ∷ []))) 0) e ∙ omega arith)
      | inr other ↦
          (let e : (v.1 == n) ≡ false = ne_eqb v.1 n other in
          let here : full_row n (v ∷ path) ≡ 0 = ap (λ t. cond t (suc (full_row n path)) 0) e in
          absurd (omega arith))
    ]

row_part : (n : ℕ) (path : List (ℕ × ℕ)) (w : ℕ × ℕ) → full_row n path < length path → full_row n (path ++ w ∷ []) ≡ full_row n path
row_part n [] w less = absurd (omega arith)
row_part n (v ∷ path) w less =
    elim (v.1 == n) as (λ t. cond t (suc (full_row n path)) 0 < suc (length path) → cond t (suc (full_row n (path ++ w ∷ []))) 0 ≡ cond t (suc (full_row n path)) 0) [
      | true ↦ λ h. ap suc (row_part n path w (omega arith))
      | false ↦ λ h. refl
    ] less

-- what a put takes, where enough is there
pub record IsServed (n : ℕ) (path : List (ℕ × ℕ)) (p : Put) : Type 0 where
  pub enough : p.enough ≡ true
  pub count : length p.taken ≡ full_row n path
  pub kind : ((full_row n path ≡ length path) × ((s : List ℕ × ℕ) × (p.second ≡ Some s))) ⊎ ((full_row n path < length path) × (p.second ≡ None))

pub fits_one : (n level block : ℕ) (cs : List Cell) (news : List ℕ) → length cs ≤ n → fit n level block cs news ≡ record { writes = (block, level, cs) ∷ []; second = None; taken = []; left = news; enough = true }
fits_one n level block cs news few = grind arith steps 100000

record IsSplit (q : Put) : Type 0 where
  enough : q.enough ≡ true
  count : length q.taken ≡ 1
  second : (s : List ℕ × ℕ) × (q.second ≡ Some s)

fits_two : (n level block : ℕ) (cs : List Cell) (news : List ℕ) → n < length cs → 1 ≤ length news → IsSplit (fit n level block cs news)
fits_two n level block cs [] many some = absurd (omega arith)
fits_two n level block cs (new ∷ news) many some =
    let e : nat_le (length cs) n ≡ false = grind (arith, nat_tests) in
    subst (λ (t : Rattle.std.proofs.Common.Bool). IsSplit (cond t (record { writes = (block, level, cs) ∷ []; second = None; taken = []; left = new ∷ news; enough = true }) (halves n level block cs (new ∷ news)))) (sym e)
    (record { enough = refl; count = refl; second = (_, refl) })

leaf_served : (n block : ℕ) (cells : ℕ → List Cell) (key value : List ℕ) (news : List ℕ) → length (cells block) ≤ n → full_row n ((block, length (cells block)) ∷ []) ≤ length news
    → IsServed n ((block, length (cells block)) ∷ []) (fit n zero block (put_after key (key, value) (cells block)) news)
leaf_served n block cells key value news few enough = grind (arith, length-put_after, fits_two, zero, fits_one) steps 100000

inner_served : (n : ℕ) (key : List ℕ) (level block : ℕ) (c : Cell) (cs : List Cell) (news : List ℕ) (path : List (ℕ × ℕ)) (p : Put) → news ≡ p.taken ++ p.left → IsServed n path p → length (c ∷ cs) ≤ n
    → full_row n (path ++ (block, length (c ∷ cs)) ∷ []) ≤ length news
    → IsServed n (path ++ (block, length (c ∷ cs)) ∷ []) (after_child n child_part key level block (c ∷ cs) p p.second)
inner_served n key level block c cs news path p blocks is few enough =
    let w : ℕ × ℕ = (block, length (c ∷ cs)) in
    let whole : length (path ++ w ∷ []) ≡ length path + 1 = length-append path (w ∷ []) in
    let shared : length news ≡ length p.taken + length p.left = ap length blocks ∙ length-append p.taken p.left in
    let count = is.count in
    elim is.kind [
      | inr room ↦
          (let row = row_part n path w room.0 in
          subst (λ (o : Option (List ℕ × ℕ)). IsServed n (path ++ w ∷ []) (after_child n child_part key level block (c ∷ cs) p o)) (sym room.1)
          (record { enough = is.enough; count = is.count ∙ sym row; kind = inr (omega (arith, room.0), room.1) }))
      | inl full ↦
          (let row = row_all n path w full.0 in
          let s = full.1.0 in
          let cs' : List Cell = c ∷ put_after key (s.0, child_part s.1) cs in
          let long : length cs' ≡ suc (length (c ∷ cs)) = ap suc (length-put_after key (s.0, child_part s.1) cs) in
          let q = fit n (suc level) block cs' p.left in
          subst (λ (o : Option (List ℕ × ℕ)). IsServed n (path ++ w ∷ []) (after_child n child_part key level block (c ∷ cs) p o)) (sym full.1.1)
          (elim (cases_eq (length (c ∷ cs)) n) [
            | inl all ↦
                (let e : (length (c ∷ cs) == n) ≡ true = eq-eqb (length (c ∷ cs)) n all in
                let r : full_row n (path ++ w ∷ []) ≡ length path + 1 = row ∙ ap (λ t. length path + cond t 1 0) e in
                let fullness = full.0 in
                let split = fits_two n (suc level) block cs' p.left (omega arith) (omega arith) in
                let one = split.count in
                record {
                  enough = and_from p.enough q.enough is.enough split.enough;
                  count = length-append p.taken q.taken ∙ omega arith;
                  kind = inl (r ∙ sym whole, split.second);
                })
            | inr other ↦
                (let e : (length (c ∷ cs) == n) ≡ false = ne_eqb (length (c ∷ cs)) n other in
                let r : full_row n (path ++ w ∷ []) ≡ length path + 0 = row ∙ ap (λ t. length path + cond t 1 0) e in
                let fullness = full.0 in
                let one = fits_one n (suc level) block cs' p.left (omega arith) in
                let none : length q.taken ≡ 0 = ap (λ (x : Put). length x.taken) one in
                record {
                  enough = and_from p.enough q.enough is.enough (ap (λ (x : Put). x.enough) one);
                  count = length-append p.taken q.taken ∙ omega arith;
                  kind = inr (omega arith, ap (λ (x : Put). x.second) one);
                })
          ]))
    ]

at_served : (n : ℕ) (cells : ℕ → List Cell) (key : List ℕ) (level block : ℕ) (cs : List Cell) (low : List ℕ) (high : Option (List ℕ)) (news : List ℕ) (path : List (ℕ × ℕ)) (p : Put) → AreChildren (IsOrdered level) low high (kids cells level cs)
    → news ≡ p.taken ++ p.left → IsServed n path p → length cs ≤ n → full_row n (path ++ (block, length cs) ∷ []) ≤ length news
    → IsServed n (path ++ (block, length cs) ∷ []) (after_child n child_part key level block cs p p.second)
at_served n cells key level block [] low high news path p order blocks is few enough = absurd order
at_served n cells key level block (c ∷ cs) low high news path p order blocks is few enough = inner_served n key level block c cs news path p blocks is few enough

row_less : (n : ℕ) (path : List (ℕ × ℕ)) (w : ℕ × ℕ) → full_row n path ≤ full_row n (path ++ w ∷ [])
row_less n path w = grind (arith, row_all, row_part, row_most) steps 100000

-- A put is served by as many blocks as its row of full nodes.
pub put_served : (n : ℕ) (cells : ℕ → List Cell) (key value : List ℕ) (level block : ℕ) (low : List ℕ) (high : Option (List ℕ)) (news : List ℕ) → IsOrdered level low high (tree_at cells level block)
    → AllByRecursion (λ (w : ℕ × List Cell). length w.1 ≤ n) (path_below cells key level block) → full_row n (counts (path_below cells key level block)) ≤ length news
    → IsServed n (counts (path_below cells key level block)) (put_below n child_part cells key value level block news)
put_served n cells key value zero block low high news order few enough = leaf_served n block cells key value news few.0 enough
put_served n cells key value (suc level) block low high news order few enough =
    let child = child_of (child_for key (cells block)) in
    let range = child_ordered cells level key low high (cells block) order in
    let path = path_below cells key level child in
    let p = put_below n child_part cells key value level child news in
    let w : ℕ × ℕ = (block, length (cells block)) in
    let whole : counts (path ++ (block, cells block) ∷ []) ≡ counts path ++ w ∷ [] = map-append (λ (w : ℕ × List Cell). (w.0, length w.1)) path ((block, cells block) ∷ []) in
    let most : full_row n (counts path ++ w ∷ []) ≤ length news = subst (λ (l : List (ℕ × ℕ)). full_row n l ≤ length news) whole enough in
    let is = put_served n cells key value level child range.0 range.1 news range.2 (all_left (λ (w : ℕ × List Cell). length w.1 ≤ n) path ((block, cells block) ∷ []) few) (omega (arith, row_less n (counts path) w)) in
    subst (λ (l : List (ℕ × ℕ)). IsServed n l (after_child n child_part key level block (cells block) p p.second)) (sym whole)
    (at_served n cells key level block (cells block) low high news (counts path) p order (put_blocks n cells key value level child news) is
    (all_right (λ (w : ℕ × List Cell). length w.1 ≤ n) path ((block, cells block) ∷ []) few).0 most)
