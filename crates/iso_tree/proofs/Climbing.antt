-- The way up, write by write.
use Rattle.iso_tree.proofs.{Words.{◌≡◌, ◌∙◌, sym, refl, ap, subst, ℕ, zero, suc, ◌+◌, ◌-◌, ◌*◌, ◌<◌, ◌≤◌, List, [], ◌∷◌, ◌++◌, length, take, drop, None, Result, Ok, arith, take_at, drop_at, length-drop, length-take-le, w32, to_be_bytes, Access, Area, StoreError, TxError, cell_count, keys_end, value_mark, value_part, Program, Done, Store, bytes_in, store_access, Tx, Device, with_accesses, HasRun, IsCut, IsCause, at_start, at_store, cut_at_store, run_from, Cell, child_part, count_of, node_bytes, used_cells, key_in_row, row_from, nodes_from, IsUsable, AreUsable, AreInside, Put, first_key, emptied, half, halves, fit, Answer, Climb, climb, climb_on, climbed, need_of, placed, root_cells, store_nodes, room_after, Err, OnOk, IsFollowed, HasWritten, ran_done, length-placed, spelled, Entry, Way}, Enough.fits_one, Filling.{row_split, length-row}, Fits.length-cells, Rereading.path_room}

-- one way on, with the node's writes
abbrev on_from : (n : ℕ) → (key : List ℕ) → (level block : ℕ) → List (ℕ × List Cell) → Put → Climb
on_from n key level block nodes q = climb_on q (λ s. climb n key (suc level) (s.0, child_part s.1) block nodes q.left) q.second

pub one_way : (n : ℕ) (key : List ℕ) (level : ℕ) (new : Cell) (below : ℕ) (node : ℕ × List Cell) (nodes : List (ℕ × List Cell)) (news : List ℕ) → length (placed level key new node.1) ≤ n
    → ◌≡◌ {A = Climb} (climb n key level new below (node ∷ nodes) news) (record { writes = (node.0, level, placed level key new node.1) ∷ []; root = None })
one_way n key level new below node nodes news few = ap (on_from n key level node.0 nodes) (fits_one n level node.0 (placed level key new node.1) news few)

fits_halves : (n level block : ℕ) (cs : List Cell) (news : List ℕ) → n < length cs → fit n level block cs news ≡ halves n level block cs news
fits_halves n level block cs news many = grind arith steps 100000

-- the writes of a split, and those of the way on
abbrev pub split_writes : (n : ℕ) → (key : List ℕ) → (level block : ℕ) → (L R : List Cell) → (sep : List ℕ) → List (ℕ × List Cell) → (r : ℕ) → List ℕ → List (ℕ × ℕ × List Cell)
split_writes n key level block L R sep nodes r more =
    (block, level, L) ∷ (r, level, emptied level R) ∷ (climb n key (suc level) (sep, child_part r) block nodes more).writes

two_way : (n : ℕ) (key : List ℕ) (level : ℕ) (new : Cell) (below : ℕ) (node : ℕ × List Cell) (nodes : List (ℕ × List Cell)) (r : ℕ) (more : List ℕ) → n < length (placed level key new node.1)
    → (climb n key level new below (node ∷ nodes) (r ∷ more)).writes
    ≡ split_writes n key level node.0 (take (half n) (placed level key new node.1)) (drop (half n) (placed level key new node.1)) (first_key (drop (half n) (placed level key new node.1))) nodes r more
two_way n key level new below node nodes r more many = ap (λ (q : Put). (on_from n key level node.0 nodes q).writes) (fits_halves n level node.0 (placed level key new node.1) (r ∷ more) many)

first_row : (size : ℕ) (node : List ℕ) (place : ℕ) (new : Cell) (from n : ℕ) → 0 < n → first_key (row_from size node place new from n) ≡ key_in_row (take (keys_end size) node) place new.0 from
first_row size node place new from zero some = absurd (omega arith)
first_row size node place new from (suc n) some = refl

-- the same by the rows of the node
pub row_way : (size n : ℕ) (key : List ℕ) (level : ℕ) (new : Cell) (below block : ℕ) (node : List ℕ) (place : ℕ) (nodes : List (ℕ × List Cell)) (r : ℕ) (more : List ℕ)
    → row_from size node place new 0 (n + 1) ≡ placed level key new (used_cells size node) → half n ≤ n
    → (climb n key level new below ((block, used_cells size node) ∷ nodes) (r ∷ more)).writes
    ≡ split_writes n key level block (row_from size node place new 0 (half n)) (row_from size node place new (half n) (n + 1 - half n)) (key_in_row (take (keys_end size) node) place new.0 (half n)) nodes r more
row_way size n key level new below block node place nodes r more row less =
    let m = half n in
    let L = row_from size node place new 0 m in
    let R = row_from size node place new m (n + 1 - m) in
    let e : n + 1 ≡ m + (n + 1 - m) = omega arith in
    let z : 0 + m ≡ m = omega arith in
    let whole : placed level key new (used_cells size node) ≡ L ++ R =
    sym row ∙ ap (row_from size node place new 0) e ∙ row_split size node place new 0 m (n + 1 - m) ∙ ap (λ (k : ℕ). L ++ row_from size node place new k (n + 1 - m)) z in
    let long : n < length (placed level key new (used_cells size node)) = omega (arith, ap length (sym row), length-row size node place new 0 (n + 1)) in
    let right : drop m (placed level key new (used_cells size node)) ≡ R = ap (drop m) whole ∙ drop_at L R m (length-row size node place new 0 m) in
    two_way n key level new below (block, used_cells size node) nodes r more long
    ∙ (λ i. split_writes n key level block ((ap (take m) whole ∙ take_at L R m (length-row size node place new 0 m)) i) (right i) (first_key (right i)) nodes r more)
    ∙ ap (λ (k : List ℕ). split_writes n key level block L R k nodes r more) (first_row size node place new m (n + 1 - m) (omega arith))

-- RUNS
-- a write that a program goes on from, or at which it is refused
pub write_done : (b : ℕ) (bytes : List ℕ) (rest : Program Answer) (t u : Tx) → u ≡ with_accesses t (store_access b [] bytes ∷ []) → length u.accesses ≤ 4096 → IsFollowed (Store b [] bytes rest) rest t u (Ok tt)
write_done b bytes rest t u is fits = search (arith, run_from, at_store, at_start) steps 100000

pub write_fails : (b : ℕ) (bytes : List ℕ) (rest : Program Answer) (t v : Tx) (before now : Device) (e : TxError) → v ≡ t → IsCause v 1 before now e → IsCut (Store b [] bytes rest) t v e
write_fails b bytes rest t v before now e same cause = cut_at_store (Store b [] bytes rest) b [] bytes rest t t v before now e (at_start (Store b [] bytes rest) t) same cause

-- one part after another, and the last part
pub follows : (whole mid rest : Program Answer) (t u v : Tx) (result : Answer) → IsFollowed whole mid t u (Ok tt) → IsFollowed mid rest u v result → IsFollowed whole rest t v result
follows whole mid rest t u v (Ok done) first second = λ w r run. first w r (second w r run)
follows whole mid rest t u v (Err e) first second = first v (Err e) second

pub followed_end : (whole : Program Answer) (t u : Tx) (result : Answer) → IsFollowed whole (Done (Ok tt)) t u result → HasRun whole t u result
followed_end whole t u (Ok done) made = made u (Ok tt) (ran_done (Ok tt) u)
followed_end whole t u (Err e) made = made

pub written_one : (t u : Tx) (a : Access) → u ≡ with_accesses t (a ∷ []) → length u.accesses ≤ 4096 → HasWritten 1 t u
written_one t u a is fits = grind (arith, room_after) steps 100000

pub written_two : (t u v : Tx) (result : Answer) → HasWritten 1 t u → OnOk result (HasWritten 1 u v) → OnOk result (HasWritten 2 t v)
written_two t u v (Ok done) one two = record { size = two.size ∙ one.size; blocks = two.blocks ∙ one.blocks; is_open = two.is_open ∙ one.is_open; room = omega (arith, one.room, two.room) }
written_two t u v (Err e) one two = tt

-- the new root, past the old one
pub root_run : (a : Area) (n : ℕ) (key : List ℕ) (level : ℕ) (new : Cell) (below r : ℕ) (path : List (ℕ × ℕ)) (nodes news more bytes : List ℕ) (t u : Tx) (result : Result (Unit {0}) StoreError)
    → path ≡ [] → news ≡ r ∷ more → bytes ≡ node_bytes a.size level (root_cells level below new) → HasRun {X = Unit {0}} (Store (a.start + r) [] bytes (Done (Ok tt))) t u result
    → HasRun {X = Unit {0}} (store_nodes a (climb n key level new below (nodes_from a.size nodes path) news).writes (Done (Ok tt))) t u result
root_run a n key level new below r path nodes news more bytes t u result none some are run = grind arith steps 100000

half_less : (n : ℕ) → 1 ≤ n → half n ≤ n
half_less n some = omega arith

-- THE NEW BLOCKS THAT ARE NEEDED
enough_on : (n block count : ℕ) (rest path : List (ℕ × ℕ)) (news : List ℕ) (r : ℕ) (more : List ℕ) → path ≡ (block, count) ∷ rest → count ≡ n → news ≡ r ∷ more → need_of n path ≤ length news → need_of n rest ≤ length more
enough_on n block count rest path news r more is full are enough = grind arith steps 100000

some_new : (n block count : ℕ) (rest path : List (ℕ × ℕ)) (news : List ℕ) → path ≡ (block, count) ∷ rest → count ≡ n → need_of n path ≤ length news → news ≡ [] → ⊥
some_new n block count rest path news is full enough none = grind arith steps 100000

-- A WAY'S FIRST NODE
-- its block and count, the nodes after it, and the bytes of both
pub record IsFirst (w : Way) (block count : ℕ) (rest : List (ℕ × ℕ)) (node others : List ℕ) : Type 0 where
  pub is : w.path.now ≡ (block, count) ∷ rest
  pub node_is : node ≡ take w.area.size w.nodes.now
  pub others_are : others ≡ drop w.area.size w.nodes.now

module _ (w : Way) (block count : ℕ) (rest : List (ℕ × ℕ)) (node others : List ℕ) (first : IsFirst w block count rest node others) where
  abbrev n : ℕ
  n = cell_count w.area.size

  abbrev K : List ℕ
  K = take (keys_end w.area.size) node

  usable : IsUsable w.area.size node count × AreUsable w.area.size others rest
  usable = subst (λ (x : List ℕ × List ℕ). IsUsable w.area.size x.0 count × AreUsable w.area.size x.1 rest) (λ i. (sym first.node_is i, sym first.others_are i)) (subst (AreUsable w.area.size w.nodes.now) first.is w.usable)

  pub node_usable : IsUsable w.area.size node count
  node_usable = usable.0

  pub others_usable : AreUsable w.area.size others rest
  others_usable = usable.1

  pub node_inside : block < w.area.blocks
  node_inside = (subst (AreInside w.area) first.is w.inside).0

  pub others_inside : AreInside w.area rest
  others_inside = (subst (AreInside w.area) first.is w.inside).1

  room : (w.area.size ≤ length w.nodes.now) × (length rest * w.area.size ≤ length w.nodes.now - w.area.size)
  room = path_room w.area.size (length w.nodes.now) block count rest w.path.now first.is w.room

  pub node_long : length node ≡ w.area.size
  node_long = ap length first.node_is ∙ length-take-le w.area.size w.nodes.now room.0

  pub others_room : length rest * w.area.size ≤ length others
  others_room = subst (λ (k : ℕ). length rest * w.area.size ≤ k) (sym (length-drop w.area.size w.nodes.now) ∙ ap length (sym first.others_are)) room.1

  used : length (used_cells w.area.size node) ≡ count
  used = length-cells K (λ j. bytes_in (value_mark w.area.size j) node) 0 (count_of K) ∙ node_usable.count_is

  count_n : n ≤ count → count ≡ n
  count_n full = let few = node_usable.few in omega arith

  -- a full node takes a new block, and the others have enough
  pub rest_enough : n ≤ count → (r : ℕ) (more : List ℕ) → w.news.now ≡ r ∷ more → need_of n rest ≤ length more
  rest_enough full r more news_are = enough_on n block count rest w.path.now w.news.now r more first.is (count_n full) news_are w.enough

  pub full_some : n ≤ count → w.news.now ≡ [] → ⊥
  full_some full none = some_new n block count rest w.path.now w.news.now first.is (count_n full) w.enough none

  module _ (level : ℕ) (new : Entry) (below : ℕ) where
    whole : climbed w level new below ≡ climb n w.key.now level (spelled new) below ((block, used_cells w.area.size node) ∷ nodes_from w.area.size others rest) w.news.now
    whole =
        ap (λ (p : List (ℕ × ℕ)). climb n w.key.now level (spelled new) below (nodes_from w.area.size w.nodes.now p) w.news.now) first.is
        ∙ (λ i. climb n w.key.now level (spelled new) below ((block, used_cells w.area.size (sym first.node_is i)) ∷ nodes_from w.area.size (sym first.others_are i) rest) w.news.now)

    -- its place is where the new cell comes
    module _ (place : ℕ) (at : row_from w.area.size node place (spelled new) 0 (count_of K + 1) ≡ placed level w.key.now (spelled new) (used_cells w.area.size node)) where
      placed_is : row_from w.area.size node place (spelled new) 0 (count + 1) ≡ placed level w.key.now (spelled new) (used_cells w.area.size node)
      placed_is = ap (λ (k : ℕ). row_from w.area.size node place (spelled new) 0 (k + 1)) (sym node_usable.count_is) ∙ at

      -- where it is not full
      pub grown_writes : count < n → (climbed w level new below).writes ≡ (block, level, row_from w.area.size node place (spelled new) 0 (count + 1)) ∷ []
      grown_writes few =
          ap (λ (c : Climb). c.writes) (whole ∙ one_way n w.key.now level (spelled new) below (block, used_cells w.area.size node) (nodes_from w.area.size others rest) w.news.now (omega (arith, used, length-placed level w.key.now (spelled new) (used_cells w.area.size node))))
          ∙ ap (λ (cs : List Cell). (block, level, cs) ∷ []) (sym placed_is)

      -- where it is full: its two halves, and the way on
      module _ (full : n ≤ count) (r : ℕ) (more : List ℕ) (news_are : w.news.now ≡ r ∷ more) where
        pub halves_writes : (k v : List ℕ) → k ≡ key_in_row K place new.key.now (half n) → v ≡ to_be_bytes w32 r
            → (climbed w level new below).writes
            ≡ (block, level, row_from w.area.size node place (spelled new) 0 (half n)) ∷ (r, level, emptied level (row_from w.area.size node place (spelled new) (half n) (n + 1 - half n)))
            ∷ (climb n w.key.now (level + 1) (k, value_part v) block (nodes_from w.area.size others rest) more).writes
        halves_writes k v k_is v_is =
            let next : suc level ≡ level + 1 = omega arith in
            let left = row_from w.area.size node place (spelled new) 0 (half n) in
            let right = emptied level (row_from w.area.size node place (spelled new) (half n) (n + 1 - half n)) in
            ap (λ (c : Climb). c.writes) (whole ∙ ap (climb n w.key.now level (spelled new) below ((block, used_cells w.area.size node) ∷ nodes_from w.area.size others rest)) news_are)
            ∙ row_way w.area.size n w.key.now level (spelled new) below block node place (nodes_from w.area.size others rest) r more
            (ap (λ (k : ℕ). row_from w.area.size node place (spelled new) 0 (k + 1)) (sym (count_n full)) ∙ placed_is) (half_less n (let l = w.kind.least_size in omega arith))
            ∙ (λ j. (block, level, left) ∷ (r, level, right) ∷ (climb n w.key.now (next j) (sym k_is j, value_part (sym v_is j)) block (nodes_from w.area.size others rest) more).writes)
