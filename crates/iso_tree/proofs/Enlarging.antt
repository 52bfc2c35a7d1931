-- A put that takes new blocks: what the code counts, and its writes in turn.
use Rattle.iso_tree.proofs.{Words.{◌≡◌, ◌≢◌, ◌∙◌, sym, refl, ap, subst, ℕ, zero, suc, ◌+◌, ◌-◌, ◌*◌, ◌<◌, ◌≤◌, ◌==◌, Bool, true, false, not, cond, List, [], ◌∷◌, length, map, take, drop, get_or, Option, Some, None, Result, Ok, arith, inl, inr, eq-eqb, ne_eqb, AllByRecursion, filter, range_with_len, cases_eq, length-take-le, Area, StoreError, TxError, cell_count, keys_end, value_mark, bit_place, free_count, map_bit, map_bytes, map_mark, IsIn, Program, Done, Store, bytes_in, Tx, Device, with_accesses, room_of, HasRun, IsCut, IsCause, IsAt, at_start, at_store, at_reserve, full_at_reserve, cut_at_store, run_from, first_spans, first_bytes, first_access, Cell, count_of, used_cells, nodes_from, AreBlocks, AreUsable, IsUsable, Answer, Climb, climb, climbed, first_write, free_list, full_row, need_of, put_writes, store_nodes, with_used, IsTreeArea, Err, nat_lt, nat_tests, NoBlocks, Array, own, block_at, value_part, look_access, ForSome, Ran, HasRead, at_join, at_look, ran_at, cut_at_look, read_base, ArePathUsable, AreShownUsable, look_again, put_new, with_map, at_as, spelled, Entry, Up, Way}, Enough.{row_most, counts}, Fits.length-cells, Getting.shown_same, Growing.{climb_shape, count_same, list_same, take_used}, Taking.{AreTaken, taken_are}}
use Rattle.store_model.specs.declared.stores.TxError.TheVariants as error

-- THE NODES THAT WERE READ
used_long : (size : ℕ) (node : List ℕ) (count : ℕ) → IsUsable size node count → length (used_cells size node) ≡ count
used_long size node count is = length-cells (take (keys_end size) node) (λ j. bytes_in (value_mark size j) node) 0 (count_of (take (keys_end size) node)) ∙ is.count_is

pub path_counts : (size : ℕ) (nodes : List ℕ) (path : List (ℕ × ℕ)) → AreUsable size nodes path → counts (nodes_from size nodes path) ≡ path
path_counts size nodes [] is = refl
path_counts size nodes (p ∷ path) is = (λ j. (p.0, used_long size (take size nodes) p.1 is.0 j) ∷ path_counts size (drop size nodes) path is.1 j)

path_few : (size : ℕ) (nodes : List ℕ) (path : List (ℕ × ℕ)) → AreUsable size nodes path → AllByRecursion (λ (w : ℕ × List Cell). length w.1 ≤ cell_count size) (nodes_from size nodes path)
path_few size nodes [] is = tt
path_few size nodes (p ∷ path) is = (let few = is.0.few in omega (arith, used_long size (take size nodes) p.1 is.0), path_few size (drop size nodes) path is.1)

length-nodes : (size : ℕ) (nodes : List ℕ) (path : List (ℕ × ℕ)) → length (nodes_from size nodes path) ≡ length path
length-nodes size nodes [] = refl
length-nodes size nodes (p ∷ path) = ap suc (length-nodes size (drop size nodes) path)

-- THE WAY UP OVER THEM
pub record IsWay (n : ℕ) (path : List (ℕ × ℕ)) (news : List ℕ) (way : Climb) : Type 0 where
  pub count : length way.writes ≡ 2 * full_row n path + 1
  pub root : way.root ≡ cond (full_row n path == length path) (Some (get_or news (length path) 0, length path)) None

pub way_is : (a : Area) (key : List ℕ) (new : Cell) (nodes : List ℕ) (path : List (ℕ × ℕ)) (news : List ℕ) → 1 ≤ cell_count a.size → AreUsable a.size nodes path → need_of (cell_count a.size) path ≤ length news
    → IsWay (cell_count a.size) path news (climb (cell_count a.size) key 0 new 0 (nodes_from a.size nodes path) news)
way_is a key new nodes path news some usable enough =
    let n = cell_count a.size in
    let ws = nodes_from a.size nodes path in
    let same = path_counts a.size nodes path usable in
    let long = length-nodes a.size nodes path in
    let shape = climb_shape n key 0 new 0 ws news some (path_few a.size nodes path usable) (subst (λ (p : List (ℕ × ℕ)). need_of n p ≤ length news) (sym same) enough) in
    let none : 0 + length ws ≡ length path = omega (arith, long) in
    grind arith

-- THE WRITES
first_store : {R : Type 0} (a : Area) (first taken : List ℕ) (root : Option (ℕ × ℕ)) (next : Program R) → first_write a first taken root next ≡ Store a.start (first_spans taken root) (first_bytes a first taken root) next
first_store a first taken root next = grind arith

module _ (a : Area) (first taken : List ℕ) (way : Climb) (full : ℕ) (count : length way.writes ≡ 2 * full + 1) (t : Tx) where
  abbrev whole : Program Answer
  whole = put_writes a first taken way

  abbrev nodes_next : Program Answer
  nodes_next = store_nodes a way.writes (Done (Ok tt))

  at_writes : 2 + 2 * full ≤ room_of t → IsAt whole (Store a.start (first_spans taken way.root) (first_bytes a first taken way.root) nodes_next) t t
  at_writes room =
      subst (λ (p : Program Answer). IsAt whole p t t) (first_store a first taken way.root nodes_next)
      (at_reserve whole (1 + length way.writes) (first_write a first taken way.root nodes_next) t t (at_start whole t) (omega arith))

  -- where not all of them fit
  pub writes_unfit : (e : TxError) → e ≡ error.TooManyAccesses → room_of t < 2 + 2 * full → IsCut whole t t e
  writes_unfit e is few = subst (IsCut whole t t) (sym is) (full_at_reserve whole (1 + length way.writes) (first_write a first taken way.root nodes_next) t t t (at_start whole t) refl (omega arith))

  -- where the first is refused
  pub first_unwritten : (v : Tx) (before now : Device) (e : TxError) → 2 + 2 * full ≤ room_of t → v ≡ t → IsCause v 1 before now e → IsCut whole t v e
  first_unwritten v before now e room same cause = grind (arith, cut_at_store, at_writes) steps 100000

  -- and where it is made
  pub then_nodes : (root : Option (ℕ × ℕ)) (u v : Tx) (result : Result (Unit {0}) StoreError) → 2 + 2 * full ≤ room_of t → way.root ≡ root → u ≡ with_accesses t (first_access a first taken root ∷ []) → length u.accesses ≤ 4096
      → HasRun nodes_next u v result → HasRun whole t v result
  then_nodes root u v result room root_is is fits run =
      run_from whole nodes_next t u v result
      (at_store whole a.start (first_spans taken way.root) (first_bytes a first taken way.root) nodes_next t t u (at_writes room) fits
      (is ∙ ap (λ (o : Option (ℕ × ℕ)). with_accesses t (first_access a first taken o ∷ [])) (sym root_is))) run

-- the same by the count that the code has
pub record IsWayOf (path : List (ℕ × ℕ)) (news : List ℕ) (full : ℕ) (way : Climb) : Type 0 where
  pub count : length way.writes ≡ 2 * full + 1
  pub root : way.root ≡ cond (full == length path) (Some (get_or news (length path) 0, length path)) None

pub way_of : (w : Way) (new : Entry) (full : ℕ) → full ≡ full_row (cell_count w.area.size) w.path.now → IsWayOf w.path.now w.news.now full (climbed w 0 new 0)
way_of w new full full_is =
    let way = way_is w.area w.key.now (spelled new) w.nodes.now w.path.now w.news.now (some_cell w.area w.kind) w.usable w.enough in
    way_as w.path.now w.news.now (climbed w 0 new 0) (cell_count w.area.size) full way full_is
  where
    some_cell : (a : Area) → IsTreeArea a → 1 ≤ cell_count a.size
    some_cell a area = let l = area.least_size in omega arith

    way_as : (path : List (ℕ × ℕ)) (news : List ℕ) (way : Climb) (n full : ℕ) → IsWay n path news way → full ≡ full_row n path → IsWayOf path news full way
    way_as path news way n full is full_is = record { count = is.count ∙ ap (λ (f : ℕ). 2 * f + 1) (sym full_is); root = is.root ∙ ap (λ (f : ℕ). cond (f == length path) (Some (get_or news (length path) 0, length path)) None) (sym full_is) }

-- WHAT THE CODE COUNTS
-- the nodes that are written: the full ones in a row, and one more
pub row_taken : (n : ℕ) (path : List (ℕ × ℕ)) → full_row n (take (suc (full_row n path)) path) ≡ full_row n path
row_taken n [] = refl
row_taken n (p ∷ path) = elim (cases_eq p.1 n) [
  | inl full ↦
      (let e : (p.1 == n) ≡ true = eq-eqb p.1 n full in
      let row : full_row n (p ∷ path) ≡ suc (full_row n path) = ap (λ t. cond t (suc (full_row n path)) 0) e in
      ap (λ (k : ℕ). full_row n (take (suc k) (p ∷ path))) row
      ∙ ap (λ t. cond t (suc (full_row n (take (suc (full_row n path)) path))) 0) e
      ∙ ap suc (row_taken n path) ∙ sym row)
  | inr other ↦
      (let e : (p.1 == n) ≡ false = ne_eqb p.1 n other in
      let row : full_row n (p ∷ path) ≡ 0 = ap (λ t. cond t (suc (full_row n path)) 0) e in
      ap (λ (k : ℕ). full_row n (take (suc k) (p ∷ path))) row
      ∙ ap (λ t. cond t (suc (full_row n (take 0 path))) 0) e ∙ sym row)
]

need_equal : (n : ℕ) (path : List (ℕ × ℕ)) → full_row n path ≡ length path → need_of n path ≡ full_row n path + 1
need_equal n path is = ap (λ (t : Bool). full_row n path + cond t 1 0) (eq-eqb (full_row n path) (length path) is)

need_other : (n : ℕ) (path : List (ℕ × ℕ)) → full_row n path ≢ length path → need_of n path ≡ full_row n path + 0
need_other n path other = ap (λ (t : Bool). full_row n path + cond t 1 0) (ne_eqb (full_row n path) (length path) other)

-- no more new blocks are needed for them than for the whole path
pub need_taken : (n : ℕ) (path : List (ℕ × ℕ)) → need_of n (take (suc (full_row n path)) path) ≤ need_of n path
need_taken n path =
    let rows = take (suc (full_row n path)) path in
    let same = row_taken n path in
    let short = row_most n path in
    elim (cases_eq (full_row n path) (length path)) [
      | inl all ↦
          (let one = need_equal n path all in
          elim (cases_eq (full_row n rows) (length rows)) [
            | inl is ↦ (let two = need_equal n rows is in omega arith)
            | inr other ↦ (let two = need_other n rows other in omega arith)
          ])
      | inr part ↦
          (let one = need_other n path part in
          let long : length rows ≡ suc (full_row n path) = length-take-le (suc (full_row n path)) path (omega arith) in
          let two = need_other n rows (λ e. absurd (omega arith)) in
          omega arith)
    ]

pub all_taken : {X : Type 0} (P : X → Type 0) (n : ℕ) (xs : List X) → AllByRecursion P xs → AllByRecursion P (take n xs)
all_taken P zero [] all = tt
all_taken P zero (x ∷ xs) all = tt
all_taken P (suc n) [] all = tt
all_taken P (suc n) (x ∷ xs) all = (all.0, all_taken P n xs all.1)

pub few_taken : {X : Type 0} (n : ℕ) (xs : List X) → length (take n xs) ≤ length xs
few_taken zero [] = omega arith
few_taken zero (x ∷ xs) = omega arith
few_taken (suc n) [] = omega arith
few_taken (suc n) (x ∷ xs) = (let rest = few_taken n xs in omega arith)

-- what they need of the buffer
pub room_taken : (size n many : ℕ) (path : List (ℕ × ℕ)) → length path * size ≤ many → length (take n path) * size ≤ many
room_taken size n many path room = grind (arith, few_taken) steps 100000

-- THE BLOCKS THAT ARE TAKEN
blocks_in : (a : Area) (news : List ℕ) (k : ℕ) → AreBlocks a news → IsIn k news → k < a.blocks
blocks_in a [] k all is = absurd is
blocks_in a (x ∷ xs) k all is = elim is [
  | inl here ↦ subst (λ (j : ℕ). j < a.blocks) here all.0
  | inr later ↦ blocks_in a xs k all.1 later
]

pub blocks_from : (a : Area) (news : List ℕ) → ((k : ℕ) → IsIn k news → k < a.blocks) → AreBlocks a news
blocks_from a [] each = tt
blocks_from a (k ∷ news) each = (each k (inl refl), blocks_from a news (λ j is. each j (inr is)))

module _ (a : Area) (area : IsTreeArea a) (F : List ℕ) where
  abbrev m : ℕ
  m = 64 + map_bytes a.blocks

  low : (k : ℕ) → k < 1 + (a.blocks - 1) → bit_place k < m
  low k inside = let l = area.least in omega arith

  pub free_same : free_count (bytes_in (map_mark a.blocks) F) 1 (a.blocks - 1) ≡ free_count F 1 (a.blocks - 1)
  free_same = count_same F m 1 (a.blocks - 1) low

  pub taken_same : (need : ℕ) → take need (free_list a (bytes_in (map_mark a.blocks) F)) ≡ take need (filter (λ k. not (map_bit F k)) (range_with_len 1 (a.blocks - 1)))
  taken_same need = ap (take need) (list_same F m 1 (a.blocks - 1) low)

  -- they are taken in what was read of the map
  pub used_same : (map news : List ℕ) → AreBlocks a news → map ≡ with_used F news → take m map ≡ with_used (bytes_in (map_mark a.blocks) F) news
  used_same map news all is = ap (take m) is ∙ take_used m news F (λ k at. low k (let b = blocks_in a news k all at in let l = area.least in omega arith))

-- A put that takes new blocks, joined from its parts.
pub shown_taken : (a : Area) (t : Tx) (n : ℕ) (rows path : List (ℕ × ℕ)) → rows ≡ take n path → AreShownUsable a t path → AreShownUsable a t rows
shown_taken a t n rows path is usable = grind (arith, all_taken) steps 100000

-- what the code counts
module _ (a : Area) (area : IsTreeArea a) (path : List (ℕ × ℕ)) (F : List ℕ) (full need free : ℕ) (full_is : full ≡ full_row (cell_count a.size) path) (count : need ≡ full + cond (full == length path) 1 0)
    (blocks : ℕ) (blocks_are : blocks ≡ a.blocks) (free_is : free ≡ free_count F 1 (blocks - 1)) where
  abbrev n : ℕ
  n = cell_count a.size

  abbrev first : List ℕ
  first = bytes_in (map_mark a.blocks) F

  pub need_is : need ≡ need_of n path
  need_is = count ∙ ap (λ (f : ℕ). f + cond (f == length path) 1 0) full_is

  pub free_are : free ≡ free_count first 1 (a.blocks - 1)
  free_are = free_is ∙ ap (λ (b : ℕ). free_count F 1 (b - 1)) blocks_are ∙ sym (free_same a area F)

  abbrev taken : List ℕ
  taken = take (need_of n path) (free_list a first)

  module _ (enough : need ≤ free) where
    are : AreTaken a first (need_of n path) taken
    are = let l = area.least in taken_are a first (need_of n path) (omega arith) (omega (arith, need_is, free_are))

    pub taken_is : (news : List ℕ) → take need news ≡ take need (filter (λ k. not (map_bit F k)) (range_with_len 1 (blocks - 1))) → take need news ≡ taken
    taken_is news is = grind (arith, not, taken_same, need_is) steps 100000

    -- the blocks that are taken
    pub news_are : (news : List ℕ) → take need news ≡ take need (filter (λ k. not (map_bit F k)) (range_with_len 1 (blocks - 1))) → Up 1 (take need news) × AreBlocks a (take need news) × (length (take need news) ≡ need_of n path)
    news_are news is = let same = taken_is news is in (subst (Up 1) (sym same) are.up, subst (AreBlocks a) (sym same) (blocks_from a taken are.below), ap length same ∙ are.count)

  module _ (key value : List ℕ) (t : Tx) where
    abbrev taking : Program Answer
    taking = put_new a key value path first (need_of n path)

    abbrev rows : List (ℕ × ℕ)
    rows = take (suc (full_row n path)) path

    abbrev go : List ℕ → List (ℕ × List Cell) → Program Answer
    go news = λ nodes. put_writes a first news (climb n key 0 (key, value_part value) 0 nodes news)

    abbrev again : Program Answer
    again = look_again a (map (λ (p : ℕ × ℕ). p.0) rows) (go taken)

    pub few_run : free < need → Ran taking t t (Err (NoBlocks need free))
    few_run few =
        let one = need_is in
        let two = free_are in
        let less : nat_lt (free_count first 1 (a.blocks - 1)) (need_of n path) ≡ true = grind (arith, nat_tests) in
        let e : taking ≡ Done (Err (NoBlocks need free)) =
        ap (λ (b : Bool). cond b (Done (Err (NoBlocks (need_of n path) (free_count first 1 (a.blocks - 1))))) again) less ∙ (λ i. Done (Err (NoBlocks (sym one i) (sym two i)))) in
        ran_at taking t t (Err (NoBlocks need free)) (at_as taking _ _ t t e (at_start taking t))

    module _ (enough : need ≤ free) where
      at_again : IsAt taking again t t
      at_again =
          let one = need_is in
          let two = free_are in
          let not_less : nat_lt (free_count first 1 (a.blocks - 1)) (need_of n path) ≡ false = grind (arith, nat_tests) in
          at_as taking _ _ t t (ap (λ (b : Bool). cond b (Done (Err (NoBlocks (need_of n path) (free_count first 1 (a.blocks - 1))))) again) not_less) (at_start taking t)

      module _ (some : List (ℕ × ℕ)) (some_is : some ≡ take (suc full) path) where
        rows_are : some ≡ rows
        rows_are = some_is ∙ ap (λ (f : ℕ). take (suc f) path) full_is

        abbrev again_some : (List (ℕ × List Cell) → Program Answer) → Program Answer
        again_some f = look_again a (map (λ (p : ℕ × ℕ). p.0) some) f

        at_some : IsAt taking (again_some (go taken)) t t
        at_some = subst (λ (ps : List (ℕ × ℕ)). IsAt taking (look_again a (map (λ (p : ℕ × ℕ). p.0) ps) (go taken)) t t) (sym rows_are) at_again

        pub taken_refused : (u : Tx) (e : StoreError) → ((f : List (ℕ × List Cell) → Program Answer) → HasRun (again_some f) t u (Err e)) → HasRun taking t u (Err e)
        taken_refused u e refused = run_from taking (again_some (go taken)) t t u (Err e) at_some (refused (go taken))

        pub taken_run : (u v : Tx) (result : Result (Unit {0}) StoreError) (nodes news : List ℕ) → news ≡ taken
            → ((f : List (ℕ × List Cell) → Program Answer) → IsAt (again_some f) (f (nodes_from a.size nodes some)) t u)
            → HasRun (put_writes a first news (climb n key 0 (key, value_part value) 0 (nodes_from a.size nodes some) news)) u v result → HasRun taking t v result
        taken_run u v result nodes news news_are read run =
            let ns = nodes_from a.size nodes some in
            run_from taking (go taken ns) t u v result (at_join taking (again_some (go taken)) (go taken ns) t t u at_some (read (go taken)))
            (subst (λ (l : List ℕ). HasRun (put_writes a first l (climb n key 0 (key, value_part value) 0 ns l)) u v result) news_are run)

-- THE READ OF THE MAP
pub shown_still : (a : Area) (t u : Tx) (path : List (ℕ × ℕ)) → HasRead t u → AreShownUsable a t path → AreShownUsable a u path
shown_still a t u path read usable = λ A told.
    subst (λ (B : Array). ArePathUsable a B path) (sym (shown_same t u A read)) (usable A (sym (read_base t u read) ∙ told))

module _ (a : Area) (key value : List ℕ) (path : List (ℕ × ℕ)) (t u : Tx) where
  abbrev call : Program Answer
  call = with_map a key value path

  abbrev call_next : List ℕ → Program Answer
  call_next first = put_new a key value path first (need_of (cell_count a.size) path)

  pub map_refused : (before now : Device) (e : TxError) → u ≡ t → IsCause u 1 before now e → IsCut call t u e
  map_refused before now e same cause = cut_at_look call a.start (map_mark a.blocks) (λ first. None) (λ first none. call_next first) t t u before now e (at_start call t) same cause

  pub map_run : (v : Tx) (bytes : List ℕ) (result : Result (Unit {0}) StoreError) → ForSome t.base (λ A. bytes ≡ block_at (own A t.accesses) a.start) → length u.accesses ≤ 4096
      → u ≡ with_accesses t (look_access a.start (map_mark a.blocks ∷ []) ∷ []) → HasRun (call_next (bytes_in (map_mark a.blocks) bytes)) u v result → HasRun call t v result
  map_run v bytes result told fits read run =
      run_from call (call_next (bytes_in (map_mark a.blocks) bytes)) t u v result
      (at_look call a.start (map_mark a.blocks) (λ first. None) (λ first none. call_next first) t t u bytes (at_start call t) told fits read) run
