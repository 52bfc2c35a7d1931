-- An index has as many versions as the model counts of its history.
use Rattle.mv_index.proofs.{Words.{head_is, tail_are, ◌≡◌, ◌⊎◌, inl, inr, ◌∙◌, sym, refl, ap, ℕ, zero, suc, ◌+◌, ◌-◌, ◌<◌, ◌≤◌, ◌==◌, Bool, true, false, ◌&&◌, ◌||◌, not, cond, nat_le, nat_lt, List, [], ◌∷◌, ◌++◌, Option, Some, None, length, map, get_or, sum_by, arith, subst, AllByRecursion, filter, list_any, range_with_len, is_some, cases_eq, eq-eqb, ne_eqb, eqb-true, list_any-append, sum_by-cons, Commit, Geometry, Write, Run, in_span, or_else, record_length, runs, touches, AreRuns, written, value_in, touches_where_effect, value_runs, are_runs, Version, BlockVersions, count_of, has, hides, shown_since, still_shows, versions_in, IsIndexOf, placed, version_of, versions_of, and-false}, Gathers.any_same, Layers.or_else_none}

-- how many of the runs count
abbrev tally : (Run → Bool) → List Run → ℕ
tally counts [] = 0
tally counts (run ∷ runs) = cond (counts run) 1 0 + tally counts runs

-- a sum over numbers in a row
abbrev pub total : (ℕ → ℕ) → (from n : ℕ) → ℕ
total f a zero = 0
total f a (suc n) = f a + total f (a + 1) n

pub total_same : (f h : ℕ → ℕ) (a n : ℕ) → ((b : ℕ) → a ≤ b → b < a + n → f b ≡ h b) → total f a n ≡ total h a n
total_same f h a zero same = refl
total_same f h a (suc n) same =
    let first : f a ≡ h a = same a (omega arith) (omega arith) in
    let rest : total f (a + 1) n ≡ total h (a + 1) n = total_same f h (a + 1) n (λ b from to. same b (omega arith) (omega arith)) in
    λ i. first i + rest i

pub total_add : (f h : ℕ → ℕ) (a n : ℕ) → total (λ b. f b + h b) a n ≡ total f a n + total h a n
total_add f h a zero = omega arith
total_add f h a (suc n) = let rest = total_add f h (a + 1) n in omega (arith, rest)

pub total_zero : (a n : ℕ) → total (λ b. 0) a n ≡ 0
total_zero a zero = refl
total_zero a (suc n) = let rest = total_zero (a + 1) n in omega (arith, rest)

pick_none : (x : ℕ) (t : Bool) (a n : ℕ) → x < a → total (λ b. cond ((x == b) && t) 1 0) a n ≡ 0
pick_none x t a zero lt = refl
pick_none x t a (suc n) lt =
    let other : (x == a) ≡ false = ne_eqb x a (λ is. omega (arith, is, lt)) in
    let first : ◌≡◌ {A = ℕ} (cond ((x == a) && t) 1 0) 0 = ap (λ (b : Bool). cond (b && t) 1 0) other in
    let rest : total (λ b. cond ((x == b) && t) 1 0) (a + 1) n ≡ 0 = pick_none x t (a + 1) n (omega arith) in
    λ i. first i + rest i

pick_one : (x : ℕ) (t : Bool) (a n : ℕ) → a ≤ x → x < a + n → total (λ b. cond ((x == b) && t) 1 0) a n ≡ cond t 1 0
pick_one x t a zero from to = absurd (omega arith)
pick_one x t a (suc n) from to = elim (cases_eq x a) [
  | inl is ↦
      let same : (x == a) ≡ true = eq-eqb x a is in
      let first : ◌≡◌ {A = ℕ} (cond ((x == a) && t) 1 0) (cond t 1 0) = ap (λ (b : Bool). cond (b && t) 1 0) same in
      let rest : total (λ b. cond ((x == b) && t) 1 0) (a + 1) n ≡ 0 = pick_none x t (a + 1) n (omega (arith, is)) in
      let end : cond t 1 0 + 0 ≡ cond t 1 0 = omega arith in
      (λ i. first i + rest i) ∙ end
  | inr other ↦
      let first : ◌≡◌ {A = ℕ} (cond ((x == a) && t) 1 0) 0 = ap (λ (b : Bool). cond (b && t) 1 0) (ne_eqb x a other) in
      let rest : total (λ b. cond ((x == b) && t) 1 0) (a + 1) n ≡ cond t 1 0 = pick_one x t (a + 1) n (omega (arith, from, other)) (omega arith) in
      let end : 0 + cond t 1 0 ≡ cond t 1 0 = omega arith in
      (λ i. first i + rest i) ∙ end
]

-- each run is in one block
tally_blocks : (counts : Run → Bool) (n : ℕ) (parts : List Run) → AllByRecursion (λ run. run.block < n) parts → total (λ b. tally (λ run. (run.block == b) && counts run) parts) 0 n ≡ tally counts parts
tally_blocks counts n [] all = total_zero 0 n
tally_blocks counts n (run ∷ parts) all =
    total_add (λ b. cond ((run.block == b) && counts run) 1 0) (λ b. tally (λ run. (run.block == b) && counts run) parts) 0 n
    ∙ (λ i. pick_one run.block (counts run) 0 n (omega arith) (omega (arith, all.0)) i + tally_blocks counts n parts all.1 i)

-- the runs after a run are in later blocks or begin after it
abbrev pub IsBehind : (b end : ℕ) → Run → Type 0
IsBehind b end y = (b < y.block) ⊎ ((b ≡ y.block) × (end ≤ y.off))

far : (g : Geometry) (b end : ℕ) (y : Run) (rest : List Run) → IsBehind b end y → AreRuns g (y ∷ rest) → AllByRecursion (IsBehind b end) (y ∷ rest)
far g b end y [] behind are = (behind, tt)
far g b end y (z ∷ rest) behind are =
    let next : IsBehind b end z = elim behind [
      | inl lt ↦ elim are.1 [ inl more ↦ inl (omega (arith, lt, more)) | inr same ↦ inl (omega (arith, lt, same.0)) ]
      | inr at ↦ elim are.1 [ inl more ↦ inl (omega (arith, at.0, more)) | inr same ↦ inr (at.0 ∙ same.0, omega (arith, at.1, same.1)) ]
    ] in
    (behind, far g b end z rest next are.2)

behind_all : (g : Geometry) (x : Run) (rest : List Run) → AreRuns g (x ∷ rest) → AllByRecursion (IsBehind x.block (x.off + length x.bytes)) rest
behind_all g x [] are = tt
behind_all g x (y ∷ rest) are = far g x.block (x.off + length x.bytes) y rest (elim are.1 [ inl lt ↦ inl lt | inr same ↦ inr (same.0, omega (arith, same.1)) ]) are.2

-- the runs after do not hide a byte
unhidden_step : (t p n at : ℕ) (b : ℕ) (y : Run) (tail : List Version) → hides t p tail ≡ false → (same : Bool) → (y.block == b) ≡ same → (y.block ≡ b → p < y.off) → hides t p (cond same (version_of n at y ∷ tail) tail) ≡ false
unhidden_step t p n at b y tail rest true is below = grind (arith, and-false)
unhidden_step t p n at b y tail rest false is below = rest

unhidden : (t p n at b end : ℕ) (rest : List Run) → p < end → AllByRecursion (IsBehind b end) rest → hides t p (placed b n at rest) ≡ false
unhidden t p n at b end [] lt all = refl
unhidden t p n at b end (y ∷ rest) lt all =
    unhidden_step t p n at b y (placed b n (at + (8 + length y.bytes)) rest) (unhidden t p n (at + (8 + length y.bytes)) b end rest lt all.1) (y.block == b) refl
    (λ is. elim all.0 [ inl more ↦ absurd (omega (arith, is, more)) | inr same ↦ omega (arith, lt, same.1) ])

length_cond : (b : Bool) (v : Version) (xs : List Version) → length (cond b (v ∷ xs) xs) ≡ cond b 1 0 + length xs
length_cond b v xs = grind arith

-- how many of a record's versions are kept before later ones
module _ (g : Geometry) (t n b : ℕ) (later : List Version) (W : ℕ → ℕ → Bool) (same : (p : ℕ) → p < g.block → hides t p later ≡ W b p) where
  abbrev counts : Run → Bool
  counts run = nat_lt t n || list_any (λ p. not (W run.block p)) (range_with_len run.off (length run.bytes))

  row_step : (at : ℕ) (run : Run) (rest : List Run) → AreRuns g (run ∷ rest)
      → length (shown_since t (placed b n (at + (8 + length run.bytes)) rest ++ later)) ≡ tally (λ run. (run.block == b) && counts run) rest + length (shown_since t later)
      → (here : Bool) → (run.block == b) ≡ here
      → length (shown_since t (cond here (version_of n at run ∷ placed b n (at + (8 + length run.bytes)) rest) (placed b n (at + (8 + length run.bytes)) rest) ++ later))
      ≡ cond (here && counts run) 1 0 + tally (λ run. (run.block == b) && counts run) rest + length (shown_since t later)
  row_step at run rest are counted true is =
      let block : run.block ≡ b = eqb-true run.block b is in
      let fits = (head_is g run rest are).fits in
      let shows : still_shows t (version_of n at run) (placed b n (at + (8 + length run.bytes)) rest ++ later) ≡ counts run =
      ap (λ (x : Bool). nat_lt t n || x) (any_same (λ p. not (hides t p (placed b n (at + (8 + length run.bytes)) rest ++ later))) (λ p. not (W run.block p)) run.off (length run.bytes) (λ p from to.
      ap not (list_any-append (λ (v : Version). nat_le v.number t && has p v) (placed b n (at + (8 + length run.bytes)) rest) later
      ∙ ap (λ (x : Bool). x || hides t p later) (subst (λ (k : ℕ). hides t p (placed k n (at + (8 + length run.bytes)) rest) ≡ false) block (unhidden t p n (at + (8 + length run.bytes)) run.block (run.off + length run.bytes) rest to (behind_all g run rest are)))
      ∙ same p (omega (arith, fits, to)) ∙ ap (λ (k : ℕ). W k p) (sym block)))) in
      let size : length (shown_since t (version_of n at run ∷ (placed b n (at + (8 + length run.bytes)) rest ++ later))) ≡ cond (counts run) 1 0 + length (shown_since t (placed b n (at + (8 + length run.bytes)) rest ++ later)) =
      length_cond (still_shows t (version_of n at run) (placed b n (at + (8 + length run.bytes)) rest ++ later)) (version_of n at run) (shown_since t (placed b n (at + (8 + length run.bytes)) rest ++ later))
      ∙ ap (λ (x : Bool). cond x 1 0 + length (shown_since t (placed b n (at + (8 + length run.bytes)) rest ++ later))) shows in
      omega (arith, size, counted)
  row_step at run rest are counted false is = omega (arith, counted)

  row_length : (at : ℕ) (parts : List Run) → AreRuns g parts → length (shown_since t (placed b n at parts ++ later)) ≡ tally (λ run. (run.block == b) && counts run) parts + length (shown_since t later)
  row_length at [] are = omega arith
  row_length at (run ∷ rest) are = row_step at run rest are (row_length (at + (8 + length run.bytes)) rest (tail_are g run rest are)) (run.block == b) refl

-- what the versions of a record hide
truth : (le here : Bool) (V : Option ℕ) (x : ℕ) → ((le && here) || (le && is_some V)) ≡ (le && is_some (or_else V (cond here (Some x) None)))
truth le here V x = grind arith

hides_cond : (t p n at b : ℕ) (run : Run) (tail : List Version) (V : Option ℕ) → hides t p tail ≡ (nat_le n t && is_some V) → (same : Bool)
    → hides t p (cond same (version_of n at run ∷ tail) tail) ≡ (nat_le n t && is_some (or_else V (cond (same && in_span p (record { off = run.off; len = length run.bytes })) (Some (get_or run.bytes (p - run.off) 0)) None)))
hides_cond t p n at b run tail V rest true = ap (λ (x : Bool). (nat_le n t && has p (version_of n at run)) || x) rest ∙ truth (nat_le n t) (has p (version_of n at run)) V (get_or run.bytes (p - run.off) 0)
hides_cond t p n at b run tail V rest false = rest ∙ ap (λ (o : Option ℕ). nat_le n t && is_some o) (sym (or_else_none V))

hides_placed : (t p n at b : ℕ) (parts : List Run) → hides t p (placed b n at parts) ≡ (nat_le n t && is_some (value_in parts b p))
hides_placed t p n at b [] = sym (and-false (nat_le n t))
hides_placed t p n at b (run ∷ parts) = hides_cond t p n at b run (placed b n (at + (8 + length run.bytes)) parts) (value_in parts b p) (hides_placed t p n (at + (8 + length run.bytes)) b parts) (run.block == b)

pub blocks_below : (g : Geometry) (parts : List Run) → AreRuns g parts → AllByRecursion (λ run. run.block < g.blocks) parts
blocks_below g [] are = tt
blocks_below g (x ∷ rest) are = ((head_is g x rest are).block, blocks_below g rest (tail_are g x rest are))

-- a sum over the rows is one over their numbers
pub rows_total : (size : List Version → ℕ) (f : ℕ → ℕ) (a : ℕ) (rows : List BlockVersions) → ((i : ℕ) → i < length rows → f (a + i) ≡ size (versions_in rows i)) → sum_by (λ row. size row.versions) rows ≡ total f a (length rows)
rows_total size f a [] each = refl
rows_total size f a (row ∷ rows) each =
    let first : f (a + 0) ≡ size row.versions = each 0 (omega arith) in
    let e : a + 0 ≡ a = omega arith in
    let rest = rows_total size f (a + 1) rows (λ i below. let s : a + 1 + i ≡ a + suc i = omega arith in ap f s ∙ each (suc i) (omega arith)) in
    sum_by-cons (λ (r : BlockVersions). size r.versions) row rows ∙ (λ i. (sym first ∙ ap f e) i + rest i)

filter_step : (counts : Run → Bool) (run : Run) (rest : List Run) → length (filter counts rest) ≡ tally counts rest → (b : Bool) → length (cond b (run ∷ filter counts rest) (filter counts rest)) ≡ cond b 1 0 + tally counts rest
filter_step counts run rest same true = omega (arith, same)
filter_step counts run rest same false = omega (arith, same)

filter_tally : (counts : Run → Bool) (runs : List Run) → length (filter counts runs) ≡ tally counts runs
filter_tally counts [] = refl
filter_tally counts (run ∷ runs) = filter_step counts run runs (filter_tally counts runs) (counts run)

-- Any test whether a commit up to t writes a byte, and any count of the runs that are kept, that go commit by commit.
module _ (g : Geometry) (t : ℕ) (is_written : ℕ → List Commit → ℕ → ℕ → Bool) (kept_from : ℕ → List Commit → ℕ)
    (written_none : (k b p : ℕ) → is_written k [] b p ≡ false)
    (written_more : (k : ℕ) (c : Commit) (later : List Commit) (b p : ℕ) → is_written k (c ∷ later) b p ≡ ((nat_le k t && touches Write c.accesses b p) || is_written (k + 1) later b p))
    (kept_none : (n : ℕ) → kept_from n [] ≡ 0)
    (kept_more : (n : ℕ) (c : Commit) (later : List Commit) → kept_from n (c ∷ later)
    ≡ length (filter (λ run. nat_lt t n || list_any (λ p. not (is_written (n + 1) later run.block p)) (range_with_len run.off (length run.bytes))) (runs g c.accesses)) + kept_from (n + 1) later) where
  abbrev is_kept : ℕ → List Commit → Run → Bool
  is_kept n later run = nat_lt t n || list_any (λ p. not (is_written (n + 1) later run.block p)) (range_with_len run.off (length run.bytes))

  hides_written : (k at b p : ℕ) (commits : List Commit) → b < g.blocks → p < g.block → hides t p (versions_of b k at (map (written g) commits)) ≡ is_written k commits b p
  hides_written k at b p [] below inside = sym (written_none k b p)
  hides_written k at b p (c ∷ commits) below inside =
      list_any-append (λ (v : Version). nat_le v.number t && has p v) (placed b k (at + 20) (runs g c.accesses)) (versions_of b (k + 1) (at + record_length (runs g c.accesses)) (map (written g) commits))
      ∙ (λ i. (hides_placed t p k (at + 20) b (runs g c.accesses) ∙ ap (λ (x : Bool). nat_le k t && x) (ap is_some (value_runs g c.accesses b p below inside) ∙ sym (touches_where_effect c.accesses b p))) i
      || hides_written (k + 1) (at + record_length (runs g c.accesses)) b p commits below inside i)
      ∙ sym (written_more k c commits b p)

  -- over all blocks as many versions are kept as the commits count
  kept_counted : (n at : ℕ) (commits : List Commit) → total (λ b. length (shown_since t (versions_of b n at (map (written g) commits)))) 0 g.blocks ≡ kept_from n commits
  kept_counted n at [] = total_zero 0 g.blocks ∙ sym (kept_none n)
  kept_counted n at (c ∷ commits) =
      total_same (λ b. length (shown_since t (versions_of b n at (map (written g) (c ∷ commits))))) (λ b. tally (λ run. (run.block == b) && is_kept n commits run) (runs g c.accesses) + length (shown_since t (versions_of b (n + 1) (at + record_length (runs g c.accesses)) (map (written g) commits)))) 0 g.blocks
      (λ b from to. row_length g t n b (versions_of b (n + 1) (at + record_length (runs g c.accesses)) (map (written g) commits)) (is_written (n + 1) commits)
      (λ p inside. hides_written (n + 1) (at + record_length (runs g c.accesses)) b p commits (omega (arith, to)) inside) (at + 20) (runs g c.accesses) (are_runs g c.accesses))
      ∙ total_add (λ b. tally (λ run. (run.block == b) && is_kept n commits run) (runs g c.accesses)) (λ b. length (shown_since t (versions_of b (n + 1) (at + record_length (runs g c.accesses)) (map (written g) commits)))) 0 g.blocks
      ∙ (λ i. (tally_blocks (is_kept n commits) g.blocks (runs g c.accesses) (blocks_below g (runs g c.accesses) (are_runs g c.accesses)) ∙ sym (filter_tally (is_kept n commits) (runs g c.accesses))) i + kept_counted (n + 1) (at + record_length (runs g c.accesses)) commits i)
      ∙ sym (kept_more n c commits)

  -- The index of a history has as many versions as the history counts.
  pub count_is : (first place : ℕ) (commits : List Commit) (index : List BlockVersions) → IsIndexOf g first place t (map (written g) commits) index → count_of index ≡ kept_from first commits
  count_is first place commits index has =
      rows_total (λ (l : List Version). length l) (λ b. length (shown_since t (versions_of b first place (map (written g) commits)))) 0 index
      (λ i below. let s : 0 + i ≡ i = omega arith in ap (λ (b : ℕ). length (shown_since t (versions_of b first place (map (written g) commits)))) s ∙ sym (ap (λ (l : List Version). length l) (has.each i (omega (arith, has.blocks)))))
      ∙ ap (total (λ b. length (shown_since t (versions_of b first place (map (written g) commits)))) 0) has.blocks
      ∙ kept_counted first place commits
