-- The nodes of a put are read once more.
use Rattle.iso_tree.proofs.{Words.{◌≡◌, sym, refl, ap, subst, ℕ, ◌+◌, ◌*◌, ◌-◌, ◌≤◌, ◌∙◌, List, [], ◌∷◌, ◌++◌, length, map, Result, Ok, Err, OnOk, IfErr, arith, take_at, drop_at, Area, StoreError, TxError, Array, own, Program, look_access, Tx, Device, with_accesses, IsCut, IsCause, HasRun, own_reads, IsAt, at_join, at_start, at_look_whole, own_append, run_from, Cell, used_cells, nodes_from, AreShownUsable, AreUsable, IsUsable, look_again, Answer, AreBytesOf}, Getting.cut_at_whole}

pub map_ok : {X E P Q : Type 0} (r : Result X E) → (P → Q) → OnOk r P → OnOk r Q
map_ok (Ok x) f h = f h
map_ok (Err e) f h = tt

pub map_err : {X E : Type 0} {P Q : E → Type 0} (r : Result X E) → ((e : E) → P e → Q e) → IfErr r P → IfErr r Q
map_err (Ok x) f h = tt
map_err (Err e) f h = f e h

-- no node is left
pub none_again : (a : Area) (path : List (ℕ × ℕ)) (f : List (ℕ × List Cell) → Program Answer) (nodes : List ℕ) (t : Tx) → path ≡ [] → IsAt (look_again a (map (λ p. p.0) path) f) (f (nodes_from a.size nodes path)) t t
none_again a path f nodes t none = subst (λ (ps : List (ℕ × ℕ)). IsAt (look_again a (map (λ p. p.0) ps) f) (f (nodes_from a.size nodes ps)) t t) (sym none) (at_start (f []) t)

module _ (a : Area) (block count : ℕ) (rest path : List (ℕ × ℕ)) (is : path ≡ (block, count) ∷ rest) (f : List (ℕ × List Cell) → Program Answer) where
  abbrev whole : Program Answer
  whole = look_again a (map (λ p. p.0) path) f

  abbrev whole_here : Program Answer
  whole_here = look_again a (block ∷ map (λ p. p.0) rest) f

  pub first_refused : (t v : Tx) (before now : Device) (e : TxError) → v ≡ t → IsCause v 1 before now e → IsCut whole t v e
  first_refused t v before now e same cause =
      subst (λ (p : List (ℕ × ℕ)). IsCut (look_again a (map (λ p. p.0) p) f) t v e) (sym is)
      (cut_at_whole whole_here (a.start + block) (λ (bytes : List ℕ). look_again a (map (λ p. p.0) rest) (λ nodes. f ((block, used_cells a.size bytes) ∷ nodes))) t t v before now e (at_start whole_here t) same cause)

  module _ (bytes : List ℕ) (t u : Tx) (bytes_are : AreBytesOf t (a.start + block) bytes) (fits : length u.accesses ≤ 4096) (read : u ≡ with_accesses t (look_access (a.start + block) [] ∷ [])) where
    abbrev next : Program Answer
    next = look_again a (map (λ p. p.0) rest) (λ nodes. f ((block, used_cells a.size bytes) ∷ nodes))

    at_next : IsAt whole next t u
    at_next = subst (λ (p : List (ℕ × ℕ)). IsAt (look_again a (map (λ p. p.0) p) f) next t u) (sym is)
        (at_look_whole whole_here (a.start + block) (λ (b : List ℕ). look_again a (map (λ p. p.0) rest) (λ nodes. f ((block, used_cells a.size b) ∷ nodes))) t t u bytes (at_start whole_here t) bytes_are fits read)

    pub rest_refused : (v : Tx) (e : StoreError) → HasRun next u v (Err e) → HasRun whole t v (Err e)
    rest_refused v e run = run_from whole next t u v (Err e) at_next run

    pub rest_read : (v : Tx) (others : List ℕ) → length bytes ≡ a.size → IsAt next (f ((block, used_cells a.size bytes) ∷ nodes_from a.size others rest)) u v → IsAt whole (f (nodes_from a.size (bytes ++ others) path)) t v
    rest_read v others long now =
        subst (λ (p : List (ℕ × ℕ)). IsAt whole (f (nodes_from a.size (bytes ++ others) p)) t v) (sym is)
        (subst (λ (x : List ℕ × List ℕ). IsAt whole (f ((block, used_cells a.size x.0) ∷ nodes_from a.size x.1 rest)) t v) (λ i. (sym (take_at bytes others a.size long) i, sym (drop_at bytes others a.size long) i))
        (at_join whole next (f ((block, used_cells a.size bytes) ∷ nodes_from a.size others rest)) t u v at_next now))

-- what is on the path is usable after a read too
pub shown_after : (a : Area) (block count : ℕ) (rest path : List (ℕ × ℕ)) (t u : Tx) (b : ℕ) → path ≡ (block, count) ∷ rest → u ≡ with_accesses t (look_access b [] ∷ []) → AreShownUsable a t path → AreShownUsable a u rest
shown_after a block count rest path t u b is read usable = λ A told.
    let same : own A u.accesses ≡ own A t.accesses = ap (λ (w : Tx). own A w.accesses) read ∙ own_append A t.accesses (look_access b [] ∷ []) ∙ own_reads (own A t.accesses) (look_access b [] ∷ []) (refl, tt) in
    subst (λ (B : Array). Rattle.iso_tree.specs.Rows.ArePathUsable a B rest) (sym same)
    (subst (λ (p : List (ℕ × ℕ)). Rattle.iso_tree.specs.Rows.ArePathUsable a (own A t.accesses) p) is (usable A (sym (ap (λ (w : Tx). w.base) read) ∙ told))).1

-- the first node has room, and the others have theirs
pub path_room : (size many : ℕ) (block count : ℕ) (rest path : List (ℕ × ℕ)) → path ≡ (block, count) ∷ rest → length path * size ≤ many → (size ≤ many) × (length rest * size ≤ many - size)
path_room size many block count rest path is fits = grind arith steps 100000

pub usable_more : (size : ℕ) (block count : ℕ) (rest path : List (ℕ × ℕ)) (bytes others : List ℕ) → path ≡ (block, count) ∷ rest → length bytes ≡ size → IsUsable size bytes count → AreUsable size others rest → AreUsable size (bytes ++ others) path
usable_more size block count rest path bytes others is long first behind =
    subst (AreUsable size (bytes ++ others)) (sym is)
    (subst (λ (x : List ℕ × List ℕ). IsUsable size x.0 count × AreUsable size x.1 rest) (λ i. (sym (take_at bytes others size long) i, sym (drop_at bytes others size long) i)) (first, behind))
