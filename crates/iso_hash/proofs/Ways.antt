-- How a walk ends.
use Rattle.iso_hash.proofs.Words.{◌≡◌, ◌≢◌, ◌⊎◌, ◌∙◌, sym, refl, ap, subst, ℕ, zero, suc, ◌+◌, ◌<◌, ◌≤◌, Bool, true, false, ◌&&◌, ◌==◌, cond, List, [], ◌∷◌, ◌++◌, length, Option, Some, None, IfSome, option_map, arith, inl, inr, eq-eqb, ne_eqb, bytes_eq, cases_Bool, eqb-true, eqb-false, both_ways, bytes_eq-Decides, Span, Area, Spot, Array, or_else, first_from, block_at, Program, Done, bytes_in, further_bytes, answer_of, accesses_of, AreReads, cell_count, value_mark, is_unused, key_at, cell_with, unused_cell, first_below, view_of, next_of, is_linked, chain_from, IsIn, Walked, AtCell, AtEnd, AtBroken, spot_in, spare_in, at_cell, walk_from, first_passes, cond_reads}

-- where none is found, none passes
pub first_none : (test : ℕ → Bool) (i n j : ℕ) → first_from test i n ≡ None → i ≤ j → j < i + n → test j ≡ false
first_none test i zero j e low high = absurd (omega arith)
first_none test i (suc n) j e low high = elim (cases_Bool (test i)) [
  | inl pass ↦ (let bad : Some i ≡ None = sym (rw pass refl) ∙ e in cc)
  | inr fail ↦
      (let rest : first_from test (i + 1) n ≡ None = sym (rw fail refl) ∙ e in
      elim (Rattle.std.proofs.lemmas.Bool.cases_eq i j) [
        | inl here ↦ ap test (sym here) ∙ fail
        | inr later ↦ first_none test (i + 1) n j rest (omega arith) (omega arith)
      ])
]

-- a cell that has a key is used
pub key_used : (keys key : List ℕ) (i : ℕ) → 0 < length key → key_at keys i ≡ key → is_unused keys i ≡ false
key_used keys key i some is = grind arith steps 100000

pub cell_below : (a : Area) (key keys : List ℕ) (i : ℕ) → cell_with a.size key keys ≡ Some i → i < cell_count a.size
cell_below a key keys i e = let below = first_below (λ j. bytes_eq (key_at keys j) key) 0 (cell_count a.size) i e in omega arith

pub cell_key : (a : Area) (key keys : List ℕ) (i : ℕ) → cell_with a.size key keys ≡ Some i → key_at keys i ≡ key
cell_key a key keys i e = (bytes_eq-Decides (key_at keys i) key).0 (first_passes (λ j. bytes_eq (key_at keys j) key) 0 (cell_count a.size) i e)

pub cell_missing : (a : Area) (key keys : List ℕ) (i : ℕ) → cell_with a.size key keys ≡ None → i < cell_count a.size → key_at keys i ≢ key
cell_missing a key keys i e below is =
    both_ways (bytes_eq (key_at keys i) key) (first_none (λ j. bytes_eq (key_at keys j) key) 0 (cell_count a.size) i e (omega arith) (omega arith)) ((bytes_eq-Decides (key_at keys i) key).1 is)

-- How a walk from a block on ends: at a block that is not well formed; at the key; past the last block; or as it does from the next
-- block on.
abbrev pub Way : Area → (key : List ℕ) → (bucket : ℕ) → (with_value : Bool) → Array → (left position before block : ℕ) → Option Spot → Walked → Type 0
Way a key bucket with_value A zero position before block spare w = w ≡ AtBroken (a.start + block)
Way a key bucket with_value A (suc left) position before block spare w =
    (w ≡ AtBroken (a.start + block))
    ⊎ (((i : ℕ) × ((cell_with a.size key ((view_of a A).keys block) ≡ Some i)
    × (w ≡ AtCell (record { block = block; cell = i }) before ((view_of a A).keys block) (cond with_value ((view_of a A).value block i) []))))
    ⊎ ((cell_with a.size key ((view_of a A).keys block) ≡ None)
    × (is_linked a bucket position ((view_of a A).keys block) ≡ true)
    × (((next_of ((view_of a A).keys block) ≡ 0) × (w ≡ AtEnd (spare_in a spare block ((view_of a A).keys block)) block position))
    ⊎ ((next_of ((view_of a A).keys block) ≢ 0)
    × Way a key bucket with_value A left (position + 1) block (next_of ((view_of a A).keys block)) (spare_in a spare block ((view_of a A).keys block)) w))))

value_read : (with_value : Bool) (span : Span) (block : List ℕ) → further_bytes (cond (with_value && true) (Some span) None) block ≡ cond with_value (bytes_in span block) []
value_read with_value span block = grind arith

pub way : (a : Area) (key : List ℕ) (bucket : ℕ) (with_value : Bool) (A : Array) (left position before block : ℕ) (spare : Option Spot)
    → Way a key bucket with_value A left position before block spare (answer_of (walk_from a key bucket with_value left position before block spare) A)
way a key bucket with_value A zero position before block spare = refl
way a key bucket with_value A (suc left) position before block spare =
    let keys = (view_of a A).keys block in
    let whole = block_at A (a.start + block) in
    let next = next_of keys in
    let free = spare_in a spare block keys in
    let rest : Program Walked = walk_from a key bucket with_value left (position + 1) block next free in
    let body : Bool → Option ℕ → Bool → Program Walked = λ t c z.
    cond t (at_cell c (λ i. Done (AtCell (record { block = block; cell = i }) before keys (further_bytes (cond (with_value && t) (option_map (value_mark a.size) c) None) whole))) (cond z (Done (AtEnd free block position)) rest))
    (Done (AtBroken (a.start + block))) in
    let goal : Walked → Type 0 = Way a key bucket with_value A (suc left) position before block spare in
    elim (is_linked a bucket position keys) as (λ t. is_linked a bucket position keys ≡ t → goal (answer_of (body t (cell_with a.size key keys) (next == 0)) A)) [
      | false ↦ λ l. inl refl
      | true ↦ λ l.
          elim (cell_with a.size key keys) as (λ c. cell_with a.size key keys ≡ c → goal (answer_of (body true c (next == 0)) A)) [
            | Some i ↦ λ c. inr (inl (i, (c, ap (λ v. AtCell (record { block = block; cell = i }) before keys v) (value_read with_value (value_mark a.size i) whole))))
            | None ↦ λ c.
                elim (next == 0) as (λ z. (next == 0) ≡ z → goal (answer_of (body true None z) A)) [
                  | true ↦ λ z. inr (inr (c, l, inl (eqb-true _ _ z, refl)))
                  | false ↦ λ z. inr (inr (c, l, inr (eqb-false _ _ z, way a key bucket with_value A left (position + 1) block next free)))
                ] refl
          ] refl
    ] refl

same_cell : (x y : Spot) (b c : ℕ) (k l v w : List ℕ) → AtCell x b k v ≡ AtCell y c l w → (x ≡ y) × (b ≡ c) × (k ≡ l) × (v ≡ w)
same_cell x y b c k l v w e = (cc, cc, cc, cc)

same_end : (x y : Option Spot) (b c p q : ℕ) → AtEnd x b p ≡ AtEnd y c q → (x ≡ y) × (b ≡ c) × (p ≡ q)
same_end x y b c p q e = (cc, cc, cc)

not_cell_broken : (s : Spot) (b : ℕ) (k v : List ℕ) (n : ℕ) → AtCell s b k v ≡ AtBroken n → ⊥
not_cell_broken s b k v n e = cc

not_cell_end : (s : Spot) (b : ℕ) (k v : List ℕ) (o : Option Spot) (m p : ℕ) → AtCell s b k v ≡ AtEnd o m p → ⊥
not_cell_end s b k v o m p e = cc

not_end_broken : (o : Option Spot) (m p n : ℕ) → AtEnd o m p ≡ AtBroken n → ⊥
not_end_broken o m p n e = cc

not_end_cell : (s : Spot) (b : ℕ) (k v : List ℕ) (o : Option Spot) (m p : ℕ) → AtEnd o m p ≡ AtCell s b k v → ⊥
not_end_cell s b k v o m p e = cc

-- a walk that ends at a cell has found the key there
pub record Found (a : Area) (key : List ℕ) (A : Array) (with_value : Bool) (blocks : List ℕ) (start : ℕ) (s : Spot) (before : ℕ) (ks v : List ℕ) : Type 0 where
  pub is_in : IsIn s.block blocks
  pub cell : s.cell < cell_count a.size
  pub key_is : key_at ((view_of a A).keys s.block) s.cell ≡ key
  pub keys_are : ks ≡ (view_of a A).keys s.block
  pub value_is : v ≡ cond with_value ((view_of a A).value s.block s.cell) []
  pub place : ((ys : List ℕ) × ((blocks ≡ s.block ∷ ys) × (before ≡ start))) ⊎ ((xs : List ℕ) × ((ys : List ℕ) × (blocks ≡ xs ++ (before ∷ s.block ∷ ys))))

later_place : (block start before k : ℕ) (blocks : List ℕ) → ((ys : List ℕ) × ((blocks ≡ k ∷ ys) × (before ≡ block))) ⊎ ((xs : List ℕ) × ((ys : List ℕ) × (blocks ≡ xs ++ (before ∷ k ∷ ys))))
    → ((ys : List ℕ) × ((block ∷ blocks ≡ k ∷ ys) × (before ≡ start))) ⊎ ((xs : List ℕ) × ((ys : List ℕ) × (block ∷ blocks ≡ xs ++ (before ∷ k ∷ ys))))
later_place block start before k blocks (inl first) = inr ([], (first.0, ap (λ rest. block ∷ rest) first.1.0 ∙ ap (λ (b : ℕ). b ∷ k ∷ first.0) (sym first.1.1)))
later_place block start before k blocks (inr deep) = inr (block ∷ deep.0, (deep.1.0, ap (λ rest. block ∷ rest) deep.1.1))

pub way_cell : (a : Area) (key : List ℕ) (bucket : ℕ) (with_value : Bool) (A : Array) (left position start block : ℕ) (spare : Option Spot) (s : Spot) (before : ℕ) (ks v : List ℕ)
    → Way a key bucket with_value A left position start block spare (AtCell s before ks v) → Found a key A with_value (chain_from (view_of a A).keys left block) start s before ks v
way_cell a key bucket with_value A zero position start block spare s before ks v e = absurd (not_cell_broken s before ks v (a.start + block) e)
way_cell a key bucket with_value A (suc left) position start block spare s before ks v (inl e) = absurd (not_cell_broken s before ks v (a.start + block) e)
way_cell a key bucket with_value A (suc left) position start block spare s before ks v (inr (inl found)) =
    let keys = (view_of a A).keys in
    let i = found.0 in
    let e = same_cell s (record { block = block; cell = i }) before start ks (keys block) v _ found.1.1 in
    let block_is : s.block ≡ block = ap (λ (x : Spot). x.block) e.0 in
    let cell_is : s.cell ≡ i = ap (λ (x : Spot). x.cell) e.0 in
    record {
      is_in = inl (sym block_is);
      cell = subst (λ (j : ℕ). j < cell_count a.size) (sym cell_is) (cell_below a key (keys block) i found.1.0);
      key_is = ap (λ (x : Spot). key_at (keys x.block) x.cell) e.0 ∙ cell_key a key (keys block) i found.1.0;
      keys_are = e.2 ∙ ap keys (sym block_is);
      value_is = e.3 ∙ ap (λ (x : Spot). cond with_value ((view_of a A).value x.block x.cell) []) (sym e.0);
      place = inl (cond (next_of (keys block) == 0) [] (chain_from keys left (next_of (keys block))), (ap (λ (b : ℕ). b ∷ cond (next_of (keys block) == 0) [] (chain_from keys left (next_of (keys block)))) (sym block_is), e.1));
    }
way_cell a key bucket with_value A (suc left) position start block spare s before ks v (inr (inr (none, linked, inl end))) = absurd (not_cell_end s before ks v _ block position end.1)
way_cell a key bucket with_value A (suc left) position start block spare s before ks v (inr (inr (none, linked, inr on))) =
    let keys = (view_of a A).keys in
    let next = next_of (keys block) in
    let test : (next == 0) ≡ false = ne_eqb next 0 on.0 in
    let ih = way_cell a key bucket with_value A left (position + 1) block next (spare_in a spare block (keys block)) s before ks v on.1 in
    subst (λ (t : Bool). Found a key A with_value (block ∷ cond t [] (chain_from keys left next)) start s before ks v) (sym test) (record {
      is_in = inr ih.is_in;
      cell = ih.cell;
      key_is = ih.key_is;
      keys_are = ih.keys_are;
      value_is = ih.value_is;
      place = later_place block start before s.block (chain_from keys left next) ih.place;
    })

-- an unused cell of the blocks
pub record IsSpare (a : Area) (keys : ℕ → List ℕ) (blocks : List ℕ) (s : Spot) : Type 0 where
  pub is_in : IsIn s.block blocks
  pub cell : s.cell < cell_count a.size
  pub unused : is_unused (keys s.block) s.cell ≡ true

-- a walk that ends past the last block has not found the key; `free` is the spare cell that it began with
pub record Missed (a : Area) (key : List ℕ) (A : Array) (blocks : List ℕ) (position : ℕ) (free spare : Option Spot) (last place : ℕ) : Type 0 where
  pub missing : (k i : ℕ) → IsIn k blocks → i < cell_count a.size → key_at ((view_of a A).keys k) i ≢ key
  pub front : List ℕ
  pub blocks_are : blocks ≡ front ++ last ∷ []
  pub place_is : place ≡ position + length front
  pub end : next_of ((view_of a A).keys last) ≡ 0
  pub spare_is : (spare ≡ free) ⊎ IfSome spare (IsSpare a (view_of a A).keys blocks)

spare_here : (a : Area) (keys : ℕ → List ℕ) (free : Option Spot) (block : ℕ) (blocks : List ℕ) (unused : Option ℕ) → unused_cell a.size (keys block) ≡ unused
    → (or_else free (spot_in block unused) ≡ free) ⊎ IfSome (or_else free (spot_in block unused)) (IsSpare a keys (block ∷ blocks))
spare_here a keys (Some s) block blocks unused e = inl refl
spare_here a keys None block blocks None e = inl refl
spare_here a keys None block blocks (Some i) e = inr (record {
  is_in = inl refl;
  cell = (let below = first_below (λ j. is_unused (keys block) j) 0 (cell_count a.size) i e in omega arith);
  unused = first_passes (λ j. is_unused (keys block) j) 0 (cell_count a.size) i e;
})

spare_later : (a : Area) (keys : ℕ → List ℕ) (free mid spare : Option Spot) (block : ℕ) (blocks : List ℕ) → (mid ≡ free) ⊎ IfSome mid (IsSpare a keys (block ∷ blocks))
    → (spare ≡ mid) ⊎ IfSome spare (IsSpare a keys blocks) → (spare ≡ free) ⊎ IfSome spare (IsSpare a keys (block ∷ blocks))
spare_later a keys free mid spare block blocks (inl e) (inl f) = inl (f ∙ e)
spare_later a keys free mid spare block blocks (inr is) (inl f) = inr (subst (λ (o : Option Spot). IfSome o (IsSpare a keys (block ∷ blocks))) (sym f) is)
spare_later a keys free mid None block blocks first (inr is) = inr tt
spare_later a keys free mid (Some s) block blocks first (inr is) = inr (record { is_in = inr is.is_in; cell = is.cell; unused = is.unused })

missing_more : (a : Area) (key : List ℕ) (keys : ℕ → List ℕ) (block : ℕ) (blocks : List ℕ) → cell_with a.size key (keys block) ≡ None
    → ((k i : ℕ) → IsIn k blocks → i < cell_count a.size → key_at (keys k) i ≢ key) → (k i : ℕ) → IsIn k (block ∷ blocks) → i < cell_count a.size → key_at (keys k) i ≢ key
missing_more a key keys block blocks none rest k i (inl e) below is = cell_missing a key (keys block) i none below (ap (λ (m : ℕ). key_at (keys m) i) e ∙ is)
missing_more a key keys block blocks none rest k i (inr has) below is = rest k i has below is

pub way_end : (a : Area) (key : List ℕ) (bucket : ℕ) (with_value : Bool) (A : Array) (left position before block : ℕ) (free spare : Option Spot) (last place : ℕ)
    → Way a key bucket with_value A left position before block free (AtEnd spare last place) → Missed a key A (chain_from (view_of a A).keys left block) position free spare last place
way_end a key bucket with_value A zero position before block free spare last place e = absurd (not_end_broken spare last place (a.start + block) e)
way_end a key bucket with_value A (suc left) position before block free spare last place (inl e) = absurd (not_end_broken spare last place (a.start + block) e)
way_end a key bucket with_value A (suc left) position before block free spare last place (inr (inl found)) = absurd (not_end_cell _ before _ _ spare last place found.1.1)
way_end a key bucket with_value A (suc left) position before block free spare last place (inr (inr (none, linked, inl end))) =
    let keys = (view_of a A).keys in
    let e = same_end spare (spare_in a free block (keys block)) last block place position end.1 in
    let test : (next_of (keys block) == 0) ≡ true = eq-eqb (next_of (keys block)) 0 end.0 in
    subst (λ (t : Bool). Missed a key A (block ∷ cond t [] (chain_from keys left (next_of (keys block)))) position free spare last place) (sym test) (record {
      missing = missing_more a key keys block [] none (λ k i has. absurd has);
      front = [];
      blocks_are = ap (λ (b : ℕ). b ∷ []) (sym e.1);
      place_is = e.2 ∙ omega arith;
      end = ap (λ (b : ℕ). next_of (keys b)) e.1 ∙ end.0;
      spare_is = subst (λ (o : Option Spot). (o ≡ free) ⊎ IfSome o (IsSpare a keys (block ∷ []))) (sym e.0) (spare_here a keys free block [] (unused_cell a.size (keys block)) refl);
    })
way_end a key bucket with_value A (suc left) position before block free spare last place (inr (inr (none, linked, inr on))) =
    let keys = (view_of a A).keys in
    let next = next_of (keys block) in
    let test : (next == 0) ≡ false = ne_eqb next 0 on.0 in
    let mid = spare_in a free block (keys block) in
    let ih = way_end a key bucket with_value A left (position + 1) block next mid spare last place on.1 in
    subst (λ (t : Bool). Missed a key A (block ∷ cond t [] (chain_from keys left next)) position free spare last place) (sym test) (record {
      missing = missing_more a key keys block (chain_from keys left next) none ih.missing;
      front = block ∷ ih.front;
      blocks_are = ap (λ rest. block ∷ rest) ih.blocks_are;
      place_is = ih.place_is ∙ omega arith;
      end = ih.end;
      spare_is = spare_later a keys free mid spare block (chain_from keys left next) (spare_here a keys free block (chain_from keys left next) (unused_cell a.size (keys block)) refl) ih.spare_is;
    })

cell_reads : {R : Type 0} (c : Option ℕ) (f : ℕ → Program R) (q : Program R) (A : Array) → ((i : ℕ) → AreReads (accesses_of (f i) A)) → AreReads (accesses_of q A) → AreReads (accesses_of (at_cell c f q) A)
cell_reads None f q A found other = other
cell_reads (Some i) f q A found other = found i

-- a walk reads alone
pub walk_reads : (a : Area) (key : List ℕ) (bucket : ℕ) (with_value : Bool) (left position before block : ℕ) (spare : Option Spot) (A : Array)
    → AreReads (accesses_of (walk_from a key bucket with_value left position before block spare) A)
walk_reads a key bucket with_value zero position before block spare A = tt
walk_reads a key bucket with_value (suc left) position before block spare A =
    let keys = (view_of a A).keys block in (
      refl,
      cond_reads (is_linked a bucket position keys) _ _ A (cell_reads (cell_with a.size key keys) _ _ A (λ i. tt)
          (cond_reads (next_of keys == 0) _ _ A tt (walk_reads a key bucket with_value left (position + 1) block (next_of keys) (spare_in a spare block keys) A))) tt,
    )
