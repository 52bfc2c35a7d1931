-- What a put makes of a tree.
use Rattle.iso_tree.proofs.{Words.{◌≡◌, ◌≢◌, ◌∙◌, sym, refl, ap, subst, ℕ, zero, suc, ◌<◌, ◌≤◌, true, false, cond, nat_le, IsTrue, List, [], ◌∷◌, ◌++◌, take, drop, length, map, Option, Some, None, arith, inl, inr, eq-eqb, ne_eqb, flat_map, AllByRecursion, nat_tests, append-nil, map-append, take-append-drop, length-take, length-drop, flat_map-append, text_of, before, Cell, child_of, in_range, Tree, tree_at, pairs_in, nodes_in, IsApart, AreAfter, AreChildren, Rise, IsOrdered, Put, first_key, without_first, half, halves, fit, IsIn, in_front, in_back}, Shapes.{kids, IsGrown, write_cells, written, second_kid, IsFitCell, IsSized, IsLoose, AreSized, length-kids, same_some}, Order.{cut_after, cut_above, cut_rise, all_left, all_right}, Blocks.{apart_parts, kids_kept}}

pub write_here : (cells : ℕ → List Cell) (level block : ℕ) (cs : List Cell) → write_cells cells (block, level, cs) block ≡ cs
write_here cells level block cs = ap (λ t. cond t cs (cells block)) (eq-eqb block block refl)

pub write_other : (cells : ℕ → List Cell) (level block : ℕ) (cs : List Cell) (k : ℕ) → k ≢ block → write_cells cells (block, level, cs) k ≡ cells k
write_other cells level block cs k other = ap (λ t. cond t cs (cells k)) (ne_eqb k block other)

pub written_append : (cells : ℕ → List Cell) (ws vs : List (ℕ × ℕ × List Cell)) → written cells (ws ++ vs) ≡ written (written cells ws) vs
written_append cells [] vs = refl
written_append cells (w ∷ ws) vs = written_append (write_cells cells w) ws vs

-- What the writes of a node make of the tree that it is to be: one node, or two with a separator.
pub record IsFit (n level : ℕ) (cells : ℕ → List Cell) (block : ℕ) (t : Tree level) (news : List ℕ) (q : Put) : Type 0 where
  pub ordered : (low : List ℕ) (high : Option (List ℕ)) → IsOrdered level low high t
      → AreAfter (IsOrdered level) low low high (tree_at (written cells q.writes) level block) (second_kid (written cells q.writes) level q.second)
  pub pairs : pairs_in level t ≡ pairs_in level (tree_at (written cells q.writes) level block) ++ flat_map (λ c. pairs_in level c.1) (second_kid (written cells q.writes) level q.second)
  pub nodes : IsGrown q.taken (nodes_in level t) (nodes_in level (tree_at (written cells q.writes) level block) ++ flat_map (λ c. nodes_in level c.1) (second_kid (written cells q.writes) level q.second))
  pub kept : (k : ℕ) → k ≢ block → (IsIn k q.taken → ⊥) → written cells q.writes k ≡ cells k
  pub blocks : news ≡ q.taken ++ q.left
  pub new : (s : List ℕ × ℕ) → q.second ≡ Some s → IsIn s.1 q.taken
  pub sized : IsLoose n level t → IsSized n level (tree_at (written cells q.writes) level block) × AreSized n level (second_kid (written cells q.writes) level q.second)

first_fits : (R : List Cell) → AllByRecursion IsFitCell R → 0 < length R → length (first_key R) ≤ 28
first_fits [] all some = absurd (omega arith)
first_fits (d ∷ ys) all some = all.0.0

le_true : (x n : ℕ) → nat_le x n ≡ true → x ≤ n
le_true x n e = grind (arith, nat_tests)

rise_halves : (low : List ℕ) (high : Option (List ℕ)) (L R : List Cell) → 0 < length L → 0 < length R → Rise low high (L ++ R)
    → IsTrue (before low (first_key R)) × IsTrue (in_range low high (first_key R)) × Rise low (Some (first_key R)) L × Rise (first_key R) high R
rise_halves low high [] R some more is = absurd (omega arith)
rise_halves low high (x ∷ xs) [] some more is = absurd (omega arith)
rise_halves low high (x ∷ xs) (d ∷ ys) some more is = cut_rise low high x xs d ys is

false_true : false ≡ true → ⊥
false_true e = cc

none_some : (s : List ℕ × ℕ) → ◌≡◌ {A = Option (List ℕ × ℕ)} None (Some s) → ⊥
none_some s e = cc

-- the two writes of a split
module _ (cells : ℕ → List Cell) (level block new : ℕ) (L R : List Cell) (other : block ≢ new) where
  two_here : written cells ((block, level, L) ∷ (new, level, R) ∷ []) block ≡ L
  two_here = write_other (write_cells cells (block, level, L)) level new R block other ∙ write_here cells level block L

  two_new : written cells ((block, level, L) ∷ (new, level, R) ∷ []) new ≡ R
  two_new = write_here (write_cells cells (block, level, L)) level new R

  two_other : (k : ℕ) → k ≢ block → (IsIn k (new ∷ []) → ⊥) → written cells ((block, level, L) ∷ (new, level, R) ∷ []) k ≡ cells k
  two_other k not none = write_other (write_cells cells (block, level, L)) level new R k (λ e. none (inl (sym e))) ∙ write_other cells level block L k not

le_false : (x n : ℕ) → nat_le x n ≡ false → n < x
le_false x n e = grind (arith, nat_tests)

leaf_halves : (n : ℕ) (cells : ℕ → List Cell) (block : ℕ) (cs : List Cell) (news : List ℕ) → 0 < half n → half n ≤ n → IsApart (block ∷ news) → n < length cs
    → (halves n zero block cs news).enough ≡ true → IsFit n zero cells block (block, cs) news (halves n zero block cs news)
leaf_halves n cells block cs [] some less apart long e = absurd (false_true e)
leaf_halves n cells block cs (new ∷ news) some less apart long e =
    let m = half n in
    let L = take m cs in
    let R = drop m cs in
    let other : block ≢ new = λ e. apart.0 (inl (sym e)) in
    let whole : L ++ R ≡ cs = take-append-drop m cs in
    let here = two_here cells zero block new L R other in
    let there = two_new cells zero block new L R other in
    record {
      ordered = λ low high is.
          let parts = rise_halves low high L R (omega (arith, length-take m cs)) (omega (arith, length-drop m cs)) (subst (Rise low high) (sym whole) is) in
          (parts.0, parts.1, subst (Rise low (Some (first_key R))) (sym here) parts.2, subst (Rise (first_key R) high) (sym there) parts.3);
      pairs = ap (map (λ c. (c.0, text_of c.1))) (sym whole) ∙ map-append (λ c. (c.0, text_of c.1)) L R
          ∙ (λ i. map (λ c. (c.0, text_of c.1)) (sym here i) ++ map (λ c. (c.0, text_of c.1)) (sym there i))
          ∙ ap (λ l. map (λ c. (c.0, text_of c.1)) (written cells ((block, zero, L) ∷ (new, zero, R) ∷ []) block) ++ l) (sym (append-nil _));
      nodes = (block ∷ new ∷ [], (block ∷ [], [], refl, refl), refl);
      kept = λ k not none. two_other cells zero block new L R other k not none;
      blocks = refl;
      new = λ s is. inl (ap (λ p. p.1) (same_some _ s is));
      sized = λ is.
          let all : AllByRecursion IsFitCell (L ++ R) = subst (AllByRecursion IsFitCell) (sym whole) is.1 in
          let right = all_right IsFitCell L R all in (
            subst (λ (l : List Cell). IsSized n zero (block, l)) (sym here) (omega (arith, length-take m cs), (all_left IsFitCell L R all)),
            ((first_fits R right (omega (arith, length-drop m cs)), subst (λ (l : List Cell). IsSized n zero (new, l)) (sym there) (omega (arith, length-drop m cs, is.0), right)), tt),
          );
    }

pub fit_leaf : (n : ℕ) (cells : ℕ → List Cell) (block : ℕ) (cs : List Cell) (news : List ℕ) → 0 < half n → half n ≤ n → IsApart (block ∷ news) → (fit n zero block cs news).enough ≡ true
    → IsFit n zero cells block (block, cs) news (fit n zero block cs news)
fit_leaf n cells block cs news some less apart enough =
    elim (nat_le (length cs) n) as (λ b. nat_le (length cs) n ≡ b
    → (cond b (record { writes = (block, zero, cs) ∷ []; second = None; taken = []; left = news; enough = true }) (halves n zero block cs news)).enough ≡ true
    → IsFit n zero cells block (block, cs) news (cond b (record { writes = (block, zero, cs) ∷ []; second = None; taken = []; left = news; enough = true }) (halves n zero block cs news))) [
      | true ↦ λ b e. record {
        ordered = λ low high is. subst (Rise low high) (sym (write_here cells zero block cs)) is;
        pairs = ap (map (λ c. (c.0, text_of c.1))) (sym (write_here cells zero block cs)) ∙ sym (append-nil _);
        nodes = refl;
        kept = λ k other none. write_other cells zero block cs k other;
        blocks = refl;
        new = λ s is. absurd (none_some s is);
        sized = λ is. (subst (λ (l : List Cell). IsSized n zero (block, l)) (sym (write_here cells zero block cs)) (le_true (length cs) n b, is.1), tt);
      }
      | false ↦ λ b e. leaf_halves n cells block cs news some less apart (le_false (length cs) n b) e
    ] refl enough

length-without : (R : List Cell) → length (without_first R) ≡ length R
length-without R = grind arith

sized_without : (n : ℕ) (cells : ℕ → List Cell) (level : ℕ) (R : List Cell) → AreSized n level (kids cells level R) → AreSized n level (kids cells level (without_first R))
sized_without n cells level [] all = tt
sized_without n cells level (d ∷ ys) all = ((omega arith, all.0.1), all.1)

first_short : (n : ℕ) (cells : ℕ → List Cell) (level : ℕ) (R : List Cell) → AreSized n level (kids cells level R) → length (first_key R) ≤ 28
first_short n cells level [] all = omega arith
first_short n cells level (d ∷ ys) all = all.0.0

less_half : (n : ℕ) → 1 < half n → half n < n
less_half n some = omega arith

inner_halves : (cells : ℕ → List Cell) (level : ℕ) (low : List ℕ) (high : Option (List ℕ)) (L R : List Cell) → 1 < length L → 0 < length R → AreChildren (IsOrdered level) low high (kids cells level (L ++ R))
    → IsTrue (before low (first_key R)) × IsTrue (in_range low high (first_key R)) × AreChildren (IsOrdered level) low (Some (first_key R)) (kids cells level L)
    × AreChildren (IsOrdered level) (first_key R) high (kids cells level (without_first R))
inner_halves cells level low high [] R some more is = absurd (omega arith)
inner_halves cells level low high (c ∷ []) R some more is = absurd (omega arith)
inner_halves cells level low high (c ∷ x ∷ xs) [] some more is = absurd (omega arith)
inner_halves cells level low high (c ∷ x ∷ xs) (d ∷ ys) some more is =
    let P = IsOrdered level in
    let kid : Cell → List ℕ × Tree level = λ c. (c.0, tree_at cells level (child_of c.1)) in
    let row : AreAfter P [] low high (kid c).1 (kid x ∷ (kids cells level xs ++ kids cells level (d ∷ ys))) =
    subst (λ (l : List (List ℕ × Tree level)). AreAfter P [] low high (kid c).1 (kid x ∷ l)) (map-append kid xs (d ∷ ys)) is.1 in
    let parts = cut_after P [] low high (kid c).1 (kid x ∷ kids cells level xs) (kid d) (kids cells level ys) row in
    (cut_above P [] low high (kid c).1 (kid x) (kids cells level xs) (kid d) (kids cells level ys) row, parts.1, (is.0, parts.2), (refl, parts.3))

flat_without : {Y : Type 0} (cells : ℕ → List Cell) (level : ℕ) (f : Tree level → List Y) (R : List Cell) → flat_map (λ c. f c.1) (kids cells level R) ≡ flat_map (λ c. f c.1) (kids cells level (without_first R))
flat_without cells level f R = grind arith

flat_halves : {Y : Type 0} (cells : ℕ → List Cell) (level : ℕ) (f : Tree level → List Y) (L R cs : List Cell) → L ++ R ≡ cs
    → flat_map (λ c. f c.1) (kids cells level cs) ≡ flat_map (λ c. f c.1) (kids cells level L) ++ flat_map (λ c. f c.1) (kids cells level (without_first R))
flat_halves cells level f L R cs whole =
    ap (λ l. flat_map (λ c. f c.1) (kids cells level l)) (sym whole)
    ∙ ap (flat_map (λ c. f c.1)) (map-append (λ c. (c.0, tree_at cells level (child_of c.1))) L R)
    ∙ flat_map-append (λ c. f c.1) (kids cells level L) (kids cells level R)
    ∙ ap (λ l. flat_map (λ c. f c.1) (kids cells level L) ++ l) (flat_without cells level f R)

inner_split : (n level : ℕ) (cells : ℕ → List Cell) (block : ℕ) (cs : List Cell) (news : List ℕ) → 1 < half n → half n ≤ n
    → IsApart ((block ∷ flat_map (λ c. nodes_in level c.1) (kids cells level cs)) ++ news) → n < length cs
    → (halves n (suc level) block cs news).enough ≡ true → IsFit n (suc level) cells block (block, kids cells level cs) news (halves n (suc level) block cs news)
inner_split n level cells block cs [] some less apart long e = absurd (false_true e)
inner_split n level cells block cs (new ∷ news) some less apart long e =
    let m = half n in
    let L = take m cs in
    let R = drop m cs in
    let W = without_first R in
    let below = flat_map (λ c. nodes_in level c.1) (kids cells level cs) in
    let cells' = written cells ((block, suc level, L) ∷ (new, suc level, W) ∷ []) in
    let other : block ≢ new = λ e. apart.0 (in_back block below (new ∷ news) (inl (sym e))) in
    let parts = apart_parts below (new ∷ news) apart.1 in
    let whole : L ++ R ≡ cs = take-append-drop m cs in
    let same : (k : ℕ) → IsIn k below → cells' k ≡ cells k = λ k is.
    two_other cells (suc level) block new L W other k (λ e. apart.0 (in_front block below (new ∷ news) (subst (λ (j : ℕ). IsIn j below) e is)))
    (λ there. parts.2 k is (elim there [ inl here ↦ inl here | inr none ↦ absurd none ])) in
    let split = flat_halves cells level (nodes_in level) L R cs whole in
    let keptL : kids cells' level L ≡ kids cells level L = kids_kept cells cells' level L (λ k is. same k (subst (λ (l : List ℕ). IsIn k l) (sym split) (in_front k _ _ is))) in
    let keptR : kids cells' level W ≡ kids cells level W = kids_kept cells cells' level W (λ k is. same k (subst (λ (l : List ℕ). IsIn k l) (sym split) (in_back k (flat_map (λ c. nodes_in level c.1) (kids cells level L)) _ is))) in
    let tL : ◌≡◌ {A = Tree (suc level)} (tree_at cells' (suc level) block) (block, kids cells level L) =
    ap (λ (l : List Cell). (block, kids cells' level l)) (two_here cells (suc level) block new L W other) ∙ ap (λ (ts : List (List ℕ × Tree level)). (block, ts)) keptL in
    let tR : ◌≡◌ {A = Tree (suc level)} (tree_at cells' (suc level) new) (new, kids cells level W) =
    ap (λ (l : List Cell). (new, kids cells' level l)) (two_new cells (suc level) block new L W other) ∙ ap (λ (ts : List (List ℕ × Tree level)). (new, ts)) keptR in
    record {
      ordered = λ low high is.
          let row : AreChildren (IsOrdered level) low high (kids cells level (L ++ R)) = subst (λ (l : List Cell). AreChildren (IsOrdered level) low high (kids cells level l)) (sym whole) is in
          let cut = inner_halves cells level low high L R (omega (arith, length-take m cs)) (omega (arith, length-drop m cs)) row in
          (cut.0, cut.1, subst (IsOrdered (suc level) low (Some (first_key R))) (sym tL) cut.2, subst (IsOrdered (suc level) (first_key R) high) (sym tR) cut.3);
      pairs = flat_halves cells level (pairs_in level) L R cs whole
          ∙ (λ i. pairs_in (suc level) (sym tL i) ++ pairs_in (suc level) (sym tR i))
          ∙ ap (λ l. pairs_in (suc level) (tree_at cells' (suc level) block) ++ l) (sym (append-nil (pairs_in (suc level) (tree_at cells' (suc level) new))));
      nodes = (
        nodes_in (suc level) (tree_at cells' (suc level) block) ++ (nodes_in (suc level) (tree_at cells' (suc level) new) ++ []),
        (
          block ∷ flat_map (λ c. nodes_in level c.1) (kids cells level L),
          flat_map (λ c. nodes_in level c.1) (kids cells level W),
          ap (λ l. block ∷ l) split,
          (λ i. nodes_in (suc level) (tL i) ++ (nodes_in (suc level) (tR i) ++ []))
              ∙ ap (λ l. (block ∷ flat_map (λ c. nodes_in level c.1) (kids cells level L)) ++ l) (append-nil (new ∷ flat_map (λ c. nodes_in level c.1) (kids cells level W))),
        ),
        refl,
      );
      kept = λ k not none. two_other cells (suc level) block new L W other k not none;
      blocks = refl;
      new = λ s is. inl (ap (λ p. p.1) (same_some _ s is));
      sized = λ is.
          let all : AreSized n level (kids cells level L ++ kids cells level R) =
          subst (AreSized n level) (ap (kids cells level) (sym whole) ∙ map-append (λ c. (c.0, tree_at cells level (child_of c.1))) L R) is.2 in
          let left = all_left (λ (c : List ℕ × Tree level). (length c.0 ≤ 28) × IsSized n level c.1) (kids cells level L) (kids cells level R) all in
          let right = all_right (λ (c : List ℕ × Tree level). (length c.0 ≤ 28) × IsSized n level c.1) (kids cells level L) (kids cells level R) all in
          let kl = length-kids cells level L in
          let kw = length-kids cells level W in
          let kc = length-kids cells level cs in
          let lw = length-without R in
          let lt = length-take m cs in
          let ld = length-drop m cs in
          let lh = less_half n some in
          let most = is.1 in (
            subst (IsSized n (suc level)) (sym tL) (omega arith, omega arith, left),
            ((first_short n cells level R right, subst (IsSized n (suc level)) (sym tR) (omega arith, omega arith, sized_without n cells level R right)), tt),
          );
    }

pub fit_inner : (n level : ℕ) (cells : ℕ → List Cell) (block : ℕ) (cs : List Cell) (news : List ℕ) → 1 < half n → half n ≤ n
    → IsApart ((block ∷ flat_map (λ c. nodes_in level c.1) (kids cells level cs)) ++ news) → (fit n (suc level) block cs news).enough ≡ true
    → IsFit n (suc level) cells block (block, kids cells level cs) news (fit n (suc level) block cs news)
fit_inner n level cells block cs news some less apart enough =
    let whole : Put = record { writes = (block, suc level, cs) ∷ []; second = None; taken = []; left = news; enough = true } in
    let below = flat_map (λ c. nodes_in level c.1) (kids cells level cs) in
    let cells' = write_cells cells (block, suc level, cs) in
    let kept : kids cells' level cs ≡ kids cells level cs = kids_kept cells cells' level cs (λ k is.
    write_other cells (suc level) block cs k (λ e. apart.0 (in_front block below news (subst (λ (j : ℕ). IsIn j below) e is)))) in
    let t : ◌≡◌ {A = Tree (suc level)} (tree_at cells' (suc level) block) (block, kids cells level cs) =
    ap (λ (l : List Cell). (block, kids cells' level l)) (write_here cells (suc level) block cs) ∙ ap (λ (ts : List (List ℕ × Tree level)). (block, ts)) kept in
    elim (nat_le (length cs) n) as (λ b. nat_le (length cs) n ≡ b → (cond b whole (halves n (suc level) block cs news)).enough ≡ true
    → IsFit n (suc level) cells block (block, kids cells level cs) news (cond b whole (halves n (suc level) block cs news))) [
      | true ↦ λ b e. record {
        ordered = λ low high is. subst (IsOrdered (suc level) low high) (sym t) is;
        pairs = ap (pairs_in (suc level)) (sym t) ∙ sym (append-nil (pairs_in (suc level) (tree_at cells' (suc level) block)));
        nodes = ap (nodes_in (suc level)) (sym t) ∙ sym (append-nil (nodes_in (suc level) (tree_at cells' (suc level) block)));
        kept = λ k other none. write_other cells (suc level) block cs k other;
        blocks = refl;
        new = λ s is. absurd (none_some s is);
        sized = λ is. (subst (IsSized n (suc level)) (sym t) (is.0, omega (arith, le_true (length cs) n b, length-kids cells level cs), is.2), tt);
      }
      | false ↦ λ b e. inner_split n level cells block cs news some less apart (le_false (length cs) n b) e
    ] refl enough
