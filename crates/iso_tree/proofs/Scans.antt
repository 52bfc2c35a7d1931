-- The pairs of a range lie in the cells that a scan visits.
use Rattle.iso_tree.proofs.{Words.{◌≡◌, ◌∙◌, sym, refl, ap, ℕ, zero, suc, ◌+◌, ◌-◌, Bool, true, false, not, ◌&&◌, cond, List, [], ◌∷◌, ◌++◌, take, drop, Option, Some, arith, inl, inr, AllByRecursion, filter, flat_map, and_from, and_parts, cases_Bool, append-nil, filter-append, text_of, before, Cell, in_range, Rise, RiseAfter, AreAfter, is_within}, Edits.leaf_pairs, Gets.{pairs_after, rise_in}, Order.{irreflexive, range_from, before_through, low_of, not_after_through}}

-- the pairs of a range
abbrev pub within : (from to : List ℕ) → List (List ℕ × List ℕ) → List (List ℕ × List ℕ)
within from to pairs = filter (λ pair. is_within from to pair.0) pairs

-- how many cells in a row, from the first on, have a key before this one, and how many have none above it
abbrev pub below_list : {X : Type 0} → (key : List ℕ) → List (List ℕ × X) → ℕ
below_list key [] = 0
below_list key (c ∷ cs) = cond (before c.0 key) (suc (below_list key cs)) 0

abbrev pub upto_list : {X : Type 0} → (key : List ℕ) → List (List ℕ × X) → ℕ
upto_list key [] = 0
upto_list key (c ∷ cs) = cond (before key c.0) 0 (suc (upto_list key cs))

and_false : (t : Bool) → (t && false) ≡ false
and_false t = grind arith

take_none : {X : Type 0} (n : ℕ) (xs : List X) → n ≡ 0 → ◌≡◌ {A = List X} (take n xs) []
take_none zero [] none = refl
take_none zero (x ∷ xs) none = refl
take_none (suc n) xs none = absurd (omega arith)

module _ (from to : List ℕ) where
  inside : (key : List ℕ) → before key from ≡ false → before key to ≡ true → is_within from to key ≡ true
  inside key past early = and_from _ _ (ap not past) early

  early_out : (key : List ℕ) → before key from ≡ true → is_within from to key ≡ false
  early_out key early = ap (λ (t : Bool). not t && before key to) early

  late_out : (key : List ℕ) → before key to ≡ false → is_within from to key ≡ false
  late_out key late = ap (λ (t : Bool). not (before key from) && t) late ∙ and_false (not (before key from))

  -- all pairs are past the range, or before it
  pub none_above : (low : List ℕ) (high : Option (List ℕ)) (pairs : List (List ℕ × List ℕ)) → before low to ≡ false → AllByRecursion (λ (pair : List ℕ × List ℕ). in_range low high pair.0 ≡ true) pairs
      → ◌≡◌ {A = List (List ℕ × List ℕ)} (within from to pairs) []
  none_above low high [] past all = refl
  none_above low high (pair ∷ pairs) past all =
      ap (λ (t : Bool). cond t (pair ∷ within from to pairs) (within from to pairs)) (late_out pair.0 (not_after_through to low pair.0 past (low_of low high pair.0 all.0))) ∙ none_above low high pairs past all.1

  pub none_below : (low end : List ℕ) (pairs : List (List ℕ × List ℕ)) → before from end ≡ false → AllByRecursion (λ (pair : List ℕ × List ℕ). in_range low (Some end) pair.0 ≡ true) pairs
      → ◌≡◌ {A = List (List ℕ × List ℕ)} (within from to pairs) []
  none_below low end [] past all = refl
  none_below low end (pair ∷ pairs) past all =
      ap (λ (t : Bool). cond t (pair ∷ within from to pairs) (within from to pairs)) (early_out pair.0 (before_through pair.0 end from (and_parts _ _ all.0).1 past)) ∙ none_below low end pairs past all.1

  -- A LEAF
  rise_of : (last : List ℕ) (high : Option (List ℕ)) (cs : List Cell) → RiseAfter last high cs → Rise last high cs
  rise_of last high [] is = tt
  rise_of last high (c ∷ cs) is = (is.1, is.2)

  rise_here : (low : List ℕ) (high : Option (List ℕ)) (c : Cell) (cs : List Cell) → Rise low high (c ∷ cs) → Rise c.0 high (c ∷ cs)
  rise_here low high c cs is = (range_from low c.0 high c.0 is.0 (irreflexive c.0), is.1)

  take_to : (low : List ℕ) (high : Option (List ℕ)) (cs : List Cell) → before low from ≡ false → Rise low high cs → within from to (leaf_pairs cs) ≡ leaf_pairs (take (below_list to cs) cs)
  take_to low high [] past is = refl
  take_to low high (c ∷ cs) past is =
      let later : before c.0 from ≡ false = not_after_through from low c.0 past (low_of low high c.0 is.0) in
      let pair : List ℕ × List ℕ = (c.0, text_of c.1) in
      elim (cases_Bool (before c.0 to)) [
        | inl early ↦
            ap (λ (t : Bool). cond t (pair ∷ within from to (leaf_pairs cs)) (within from to (leaf_pairs cs))) (inside c.0 later early)
            ∙ ap (λ l. pair ∷ l) (take_to c.0 high cs later (rise_of c.0 high cs is.1))
            ∙ sym (ap (λ (t : Bool). leaf_pairs (take (cond t (suc (below_list to cs)) 0) (c ∷ cs))) early)
        | inr late ↦
            none_above c.0 high (leaf_pairs (c ∷ cs)) late (rise_in c.0 high (c ∷ cs) (rise_here low high c cs is))
            ∙ sym (ap (λ (t : Bool). leaf_pairs (take (cond t (suc (below_list to cs)) 0) (c ∷ cs))) late)
      ]

  pub row_within : (low : List ℕ) (high : Option (List ℕ)) (cs : List Cell) → Rise low high cs
      → within from to (leaf_pairs cs) ≡ leaf_pairs (take (below_list to cs - below_list from cs) (drop (below_list from cs) cs))
  row_within low high [] is = refl
  row_within low high (c ∷ cs) is =
      let bf = below_list from cs in
      let bt = below_list to cs in
      let rest = rise_of c.0 high cs is.1 in
      let goal : (f t : ℕ) → List (List ℕ × List ℕ) = λ f t. leaf_pairs (take (t - f) (drop f (c ∷ cs))) in
      elim (cases_Bool (before c.0 from)) [
        | inl early ↦
            (let out = ap (λ (t : Bool). cond t (((c.0, text_of c.1)) ∷ within from to (leaf_pairs cs)) (within from to (leaf_pairs cs))) (early_out c.0 early) in
            out
            ∙ elim (cases_Bool (before c.0 to)) [
              | inl more ↦
                  (let less : suc bt - suc bf ≡ bt - bf = omega arith in
                  row_within c.0 high cs rest ∙ ap (λ (n : ℕ). leaf_pairs (take n (drop bf cs))) (sym less)
                  ∙ sym ((λ i. goal (cond (early i) (suc bf) 0) (cond (more i) (suc bt) 0))))
              | inr past ↦
                  (let less : 0 - suc bf ≡ 0 = omega arith in
                  none_above c.0 high (leaf_pairs cs) past (rise_in c.0 high cs rest)
                  ∙ sym (ap leaf_pairs (take_none (0 - suc bf) (drop bf cs) less))
                  ∙ sym ((λ i. goal (cond (early i) (suc bf) 0) (cond (past i) (suc bt) 0))))
            ])
        | inr later ↦
            (let whole : below_list to (c ∷ cs) - 0 ≡ below_list to (c ∷ cs) = omega arith in
            take_to c.0 high (c ∷ cs) later (rise_here low high c cs is)
            ∙ ap (λ (n : ℕ). leaf_pairs (take n (c ∷ cs))) (sym whole)
            ∙ sym (ap (λ (t : Bool). goal (cond t (suc bf) 0) (below_list to (c ∷ cs))) later))
      ]

  -- AN INNER NODE
  module _ {X : Type 0} (P : List ℕ → Option (List ℕ) → X → Type 0) (f : X → List (List ℕ × List ℕ))
      (each : (low : List ℕ) (high : Option (List ℕ)) (x : X) → P low high x → AllByRecursion (λ (pair : List ℕ × List ℕ). in_range low high pair.0 ≡ true) (f x)) where
    abbrev all : List (List ℕ × X) → List (List ℕ × List ℕ)
    all cs = flat_map (λ x. f x.1) cs

    abbrev some : List (List ℕ × X) → List (List ℕ × List ℕ)
    some cs = flat_map (λ x. within from to (f x.1)) cs

    rest_to : (last low : List ℕ) (high : Option (List ℕ)) (c : X) (cs : List (List ℕ × X)) → AreAfter P last low high c cs → some (take (below_list to cs) cs) ≡ within from to (all cs)
    rest_to last low high c [] is = refl
    rest_to last low high c (d ∷ ds) is = elim (cases_Bool (before d.0 to)) [
      | inl early ↦
          ap (λ (t : Bool). some (take (cond t (suc (below_list to ds)) 0) (d ∷ ds))) early
          ∙ ap (λ l. within from to (f d.1) ++ l) (rest_to d.0 d.0 high d.1 ds is.3)
          ∙ sym (filter-append (λ pair. is_within from to pair.0) (f d.1) (all ds))
      | inr late ↦
          ap (λ (t : Bool). some (take (cond t (suc (below_list to ds)) 0) (d ∷ ds))) late
          ∙ sym (none_above d.0 high (f d.1 ++ all ds) late (pairs_after P f each d.0 d.0 high d.1 ds is.3))
    ]

    pub visited : (last low : List ℕ) (high : Option (List ℕ)) (c : List ℕ × X) (cs : List (List ℕ × X)) → AreAfter P last low high c.1 cs
        → some (take (1 + below_list to cs - upto_list from cs) (drop (upto_list from cs) (c ∷ cs))) ≡ within from to (f c.1 ++ all cs)
    visited last low high c [] is = append-nil (within from to (f c.1)) ∙ ap (within from to) (sym (append-nil (f c.1)))
    visited last low high c (d ∷ ds) is =
        let cs : List (List ℕ × X) = d ∷ ds in
        let u = upto_list from ds in
        let b = below_list to ds in
        let goal : (u b : ℕ) → List (List ℕ × List ℕ) = λ u b. some (take (1 + b - u) (drop u (c ∷ cs))) in
        elim (cases_Bool (before from d.0)) [
          | inl first ↦
              (let one : 1 + below_list to cs - 0 ≡ suc (below_list to cs) = omega arith in
              ap (λ (t : Bool). goal (cond t 0 (suc u)) (below_list to cs)) first
              ∙ ap (λ (n : ℕ). some (take n (c ∷ cs))) one
              ∙ ap (λ l. within from to (f c.1) ++ l) (rest_to last low high c.1 cs is)
              ∙ sym (filter-append (λ pair. is_within from to pair.0) (f c.1) (all cs)))
          | inr later ↦
              (let none : ◌≡◌ {A = List (List ℕ × List ℕ)} (within from to (f c.1)) [] = none_below low d.0 (f c.1) later (each low (Some d.0) c.1 is.2) in
              let joined : within from to (f c.1 ++ all cs) ≡ within from to (all cs) = filter-append (λ pair. is_within from to pair.0) (f c.1) (all cs) ∙ ap (λ l. l ++ within from to (all cs)) none in
              elim (cases_Bool (before d.0 to)) [
                | inl early ↦
                    (let less : 1 + suc b - suc u ≡ 1 + b - u = omega arith in
                    (λ i. goal (cond (later i) 0 (suc u)) (cond (early i) (suc b) 0))
                    ∙ ap (λ (n : ℕ). some (take n (drop u cs))) less
                    ∙ visited d.0 d.0 high d ds is.3 ∙ sym joined)
                | inr late ↦
                    (let less : 1 + 0 - suc u ≡ 0 = omega arith in
                    (λ i. goal (cond (later i) 0 (suc u)) (cond (late i) (suc b) 0))
                    ∙ ap some (take_none (1 + 0 - suc u) (drop u cs) less)
                    ∙ sym (none_above d.0 high (f d.1 ++ all ds) late (pairs_after P f each d.0 d.0 high d.1 ds is.3)) ∙ sym joined)
              ])
        ]
