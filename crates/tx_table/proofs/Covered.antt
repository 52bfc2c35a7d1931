-- The bytes that rows cover.
use Rattle.tx_table.proofs.{Words.{◌≡◌, ◌∙◌, refl, sym, ap, ℕ, zero, suc, ◌+◌, ◌<◌, ◌≤◌, Bool, true, false, ◌==◌, ◌&&◌, ◌||◌, nat_le, nat_lt, List, [], ◌∷◌, ◌++◌, ◌-◌, length, get_or, map, take, drop, arith, length-drop, AllByRecursion, list_any, ltb-true, or-false, get_or_default, get_or-drop, take_all, take-append-drop, take-map, list_any-append, list_any_more, common_steps, Extent, touches, ArePlacesTouched, AreTouched, IsFolded, IsTouched, Access, Kind, Span, covered, in_span, covers, has_write, is_write, IsSpan, Row, access_of, IsRow, and_parts, eqb-true, or-true, or_parts}, Applied.rows_more}
use Rattle.iso_model.specs.Effect as model

-- what a settled work is
pub settled_is : (n m k : ℕ) → ((n == m) && (k == m)) ≡ true → (n ≡ m) × (k ≡ m)
settled_is n m k h = let parts = and_parts (n == m) (k == m) h in (eqb-true n m parts.0, eqb-true k m parts.1)

-- a byte of a span is in the block
below : (size p : ℕ) (spans : List Span) → AllByRecursion (IsSpan size) spans → list_any (in_span p) spans ≡ true → p < size
below size p [] all some = absurd (cc)
below size p (x ∷ spans) all some = by (in_span p x) refl (λ later. below size p spans all.1 later)
  where
    by : (t : Bool) → in_span p x ≡ t → (list_any (in_span p) spans ≡ true → p < size) → p < size
    by true is rest =
        let lt : p < x.off + x.len = ltb-true _ _ (and_parts (nat_le x.off p) (nat_lt p (x.off + x.len)) is).1 in
        omega (arith, lt, all.0.fits)
    by false is rest = rest (let h : (in_span p x || list_any (in_span p) spans) ≡ true = some in rw is at h)

pub spans_cover : (size p : ℕ) (spans : List Span) → AllByRecursion (IsSpan size) spans → 0 < length spans
    → list_any (in_span p) spans ≡ (nat_lt p size && covered spans p)
spans_cover size p [] all some = absurd (omega arith)
spans_cover size p (x ∷ spans) all some = by (list_any (in_span p) (x ∷ spans)) refl
  where
    and_false : (s : Bool) → false ≡ (s && false)
    and_false true = refl
    and_false false = refl

    by : (t : Bool) → list_any (in_span p) (x ∷ spans) ≡ t → t ≡ (nat_lt p size && t)
    by true is = let lt = below size p (x ∷ spans) all is in let here : nat_lt p size ≡ true = grind (arith, common_steps, lt) in rw here refl
    by false is = and_false (nat_lt p size)

-- a row covers bytes of its block alone, which there is
covers_inside : (blocks : ℕ) (kind : Kind) (b p : ℕ) (row : Row) → row.block < blocks → covers kind b p (access_of row) ≡ true → nat_lt b blocks ≡ true
covers_inside blocks kind b p row within there = grind arith

joined : (s t u v : Bool) → (v ≡ true → s ≡ true) → ((s && t && u) || (t && v)) ≡ (s && t && (u || v))
joined s t u v in_it = grind arith

-- one row more of a kind, or of the other
pub touched_more : (size blocks : ℕ) (kind : Kind) (i : ℕ) (rows : List Row) (row d : Row) (old new : List (ℕ × List Extent)) → i < length rows → row ≡ get_or rows i d → row.block < blocks
    → AreTouched size blocks kind (take i (map access_of rows)) old
    → IsTouched size kind row old new
    → AreTouched size blocks kind (take (i + 1) (map access_of rows)) new
touched_more size blocks kind i rows row d old new lt is within are step = record {
  is = λ b p.
      step b p ∙ ap (λ (t : Bool). t || (nat_lt p size && covers kind b p (access_of row))) (are.is b p)
      ∙ joined (nat_lt b blocks) (nat_lt p size) (model.touches kind (take i (map access_of rows)) b p) (covers kind b p (access_of row)) (covers_inside blocks kind b p row within)
      ∙ ap (λ (t : Bool). nat_lt b blocks && nat_lt p size && t) (sym (more b p));
}
  where
    any_last : (b p : ℕ) (xs : List Access) (a : Access) → list_any (covers kind b p) (xs ++ a ∷ []) ≡ (list_any (covers kind b p) xs || covers kind b p a)
    any_last b p xs a = list_any-append (covers kind b p) xs (a ∷ []) ∙ ap (λ (t : Bool). list_any (covers kind b p) xs || t) (or_false (covers kind b p a))
      where
        or_false : (t : Bool) → (t || false) ≡ t
        or_false true = refl
        or_false false = refl

    more : (b p : ℕ) → model.touches kind (take (i + 1) (map access_of rows)) b p ≡ (model.touches kind (take i (map access_of rows)) b p || covers kind b p (access_of row))
    more b p =
        ap (list_any (covers kind b p)) (rows_more i rows d lt) ∙ any_last b p (take i (map access_of rows)) (access_of (get_or rows i d))
        ∙ ap (λ (r : Row). list_any (covers kind b p) (take i (map access_of rows)) || covers kind b p (access_of r)) (sym is)

-- one more place of a row, and its row
pub place_more : (rows : List Row) (from at key : ℕ) (old new : List (ℕ × ℕ)) (d : Row) (test : Row → Bool) → from ≤ at → at < length rows → new ≡ old ++ (key, at) ∷ []
    → list_any (λ e. test (get_or rows e.1 d)) old ≡ list_any test (take (at - from) (drop from rows))
    → list_any (λ e. test (get_or rows e.1 d)) new ≡ list_any test (take (at + 1 - from) (drop from rows))
place_more rows from at key old new d test le lt is before =
    let f : ℕ × ℕ → Bool = λ e. test (get_or rows e.1 d) in
    let j = at - from in
    let place : from + j ≡ at = omega arith in
    let step : at + 1 - from ≡ j + 1 = omega arith in
    let inside : j < length (drop from rows) = omega (arith, length-drop from rows) in
    ap (list_any f) is ∙ list_any-append f old ((key, at) ∷ [])
    ∙ ap (λ (t : Bool). list_any f old || t) (or-false (test (get_or rows at d)))
    ∙ ap (λ (t : Bool). t || test (get_or rows at d)) before
    ∙ ap (λ (r : Row). list_any test (take j (drop from rows)) || test r) (ap (λ (k : ℕ). get_or rows k d) (sym place) ∙ sym (get_or-drop from rows j d))
    ∙ sym (list_any_more test (drop from rows) j d inside)
    ∙ ap (λ (k : ℕ). list_any test (take k (drop from rows))) (sym step)

-- the row at one more place
pub places_more : (size : ℕ) (kind : Kind) (rows : List Row) (order : List (ℕ × ℕ)) (i : ℕ) (e : ℕ × ℕ) (row : Row) (first old new : List (ℕ × List Extent)) → i < length order
    → e ≡ get_or order i e → e.1 < length rows → row ≡ get_or rows e.1 row
    → ArePlacesTouched size kind rows (take i order) first old
    → IsTouched size kind row old new
    → ArePlacesTouched size kind rows (take (i + 1) order) first new
places_more size kind rows order i e row first old new lt at inside is before step d b p =
    let f : ℕ × ℕ → Bool = λ e. covers kind b p (access_of (get_or rows e.1 d)) in
    let same : row ≡ get_or rows e.1 d = is ∙ get_or_default rows e.1 row d inside in
    let more : list_any f (take (i + 1) order) ≡ (list_any f (take i order) || covers kind b p (access_of row)) =
    list_any_more f order i e lt ∙ ap (λ (x : ℕ × ℕ). list_any f (take i order) || f x) (sym at)
    ∙ ap (λ (r : Row). list_any f (take i order) || covers kind b p (access_of r)) (sym same) in
    step b p ∙ ap (λ (t : Bool). t || (nat_lt p size && covers kind b p (access_of row))) (before d b p)
    ∙ regroup (touches first b p) (nat_lt p size) (list_any f (take i order)) (covers kind b p (access_of row))
    ∙ ap (λ (t : Bool). touches first b p || (nat_lt p size && t)) (sym more)
  where
    regroup : (a s u v : Bool) → ((a || (s && u)) || (s && v)) ≡ (a || (s && (u || v)))
    regroup true s u v = refl
    regroup false true u v = refl
    regroup false false u v = refl

-- all rows from a place on, in any order
any_access : (f : Access → Bool) (rows : List Row) → list_any f (map access_of rows) ≡ list_any (λ r. f (access_of r)) rows
any_access f [] = refl
any_access f (x ∷ rows) = ap (λ (t : Bool). f (access_of x) || t) (any_access f rows)

any_inside : (size blocks : ℕ) (kind : Kind) (b p n : ℕ) (rows : List Row) → AllByRecursion (λ r. IsRow size r × (r.block < blocks)) rows
    → list_any (λ r. covers kind b p (access_of r)) (drop n rows) ≡ true → nat_lt b blocks ≡ true
any_inside size blocks kind b p zero [] all there = absurd (cc)
any_inside size blocks kind b p (suc n) [] all there = absurd (cc)
any_inside size blocks kind b p zero (x ∷ rows) all there = by (covers kind b p (access_of x)) refl (λ later. any_inside size blocks kind b p zero rows all.1 later)
  where
    by : (t : Bool) → covers kind b p (access_of x) ≡ t → (list_any (λ r. covers kind b p (access_of r)) rows ≡ true → nat_lt b blocks ≡ true) → nat_lt b blocks ≡ true
    by true is rest = covers_inside blocks kind b p x all.0.1 is
    by false is rest = rest (let h : (covers kind b p (access_of x) || list_any (λ r. covers kind b p (access_of r)) rows) ≡ true = there in rw is at h)
any_inside size blocks kind b p (suc n) (x ∷ rows) all there = any_inside size blocks kind b p n rows all.1 there

pub touched_rest : (size blocks : ℕ) (kind : Kind) (from : ℕ) (rows : List Row) (order : List (ℕ × ℕ)) (old new : List (ℕ × List Extent)) → from < length rows
    → AllByRecursion (λ r. IsRow size r × (r.block < blocks)) rows
    → ((d : Row) → (test : Row → Bool) → list_any (λ e. test (get_or rows e.1 d)) order ≡ list_any test (drop from rows))
    → ArePlacesTouched size kind rows order old new → IsFolded size blocks kind (map access_of rows) from (length rows) old new
touched_rest size blocks kind from [] order old new lt all same step are = absurd (omega arith)
touched_rest size blocks kind from (x ∷ xs) order old new lt all same step are = record {
  is = λ b p.
      step x b p ∙ ap (λ (t : Bool). touches old b p || (nat_lt p size && t)) (same x (test b p))
      ∙ ap (λ (t : Bool). t || (nat_lt p size && list_any (test b p) (drop from rows))) (are.is b p)
      ∙ joined (nat_lt b blocks) (nat_lt p size) (model.touches kind (take from (map access_of rows)) b p) (list_any (test b p) (drop from rows)) (any_inside size blocks kind b p from rows all)
      ∙ ap (λ (t : Bool). nat_lt b blocks && nat_lt p size && t) (sym (whole b p));
}
  where
    rows : List Row
    rows = x ∷ xs

    test : (b p : ℕ) → Row → Bool
    test b p r = covers kind b p (access_of r)

    whole : (b p : ℕ) → model.touches kind (take (length rows) (map access_of rows)) b p ≡ (model.touches kind (take from (map access_of rows)) b p || list_any (test b p) (drop from rows))
    whole b p =
        ap (list_any (covers kind b p)) (take-map access_of (length rows) rows ∙ ap (map access_of) (take_all (length rows) rows (omega arith)))
        ∙ any_access (covers kind b p) rows
        ∙ ap (list_any (test b p)) (sym (take-append-drop from rows))
        ∙ list_any-append (test b p) (take from rows) (drop from rows)
        ∙ ap (λ (t : Bool). t || list_any (test b p) (drop from rows)) (sym (any_access (covers kind b p) (take from rows)) ∙ ap (list_any (covers kind b p)) (sym (take-map access_of from rows)))

-- whether there is a write
pub write_there : (i : ℕ) (rows : List Row) (d : Row) → i < length rows → is_write (access_of (get_or rows i d)) ≡ true → has_write (map access_of rows) ≡ true
write_there i [] d lt write = absurd (omega arith)
write_there zero (x ∷ rows) d lt write = ap (λ (t : Bool). t || has_write (map access_of rows)) write
write_there (suc i) (x ∷ rows) d lt write = ap (λ (t : Bool). is_write (access_of x) || t) (write_there i rows d (omega arith) write) ∙ or-true (is_write (access_of x))

pub no_write_more : (i : ℕ) (rows : List Row) (d : Row) → i < length rows → is_write (access_of (get_or rows i d)) ≡ false
    → has_write (take i (map access_of rows)) ≡ false → has_write (take (i + 1) (map access_of rows)) ≡ false
no_write_more i [] d lt read none = absurd (omega arith)
no_write_more zero (x ∷ rows) d lt read none = ap (λ (t : Bool). t || false) read
no_write_more (suc i) (x ∷ rows) d lt read none =
    let e : suc i + 1 ≡ suc (i + 1) = omega arith in
    let parts = or_parts (is_write (access_of x)) (has_write (take i (map access_of rows))) none in
    rw e (ap (λ (t : Bool). t || has_write (take (i + 1) (map access_of rows))) parts.0 ∙ no_write_more i rows d (omega arith) read parts.1)
