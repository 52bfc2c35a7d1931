-- The sum of all accounts, as a put changes it.
use Rattle.accounts.proofs.SumWords.{◌≡◌, ◌∙◌, sym, refl, ap, ℕ, ◌+◌, Bool, true, false, ◌&&◌, cond, List, [], ◌∷◌, Some, None, arith, length, nat_list_cmp_total, sum_by, sum_by-cons, empty, entries, entries-insert, entries_sorted, get, get-entries, insert, len-empty, len-entries, below_all, find, is_sorted, put, slice_cmp, nat_cmp, Pairs, amount, amount_in, total, T, Ordering, Less, Equal, Greater, is_eq, is_lt, by_order}

abbrev Pair : Type 0
Pair = List ℕ × List ℕ

abbrev order : List ℕ → List ℕ → Ordering
order = slice_cmp nat_cmp

abbrev worth : Pair → ℕ
worth e = amount e.1

first : (a b : Bool) → T (a && b) → T a
first true b p = tt
first false b p = p

second : (a b : Bool) → T (a && b) → T b
second true b p = p
second false b p = absurd p

less : (o : Ordering) → T (is_lt o) → o ≡ Less
less Less p = refl
less Equal p = absurd p
less Greater p = absurd p

-- nothing is found below all keys
none_below : (q x : List ℕ) (es : List Pair) → order q x ≡ Less → T (below_all order x es) → find order q es ≡ None
none_below q x [] lower h = refl
none_below q x (e ∷ es) lower h =
    let here : order q e.0 ≡ Less = nat_list_cmp_total.trans q x e.0 lower (less (order x e.0) (first _ _ h)) in
    ap (λ o. cond (is_eq o) (Some e.1) (find order q es)) here ∙ none_below q x es lower (second _ _ h)

put_by : (k v : List ℕ) (e : Pair) (es : List Pair) (o : Ordering) → order k e.0 ≡ o → T (is_sorted order (e ∷ es))
    → sum_by worth (put order k v es) + amount_in (find order k es) ≡ sum_by worth es + amount v
    → sum_by worth (by_order o ((k, v) ∷ e ∷ es) ((e.0, v) ∷ es) (e ∷ put order k v es)) + amount_in (cond (is_eq o) (Some e.1) (find order k es)) ≡ sum_by worth (e ∷ es) + amount v
put_by k v e es Less is sorted ih =
    let none : amount_in (find order k es) ≡ 0 = ap amount_in (none_below k e.0 es is (first _ _ sorted)) in
    let a : sum_by worth ((k, v) ∷ e ∷ es) ≡ amount v + sum_by worth (e ∷ es) = sum_by-cons worth (k, v) (e ∷ es) in
    omega arith
put_by k v e es Equal is sorted ih =
    let a : sum_by worth ((e.0, v) ∷ es) ≡ amount v + sum_by worth es = sum_by-cons worth (e.0, v) es in
    let b : sum_by worth (e ∷ es) ≡ amount e.1 + sum_by worth es = sum_by-cons worth e es in
    omega arith
put_by k v e es Greater is sorted ih =
    let a : sum_by worth (e ∷ put order k v es) ≡ amount e.1 + sum_by worth (put order k v es) = sum_by-cons worth e (put order k v es) in
    let b : sum_by worth (e ∷ es) ≡ amount e.1 + sum_by worth es = sum_by-cons worth e es in
    omega arith

put_sum : (k v : List ℕ) (es : List Pair) → T (is_sorted order es) → sum_by worth (put order k v es) + amount_in (find order k es) ≡ sum_by worth es + amount v
put_sum k v [] sorted =
    omega arith
put_sum k v (e ∷ es) sorted = put_by k v e es (order k e.0) refl sorted (put_sum k v es (second _ _ sorted))

-- a put changes the sum by what it changes at its key
pub total_put : (m : Pairs) (k v : List ℕ) → total (insert m k v) + amount_in (get m k) ≡ total m + amount v
total_put m k v =
    (λ i. sum_by worth (entries-insert nat_list_cmp_total m k v i) + amount_in (get-entries m k i)) ∙ put_sum k v (entries m) (entries_sorted m)

no_pairs : (es : List Pair) → length es ≡ 0 → sum_by worth es ≡ 0
no_pairs [] none = refl
no_pairs (e ∷ es) some = absurd (omega arith)

pub total_empty : total empty ≡ 0
total_empty = let m : Pairs = empty in no_pairs (entries m) (sym (len-entries m) ∙ len-empty order (List ℕ))
