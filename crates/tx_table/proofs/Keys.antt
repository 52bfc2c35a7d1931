-- What is held under a label is under its key.
use Rattle.tx_table.proofs.Words.{all_push, map_push, ◌≡◌, ◌≢◌, ◌∙◌, refl, sym, ap, subst, ℕ, nat_eq, bytes_eq, Bool, true, false, cond, List, [], ◌∷◌, ◌++◌, map, arith, Option, Some, None, is_some, IsTrue, AllByRecursion, lookup, remove_entry, option_map, both_ways, bytes_eq-Decides, is_label, key_of, key_tells, IsKeyed}

bytes_self : (xs ys : List ℕ) → xs ≡ ys → bytes_eq xs ys ≡ true
bytes_self xs ys same = (bytes_eq-Decides xs ys).1 same

bytes_apart : (xs ys : List ℕ) (t : Bool) → bytes_eq xs ys ≡ t → xs ≢ ys → t ≡ false
bytes_apart xs ys true is other = absurd (other ((bytes_eq-Decides xs ys).0 is))
bytes_apart xs ys false is other = refl

-- the test by key is the test by text
test_same : (xs ys : List ℕ) (key : ℕ) → IsTrue (is_label xs) → IsTrue (is_label ys) → key ≡ key_of ys → nat_eq (key_of xs) key ≡ bytes_eq xs ys
test_same xs ys key label label' is = grind (arith, bytes_self, key_tells, bytes_apart)

pub same_lookup : {T : Type 0} (text : List ℕ) (es : List (ℕ × (List ℕ × T))) → IsTrue (is_label text) → AllByRecursion IsKeyed es
    → option_map (λ v. v.1) (lookup (nat_eq (key_of text)) es) ≡ lookup (bytes_eq text) (map (λ e. e.1) es)
same_lookup text [] label all = refl
same_lookup {T} text (e ∷ es) label all =
    rw (test_same text e.1.0 e.0 label all.0.label all.0.key)
    (elim (bytes_eq text e.1.0) as (λ t. option_map (λ v. v.1) (cond t (Some e.1) (lookup (nat_eq (key_of text)) es)) ≡ cond t (Some e.1.1) (lookup (bytes_eq text) (map (λ x. x.1) es))) [
      | true ↦ refl
      | false ↦ same_lookup text es label all.1
    ])

pub same_rest : {T : Type 0} (text : List ℕ) (es : List (ℕ × (List ℕ × T))) → IsTrue (is_label text) → AllByRecursion IsKeyed es
    → map (λ e. e.1) (remove_entry (nat_eq (key_of text)) es) ≡ remove_entry (bytes_eq text) (map (λ e. e.1) es)
same_rest text [] label all = refl
same_rest {T} text (e ∷ es) label all =
    rw (test_same text e.1.0 e.0 label all.0.label all.0.key)
    (elim (bytes_eq text e.1.0) as (λ t. map (λ x. x.1) (cond t es (e ∷ remove_entry (nat_eq (key_of text)) es)) ≡ cond t (map (λ x. x.1) es) (e.1 ∷ remove_entry (bytes_eq text) (map (λ x. x.1) es))) [
      | true ↦ refl
      | false ↦ ap (λ (l : List (List ℕ × T)). e.1 ∷ l) (same_rest text es label all.1)
    ])

pub rest_keyed : {T : Type 0} (key : ℕ) (es : List (ℕ × (List ℕ × T))) → AllByRecursion IsKeyed es → AllByRecursion IsKeyed (remove_entry (nat_eq key) es)
rest_keyed key [] all = tt
rest_keyed {T} key (e ∷ es) all = elim (nat_eq key e.0) as (λ t. AllByRecursion IsKeyed (cond t es (e ∷ remove_entry (nat_eq key) es))) [
  | true ↦ all.1
  | false ↦ (all.0, rest_keyed key es all.1)
]

some_mapped : {A B : Type 0} (f : A → B) (o : Option A) → is_some o ≡ is_some (option_map f o)
some_mapped f o = grind arith

-- a map under keys, and what is seen of it
pub held_is : {T : Type 0} (text : List ℕ) (key : ℕ) (es : List (ℕ × (List ℕ × T))) (now : List (List ℕ × T)) (found : Bool)
    → key ≡ key_of text → IsTrue (is_label text) → AllByRecursion IsKeyed es → map (λ e. e.1) es ≡ now
    → found ≡ is_some (lookup (nat_eq key) es) → found ≡ is_some (lookup (bytes_eq text) now)
held_is {T} text key es now found is label all seen test =
    test ∙ ap (λ (k : ℕ). is_some (lookup (nat_eq k) es)) is
    ∙ some_mapped (λ (v : List ℕ × T). v.1) (lookup (nat_eq (key_of text)) es)
    ∙ ap is_some (same_lookup text es label all)
    ∙ ap (λ (l : List (List ℕ × T)). is_some (lookup (bytes_eq text) l)) seen

item_is : {T : Type 0} (text : List ℕ) (key : ℕ) (es : List (ℕ × (List ℕ × T))) (now : List (List ℕ × T)) (item : Option (List ℕ × T))
    → key ≡ key_of text → IsTrue (is_label text) → AllByRecursion IsKeyed es → map (λ e. e.1) es ≡ now
    → item ≡ lookup (nat_eq key) es → option_map (λ v. v.1) item ≡ lookup (bytes_eq text) now
item_is {T} text key es now item is label all seen test = grind (arith, same_lookup)

pub no_item : {T : Type 0} (text : List ℕ) (key : ℕ) (es : List (ℕ × (List ℕ × T))) (now : List (List ℕ × T)) (item : Option (List ℕ × T)) (result : Option T)
    → key ≡ key_of text → IsTrue (is_label text) → AllByRecursion IsKeyed es → map (λ e. e.1) es ≡ now
    → item ≡ lookup (nat_eq key) es → item ≡ None → result ≡ None → result ≡ lookup (bytes_eq text) now
no_item {T} text key es now item result is label all seen test none end =
    end ∙ sym (ap (option_map (λ (v : List ℕ × T). v.1)) none) ∙ item_is text key es now item is label all seen test

pub the_item : {T : Type 0} (text : List ℕ) (key : ℕ) (es : List (ℕ × (List ℕ × T))) (now : List (List ℕ × T)) (item : Option (List ℕ × T)) (other : List ℕ) (result : T)
    → key ≡ key_of text → IsTrue (is_label text) → AllByRecursion IsKeyed es → map (λ e. e.1) es ≡ now
    → item ≡ lookup (nat_eq key) es → item ≡ Some (other, result) → Some result ≡ lookup (bytes_eq text) now
the_item {T} text key es now item other result is label all seen test some =
    sym (ap (option_map (λ (v : List ℕ × T). v.1)) some) ∙ item_is text key es now item is label all seen test

pub rest_is : {T : Type 0} (text : List ℕ) (key : ℕ) (es new : List (ℕ × (List ℕ × T))) (now : List (List ℕ × T))
    → key ≡ key_of text → IsTrue (is_label text) → AllByRecursion IsKeyed es → map (λ e. e.1) es ≡ now
    → new ≡ remove_entry (nat_eq key) es → map (λ e. e.1) new ≡ remove_entry (bytes_eq text) now
rest_is {T} text key es new now is label all seen rest = grind (arith, same_rest)

pub rest_stands : {T : Type 0} (key : ℕ) (es new : List (ℕ × (List ℕ × T))) → AllByRecursion IsKeyed es → new ≡ remove_entry (nat_eq key) es → AllByRecursion IsKeyed new
rest_stands key es new all rest = subst (AllByRecursion IsKeyed) (sym rest) (rest_keyed key es all)

pub none_from : {A : Type 0} → (o : Option A) (found : Bool) → found ≡ is_some o → found ≡ false → o ≡ None
none_from None found is off = refl
none_from (Some x) found is off = absurd (both_ways found off is)

pub post_shows : {T : Type 0} (text : List ℕ) (item : T) (key : ℕ) (es new : List (ℕ × (List ℕ × T))) (now : List (List ℕ × T))
    → map (λ e. e.1) es ≡ now → new ≡ es ++ (key, (text, item)) ∷ [] → map (λ e. e.1) new ≡ now ++ (text, item) ∷ []
post_shows {T} text item key es new now seen more = grind (arith, map_push)

pub post_stands : {T : Type 0} (text : List ℕ) (item : T) (key : ℕ) (es new : List (ℕ × (List ℕ × T)))
    → key ≡ key_of text → IsTrue (is_label text) → AllByRecursion IsKeyed es → new ≡ es ++ (key, (text, item)) ∷ [] → AllByRecursion IsKeyed new
post_stands text item key es new is label all more = subst (AllByRecursion IsKeyed) (sym more) (all_push IsKeyed es (key, (text, item)) all (record { key = is; label = label }))
