-- What the look-up of a key finds among the pairs of cells, blocks and buckets.
use Rattle.iso_hash.proofs.Words.{◌≡◌, ◌≢◌, ◌⊎◌, ◌∙◌, sym, refl, ap, subst, ℕ, zero, suc, ◌+◌, ◌<◌, ◌≤◌, Bool, true, false, cond, List, [], ◌∷◌, ◌++◌, Some, None, arith, inl, inr, flat_map, range_with_len, nat_cmp, eq_by_cmp, slice_cmp, nat_list_cmp_total, from_entries, get, get-from_entries, bytes_eq, cases_eq, cases_Bool, bytes_eq-Decides, Area, or_else, cell_count, text_of, is_unused, key_at, buckets, chain, pairs_from, pairs_of, bucket_pairs, all_pairs, IsIn, Stands}
pub use Rattle.iso_alloc.proofs.Finding.{ties, found_in, find_append, not_bytes_eq as bytes_other}

pub bytes_same : (x y : List ℕ) → bytes_eq x y ≡ true → x ≡ y
bytes_same x y is = (bytes_eq-Decides x y).0 is

-- keys are one or not
pub cases_key : (x y : List ℕ) → (x ≡ y) ⊎ (x ≢ y)
cases_key x y = elim (cases_Bool (bytes_eq x y)) [
  | inl is ↦ inl (bytes_same x y is)
  | inr not ↦ inr (λ e. Rattle.std.proofs.lemmas.Bool.both_ways (bytes_eq x y) not ((bytes_eq-Decides x y).1 e))
]

-- The look-up decides whether something has the key: it finds nothing, and nothing has it; or it finds a value that something has.
abbrev pub Seeks : (q : List ℕ) → List (List ℕ × List ℕ) → (List ℕ → Type 0) → Type 0
Seeks q pairs Has = ((found_in q pairs ≡ None) × ((v : List ℕ) → Has v → ⊥)) ⊎ ((v : List ℕ) × ((found_in q pairs ≡ Some v) × Has v))

seek_as : (q : List ℕ) (pairs : List (List ℕ × List ℕ)) (Has Other : List ℕ → Type 0) → ((v : List ℕ) → Has v → Other v) → ((v : List ℕ) → Other v → Has v)
    → Seeks q pairs Has → Seeks q pairs Other
seek_as q pairs Has Other to from (inl none) = inl (none.0, λ v has. none.1 v (from v has))
seek_as q pairs Has Other to from (inr some) = inr (some.0, (some.1.0, to some.0 some.1.1))

seek_append : (q : List ℕ) (xs ys : List (List ℕ × List ℕ)) (Has Other : List ℕ → Type 0) → Seeks q xs Has → Seeks q ys Other → Seeks q (xs ++ ys) (λ v. Has v ⊎ Other v)
seek_append q xs ys Has Other (inr some) second = inr (some.0, (find_append q xs ys ∙ ap (λ o. or_else o (found_in q ys)) some.1.0, inl some.1.1))
seek_append q xs ys Has Other (inl none) (inr some) = inr (some.0, (find_append q xs ys ∙ ap (λ o. or_else o (found_in q ys)) none.0 ∙ some.1.0, inr some.1.1))
seek_append q xs ys Has Other (inl none) (inl more) =
    inl (find_append q xs ys ∙ ap (λ o. or_else o (found_in q ys)) none.0 ∙ more.0, λ v has. elim has [ inl first ↦ none.1 v first | inr second ↦ more.1 v second ])

-- a used cell from i on, of n, that has the key and the value
pub record CellHas (keys : List ℕ) (value : ℕ → List ℕ) (q : List ℕ) (i n : ℕ) (v : List ℕ) : Type 0 where
  pub cell : ℕ
  pub low : i ≤ cell
  pub high : cell < i + n
  pub used : is_unused keys cell ≡ false
  pub key_is : key_at keys cell ≡ q
  pub text : text_of (value cell) ≡ v

later : (keys : List ℕ) (value : ℕ → List ℕ) (q : List ℕ) (i n : ℕ) (v : List ℕ) → CellHas keys value q (i + 1) n v → CellHas keys value q i (suc n) v
later keys value q i n v has = record { cell = has.cell; low = omega (arith, has.low); high = omega (arith, has.high); used = has.used; key_is = has.key_is; text = has.text }

-- another cell than the first
sooner : (keys : List ℕ) (value : ℕ → List ℕ) (q : List ℕ) (i n : ℕ) (v : List ℕ) → (is_unused keys i ≡ false → key_at keys i ≡ q → ⊥) → CellHas keys value q i (suc n) v → CellHas keys value q (i + 1) n v
sooner keys value q i n v not has = elim (cases_eq has.cell i) [
  | inl here ↦ absurd (not (subst (λ (j : ℕ). is_unused keys j ≡ false) here has.used) (subst (λ (j : ℕ). key_at keys j ≡ q) here has.key_is))
  | inr other ↦ record { cell = has.cell; low = omega (arith, has.low); high = omega (arith, has.high); used = has.used; key_is = has.key_is; text = has.text }
]

true_false : (t : Bool) → t ≡ true → t ≡ false → ⊥
true_false t first second = Rattle.std.proofs.lemmas.Bool.both_ways t second first

seek_cells : (q keys : List ℕ) (value : ℕ → List ℕ) (i n : ℕ) → Seeks q (pairs_from keys value i n) (CellHas keys value q i n)
seek_cells q keys value i zero = inl (refl, λ v has. absurd (omega (arith, has.low, has.high)))
seek_cells q keys value i (suc n) =
    elim (is_unused keys i) as (λ t. is_unused keys i ≡ t → Seeks q (cond t (pairs_from keys value (i + 1) n) ((key_at keys i, text_of (value i)) ∷ pairs_from keys value (i + 1) n)) (CellHas keys value q i (suc n))) [
      | true ↦ λ unused.
          seek_as q (pairs_from keys value (i + 1) n) (CellHas keys value q (i + 1) n) (CellHas keys value q i (suc n)) (later keys value q i n)
          (λ v has. sooner keys value q i n v (λ used e. true_false (is_unused keys i) unused used) has) (seek_cells q keys value (i + 1) n)
      | false ↦ λ used.
          elim (eq_by_cmp (slice_cmp nat_cmp) q (key_at keys i)) as (λ t. eq_by_cmp (slice_cmp nat_cmp) q (key_at keys i) ≡ t
          → ((cond t (Some (text_of (value i))) (found_in q (pairs_from keys value (i + 1) n)) ≡ None) × ((v : List ℕ) → CellHas keys value q i (suc n) v → ⊥))
          ⊎ ((v : List ℕ) × ((cond t (Some (text_of (value i))) (found_in q (pairs_from keys value (i + 1) n)) ≡ Some v) × CellHas keys value q i (suc n) v))) [
            | true ↦ λ tie.
                inr (text_of (value i), (refl, record { cell = i; low = omega arith; high = omega arith; used = used; key_is = sym (bytes_same q (key_at keys i) (sym (ties q (key_at keys i)) ∙ tie)); text = refl }))
            | false ↦ λ tie.
                seek_as q (pairs_from keys value (i + 1) n) (CellHas keys value q (i + 1) n) (CellHas keys value q i (suc n)) (later keys value q i n)
                (λ v has. sooner keys value q i n v (λ u e. true_false (bytes_eq q (key_at keys i)) ((bytes_eq-Decides q (key_at keys i)).1 (sym e)) (sym (ties q (key_at keys i)) ∙ tie)) has) (seek_cells q keys value (i + 1) n)
          ] refl
    ] refl

-- a block of the list with such a cell
record BlockHas (a : Area) (keys : ℕ → List ℕ) (value : ℕ → ℕ → List ℕ) (q : List ℕ) (blocks : List ℕ) (v : List ℕ) : Type 0 where
  block : ℕ
  is_in : IsIn block blocks
  has : CellHas (keys block) (value block) q 0 (cell_count a.size) v

in_first : (a : Area) (keys : ℕ → List ℕ) (value : ℕ → ℕ → List ℕ) (q : List ℕ) (k : ℕ) (blocks : List ℕ) (v : List ℕ)
    → CellHas (keys k) (value k) q 0 (cell_count a.size) v ⊎ BlockHas a keys value q blocks v → BlockHas a keys value q (k ∷ blocks) v
in_first a keys value q k blocks v (inl has) = record { block = k; is_in = inl refl; has = has }
in_first a keys value q k blocks v (inr rest) = record { block = rest.block; is_in = inr rest.is_in; has = rest.has }

from_first : (a : Area) (keys : ℕ → List ℕ) (value : ℕ → ℕ → List ℕ) (q : List ℕ) (k : ℕ) (blocks : List ℕ) (v : List ℕ) (b : ℕ) → (k ≡ b) ⊎ IsIn b blocks
    → CellHas (keys b) (value b) q 0 (cell_count a.size) v → CellHas (keys k) (value k) q 0 (cell_count a.size) v ⊎ BlockHas a keys value q blocks v
from_first a keys value q k blocks v b (inl same) has = inl (subst (λ (m : ℕ). CellHas (keys m) (value m) q 0 (cell_count a.size) v) (sym same) has)
from_first a keys value q k blocks v b (inr rest) has = inr (record { block = b; is_in = rest; has = has })

seek_blocks : (a : Area) (q : List ℕ) (keys : ℕ → List ℕ) (value : ℕ → ℕ → List ℕ) (blocks : List ℕ) → Seeks q (pairs_of a keys value blocks) (BlockHas a keys value q blocks)
seek_blocks a q keys value [] = inl (refl, λ v has. absurd has.is_in)
seek_blocks a q keys value (k ∷ blocks) =
    seek_as q (pairs_of a keys value (k ∷ blocks)) (λ v. CellHas (keys k) (value k) q 0 (cell_count a.size) v ⊎ BlockHas a keys value q blocks v) (BlockHas a keys value q (k ∷ blocks))
    (in_first a keys value q k blocks) (λ v has. from_first a keys value q k blocks v has.block has.is_in has.has)
    (seek_append q (pairs_from (keys k) (value k) 0 (cell_count a.size)) (pairs_of a keys value blocks) (CellHas (keys k) (value k) q 0 (cell_count a.size)) (BlockHas a keys value q blocks)
    (seek_cells q (keys k) (value k) 0 (cell_count a.size)) (seek_blocks a q keys value blocks))

-- a bucket from one on, of n, with such a block
record BucketHas (a : Area) (keys : ℕ → List ℕ) (value : ℕ → ℕ → List ℕ) (q : List ℕ) (from n : ℕ) (v : List ℕ) : Type 0 where
  bucket : ℕ
  low : from ≤ bucket
  high : bucket < from + n
  has : BlockHas a keys value q (chain a keys bucket) v

seek_buckets : (a : Area) (q : List ℕ) (keys : ℕ → List ℕ) (value : ℕ → ℕ → List ℕ) (from n : ℕ) → Seeks q (flat_map (bucket_pairs a keys value) (range_with_len from n)) (BucketHas a keys value q from n)
seek_buckets a q keys value from zero = inl (refl, λ v has. absurd (omega (arith, has.low, has.high)))
seek_buckets a q keys value from (suc n) =
    seek_as q (flat_map (bucket_pairs a keys value) (range_with_len from (suc n))) (λ v. BlockHas a keys value q (chain a keys from) v ⊎ BucketHas a keys value q (from + 1) n v) (BucketHas a keys value q from (suc n))
    (λ v has. elim has [
      | inl here ↦ record { bucket = from; low = omega arith; high = omega arith; has = here }
      | inr rest ↦ record { bucket = rest.bucket; low = omega (arith, rest.low); high = omega (arith, rest.high); has = rest.has }
    ])
    (λ v has. elim (cases_eq has.bucket from) [
      | inl here ↦ inl (subst (λ (b : ℕ). BlockHas a keys value q (chain a keys b) v) here has.has)
      | inr other ↦ inr (record { bucket = has.bucket; low = omega (arith, has.low); high = omega (arith, has.high); has = has.has })
    ])
    (seek_append q (bucket_pairs a keys value from) (flat_map (bucket_pairs a keys value) (range_with_len (from + 1) n)) (BlockHas a keys value q (chain a keys from)) (BucketHas a keys value q (from + 1) n)
    (seek_blocks a q keys value (chain a keys from)) (seek_buckets a q keys value (from + 1) n))

-- a used cell of a linked block that has the key and the value
pub record Holds (a : Area) (keys : ℕ → List ℕ) (value : ℕ → ℕ → List ℕ) (q v : List ℕ) : Type 0 where
  pub bucket : ℕ
  pub block : ℕ
  pub cell : ℕ
  pub stands : Stands a keys bucket block cell
  pub key_is : key_at (keys block) cell ≡ q
  pub text : text_of (value block cell) ≡ v

-- the look-up in the map of a region
pub seek : (a : Area) (q : List ℕ) (keys : ℕ → List ℕ) (value : ℕ → ℕ → List ℕ) → Seeks q (all_pairs a keys value) (Holds a keys value q)
seek a q keys value =
    seek_as q (all_pairs a keys value) (BucketHas a keys value q 0 (buckets a)) (Holds a keys value q)
    (λ v has. record {
      bucket = has.bucket;
      block = has.has.block;
      cell = has.has.has.cell;
      stands = record { bucket_is = omega (arith, has.high); block_is = has.has.is_in; cell_is = omega (arith, has.has.has.high); used = has.has.has.used };
      key_is = has.has.has.key_is;
      text = has.has.has.text;
    })
    (λ v has. record {
      bucket = has.bucket;
      low = omega arith;
      high = omega (arith, has.stands.bucket_is);
      has = record { block = has.block; is_in = has.stands.block_is; has = record { cell = has.cell; low = omega arith; high = omega (arith, has.stands.cell_is); used = has.stands.used; key_is = has.key_is; text = has.text } };
    })
    (seek_buckets a q keys value 0 (buckets a))

-- no key is twice
abbrev pub AreApart : Area → (ℕ → List ℕ) → Type 0
AreApart a keys = (b k i c l j : ℕ) → Stands a keys b k i → Stands a keys c l j → key_at (keys k) i ≡ key_at (keys l) j → (k ≡ l) × (i ≡ j)

-- a key that is somewhere is found with its value
pub finds_it : (a : Area) (keys : ℕ → List ℕ) (value : ℕ → ℕ → List ℕ) (q : List ℕ) (b k i : ℕ) → AreApart a keys → Stands a keys b k i → key_at (keys k) i ≡ q
    → found_in q (all_pairs a keys value) ≡ Some (text_of (value k i))
finds_it a keys value q b k i apart stands is = elim (seek a q keys value) [
  | inl none ↦ absurd (none.1 (text_of (value k i)) (record { bucket = b; block = k; cell = i; stands = stands; key_is = is; text = refl }))
  | inr some ↦
      (let has = some.1.1 in
      let same = apart has.bucket has.block has.cell b k i has.stands stands (has.key_is ∙ sym is) in
      some.1.0 ∙ ap (λ v. Some v) (sym has.text ∙ ap (λ (m : ℕ). text_of (value m has.cell)) same.0 ∙ ap (λ (j : ℕ). text_of (value k j)) same.1))
]

-- a key that is nowhere is not found
pub finds_none : (a : Area) (keys : ℕ → List ℕ) (value : ℕ → ℕ → List ℕ) (q : List ℕ) → ((b k i : ℕ) → Stands a keys b k i → key_at (keys k) i ≡ q → ⊥) → found_in q (all_pairs a keys value) ≡ None
finds_none a keys value q missing = grind (arith, seek) steps 100000

-- the map of the pairs gives what the look-up finds
pub map_gets : (a : Area) (keys : ℕ → List ℕ) (value : ℕ → ℕ → List ℕ) (q : List ℕ) → get (from_entries {R = slice_cmp nat_cmp} (all_pairs a keys value)) q ≡ found_in q (all_pairs a keys value)
map_gets a keys value q = get-from_entries nat_list_cmp_total (all_pairs a keys value) q
