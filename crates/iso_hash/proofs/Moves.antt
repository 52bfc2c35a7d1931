-- A change of the cells of a region: its keys stay apart, and its map has one key changed.
use Rattle.iso_hash.proofs.{Words.{arith, ◌≡◌, ◌≢◌, ◌∙◌, sym, refl, ap, ℕ, true, false, cond, List, Some, None, inl, inr, nat_cmp, eq_by_cmp, slice_cmp, nat_list_cmp_total, from_entries, get, insert, remove, get-insert, get-remove, same_map, slice_cmp-IsAntisymmetric, nat_cmp-IsAntisymmetric, bytes_eq-Decides, Area, Spot, text_of, key_at, Pairs, bucket_of, all_pairs, Stands}, Finding.{ties, bytes_other, cases_key, found_in, seek, AreApart, finds_it, finds_none, map_gets}}

-- the cell is in another region too, with the same key and value
pub record IsSame (a : Area) (keys new : ℕ → List ℕ) (value given : ℕ → ℕ → List ℕ) (b k i : ℕ) : Type 0 where
  pub stands : Stands a new b k i
  pub key_is : key_at (new k) i ≡ key_at (keys k) i
  pub value_is : given k i ≡ value k i

-- the used cells with other keys than this one are the same
pub record Moves (a : Area) (keys new : ℕ → List ℕ) (value given : ℕ → ℕ → List ℕ) (key : List ℕ) : Type 0 where
  pub kept : (b k i : ℕ) → Stands a keys b k i → key_at (keys k) i ≢ key → IsSame a keys new value given b k i
  pub old : (b k i : ℕ) → Stands a new b k i → key_at (new k) i ≢ key → IsSame a new keys given value b k i

-- each key is in its bucket
abbrev pub InBuckets : Area → (ℕ → List ℕ) → Type 0
InBuckets a keys = (b k i : ℕ) → Stands a keys b k i → bucket_of a (key_at (keys k) i) ≡ b

-- the key is in this cell of its bucket, and nowhere else
pub record StandsAt (a : Area) (new : ℕ → List ℕ) (key : List ℕ) (at : Spot) : Type 0 where
  pub here : Stands a new (bucket_of a key) at.block at.cell
  pub key_is : key_at (new at.block) at.cell ≡ key
  pub only : (b k i : ℕ) → Stands a new b k i → key_at (new k) i ≡ key → (b ≡ bucket_of a key) × ((k ≡ at.block) × (i ≡ at.cell))

-- the key is nowhere
abbrev pub StandsNowhere : Area → (ℕ → List ℕ) → List ℕ → Type 0
StandsNowhere a new key = (b k i : ℕ) → Stands a new b k i → key_at (new k) i ≢ key

module _ (a : Area) (keys new : ℕ → List ℕ) (value given : ℕ → ℕ → List ℕ) (key : List ℕ) (moves : Moves a keys new value given key) (in_bucket : InBuckets a keys) (apart : AreApart a keys) where
  bucket_kept : (b k i : ℕ) → Stands a new b k i → key_at (new k) i ≢ key → bucket_of a (key_at (new k) i) ≡ b
  bucket_kept b k i stands other = let is = moves.old b k i stands other in ap (bucket_of a) (sym is.key_is) ∙ in_bucket b k i is.stands

  apart_kept : (b k i c l j : ℕ) → Stands a new b k i → Stands a new c l j → key_at (new k) i ≡ key_at (new l) j → key_at (new k) i ≢ key → (k ≡ l) × (i ≡ j)
  apart_kept b k i c l j one two same other = grind arith steps 100000

  -- other keys are found as before
  found_alike : AreApart a new → (q : List ℕ) → q ≢ key → found_in q (all_pairs a new given) ≡ found_in q (all_pairs a keys value)
  found_alike apart_new q other = elim (seek a q keys value) [
    | inr some ↦
        (let has = some.1.1 in
        let is = moves.kept has.bucket has.block has.cell has.stands (λ e. other (sym has.key_is ∙ e)) in
        finds_it a new given q has.bucket has.block has.cell apart_new is.stands (is.key_is ∙ has.key_is) ∙ ap (λ v. Some (text_of v)) is.value_is ∙ ap (λ v. Some v) has.text ∙ sym some.1.0)
    | inl none ↦
        finds_none a new given q (λ b k i stands e.
        let is = moves.old b k i stands (λ f. other (sym e ∙ f)) in
        none.1 (text_of (value k i)) (record { bucket = b; block = k; cell = i; stands = is.stands; key_is = is.key_is ∙ e; text = refl })) ∙ sym none.0
  ]

  pub buckets_at : (at : Spot) → StandsAt a new key at → InBuckets a new
  buckets_at at stands_at b k i stands = grind (arith, cases_key, bucket_kept)

  pub apart_at : (at : Spot) → StandsAt a new key at → AreApart a new
  apart_at at stands_at b k i c l j one two same = elim (cases_key (key_at (new k) i) key) [
    | inl is ↦
        (let first = (stands_at.only b k i one is).1 in
        let second = (stands_at.only c l j two (sym same ∙ is)).1 in
        (first.0 ∙ sym second.0, first.1 ∙ sym second.1))
    | inr other ↦ apart_kept b k i c l j one two same other
  ]

  pub buckets_nowhere : StandsNowhere a new key → InBuckets a new
  buckets_nowhere nowhere b k i stands = bucket_kept b k i stands (nowhere b k i stands)

  pub apart_nowhere : StandsNowhere a new key → AreApart a new
  apart_nowhere nowhere b k i c l j one two same = apart_kept b k i c l j one two same (nowhere b k i one)

  -- the map after a put of the key
  pub map_put : (at : Spot) (v : List ℕ) → StandsAt a new key at → text_of (given at.block at.cell) ≡ v
      → from_entries {R = slice_cmp nat_cmp} (all_pairs a new given) ≡ insert (from_entries (all_pairs a keys value)) key v
  map_put at v stands_at text = same_map nat_list_cmp_total (slice_cmp-IsAntisymmetric nat_cmp-IsAntisymmetric) _ _ (λ q.
      let old : Pairs = from_entries (all_pairs a keys value) in
      map_gets a new given q ∙ elim (cases_key q key) [
        | inl is ↦
            (let pass : eq_by_cmp (slice_cmp nat_cmp) q key ≡ true = ties q key ∙ (bytes_eq-Decides q key).1 is in
            finds_it a new given q (bucket_of a key) at.block at.cell (apart_at at stands_at) stands_at.here (stands_at.key_is ∙ sym is) ∙ ap (λ x. Some x) text
            ∙ sym (get-insert nat_list_cmp_total old key v q ∙ ap (λ t. cond t (Some v) (get old q)) pass))
        | inr other ↦
            (let fail : eq_by_cmp (slice_cmp nat_cmp) q key ≡ false = ties q key ∙ bytes_other q key other in
            found_alike (apart_at at stands_at) q other ∙ sym (map_gets a keys value q)
            ∙ sym (get-insert nat_list_cmp_total old key v q ∙ ap (λ t. cond t (Some v) (get old q)) fail))
      ])

  -- the map after a removal of the key
  pub map_removed : StandsNowhere a new key → from_entries {R = slice_cmp nat_cmp} (all_pairs a new given) ≡ remove (from_entries (all_pairs a keys value)) key
  map_removed nowhere = same_map nat_list_cmp_total (slice_cmp-IsAntisymmetric nat_cmp-IsAntisymmetric) _ _ (λ q.
      let old : Pairs = from_entries (all_pairs a keys value) in
      map_gets a new given q ∙ elim (cases_key q key) [
        | inl is ↦
            (let pass : eq_by_cmp (slice_cmp nat_cmp) q key ≡ true = ties q key ∙ (bytes_eq-Decides q key).1 is in
            finds_none a new given q (λ b k i stands e. nowhere b k i stands (e ∙ is))
            ∙ sym (get-remove nat_list_cmp_total old key q ∙ ap (λ t. cond t None (get old q)) pass))
        | inr other ↦
            (let fail : eq_by_cmp (slice_cmp nat_cmp) q key ≡ false = ties q key ∙ bytes_other q key other in
            found_alike (apart_nowhere nowhere) q other ∙ sym (map_gets a keys value q)
            ∙ sym (get-remove nat_list_cmp_total old key q ∙ ap (λ t. cond t None (get old q)) fail))
      ])
