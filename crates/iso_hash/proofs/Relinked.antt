-- One block of a chain gets another next number, and the other linked blocks stay: what stays of the region.
use Rattle.iso_hash.proofs.{Words.{◌≡◌, ◌≢◌, ◌∙◌, sym, refl, ap, subst, ℕ, ◌+◌, ◌<◌, true, IsTrue, List, [], ◌∷◌, ◌++◌, length, arith, inl, inr, list_all, cases_eq, Area, Array, merged, block_at, bytes_in, cell_count, keys_mark, key_mark, value_mark, next_mark, word_at, is_zero, is_part, is_unused, view_of, buckets, last_position, next_of, is_next, is_linked, chain, IsIn, AreLinked, Stands, IsHashRegion, IsHashArea, in_front}, Chains.{placed, one_bucket, linked_split, linked_join, linked_alike, LinkedAlike, length-chain_from, not_twice}, Linking.{chain_of, piece_far, key_far, next_here, relinked}, Moves.IsSame}

pub some_in : (a : Area) (A : Array) (region : IsHashRegion a A) (b k : ℕ) → b < buckets a → IsIn k (chain a (view_of a A).keys b) → 0 < k
some_in a A region b k below has = (placed a (view_of a A).keys b 0 (chain a (view_of a A).keys b) (1 + b) 0 k (region.keyed.linked b below) has).some

pub first_long : (a : Area) (A : Array) (area : IsHashArea a) (region : IsHashRegion a A) → length (block_at A a.start) ≡ a.size
first_long a A area region = let e : a.start + 0 ≡ a.start = omega arith in ap (λ (n : ℕ). length (block_at A n)) (sym e) ∙ region.shape 0 (omega (arith, area.least))

-- the block that is linked anew, and the others
pub record IsRelinked (a : Area) (A B : Array) (bucket link : ℕ) (bytes : List ℕ) : Type 0 where
  pub below : bucket < buckets a
  pub has_link : IsIn link (chain a (view_of a A).keys bucket)
  pub far : (b k : ℕ) → b < buckets a → IsIn k (chain a (view_of a A).keys b) → k ≢ link → block_at B (a.start + k) ≡ block_at A (a.start + k)
  pub at_link : block_at B (a.start + link) ≡ merged (next_mark ∷ []) 0 (block_at A (a.start + link)) bytes
  pub long : length bytes ≡ length (block_at A (a.start + link))

module _ (a : Area) (A B : Array) (bucket link : ℕ) (bytes : List ℕ) (region : IsHashRegion a A) (is : IsRelinked a A B bucket link bytes) where
  keys_far : (b k : ℕ) → b < buckets a → IsIn k (chain a (view_of a A).keys b) → k ≢ link → (view_of a B).keys k ≡ (view_of a A).keys k
  keys_far b k below has other = ap (bytes_in (keys_mark a.size)) (is.far b k below has other)

  keys_link : (view_of a B).keys link ≡ bytes_in (keys_mark a.size) (merged (next_mark ∷ []) 0 (block_at A (a.start + link)) bytes)
  keys_link = ap (bytes_in (keys_mark a.size)) is.at_link

  -- the chains of other buckets
  linked_other : (c : ℕ) → c < buckets a → c ≢ bucket → AreLinked a (view_of a B).keys c 0 (chain a (view_of a A).keys c) (1 + c) 0
  linked_other c below other = linked_alike a (view_of a A).keys (view_of a B).keys c 0 (chain a (view_of a A).keys c) (1 + c) 0 (λ k p has linked.
      let same = keys_far c k below has (λ e. other (one_bucket a (view_of a A).keys c bucket link (region.keyed.linked c below) (region.keyed.linked bucket is.below) (subst (λ (m : ℕ). IsIn m (chain a (view_of a A).keys c)) e has) is.has_link)) in
      (ap (is_linked a c p) same ∙ linked, ap next_of same)) (region.keyed.linked c below)

  pub chain_other : (c : ℕ) → c < buckets a → c ≢ bucket → chain a (view_of a B).keys c ≡ chain a (view_of a A).keys c
  chain_other c below other = chain_of a (view_of a B).keys c (chain a (view_of a A).keys c) (linked_other c below other) (length-chain_from (view_of a A).keys (last_position a + 1) (1 + c))

  -- the bucket's own chain, which has other blocks after the one that is linked anew
  module _ (front tail : List ℕ) (are : chain a (view_of a A).keys bucket ≡ front ++ (link ∷ tail)) where
    whole : AreLinked a (view_of a A).keys bucket 0 (front ++ (link ∷ tail)) (1 + bucket) 0
    whole = subst (λ (blocks : List ℕ). AreLinked a (view_of a A).keys bucket 0 blocks (1 + bucket) 0) are (region.keyed.linked bucket is.below)

    front_alike : LinkedAlike a (view_of a A).keys (view_of a B).keys bucket front
    front_alike k p has linked =
        let same = keys_far bucket k is.below (subst (IsIn k) (sym are) (in_front k front (link ∷ tail) has)) (λ e. not_twice a (view_of a A).keys bucket 0 front (link ∷ tail) (1 + bucket) 0 link whole (subst (λ (m : ℕ). IsIn m front) e has) (inl refl)) in
        (ap (is_linked a bucket p) same ∙ linked, ap next_of same)

    pub linked_anew : (rest : List ℕ) (next : ℕ) → word_at 0 bytes ≡ next → is_next a (0 + length front) next ≡ true → AreLinked a (view_of a B).keys bucket (0 + length front + 1) rest next 0
        → AreLinked a (view_of a B).keys bucket 0 (front ++ (link ∷ rest)) (1 + bucket) 0
    linked_anew rest next word may behind =
        let split = linked_split a (view_of a A).keys bucket 0 front (link ∷ tail) (1 + bucket) 0 whole in
        let old = split.1.1 in
        let now : is_linked a bucket (0 + length front) ((view_of a B).keys link) ≡ true =
        ap (is_linked a bucket (0 + length front)) keys_link ∙ relinked a (block_at A (a.start + link)) bytes is.long bucket (0 + length front) next old.2 word may in
        let next_is : next_of ((view_of a B).keys link) ≡ next = ap next_of keys_link ∙ next_here a (block_at A (a.start + link)) bytes is.long ∙ word in
        linked_join a (view_of a B).keys bucket 0 front (link ∷ rest) (1 + bucket) split.0 0 (linked_alike a (view_of a A).keys (view_of a B).keys bucket 0 front (1 + bucket) split.0 front_alike split.1.0)
        (old.0, some_in a A region bucket link is.below is.has_link, now, subst (λ (n : ℕ). AreLinked a (view_of a B).keys bucket (0 + length front + 1) rest n 0) (sym next_is) behind)

  pub linked_all : (blocks : List ℕ) → AreLinked a (view_of a B).keys bucket 0 blocks (1 + bucket) 0 → chain a (view_of a B).keys bucket ≡ blocks
      → (b : ℕ) → b < buckets a → AreLinked a (view_of a B).keys b 0 (chain a (view_of a B).keys b) (1 + b) 0
  linked_all blocks linked are b below = grind (arith, chain_other, linked_other) steps 100000

  -- the cells of a block that was linked before
  key_kept : (b k i : ℕ) → b < buckets a → IsIn k (chain a (view_of a A).keys b) → i < cell_count a.size → bytes_in (key_mark i) ((view_of a B).keys k) ≡ bytes_in (key_mark i) ((view_of a A).keys k)
  key_kept b k i below has cell = grind (arith, keys_far, keys_link, key_far) steps 100000

  value_kept : (b k i : ℕ) → b < buckets a → IsIn k (chain a (view_of a A).keys b) → (view_of a B).value k i ≡ (view_of a A).value k i
  value_kept b k i below has = elim (cases_eq k link) [
    | inr other ↦ ap (bytes_in (value_mark a.size i)) (is.far b k below has other)
    | inl same ↦ subst (λ (m : ℕ). (view_of a B).value m i ≡ (view_of a A).value m i) (sym same)
        (ap (bytes_in (value_mark a.size i)) is.at_link ∙ piece_far a (block_at A (a.start + link)) bytes is.long (value_mark a.size i) (omega arith))
  ]

  pub stays_same : (b k i : ℕ) → Stands a (view_of a A).keys b k i → IsIn k (chain a (view_of a B).keys b) → IsSame a (view_of a A).keys (view_of a B).keys (view_of a A).value (view_of a B).value b k i
  stays_same b k i there now = grind (arith, key_kept, value_kept) steps 100000

  pub was_same : (b k i : ℕ) → Stands a (view_of a B).keys b k i → IsIn k (chain a (view_of a A).keys b) → IsSame a (view_of a B).keys (view_of a A).keys (view_of a B).value (view_of a A).value b k i
  was_same b k i there old = grind (arith, key_kept, value_kept) steps 100000

  pub values_old : (b k i : ℕ) → b < buckets a → IsIn k (chain a (view_of a A).keys b) → i < cell_count a.size
      → IsTrue (is_part 32 ((view_of a B).value k i)) × (IsTrue (is_unused ((view_of a B).keys k) i) → IsTrue (list_all is_zero ((view_of a B).value k i)))
  values_old b k i below old cell = grind (arith, value_kept, key_kept) steps 100000
