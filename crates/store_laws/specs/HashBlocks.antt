-- A hash region depends on the blocks of its area alone.
use Rattle.std.{proofs.Common.{◌≡◌, ◌∙◌, sym, refl, ap, subst, ℕ, zero, suc, ◌+◌, ◌<◌, true, List, [], ◌∷◌, ◌++◌, length, arith, inl, inr}, specs.List.{flat_map, list_all, range_with_len}, specs.FinMap.from_entries}
use Rattle.store_model.{specs.declared.stores.Area.Area, specs.Cells.{cell_count, is_part, is_unused, is_zero, key_at, keys_mark, value_mark}, specs.FreeMap.map_bit, specs.HashRegion.{AreLinked, HaveValues, IsHashArea, IsHashRegion, IsIn, IsKeyed, IsOverflow, Stands, bucket_of, bucket_pairs, buckets, chain, hash_map, is_linked, last_position, next_of, pairs_from, view_of}, specs.Stores.bytes_in, proofs.AreaBlocks.{same_block, same_first}, specs.Areas.in_area}
use Rattle.iso_model.specs.{Array.Array, Premises.block_at}
use Rattle.iso_hash.proofs.{Chains.{block_inside, length-chain_from, linked_alike}, Linking.chain_of}
use Rattle.store_laws.specs.{Hash.hash_store, Region.IsOfItsBlocks}

-- what is done over a list, or over a range, is the same where each step is
same_over : {X : Type 0} (f g : ℕ → List X) (xs : List ℕ) → ((k : ℕ) → IsIn k xs → f k ≡ g k) → flat_map f xs ≡ flat_map g xs
same_over f g [] same = refl
same_over f g (x ∷ xs) same = ap (λ first. first ++ flat_map f xs) (same x (inl refl)) ∙ ap (λ rest. g x ++ rest) (same_over f g xs (λ k has. same k (inr has)))

same_in_range : {X : Type 0} (f g : ℕ → List X) (from n : ℕ) → ((k : ℕ) → k < from + n → f k ≡ g k) → flat_map f (range_with_len from n) ≡ flat_map g (range_with_len from n)
same_in_range f g from zero same = refl
same_in_range f g from (suc n) same =
    ap (λ first. first ++ flat_map f (range_with_len (from + 1) n)) (same from (omega arith))
    ∙ ap (λ rest. g from ++ rest) (same_in_range f g (from + 1) n (λ k below. same k (omega arith)))

module _ (a : Area) (A B : Array) (area : IsHashArea a) (same : (b : ℕ) → in_area a b ≡ true → block_at B b ≡ block_at A b) (region : IsHashRegion a A) where
  old : ℕ → List ℕ
  old = (view_of a A).keys

  new : ℕ → List ℕ
  new = (view_of a B).keys

  same_keys : (k : ℕ) → k < a.blocks → new k ≡ old k
  unfolding new old
  same_keys k below = ap (bytes_in (keys_mark a.size)) (same_block a A B same k below)

  same_value : (k i : ℕ) → k < a.blocks → (view_of a B).value k i ≡ (view_of a A).value k i
  same_value k i below = ap (bytes_in (value_mark a.size i)) (same_block a A B same k below)

  first_kept : (view_of a B).first ≡ (view_of a A).first
  first_kept = same_first a A B same (let least = area.least in omega arith)

  in_chain : (b k : ℕ) → b < buckets a → IsIn k (chain a old b) → k < a.blocks
  unfolding old
  in_chain b k below has = block_inside a (view_of a A).keys b k area below (region.keyed.linked b below) has

  linked_new : (b : ℕ) → b < buckets a → AreLinked a new b 0 (chain a old b) (1 + b) 0
  unfolding old
  linked_new b below = linked_alike a (view_of a A).keys new b 0 (chain a (view_of a A).keys b) (1 + b) 0
      (λ k p has linked.
      let is = same_keys k (in_chain b k below has) in
      (ap (is_linked a b p) is ∙ linked, ap next_of is))
      (region.keyed.linked b below)

  same_chain : (b : ℕ) → b < buckets a → chain a new b ≡ chain a old b
  same_chain b below = chain_of a new b (chain a old b) (linked_new b below) (length-chain_from old (last_position a + 1) (1 + b))

  stands_old : (b k i : ℕ) → Stands a new b k i → Stands a old b k i
  stands_old b k i stands =
      let has = subst (IsIn k) (same_chain b stands.bucket_is) stands.block_is in
      record {
        bucket_is = stands.bucket_is;
        block_is = has;
        cell_is = stands.cell_is;
        used = ap (λ (keys : List ℕ). is_unused keys i) (sym (same_keys k (in_chain b k stands.bucket_is has))) ∙ stands.used;
      }

  key_old : (b k i : ℕ) → Stands a new b k i → key_at (new k) i ≡ key_at (old k) i
  key_old b k i stands = ap (λ (keys : List ℕ). key_at keys i) (same_keys k (in_chain b k stands.bucket_is (subst (IsIn k) (same_chain b stands.bucket_is) stands.block_is)))

  overflow_new : (k : ℕ) → IsOverflow a old k → IsOverflow a new k
  overflow_new k is = record { bucket = is.bucket; below = is.below; linked = subst (IsIn k) (sym (same_chain is.bucket is.below)) is.linked; past = is.past }

  overflow_old : (k : ℕ) → IsOverflow a new k → IsOverflow a old k
  overflow_old k is = record { bucket = is.bucket; below = is.below; linked = subst (IsIn k) (same_chain is.bucket is.below) is.linked; past = is.past }

  keyed_new : IsKeyed a new (view_of a B).first
  unfolding old
  keyed_new =
      let was = region.keyed in
      record {
        linked = λ b below. subst (λ (blocks : List ℕ). AreLinked a new b 0 blocks (1 + b) 0) (sym (same_chain b below)) (linked_new b below);
        bits = λ k below.
            let here = was.bits k below in
            let bit : map_bit (view_of a B).first k ≡ map_bit (view_of a A).first k = ap (λ (first : List ℕ). map_bit first k) first_kept in
            (λ set. overflow_new k (here.0 (sym bit ∙ set)), λ is. bit ∙ here.1 (overflow_old k is));
        head = ap (λ (first : List ℕ). list_all is_zero (Rattle.std.proofs.Common.take 64 first)) first_kept ∙ was.head;
        in_bucket = λ b k i stands. ap (bucket_of a) (key_old b k i stands) ∙ was.in_bucket b k i (stands_old b k i stands);
        apart = λ b k i c l j one two e.
            was.apart b k i c l j (stands_old b k i one) (stands_old c l j two) (sym (key_old b k i one) ∙ e ∙ key_old c l j two);
      }

  values_new : HaveValues a new (view_of a B).value
  unfolding old
  values_new b k i below has cell =
      let there = subst (IsIn k) (same_chain b below) has in
      let in_it = in_chain b k below there in
      let was = region.values b k i below there cell in (
        ap (is_part 32) (same_value k i in_it) ∙ was.0,
        λ unused. ap (list_all is_zero) (same_value k i in_it) ∙ was.1 (ap (λ (keys : List ℕ). is_unused keys i) (sym (same_keys k in_it)) ∙ unused),
      )

  pub region_new : IsHashRegion a B
  unfolding new
  region_new = record {
    shape = λ k below. ap length (same_block a A B same k below) ∙ region.shape k below;
    keyed = keyed_new;
    values = values_new;
  }

  same_pairs : (k : ℕ) → k < a.blocks → pairs_from (new k) ((view_of a B).value k) 0 (cell_count a.size) ≡ pairs_from (old k) ((view_of a A).value k) 0 (cell_count a.size)
  same_pairs k below =
      let values : (view_of a B).value k ≡ (view_of a A).value k = λ j. λ i. same_value k i below j in
      ap (λ (keys : List ℕ). pairs_from keys ((view_of a B).value k) 0 (cell_count a.size)) (same_keys k below)
      ∙ ap (λ (value : ℕ → List ℕ). pairs_from (old k) value 0 (cell_count a.size)) values

  same_bucket : (b : ℕ) → b < buckets a → bucket_pairs a new (view_of a B).value b ≡ bucket_pairs a old (view_of a A).value b
  same_bucket b below =
      ap (flat_map (λ k. pairs_from (new k) ((view_of a B).value k) 0 (cell_count a.size))) (same_chain b below)
      ∙ same_over _ _ (chain a old b) (λ k has. same_pairs k (in_chain b k below has))

  pub map_new : hash_map a B ≡ hash_map a A
  unfolding hash_map new old
  map_new = ap from_entries (same_in_range (bucket_pairs a (view_of a B).keys (view_of a B).value) (bucket_pairs a (view_of a A).keys (view_of a A).value) 0 (buckets a) (λ b below. same_bucket b (omega arith)))

pub hash_is_of_its_blocks : (a : Area) → IsHashArea a → IsOfItsBlocks (hash_store a)
hash_is_of_its_blocks a area = record {
  well_formed = λ A B same region. region_new a A B area same region;
  map_is = λ A B same region. map_new a A B area same region;
}
