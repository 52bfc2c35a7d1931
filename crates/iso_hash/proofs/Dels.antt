-- A removal of a cell, and one that gives its block back: the region stays well formed, and its map loses the key.
use Rattle.iso_hash.proofs.{Words.{◌≡◌, ◌≢◌, ◌↔◌, ◌∙◌, sym, refl, ap, subst, ℕ, ◌+◌, ◌*◌, ◌<◌, ◌≤◌, true, false, ◌&&◌, ◌||◌, ◌==◌, not, IsTrue, List, [], ◌∷◌, ◌++◌, length, get_or, take, replicate, arith, inl, inr, eq-eqb, ne_eqb, length-append, append_assoc, list_all, remove, cases_eq, both_ways, and_parts, and_from, or_cases, eqb-true, length-replicate, Area, Spot, Array, merged, put, block_at, bytes_in, store_access, cell_count, key_mark, value_mark, next_mark, word_at, is_zero, is_part, is_unused, key_at, block_with, map_bytes, bit_place, bit_mark, map_bit, clear_bit, view_of, buckets, bucket_of, last_position, chain, hash_map, IsIn, AreLinked, Stands, IsOverflow, HaveValues, IsHashRegion, IsHashArea, is_alone, length-block_put, written_block, other_block, bits_without, all_at, zero_part, zeros_are, piece_zero, byte_here, byte_far, head_far, in_front, in_back, in_cases}, Chains.{placed, block_inside, one_bucket, length-chain_from, not_twice}, Linking.chain_of, Moves.{IsSame, Moves, StandsNowhere, map_removed, buckets_nowhere, apart_nowhere}, Relinked.{IsRelinked, some_in, first_long, chain_other, linked_anew, linked_all, stays_same, was_same, values_old}, Rewritten.{IsRewritten, rewrites, linked_kept, bits_kept, same_there, same_before, values_kept}}

-- what a removal leaves
pub record HasRemoved (a : Area) (key : List ℕ) (A B : Array) : Type 0 where
  pub region : IsHashRegion a B
  pub map_is : hash_map a B ≡ remove (hash_map a A) key

-- the cell alone is made zero
module _ (a : Area) (key : List ℕ) (A : Array) (s : Spot) (area : IsHashArea a) (region : IsHashRegion a A)
    (stands : Stands a (view_of a A).keys (bucket_of a key) s.block s.cell) (key_is : key_at ((view_of a A).keys s.block) s.cell ≡ key) where
  abbrev zeros : List ℕ
  zeros = replicate a.size 0

  abbrev C : Array
  C = put A (store_access (a.start + s.block) (key_mark s.cell ∷ value_mark a.size s.cell ∷ []) zeros)

  some : 0 < s.block
  some = (placed a (view_of a A).keys (bucket_of a key) 0 (chain a (view_of a A).keys (bucket_of a key)) (1 + bucket_of a key) 0 s.block (region.keyed.linked (bucket_of a key) stands.bucket_is) stands.block_is).some

  inside : s.block < a.blocks
  inside = block_inside a (view_of a A).keys (bucket_of a key) s.block area stands.bucket_is (region.keyed.linked (bucket_of a key) stands.bucket_is) stands.block_is

  is : IsRewritten a A C s (replicate 31 0) (replicate 33 0)
  is =
      let least = area.least_size in
      let cell = stands.cell_is in
      let made = rewrites a A s zeros area stands.cell_is some (length-replicate {A = ℕ} a.size 0 ∙ sym (region.shape s.block inside)) in
      subst (λ (v : List ℕ). IsRewritten a A C s (replicate 31 0) v) (piece_zero (value_mark a.size s.cell) a.size (omega arith))
      (subst (λ (p : List ℕ). IsRewritten a A C s p (bytes_in (value_mark a.size s.cell) zeros)) (piece_zero (key_mark s.cell) a.size (omega arith)) made)

  good : is_part 28 (replicate 31 0) ≡ true
  good = zero_part 28 30

  unused : is_unused ((view_of a C).keys s.block) s.cell ≡ true
  unused = ap (λ (x : List ℕ). get_or x 0 0 == 0) is.here

  not_here : (b k i : ℕ) → Stands a (view_of a C).keys b k i → (k ≡ s.block) × (i ≡ s.cell) → ⊥
  not_here b k i there e =
      both_ways (is_unused ((view_of a C).keys s.block) s.cell) (sym (ap (λ (m : ℕ). is_unused ((view_of a C).keys m) i) e.0 ∙ ap (λ (j : ℕ). is_unused ((view_of a C).keys s.block) j) e.1) ∙ there.used) unused

  had_key : (k i : ℕ) → (k ≡ s.block) × (i ≡ s.cell) → key_at ((view_of a A).keys k) i ≡ key
  had_key k i e = ap (λ (m : ℕ). key_at ((view_of a A).keys m) i) e.0 ∙ ap (λ (j : ℕ). key_at ((view_of a A).keys s.block) j) e.1 ∙ key_is

  moves : Moves a (view_of a A).keys (view_of a C).keys (view_of a A).value (view_of a C).value key
  moves = record {
    kept = λ b k i there other. same_there a A C s (replicate 31 0) (replicate 33 0) is good b k i there (λ e. other (had_key k i e));
    old = λ b k i there other. same_before a A C s (replicate 31 0) (replicate 33 0) is good b k i there (not_here b k i there);
  }

  nowhere : StandsNowhere a (view_of a C).keys key
  nowhere b k i there e =
      let was = same_before a A C s (replicate 31 0) (replicate 33 0) is good b k i there (not_here b k i there) in
      not_here b k i there (region.keyed.apart b k i (bucket_of a key) s.block s.cell was.stands stands (was.key_is ∙ e ∙ sym key_is))

  pub del_cell : HasRemoved a key A (put A (store_access (a.start + s.block) (key_mark s.cell ∷ value_mark a.size s.cell ∷ []) (replicate a.size 0)))
  unfolding hash_map
  del_cell = record {
    region = record {
      shape = λ k low. length-block_put A (store_access (a.start + s.block) (key_mark s.cell ∷ value_mark a.size s.cell ∷ []) zeros) (a.start + k) ∙ region.shape k low;
      keyed = record {
        linked = λ b low. linked_kept a A C s (replicate 31 0) (replicate 33 0) is good b (region.keyed.linked b low);
        bits = bits_kept a A C s (replicate 31 0) (replicate 33 0) is good region.keyed.bits;
        head = ap (λ (x : List ℕ). list_all is_zero (take 64 x)) is.first ∙ region.keyed.head;
        in_bucket = buckets_nowhere a (view_of a A).keys (view_of a C).keys (view_of a A).value (view_of a C).value key moves region.keyed.in_bucket region.keyed.apart nowhere;
        apart = apart_nowhere a (view_of a A).keys (view_of a C).keys (view_of a A).value (view_of a C).value key moves region.keyed.in_bucket region.keyed.apart nowhere;
      };
      values = values_kept a A C s (replicate 31 0) (replicate 33 0) is good (zero_part 32 32) (λ u. zeros_are 33) region.values;
    };
    map_is = map_removed a (view_of a A).keys (view_of a C).keys (view_of a A).value (view_of a C).value key moves region.keyed.in_bucket region.keyed.apart nowhere;
  }

-- the block of the cell, the last of its chain, is given back
module _ (a : Area) (key : List ℕ) (A : Array) (s : Spot) (before x : ℕ) (front : List ℕ) (area : IsHashArea a) (region : IsHashRegion a A)
    (stands : Stands a (view_of a A).keys (bucket_of a key) s.block s.cell) (key_is : key_at ((view_of a A).keys s.block) s.cell ≡ key)
    (past : buckets a < s.block) (alone : is_alone a.size ((view_of a A).keys s.block) s.cell ≡ true) (blocks_are : chain a (view_of a A).keys (bucket_of a key) ≡ front ++ (before ∷ s.block ∷ []))
    (x_is : x ≡ clear_bit (get_or (view_of a A).first (bit_place s.block) 0) s.block) where
  abbrev b0 : ℕ
  b0 = bucket_of a key

  abbrev bytes1 : List ℕ
  bytes1 = block_with a.size (bit_place s.block) (x ∷ [])

  abbrev blank : List ℕ
  blank = replicate a.size 0

  abbrev A1 : Array
  A1 = put A (store_access a.start (bit_mark s.block ∷ []) bytes1)

  abbrev B : Array
  B = put A1 (store_access (a.start + before) (next_mark ∷ []) blank)

  b0_below : b0 < buckets a
  b0_below = stands.bucket_is

  linked_in : AreLinked a (view_of a A).keys b0 0 (chain a (view_of a A).keys b0) (1 + b0) 0
  linked_in = region.keyed.linked b0 b0_below

  whole_old : AreLinked a (view_of a A).keys b0 0 (front ++ (before ∷ s.block ∷ [])) (1 + b0) 0
  whole_old = subst (λ (blocks : List ℕ). AreLinked a (view_of a A).keys b0 0 blocks (1 + b0) 0) blocks_are linked_in

  has_before : IsIn before (chain a (view_of a A).keys b0)
  has_before = subst (IsIn before) (sym blocks_are) (in_back before front (before ∷ s.block ∷ []) (inl refl))

  before_some : 0 < before
  before_some = (placed a (view_of a A).keys b0 0 (chain a (view_of a A).keys b0) (1 + b0) 0 before linked_in has_before).some

  before_in : before < a.blocks
  before_in = block_inside a (view_of a A).keys b0 before area b0_below linked_in has_before

  block_in : s.block < a.blocks
  block_in = block_inside a (view_of a A).keys b0 s.block area b0_below linked_in stands.block_is

  bit_fits : bit_place s.block + 1 ≤ length (block_at A a.start)
  bit_fits = omega (arith, first_long a A area region, area.most, area.least_size, block_in)

  -- the blocks after the writes
  far : (k : ℕ) → 0 < k → k ≢ before → block_at B (a.start + k) ≡ block_at A (a.start + k)
  far k low other = grind (arith, other_block) steps 100000

  at_first : block_at B a.start ≡ merged (bit_mark s.block ∷ []) 0 (block_at A a.start) (block_with (length (block_at A a.start)) (bit_place s.block) (x ∷ []))
  at_first =
      other_block A1 (store_access (a.start + before) (next_mark ∷ []) blank) a.start (λ e. absurd (omega (arith, before_some)))
      ∙ written_block A (store_access a.start (bit_mark s.block ∷ []) bytes1)
      ∙ ap (λ (n : ℕ). merged (bit_mark s.block ∷ []) 0 (block_at A a.start) (block_with n (bit_place s.block) (x ∷ []))) (sym (first_long a A area region))

  at_before : block_at B (a.start + before) ≡ merged (next_mark ∷ []) 0 (block_at A (a.start + before)) blank
  at_before =
      written_block A1 (store_access (a.start + before) (next_mark ∷ []) blank)
      ∙ ap (λ (old : List ℕ). merged (next_mark ∷ []) 0 old blank) (other_block A (store_access a.start (bit_mark s.block ∷ []) bytes1) (a.start + before) (λ e. absurd (omega (arith, before_some))))

  long : length blank ≡ length (block_at A (a.start + before))
  long = length-replicate {A = ℕ} a.size 0 ∙ sym (region.shape before before_in)

  word : word_at 0 blank ≡ 0
  word = ap (Rattle.std.specs.Int.from_be_bytes Rattle.std.specs.Int.w32) (piece_zero next_mark a.size (omega (arith, area.least_size)))

  relinks : IsRelinked a A B b0 before blank
  relinks = record {
    below = b0_below;
    has_link = has_before;
    far = λ b k below has other. far k (some_in a A region b k below has) other;
    at_link = at_before;
    long = long;
  }

  -- the chains after the writes
  linked_b0 : AreLinked a (view_of a B).keys b0 0 (front ++ (before ∷ [])) (1 + b0) 0
  linked_b0 = linked_anew a A B b0 before blank region relinks front (s.block ∷ []) blocks_are [] 0 word refl refl

  chain_b0 : chain a (view_of a B).keys b0 ≡ front ++ (before ∷ [])
  chain_b0 =
      let was : length (chain a (view_of a A).keys b0) ≡ length front + 2 = ap length blocks_are ∙ length-append front (before ∷ s.block ∷ []) in
      chain_of a (view_of a B).keys b0 (front ++ (before ∷ [])) linked_b0 (omega (arith, length-append front (before ∷ []), length-chain_from (view_of a A).keys (last_position a + 1) (1 + b0)))

  -- where a block is after the writes
  in_old : (b k : ℕ) → b < buckets a → IsIn k (chain a (view_of a B).keys b) → IsIn k (chain a (view_of a A).keys b) × (k ≢ s.block)
  in_old b k below has = elim (cases_eq b b0) [
    | inr other ↦
        (let old = subst (IsIn k) (chain_other a A B b0 before blank region relinks b below other) has in
        (old, λ e. other (one_bucket a (view_of a A).keys b b0 s.block (region.keyed.linked b below) linked_in (subst (λ (m : ℕ). IsIn m (chain a (view_of a A).keys b)) e old) stands.block_is)))
    | inl same ↦
        (let short : IsIn k (front ++ (before ∷ [])) = subst (IsIn k) (ap (chain a (view_of a B).keys) same ∙ chain_b0) has in
        let whole : AreLinked a (view_of a A).keys b0 0 ((front ++ (before ∷ [])) ++ (s.block ∷ [])) (1 + b0) 0 =
        subst (λ (blocks : List ℕ). AreLinked a (view_of a A).keys b0 0 blocks (1 + b0) 0) (sym (append_assoc front (before ∷ []) (s.block ∷ []))) whole_old in (
          subst (λ (c : ℕ). IsIn k (chain a (view_of a A).keys c)) (sym same) (subst (IsIn k) (sym (blocks_are ∙ sym (append_assoc front (before ∷ []) (s.block ∷ [])))) (in_front k (front ++ (before ∷ [])) (s.block ∷ []) short)),
          λ e. not_twice a (view_of a A).keys b0 0 (front ++ (before ∷ [])) (s.block ∷ []) (1 + b0) 0 k whole short (inl (sym e)),
        ))
  ]

  still_in : (b k : ℕ) → b < buckets a → IsIn k (chain a (view_of a A).keys b) → k ≢ s.block → IsIn k (chain a (view_of a B).keys b)
  still_in b k below has other = elim (cases_eq b b0) [
    | inr far_bucket ↦ subst (IsIn k) (sym (chain_other a A B b0 before blank region relinks b below far_bucket)) has
    | inl same ↦
        (let list : IsIn k ((front ++ (before ∷ [])) ++ (s.block ∷ [])) = subst (IsIn k) (ap (chain a (view_of a A).keys) same ∙ blocks_are ∙ sym (append_assoc front (before ∷ []) (s.block ∷ []))) has in
        subst (IsIn k) (sym (ap (chain a (view_of a B).keys) same ∙ chain_b0)) (elim (in_cases k (front ++ (before ∷ [])) (s.block ∷ []) list) [
          | inl kept ↦ kept
          | inr gone ↦ absurd (elim gone [ inl e ↦ other (sym e) | inr none ↦ none ])
        ]))
  ]

  -- a used cell of the block that is given back is the one with the key
  only_cell : (i : ℕ) → i < cell_count a.size → is_unused ((view_of a A).keys s.block) i ≡ false → i ≡ s.cell
  only_cell i cell used = elim (or_cases (i == s.cell) (is_unused ((view_of a A).keys s.block) i) (all_at (λ j. (j == s.cell) || is_unused ((view_of a A).keys s.block) j) 0 (cell_count a.size) i alone (omega arith) (omega arith))) [
    | inl same ↦ eqb-true i s.cell same
    | inr idle ↦ absurd (both_ways (is_unused ((view_of a A).keys s.block) i) used idle)
  ]

  stood : (b k i : ℕ) → Stands a (view_of a B).keys b k i → IsSame a (view_of a B).keys (view_of a A).keys (view_of a B).value (view_of a A).value b k i × (k ≢ s.block)
  stood b k i there = let old = in_old b k there.bucket_is there.block_is in (was_same a A B b0 before blank region relinks b k i there old.0, old.1)

  stays : (b k i : ℕ) → Stands a (view_of a A).keys b k i → key_at ((view_of a A).keys k) i ≢ key → IsSame a (view_of a A).keys (view_of a B).keys (view_of a A).value (view_of a B).value b k i
  stays b k i there other =
      let apart : k ≢ s.block = λ e.
      let cell : i ≡ s.cell = only_cell i there.cell_is (ap (λ (m : ℕ). is_unused ((view_of a A).keys m) i) (sym e) ∙ there.used) in
      other (ap (λ (m : ℕ). key_at ((view_of a A).keys m) i) e ∙ ap (λ (j : ℕ). key_at ((view_of a A).keys s.block) j) cell ∙ key_is) in
      stays_same a A B b0 before blank region relinks b k i there (still_in b k there.bucket_is there.block_is apart)

  given_moves : Moves a (view_of a A).keys (view_of a B).keys (view_of a A).value (view_of a B).value key
  given_moves = record { kept = stays; old = λ b k i there other. (stood b k i there).0 }

  given_nowhere : StandsNowhere a (view_of a B).keys key
  given_nowhere b k i there e =
      let was = stood b k i there in
      was.1 (region.keyed.apart b k i b0 s.block s.cell was.0.stands stands (was.0.key_is ∙ e ∙ sym key_is)).0

  new_bits : (k : ℕ) → map_bit (view_of a B).first k ≡ (not (k == s.block) && map_bit (view_of a A).first k)
  new_bits k = grind (arith, at_first, bits_without, byte_here, bit_fits, byte_far) steps 100000

  not_block : (k : ℕ) → not (k == s.block) ≡ true → k ≢ s.block
  not_block k is e = both_ways (not (k == s.block)) (ap not (eq-eqb k s.block e)) is

  bits : (k : ℕ) → k < 8 * map_bytes a.blocks → IsTrue (map_bit (view_of a B).first k) ↔ IsOverflow a (view_of a B).keys k
  bits k below =
      let old = region.keyed.bits k below in (
        λ set.
            let parts = and_parts (not (k == s.block)) (map_bit (view_of a A).first k) (sym (new_bits k) ∙ set) in
            let over = old.0 parts.1 in
            record { bucket = over.bucket; below = over.below; linked = still_in over.bucket k over.below over.linked (not_block k parts.0); past = over.past },
        λ over.
            let was = in_old over.bucket k over.below over.linked in
            new_bits k ∙ and_from _ _ (ap not (ne_eqb k s.block was.1)) (old.1 (record { bucket = over.bucket; below = over.below; linked = was.0; past = over.past })),
      )

  values : HaveValues a (view_of a B).keys (view_of a B).value
  values b k i below has cell = values_old a A B b0 before blank region relinks b k i below (in_old b k below has).0 cell

  pub del_block : HasRemoved a key A (put (put A (store_access a.start (bit_mark s.block ∷ []) (block_with a.size (bit_place s.block) (x ∷ [])))) (store_access (a.start + before) (next_mark ∷ []) (replicate a.size 0)))
  unfolding hash_map
  del_block = record {
    region = record {
      shape = λ k low.
          length-block_put A1 (store_access (a.start + before) (next_mark ∷ []) blank) (a.start + k) ∙ length-block_put A (store_access a.start (bit_mark s.block ∷ []) bytes1) (a.start + k) ∙ region.shape k low;
      keyed = record {
        linked = linked_all a A B b0 before blank region relinks (front ++ (before ∷ [])) linked_b0 chain_b0;
        bits = bits;
        head = ap (list_all is_zero) (ap (take 64) at_first ∙ head_far (block_at A a.start) s.block x bit_fits) ∙ region.keyed.head;
        in_bucket = buckets_nowhere a (view_of a A).keys (view_of a B).keys (view_of a A).value (view_of a B).value key given_moves region.keyed.in_bucket region.keyed.apart given_nowhere;
        apart = apart_nowhere a (view_of a A).keys (view_of a B).keys (view_of a A).value (view_of a B).value key given_moves region.keyed.in_bucket region.keyed.apart given_nowhere;
      };
      values = values;
    };
    map_is = map_removed a (view_of a A).keys (view_of a B).keys (view_of a A).value (view_of a B).value key given_moves region.keyed.in_bucket region.keyed.apart given_nowhere;
  }
