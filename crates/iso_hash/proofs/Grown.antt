-- A put into a new block after the last one of a chain: the region stays well formed, and its map gets the value.
use Rattle.iso_hash.proofs.{Words.{◌≡◌, ◌≢◌, ◌⊎◌, ◌↔◌, ◌∙◌, sym, refl, ap, subst, ℕ, ◌+◌, ◌*◌, ◌^◌, ◌<◌, ◌≤◌, true, false, ◌||◌, ◌==◌, not, nat_eq, nat_le, nat_lt, IsTrue, List, [], ◌∷◌, ◌++◌, length, get_or, take, Option, arith, inl, inr, eq-eqb, ne_eqb, length-append, w32, to_be_bytes, list_all, cases_eq, both_ways, and_from, or_left, or_right, or_cases, eqb-true, nat_tests, from_be_bytes-to_be_bytes_4, Area, Spot, Array, merged, put, block_at, bytes_in, store_access, cell_count, keys_mark, key_mark, value_mark, next_mark, word_at, is_zero, is_part, text_of, key_part, value_part, is_unused, key_at, block_with, map_bytes, bit_place, bit_mark, map_bit, set_bit, view_of, buckets, bucket_of, last_position, next_of, is_next, is_linked, chain, hash_map, IsIn, AreLinked, Stands, IsOverflow, HaveValues, IsHashRegion, IsHashArea, new_block, length-block_put, written_block, other_block, bits_with, laid_whole, part_is_part, part_text, zero_part, zeros_are, byte_here, byte_far, head_far, length-block_with, in_block_with, in_front, in_back, in_cases}, Chains.{placed, block_inside, all_in, distinct, next_in, head_of}, Gets.bucket_below, Linking.chain_of, Moves.{IsSame, Moves, StandsAt, map_put, buckets_at, apart_at}, NewBlocks.{size_most, length-new_block, new_next, new_key_here, new_unused, new_value_here, new_value_blank, new_linked}, Relinked.{IsRelinked, some_in, first_long, chain_other, linked_anew, linked_all, stays_same, was_same, values_old}, Pigeons.fewer, Puts.{HasPut, new_used, new_key}, Ways.Missed}

-- a chain that leaves out an overflow block is shorter than one of all of them
pub room_left : (a : Area) (keys : ℕ → List ℕ) (b new : ℕ) (blocks : List ℕ) → IsHashArea a → AreLinked a keys b 0 blocks (1 + b) 0 → buckets a < new → new < a.blocks → ((k : ℕ) → IsIn k blocks → k ≢ new) → length blocks ≤ last_position a
room_left a keys b new [] area linked low high others = omega arith
room_left a keys b new (f ∷ rest) area linked low high others =
    let lp = last_position a in
    let next = (head_of a b 0 (keys f) linked.2).next_is in
    let range : (k : ℕ) → IsIn k rest → (buckets a + 1 ≤ k) × (k < buckets a + 1 + lp) = λ k has.
    let p = placed a keys b (0 + 1) rest (next_of (keys f)) 0 k linked.3 has in
    elim (cases_eq p.place (0 + 1)) [
      | inl here ↦
          (let e = p.head here in
          let is = next_in a 0 (next_of (keys f)) next (λ none. absurd (omega (arith, p.some))) in
          (omega (arith, is.past), omega (arith, is.inside, area.least)))
      | inr later ↦ (let is = p.past (omega (arith, p.low)) in (omega (arith, is.0), omega (arith, is.1, area.least)))
    ] in
    let few = fewer (buckets a + 1) lp new rest (distinct a keys b (0 + 1) rest (next_of (keys f)) 0 linked.3) (all_in (λ k. (buckets a + 1 ≤ k) × (k < buckets a + 1 + lp)) rest range)
    (all_in (λ y. nat_eq new y ≡ false) rest (λ y has. ne_eqb new y (λ e. others y (inr has) (sym e)))) (omega arith) (omega (arith, area.least)) in
    omega (arith, few)

module _ (a : Area) (key value : List ℕ) (A : Array) (last place new x : ℕ) (free spare : Option Spot) (area : IsHashArea a) (region : IsHashRegion a A)
    (key_some : 0 < length key) (key_short : length key ≤ 28) (short : length value ≤ 32)
    (missed : Missed a key A (chain a (view_of a A).keys (bucket_of a key)) 0 free spare last place)
    (nowhere : (b k i : ℕ) → Stands a (view_of a A).keys b k i → key_at ((view_of a A).keys k) i ≢ key)
    (low : buckets a < new) (high : new < a.blocks) (clear : map_bit (view_of a A).first new ≡ false) (x_is : x ≡ set_bit (get_or (view_of a A).first (bit_place new) 0) new) where
  abbrev b0 : ℕ
  b0 = bucket_of a key

  abbrev bytes1 : List ℕ
  bytes1 = block_with a.size (bit_place new) (x ∷ [])

  abbrev bytes2 : List ℕ
  bytes2 = new_block a.size (bucket_of a key) (place + 1) key value

  abbrev bytes3 : List ℕ
  bytes3 = block_with a.size 0 (to_be_bytes w32 new)

  abbrev A1 : Array
  A1 = put A (store_access a.start (bit_mark new ∷ []) bytes1)

  abbrev A2 : Array
  A2 = put A1 (store_access (a.start + new) [] bytes2)

  abbrev B : Array
  B = put A2 (store_access (a.start + last) (next_mark ∷ []) bytes3)

  b0_below : b0 < buckets a
  b0_below = bucket_below a key area

  has_last : IsIn last (chain a (view_of a A).keys b0)
  has_last = subst (IsIn last) (sym missed.blocks_are) (in_back last missed.front (last ∷ []) (inl refl))

  last_some : 0 < last
  last_some = (placed a (view_of a A).keys b0 0 (chain a (view_of a A).keys b0) (1 + b0) 0 last (region.keyed.linked b0 b0_below) has_last).some

  last_in : last < a.blocks
  last_in = block_inside a (view_of a A).keys b0 last area b0_below (region.keyed.linked b0 b0_below) has_last

  not_new : (b k : ℕ) → b < buckets a → IsIn k (chain a (view_of a A).keys b) → k ≢ new
  not_new b k below has e = grind arith steps 100000

  last_new : last ≢ new
  last_new = not_new b0 last b0_below has_last

  bit_fits : bit_place new + 1 ≤ length (block_at A a.start)
  bit_fits = omega (arith, first_long a A area region, area.most, area.least_size)

  new_fits : new < 2 ^ 32
  new_fits = let most = size_most a area in omega (arith, area.most)

  -- the blocks after the writes
  far : (k : ℕ) → 0 < k → k ≢ new → k ≢ last → block_at B (a.start + k) ≡ block_at A (a.start + k)
  far k some other past = grind (arith, other_block) steps 100000

  at_first : block_at B a.start ≡ merged (bit_mark new ∷ []) 0 (block_at A a.start) (block_with (length (block_at A a.start)) (bit_place new) (x ∷ []))
  at_first =
      other_block A2 (store_access (a.start + last) (next_mark ∷ []) bytes3) a.start (λ e. absurd (omega (arith, last_some)))
      ∙ other_block A1 (store_access (a.start + new) [] bytes2) a.start (λ e. absurd (omega (arith, low)))
      ∙ written_block A (store_access a.start (bit_mark new ∷ []) bytes1)
      ∙ ap (λ (n : ℕ). merged (bit_mark new ∷ []) 0 (block_at A a.start) (block_with n (bit_place new) (x ∷ []))) (sym (first_long a A area region))

  place_is : place ≡ length missed.front
  place_is = missed.place_is ∙ omega arith

  few : place + 1 ≤ last_position a
  few =
      let room = room_left a (view_of a A).keys b0 new (chain a (view_of a A).keys b0) area (region.keyed.linked b0 b0_below) low high (λ k has. not_new b0 k b0_below has) in
      let long : length (chain a (view_of a A).keys b0) ≡ length missed.front + 1 = ap length missed.blocks_are ∙ length-append missed.front (last ∷ []) in
      omega (arith, place_is)

  b0_fits : b0 < 2 ^ 32
  b0_fits = let most = size_most a area in omega (arith, area.most, b0_below)

  place_fits : place + 1 < 2 ^ 32
  place_fits = let most = size_most a area in omega (arith, area.most, few)

  at_new : block_at B (a.start + new) ≡ bytes2
  at_new =
      other_block A2 (store_access (a.start + last) (next_mark ∷ []) bytes3) (a.start + new) (λ e. absurd (last_new (omega arith)))
      ∙ written_block A1 (store_access (a.start + new) [] bytes2)
      ∙ laid_whole (block_at A1 (a.start + new)) bytes2
      (length-new_block a b0 (place + 1) key value area b0_fits place_fits key_short short ∙ sym (length-block_put A (store_access a.start (bit_mark new ∷ []) bytes1) (a.start + new) ∙ region.shape new high))

  at_last : block_at B (a.start + last) ≡ merged (next_mark ∷ []) 0 (block_at A (a.start + last)) bytes3
  at_last =
      written_block A2 (store_access (a.start + last) (next_mark ∷ []) bytes3)
      ∙ ap (λ (old : List ℕ). merged (next_mark ∷ []) 0 old bytes3)
      (other_block A1 (store_access (a.start + new) [] bytes2) (a.start + last) (λ e. absurd (last_new (omega arith)))
      ∙ other_block A (store_access a.start (bit_mark new ∷ []) bytes1) (a.start + last) (λ e. absurd (omega (arith, last_some))))

  long3 : length bytes3 ≡ length (block_at A (a.start + last))
  long3 = length-block_with a.size 0 (to_be_bytes w32 new) (omega (arith, area.least_size)) ∙ sym (region.shape last last_in)

  word3 : word_at 0 bytes3 ≡ new
  word3 = ap (Rattle.std.specs.Int.from_be_bytes w32) (in_block_with a.size 0 4 (to_be_bytes w32 new) refl (omega (arith, area.least_size))) ∙ from_be_bytes-to_be_bytes_4 new new_fits

  keys_new : (view_of a B).keys new ≡ bytes_in (keys_mark a.size) bytes2
  keys_new = ap (bytes_in (keys_mark a.size)) at_new

  relinks : IsRelinked a A B b0 last bytes3
  relinks = record {
    below = b0_below;
    has_link = has_last;
    far = λ b k below has other. far k (some_in a A region b k below has) (not_new b k below has) other;
    at_link = at_last;
    long = long3;
  }

  -- the chains after the writes
  front_in : (k : ℕ) → IsIn k missed.front → IsIn k (chain a (view_of a A).keys b0)
  front_in k has = subst (IsIn k) (sym missed.blocks_are) (in_front k missed.front (last ∷ []) has)

  may_follow : is_next a place new ≡ true
  may_follow =
      let l : nat_le (buckets a + 1) new ≡ true = grind (arith, nat_tests, low) in
      let h : nat_lt new a.blocks ≡ true = grind (arith, nat_tests, high) in
      let p : (place == last_position a) ≡ false = ne_eqb place (last_position a) (λ e. absurd (omega (arith, few))) in
      or_right (new == 0) _ (and_from _ _ (and_from _ _ l h) (ap not p))

  linked_b0 : AreLinked a (view_of a B).keys b0 0 (missed.front ++ (last ∷ new ∷ [])) (1 + b0) 0
  linked_b0 =
      let at : place ≡ 0 + length missed.front = omega (arith, place_is) in
      let later : (place + 1 == 0) ≡ false = ne_eqb (place + 1) 0 (λ e. absurd (omega arith)) in
      let fresh : is_linked a b0 (place + 1) ((view_of a B).keys new) ≡ true = ap (is_linked a b0 (place + 1)) keys_new ∙ new_linked a b0 (place + 1) key value area b0_fits place_fits key_short short later in
      let ends : next_of ((view_of a B).keys new) ≡ 0 = ap next_of keys_new ∙ new_next a b0 (place + 1) key value area b0_fits place_fits key_short short in
      linked_anew a A B b0 last bytes3 region relinks missed.front [] missed.blocks_are (new ∷ []) new word3 (subst (λ (n : ℕ). is_next a n new ≡ true) at may_follow)
      (subst (λ (n : ℕ). AreLinked a (view_of a B).keys b0 (n + 1) (new ∷ []) new 0) at (refl, omega arith, fresh, ends))

  chain_b0 : chain a (view_of a B).keys b0 ≡ missed.front ++ (last ∷ new ∷ [])
  chain_b0 = chain_of a (view_of a B).keys b0 (missed.front ++ (last ∷ new ∷ [])) linked_b0 (omega (arith, length-append missed.front (last ∷ new ∷ []), few, place_is))

  in_list : (k : ℕ) → IsIn k (missed.front ++ (last ∷ new ∷ [])) → IsIn k (chain a (view_of a A).keys b0) ⊎ (k ≡ new)
  in_list k has = elim (in_cases k missed.front (last ∷ new ∷ []) has) [
    | inl front ↦ inl (front_in k front)
    | inr tail ↦ elim tail [
      | inl e ↦ inl (subst (λ (m : ℕ). IsIn m (chain a (view_of a A).keys b0)) e has_last)
      | inr more ↦ elim more [ inl e ↦ inr (sym e) | inr none ↦ absurd none ]
    ]
  ]

  -- where a block is after the writes
  in_new : (b k : ℕ) → b < buckets a → IsIn k (chain a (view_of a B).keys b) → IsIn k (chain a (view_of a A).keys b) ⊎ ((b ≡ b0) × (k ≡ new))
  in_new b k below has = elim (cases_eq b b0) [
    | inr other ↦ inl (subst (IsIn k) (chain_other a A B b0 last bytes3 region relinks b below other) has)
    | inl same ↦ elim (in_list k (subst (IsIn k) (ap (chain a (view_of a B).keys) same ∙ chain_b0) has)) [
      | inl old ↦ inl (subst (λ (c : ℕ). IsIn k (chain a (view_of a A).keys c)) (sym same) old)
      | inr fresh ↦ inr (same, fresh)
    ]
  ]

  to_list : (k : ℕ) → IsIn k (missed.front ++ last ∷ []) → IsIn k (missed.front ++ (last ∷ new ∷ []))
  to_list k has = elim (in_cases k missed.front (last ∷ []) has) [
    | inl front ↦ in_front k missed.front (last ∷ new ∷ []) front
    | inr tail ↦ in_back k missed.front (last ∷ new ∷ []) (elim tail [ inl e ↦ inl e | inr none ↦ absurd none ])
  ]

  in_old : (b k : ℕ) → b < buckets a → IsIn k (chain a (view_of a A).keys b) → IsIn k (chain a (view_of a B).keys b)
  in_old b k below has = elim (cases_eq b b0) [
    | inr other ↦ subst (IsIn k) (sym (chain_other a A B b0 last bytes3 region relinks b below other)) has
    | inl same ↦ subst (IsIn k) (sym (ap (chain a (view_of a B).keys) same ∙ chain_b0)) (to_list k (subst (IsIn k) (ap (chain a (view_of a A).keys) same ∙ missed.blocks_are) has))
  ]

  new_in : IsIn new (chain a (view_of a B).keys b0)
  new_in = subst (IsIn new) (sym chain_b0) (in_back new missed.front (last ∷ new ∷ []) (inr (inl refl)))

  -- the cells of the new block
  key_here : bytes_in (key_mark 0) ((view_of a B).keys new) ≡ key_part key
  key_here = ap (bytes_in (key_mark 0)) keys_new ∙ new_key_here a b0 (place + 1) key value area b0_fits place_fits key_short short

  unused_here : (i : ℕ) → i < cell_count a.size → i ≢ 0 → is_unused ((view_of a B).keys new) i ≡ true
  unused_here i cell other = ap (λ (p : List ℕ). get_or p 0 0 == 0) (ap (bytes_in (key_mark i)) keys_new ∙ new_unused a b0 (place + 1) key value area b0_fits place_fits key_short short i cell other)

  cells_some : 0 < cell_count a.size
  cells_some = let least = area.least_size in omega arith

  -- a cell that is after the writes stood before, or is the new one
  stood : (b k i : ℕ) → Stands a (view_of a B).keys b k i → IsSame a (view_of a B).keys (view_of a A).keys (view_of a B).value (view_of a A).value b k i ⊎ ((b ≡ b0) × ((k ≡ new) × (i ≡ 0)))
  stood b k i stands = elim (in_new b k stands.bucket_is stands.block_is) [
    | inl old ↦ inl (was_same a A B b0 last bytes3 region relinks b k i stands old)
    | inr fresh ↦ elim (cases_eq i 0) [
      | inl first ↦ inr (fresh.0, (fresh.1, first))
      | inr other ↦ absurd (both_ways (is_unused ((view_of a B).keys new) i) (sym (ap (λ (m : ℕ). is_unused ((view_of a B).keys m) i) fresh.1) ∙ stands.used) (unused_here i stands.cell_is other))
    ]
  ]

  key_new : key_at ((view_of a B).keys new) 0 ≡ key
  key_new = new_key ((view_of a B).keys new) key 0 key_here

  is_key_at : (k i : ℕ) → k ≡ new → i ≡ 0 → key_at ((view_of a B).keys k) i ≡ key
  is_key_at k i e f = ap (λ (m : ℕ). key_at ((view_of a B).keys m) i) e ∙ ap (λ (j : ℕ). key_at ((view_of a B).keys new) j) f ∙ key_new

  moves : Moves a (view_of a A).keys (view_of a B).keys (view_of a A).value (view_of a B).value key
  moves = record {
    kept = λ b k i stands other. stays_same a A B b0 last bytes3 region relinks b k i stands (in_old b k stands.bucket_is stands.block_is);
    old = λ b k i stands other. elim (stood b k i stands) [ inl was ↦ was | inr fresh ↦ absurd (other (is_key_at k i fresh.1.0 fresh.1.1)) ];
  }

  abbrev at : Spot
  at = record { block = new; cell = 0 }

  stands_at : StandsAt a (view_of a B).keys key at
  stands_at = record {
    here = record { bucket_is = b0_below; block_is = new_in; cell_is = cells_some; used = new_used ((view_of a B).keys new) key 0 key_some key_here };
    key_is = key_new;
    only = λ b k i stands e. elim (stood b k i stands) [ inl was ↦ absurd (nowhere b k i was.stands (was.key_is ∙ e)) | inr fresh ↦ fresh ];
  }

  new_bits : (k : ℕ) → map_bit (view_of a B).first k ≡ ((k == new) || map_bit (view_of a A).first k)
  new_bits k = grind (arith, at_first, bits_with, byte_here, bit_fits, byte_far)

  bits : (k : ℕ) → k < 8 * map_bytes a.blocks → IsTrue (map_bit (view_of a B).first k) ↔ IsOverflow a (view_of a B).keys k
  bits k below =
      let old = region.keyed.bits k below in (
        λ set. elim (or_cases (k == new) (map_bit (view_of a A).first k) (sym (new_bits k) ∙ set)) [
          | inl is ↦ subst (IsOverflow a (view_of a B).keys) (sym (eqb-true k new is)) (record { bucket = b0; below = b0_below; linked = new_in; past = low })
          | inr was ↦ (let over = old.0 was in record { bucket = over.bucket; below = over.below; linked = in_old over.bucket k over.below over.linked; past = over.past })
        ],
        λ over. new_bits k ∙ elim (in_new over.bucket k over.below over.linked) [
          | inl has ↦ or_right (k == new) _ (old.1 (record { bucket = over.bucket; below = over.below; linked = has; past = over.past }))
          | inr fresh ↦ or_left (k == new) _ (eq-eqb k new fresh.1)
        ],
      )

  value_new : (i : ℕ) → (view_of a B).value new i ≡ bytes_in (value_mark a.size i) bytes2
  value_new i = ap (bytes_in (value_mark a.size i)) at_new

  value_at : (view_of a B).value new 0 ≡ value_part value
  value_at = value_new 0 ∙ new_value_here a b0 (place + 1) key value area b0_fits place_fits key_short short

  values : HaveValues a (view_of a B).keys (view_of a B).value
  values b k i below has cell = elim (in_new b k below has) [
    | inl old ↦ values_old a A B b0 last bytes3 region relinks b k i below old cell
    | inr fresh ↦ subst (λ (m : ℕ). IsTrue (is_part 32 ((view_of a B).value m i)) × (IsTrue (is_unused ((view_of a B).keys m) i) → IsTrue (list_all is_zero ((view_of a B).value m i)))) (sym fresh.1)
        (elim (cases_eq i 0) [
          | inl first ↦ subst (λ (j : ℕ). IsTrue (is_part 32 ((view_of a B).value new j)) × (IsTrue (is_unused ((view_of a B).keys new) j) → IsTrue (list_all is_zero ((view_of a B).value new j)))) (sym first)
              (ap (is_part 32) value_at ∙ part_is_part 32 32 value short, λ unused. absurd (both_ways (is_unused ((view_of a B).keys new) 0) (new_used ((view_of a B).keys new) key 0 key_some key_here) unused))
          | inr other ↦
              (let v = value_new i ∙ new_value_blank a b0 (place + 1) key value area b0_fits place_fits key_short short i cell other in
              (ap (is_part 32) v ∙ zero_part 32 32, λ unused. ap (list_all is_zero) v ∙ zeros_are 33))
        ])
  ]

  pub put_grown : HasPut a key value A (put (put (put A (store_access a.start (bit_mark new ∷ []) (block_with a.size (bit_place new) (x ∷ [])))) (store_access (a.start + new) [] (new_block a.size (bucket_of a key) (place + 1) key value)))
      (store_access (a.start + last) (next_mark ∷ []) (block_with a.size 0 (to_be_bytes w32 new))))
  unfolding hash_map
  put_grown = record {
    region = record {
      shape = λ k under.
          length-block_put A2 (store_access (a.start + last) (next_mark ∷ []) bytes3) (a.start + k) ∙ length-block_put A1 (store_access (a.start + new) [] bytes2) (a.start + k)
          ∙ length-block_put A (store_access a.start (bit_mark new ∷ []) bytes1) (a.start + k) ∙ region.shape k under;
      keyed = record {
        linked = linked_all a A B b0 last bytes3 region relinks (missed.front ++ (last ∷ new ∷ [])) linked_b0 chain_b0;
        bits = bits;
        head = ap (list_all is_zero) (ap (take 64) at_first ∙ head_far (block_at A a.start) new x bit_fits) ∙ region.keyed.head;
        in_bucket = buckets_at a (view_of a A).keys (view_of a B).keys (view_of a A).value (view_of a B).value key moves region.keyed.in_bucket region.keyed.apart at stands_at;
        apart = apart_at a (view_of a A).keys (view_of a B).keys (view_of a A).value (view_of a B).value key moves region.keyed.in_bucket region.keyed.apart at stands_at;
      };
      values = values;
    };
    map_is = map_put a (view_of a A).keys (view_of a B).keys (view_of a A).value (view_of a B).value key moves region.keyed.in_bucket region.keyed.apart at value stands_at (ap text_of value_at ∙ part_text 32 value);
  }
