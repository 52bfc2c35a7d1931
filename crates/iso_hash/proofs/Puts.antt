-- A put into a cell that has the key, and one into an unused cell: the region stays well formed, and its map gets the value.
use Rattle.iso_hash.proofs.{Words.{◌≡◌, ◌≢◌, ◌∙◌, sym, ap, subst, ℕ, ◌+◌, ◌*◌, ◌<◌, ◌≤◌, true, false, ◌==◌, List, [], ◌∷◌, length, get_or, replicate, arith, inl, inr, ne_eqb, list_all, insert, cases_eq, both_ways, or_left, length-replicate, Access, Area, Spot, Array, put, block_at, bytes_in, store_access, cell_count, keys_end, keys_mark, key_mark, value_mark, is_zero, is_part, text_of, key_part, value_part, is_unused, key_at, laid_at, block_with, view_of, buckets, bucket_of, chain, all_pairs, hash_map, IsIn, Stands, IsKeyed, HaveValues, IsHashRegion, IsHashArea, with_cell, length-block_put, written_block, other_block, laid_here, length-laid_at, kept_1, laid_all, laid_kept, length-part, part_is_part, part_text}, Chains.{one_bucket, block_inside, placed}, Gets.bucket_below, Moves.{Moves, StandsAt, map_put, buckets_at, apart_at}, Rewritten.{IsRewritten, rewrites, is_spot, chain_same, linked_kept, bits_kept, same_there, same_before, values_kept}, Ways.IsSpare}

-- what a put leaves
pub record HasPut (a : Area) (key value : List ℕ) (A B : Array) : Type 0 where
  pub region : IsHashRegion a B
  pub map_is : hash_map a B ≡ insert (hash_map a A) key value

pub cells_fit : (a : Area) (i : ℕ) → IsHashArea a → i < cell_count a.size → keys_end a.size + 33 * i + 33 ≤ a.size
cells_fit a i area below = let least = area.least_size in omega arith

-- a put into the cell that a walk found
module _ (a : Area) (key value : List ℕ) (A : Array) (s : Spot) (area : IsHashArea a) (region : IsHashRegion a A) (short : length value ≤ 32)
    (stands : Stands a (view_of a A).keys (bucket_of a key) s.block s.cell) (key_is : key_at ((view_of a A).keys s.block) s.cell ≡ key) where
  X : List ℕ
  X = block_with a.size (keys_end a.size + 33 * s.cell) (value_part value)

  w : Access
  w = store_access (a.start + s.block) (value_mark a.size s.cell ∷ []) X

  B : Array
  B = put A w

  fits : keys_end a.size + 33 * s.cell + 33 ≤ a.size
  fits = cells_fit a s.cell area stands.cell_is

  some : 0 < s.block
  some = (placed a (view_of a A).keys (bucket_of a key) 0 (chain a (view_of a A).keys (bucket_of a key)) (1 + bucket_of a key) 0 s.block (region.keyed.linked (bucket_of a key) stands.bucket_is) stands.block_is).some

  inside : s.block < a.blocks
  inside = block_inside a (view_of a A).keys (bucket_of a key) s.block area stands.bucket_is (region.keyed.linked (bucket_of a key) stands.bucket_is) stands.block_is

  length_X : length X ≡ a.size
  unfolding X
  length_X = length-laid_at (keys_end a.size + 33 * s.cell) (value_part value) (replicate a.size 0) (omega (arith, fits, length-part 32 value short, length-replicate {A = ℕ} a.size 0)) ∙ length-replicate {A = ℕ} a.size 0

  here_is : block_at B (a.start + s.block) ≡ Rattle.iso_model.specs.Array.merged (value_mark a.size s.cell ∷ []) 0 (block_at A (a.start + s.block)) X
  unfolding B w
  here_is = written_block A w

  far_is : (k : ℕ) → k ≢ s.block → block_at B (a.start + k) ≡ block_at A (a.start + k)
  unfolding B w
  far_is k other = other_block A w (a.start + k) (λ e. absurd (other (omega arith)))

  keys_same : (k : ℕ) → (view_of a B).keys k ≡ (view_of a A).keys k
  keys_same k = elim (cases_eq k s.block) [
    | inr other ↦ ap (bytes_in (keys_mark a.size)) (far_is k other)
    | inl same ↦ subst (λ (m : ℕ). (view_of a B).keys m ≡ (view_of a A).keys m) (sym same)
        (ap (bytes_in (keys_mark a.size)) here_is ∙ kept_1 (keys_mark a.size) (value_mark a.size s.cell) (block_at A (a.start + s.block)) X (inl (omega arith)))
  ]

  keys_are : (view_of a B).keys ≡ (view_of a A).keys
  keys_are = λ j. λ k. keys_same k j

  first_is : (view_of a B).first ≡ (view_of a A).first
  unfolding B w
  first_is = other_block A w a.start (λ e. absurd (let least = some in omega arith))

  value_here : (view_of a B).value s.block s.cell ≡ value_part value
  unfolding X
  value_here =
      ap (bytes_in (value_mark a.size s.cell)) here_is
      ∙ laid_all (value_mark a.size s.cell) (value_mark a.size s.cell ∷ []) (block_at A (a.start + s.block)) X (length_X ∙ sym (region.shape s.block inside)) (λ p has. or_left _ false has)
      ∙ laid_here (keys_end a.size + 33 * s.cell) 33 (value_part value) (replicate a.size 0) (length-part 32 value short) (omega (arith, fits, length-part 32 value short, length-replicate {A = ℕ} a.size 0))

  value_far : (k i : ℕ) → ((k ≡ s.block) × (i ≡ s.cell) → ⊥) → (view_of a B).value k i ≡ (view_of a A).value k i
  value_far k i other = elim (cases_eq k s.block) [
    | inr far ↦ ap (bytes_in (value_mark a.size i)) (far_is k far)
    | inl same ↦ subst (λ (m : ℕ). (view_of a B).value m i ≡ (view_of a A).value m i) (sym same)
        (ap (bytes_in (value_mark a.size i)) here_is
        ∙ kept_1 (value_mark a.size i) (value_mark a.size s.cell) (block_at A (a.start + s.block)) X
        (elim (Rattle.std.proofs.lemmas.Bool.cases_lt i s.cell) [ inl before ↦ inl (omega arith) | inr past ↦ inr (let apart : i ≢ s.cell = λ e. other (same, e) in omega arith) ]))
  ]

  stands_at : StandsAt a (view_of a A).keys key s
  stands_at = grind arith steps 100000

  moves : Moves a (view_of a A).keys (view_of a A).keys (view_of a A).value (view_of a B).value key
  moves = grind (arith, value_far) steps 100000

  values : HaveValues a (view_of a A).keys (view_of a B).value
  values b k i below has cell = elim (is_spot k i s) [
    | inl here ↦
        (let at : (view_of a B).value k i ≡ value_part value = ap (λ (m : ℕ). (view_of a B).value m i) here.0 ∙ ap (λ (j : ℕ). (view_of a B).value s.block j) here.1 ∙ value_here in (
          ap (is_part 32) at ∙ part_is_part 32 32 value short,
          λ unused. absurd (both_ways (is_unused ((view_of a A).keys s.block) s.cell) stands.used (sym (ap (λ (m : ℕ). is_unused ((view_of a A).keys m) i) here.0 ∙ ap (λ (j : ℕ). is_unused ((view_of a A).keys s.block) j) here.1) ∙ unused)),
        ))
    | inr other ↦
        (let was = region.values b k i below has cell in
        (ap (is_part 32) (value_far k i other) ∙ was.0, λ unused. ap (list_all is_zero) (value_far k i other) ∙ was.1 unused))
  ]

  pub put_found : HasPut a key value A (put A (store_access (a.start + s.block) (value_mark a.size s.cell ∷ []) (block_with a.size (keys_end a.size + 33 * s.cell) (value_part value))))
  unfolding B w X hash_map
  put_found = record {
    region = record {
      shape = λ k below. length-block_put A w (a.start + k) ∙ region.shape k below;
      keyed = subst (λ (keys : ℕ → List ℕ). IsKeyed a keys (view_of a B).first) (sym keys_are) (subst (λ (first : List ℕ). IsKeyed a (view_of a A).keys first) (sym first_is) region.keyed);
      values = subst (λ (keys : ℕ → List ℕ). HaveValues a keys (view_of a B).value) (sym keys_are) values;
    };
    map_is =
        ap (λ (keys : ℕ → List ℕ). Rattle.std.specs.FinMap.from_entries (all_pairs a keys (view_of a B).value)) keys_are
        ∙ map_put a (view_of a A).keys (view_of a A).keys (view_of a A).value (view_of a B).value key moves region.keyed.in_bucket region.keyed.apart s value stands_at (ap text_of value_here ∙ part_text 32 value);
  }

-- a block with one cell, in others
pub length-with_cell : (size cell : ℕ) (key value block : List ℕ) → length block ≡ size → length key ≤ 30 → length value ≤ 32 → keys_end size + 33 * cell + 33 ≤ size → cell < cell_count size → length (with_cell size cell key value block) ≡ size
length-with_cell size cell key value block long short low fits below =
    let one = length-laid_at (64 + 31 * cell) (key_part key) block (omega (arith, length-part 30 key short)) in
    length-laid_at (keys_end size + 33 * cell) (value_part value) (laid_at (64 + 31 * cell) (key_part key) block) (omega (arith, one, length-part 32 value low)) ∙ one ∙ long

pub cell_key_part : (size cell : ℕ) (key value block : List ℕ) → length block ≡ size → length key ≤ 30 → length value ≤ 32 → keys_end size + 33 * cell + 33 ≤ size → cell < cell_count size
    → bytes_in (key_mark cell) (with_cell size cell key value block) ≡ key_part key
cell_key_part size cell key value block long short low fits below =
    let one = length-laid_at (64 + 31 * cell) (key_part key) block (omega (arith, length-part 30 key short)) in
    laid_kept (key_mark cell) (keys_end size + 33 * cell) (value_part value) (laid_at (64 + 31 * cell) (key_part key) block) (omega (arith, one, length-part 32 value low)) (inl (omega arith))
    ∙ laid_here (64 + 31 * cell) 31 (key_part key) block (length-part 30 key short) (omega (arith, length-part 30 key short))

pub cell_value_part : (size cell : ℕ) (key value block : List ℕ) → length block ≡ size → length key ≤ 30 → length value ≤ 32 → keys_end size + 33 * cell + 33 ≤ size → cell < cell_count size
    → bytes_in (value_mark size cell) (with_cell size cell key value block) ≡ value_part value
cell_value_part size cell key value block long short low fits below =
    let one = length-laid_at (64 + 31 * cell) (key_part key) block (omega (arith, length-part 30 key short)) in
    laid_here (keys_end size + 33 * cell) 33 (value_part value) (laid_at (64 + 31 * cell) (key_part key) block) (length-part 32 value low) (omega (arith, one, length-part 32 value low))

-- a key part that was written is used, and has the key
pub new_used : (keys key : List ℕ) (i : ℕ) → 0 < length key → bytes_in (key_mark i) keys ≡ key_part key → is_unused keys i ≡ false
new_used keys key i some is = ap (λ (x : List ℕ). get_or x 0 0 == 0) is ∙ ne_eqb (length key) 0 (λ e. absurd (omega arith))

pub new_key : (keys key : List ℕ) (i : ℕ) → bytes_in (key_mark i) keys ≡ key_part key → key_at keys i ≡ key
new_key keys key i is = ap text_of is ∙ part_text 30 key

-- a put into an unused cell of a chain in which the key does not stand
module _ (a : Area) (key value : List ℕ) (A : Array) (s : Spot) (area : IsHashArea a) (region : IsHashRegion a A) (key_some : 0 < length key) (key_short : length key ≤ 28) (short : length value ≤ 32)
    (spare : IsSpare a (view_of a A).keys (chain a (view_of a A).keys (bucket_of a key)) s)
    (nowhere : (b k i : ℕ) → Stands a (view_of a A).keys b k i → key_at ((view_of a A).keys k) i ≢ key) where
  Y : List ℕ
  Y = with_cell a.size s.cell key value (replicate a.size 0)

  C : Array
  C = put A (store_access (a.start + s.block) (key_mark s.cell ∷ value_mark a.size s.cell ∷ []) Y)

  below : bucket_of a key < buckets a
  below = bucket_below a key area

  block_some : 0 < s.block
  block_some = (placed a (view_of a A).keys (bucket_of a key) 0 (chain a (view_of a A).keys (bucket_of a key)) (1 + bucket_of a key) 0 s.block (region.keyed.linked (bucket_of a key) below) spare.is_in).some

  block_in : s.block < a.blocks
  block_in = block_inside a (view_of a A).keys (bucket_of a key) s.block area below (region.keyed.linked (bucket_of a key) below) spare.is_in

  zero_long : length {A = ℕ} (replicate a.size 0) ≡ a.size
  zero_long = length-replicate {A = ℕ} a.size 0

  long_30 : length key ≤ 30
  long_30 = omega arith

  is : IsRewritten a A C s (key_part key) (value_part value)
  unfolding C Y
  is =
      let made = rewrites a A s Y area spare.cell block_some (length-with_cell a.size s.cell key value (replicate a.size 0) zero_long long_30 short (cells_fit a s.cell area spare.cell) spare.cell ∙ sym (region.shape s.block block_in)) in
      subst (λ (v : List ℕ). IsRewritten a A C s (key_part key) v) (cell_value_part a.size s.cell key value (replicate a.size 0) zero_long long_30 short (cells_fit a s.cell area spare.cell) spare.cell)
      (subst (λ (p : List ℕ). IsRewritten a A C s p (bytes_in (value_mark a.size s.cell) Y)) (cell_key_part a.size s.cell key value (replicate a.size 0) zero_long long_30 short (cells_fit a s.cell area spare.cell) spare.cell) made)

  good : is_part 28 (key_part key) ≡ true
  good = part_is_part 30 28 key key_short

  is_key_at : key_at ((view_of a C).keys s.block) s.cell ≡ key
  is_key_at = new_key ((view_of a C).keys s.block) key s.cell is.here

  not_there : (b k i : ℕ) → Stands a (view_of a A).keys b k i → (k ≡ s.block) × (i ≡ s.cell) → ⊥
  not_there b k i stands e = grind arith steps 100000

  has_key : (k i : ℕ) → (k ≡ s.block) × (i ≡ s.cell) → key_at ((view_of a C).keys k) i ≡ key
  has_key k i e = ap (λ (m : ℕ). key_at ((view_of a C).keys m) i) e.0 ∙ ap (λ (j : ℕ). key_at ((view_of a C).keys s.block) j) e.1 ∙ is_key_at

  spare_moves : Moves a (view_of a A).keys (view_of a C).keys (view_of a A).value (view_of a C).value key
  spare_moves = record {
    kept = λ b k i stands other. same_there a A C s (key_part key) (value_part value) is good b k i stands (not_there b k i stands);
    old = λ b k i stands other. same_before a A C s (key_part key) (value_part value) is good b k i stands (λ e. other (has_key k i e));
  }

  spare_at : StandsAt a (view_of a C).keys key s
  spare_at = record {
    here = record { bucket_is = below; block_is = subst (IsIn s.block) (sym (chain_same a A C s (key_part key) (value_part value) is good (bucket_of a key))) spare.is_in; cell_is = spare.cell; used = new_used ((view_of a C).keys s.block) key s.cell key_some is.here };
    key_is = is_key_at;
    only = λ b k i stands e. elim (is_spot k i s) [
      | inl here ↦
          (let has : IsIn s.block (chain a (view_of a A).keys b) = subst (IsIn s.block) (chain_same a A C s (key_part key) (value_part value) is good b) (subst (λ (m : ℕ). IsIn m (chain a (view_of a C).keys b)) here.0 stands.block_is) in
          (one_bucket a (view_of a A).keys b (bucket_of a key) s.block (region.keyed.linked b stands.bucket_is) (region.keyed.linked (bucket_of a key) below) has spare.is_in, here))
      | inr other ↦
          (let was = same_before a A C s (key_part key) (value_part value) is good b k i stands other in
          absurd (nowhere b k i was.stands (was.key_is ∙ e)))
    ];
  }

  pub put_spare : HasPut a key value A (put A (store_access (a.start + s.block) (key_mark s.cell ∷ value_mark a.size s.cell ∷ []) (with_cell a.size s.cell key value (replicate a.size 0))))
  unfolding C Y hash_map
  put_spare = record {
    region = record {
      shape = λ k low. length-block_put A (store_access (a.start + s.block) (key_mark s.cell ∷ value_mark a.size s.cell ∷ []) Y) (a.start + k) ∙ region.shape k low;
      keyed = record {
        linked = λ b low. linked_kept a A C s (key_part key) (value_part value) is good b (region.keyed.linked b low);
        bits = bits_kept a A C s (key_part key) (value_part value) is good region.keyed.bits;
        head = ap (λ (x : List ℕ). list_all is_zero (Rattle.std.proofs.Common.take 64 x)) is.first ∙ region.keyed.head;
        in_bucket = buckets_at a (view_of a A).keys (view_of a C).keys (view_of a A).value (view_of a C).value key spare_moves region.keyed.in_bucket region.keyed.apart s spare_at;
        apart = apart_at a (view_of a A).keys (view_of a C).keys (view_of a A).value (view_of a C).value key spare_moves region.keyed.in_bucket region.keyed.apart s spare_at;
      };
      values = values_kept a A C s (key_part key) (value_part value) is good (part_is_part 32 32 value short)
          (λ unused. absurd (both_ways (is_unused ((view_of a C).keys s.block) s.cell) (new_used ((view_of a C).keys s.block) key s.cell key_some is.here) unused)) region.values;
    };
    map_is = map_put a (view_of a A).keys (view_of a C).keys (view_of a A).value (view_of a C).value key spare_moves region.keyed.in_bucket region.keyed.apart s value spare_at (ap text_of is.value_here ∙ part_text 32 value);
  }
