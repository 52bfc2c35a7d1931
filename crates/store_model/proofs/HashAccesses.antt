-- The accesses of the hash store's calls are accesses to the array.
use Rattle.store_model.proofs.{Words.{region_there, tests_passed, ◌≡◌, ◌≢◌, ◌∙◌, sym, refl, subst, inl, inr, ℕ, zero, suc, ◌+◌, ◌*◌, ◌%◌, ◌^◌, ◌<◌, ◌≤◌, Bool, true, false, ◌&&◌, ◌==◌, not, cond, IsTrue, List, [], ◌∷◌, length, Option, Some, None, IfSome, option_map, replicate, slice_index, arith, to_be_bytes, w32, and_parts, cases_Bool, false≢true, leb-true, ltb-true, or_cases, length-replicate, and_le_r, or_lt, xor_lt, mod-lt, Geometry, Area, Spot, block_with, cell_count, cell_with, key_mark, key_part, keys_end, keys_mark, laid_at, next_mark, unused_cell, value_mark, value_part, first_from, bit_mark, bit_place, clear_bit, lowest_free, map_bit, map_mark, set_bit, is_valid, AtBroken, AtCell, AtEnd, Walked, at_cell, del_at, del_program, get_program, got, is_key, is_spent, is_value, new_block, put_at, put_new, put_program, spare_in, spot_in, walk, walk_from, walk_further, with_cell, IsHashArea, bucket_of, buckets, is_linked, last_position, next_of, AreBytes, IsAccess, IsSpan, hash_area, Done, Program, store_access, bytes_cons, no_bytes, replicate_bytes}, Laying.{block_with_bytes, laid_bytes, length-block_with, length-laid_at, length-part, part_bytes, word_bytes}, StoreAccesses.{AllFit, fit_cond, fit_then, stored_in}}

-- the hash store of a valid image that has one
pub hash_area_is : (g : Geometry) → IsTrue (is_valid g) → g.hash ≢ 0 → IsHashArea (hash_area g)
hash_area_is g valid some =
    let passed = tests_passed g valid in
    let there = region_there g 3 g.hash passed.hash some in
    record { block_size = passed.block; least_size = there.block; least = there.enough; most = there.most }

-- the number that is found first is one of those tried
pub first_below : (test : ℕ → Bool) (i n j : ℕ) → first_from test i n ≡ Some j → j < i + n
first_below test i zero j e = cc
first_below test i (suc n) j e = elim (cases_Bool (test i)) [
  | inl pass ↦
      (let here : Some i ≡ Some j = sym (rw pass refl) ∙ e in
      let same : i ≡ j = cc in
      omega arith)
  | inr fail ↦
      (let ih = first_below test (i + 1) n j (sym (rw fail refl) ∙ e) in
      omega arith)
]

-- the next block of a chain is in the area
next_below : (a : Area) (bucket position : ℕ) (keys : List ℕ) → is_linked a bucket position keys ≡ true → (next_of keys == 0) ≡ false → next_of keys < a.blocks
unfolding is_linked
next_below a bucket position keys linked more =
    let front = and_parts _ _ linked in
    let next = and_parts _ _ front.0 in
    elim (or_cases _ _ next.1) [
      | inl none ↦ absurd (false≢true (sym more ∙ none))
      | inr there ↦
          (let parts = and_parts _ _ there in
          let range = and_parts _ _ parts.0 in
          ltb-true _ _ range.1)
    ]

-- a byte with one bit
pub bit_small : (block : ℕ) → 2 ^ (block % 8) < 256
bit_small block = small (block % 8) (mod-lt block (omega arith))
  where
    small : (n : ℕ) → n < 8 → 2 ^ n < 256
    small zero below = omega arith
    small (suc zero) below = omega arith
    small (suc (suc zero)) below = omega arith
    small (suc (suc (suc zero))) below = omega arith
    small (suc (suc (suc (suc zero)))) below = omega arith
    small (suc (suc (suc (suc (suc zero))))) below = omega arith
    small (suc (suc (suc (suc (suc (suc zero)))))) below = omega arith
    small (suc (suc (suc (suc (suc (suc (suc zero))))))) below = omega arith
    small (suc (suc (suc (suc (suc (suc (suc (suc n)))))))) below = absurd (omega arith)

length_word : (n : ℕ) → length (to_be_bytes w32 n) ≡ 4
length_word n = refl

-- a cell of a block of the area, and where a walk ends
pub record IsSpotOf (a : Area) (spot : Spot) : Type 0 where
  pub block : spot.block < a.blocks
  pub cell : spot.cell < cell_count a.size

abbrev pub EndsIn : Area → Walked → Type 0
EndsIn a (AtCell spot before keys value) = IsSpotOf a spot × (before < a.blocks)
EndsIn a (AtEnd spare last position) = IfSome spare (IsSpotOf a) × (last < a.blocks)
EndsIn a (AtBroken block) = Unit {0}

-- an area of the image's blocks
pub record IsIn (g : Geometry) (a : Area) : Type 0 where
  pub area : IsHashArea a
  pub size : a.size ≡ g.block
  pub fits : a.start + a.blocks ≤ g.blocks

module _ (g : Geometry) (a : Area) (is : IsIn g a) where
  -- cells fill a block
  room : 64 + 64 * cell_count a.size ≤ g.block
  room = grind arith

  some_cells : 0 < cell_count a.size
  some_cells = omega (arith, is.area.least_size)

  value_span : (i : ℕ) → i < cell_count a.size → IsSpan g.block (value_mark a.size i)
  value_span i below = record { some = omega arith; fits = omega (arith, room) }

  key_span : (i : ℕ) → i < cell_count a.size → IsSpan g.block (key_mark i)
  key_span i below = record { some = omega arith; fits = omega (arith, room) }

  map_span : IsSpan g.block (map_mark a.blocks)
  map_span = record { some = omega arith; fits = omega (arith, is.size, is.area.least_size, is.area.most) }

  bit_span : (block : ℕ) → block < a.blocks → IsSpan g.block (bit_mark block)
  bit_span block below = record { some = omega arith; fits = omega (arith, is.size, is.area.least_size, is.area.most) }

  below_cells : (test : ℕ → Bool) (i : ℕ) → first_from test 0 (cell_count a.size) ≡ Some i → i < cell_count a.size
  below_cells test i e = omega (arith, first_below test 0 (cell_count a.size) i e)

  keys_span : IsSpan g.block (keys_mark a.size)
  keys_span = record { some = omega arith; fits = omega (arith, room) }

  next_span : IsSpan g.block next_mark
  next_span = record { some = omega arith; fits = omega (arith, room) }

  module _ (key value : List ℕ) (short : length key ≤ 28) (small : length value ≤ 32) (key_values : AreBytes key) (value_values : AreBytes value) where
    -- a cell laid into a block
    length-cell : (cell : ℕ) (block : List ℕ) → cell < cell_count a.size → length block ≡ a.size → length (with_cell a.size cell key value block) ≡ a.size
    length-cell cell block below long =
        let first = length-laid_at (64 + 31 * cell) (key_part key) block (omega (arith, room, is.size, below, long, length-part 30 key (omega (arith, short)))) in
        length-laid_at (keys_end a.size + 33 * cell) (value_part value) (laid_at (64 + 31 * cell) (key_part key) block)
        (omega (arith, room, is.size, below, long, first, length-part 32 value small)) ∙ first ∙ long

    cell_bytes : (cell : ℕ) (block : List ℕ) → AreBytes block → AreBytes (with_cell a.size cell key value block)
    cell_bytes cell block values =
        laid_bytes (keys_end a.size + 33 * cell) (value_part value) (laid_at (64 + 31 * cell) (key_part key) block) (part_bytes 32 value (omega (arith, small)) value_values)
        (laid_bytes (64 + 31 * cell) (key_part key) block (part_bytes 30 key (omega (arith, short)) key_values) values)

    -- a put into a new block
    new_fits : (last position : ℕ) (map : List ℕ) → last < a.blocks → AreBytes map → (o : Option ℕ) → lowest_free map (buckets a + 1) (last_position a) ≡ o
        → AllFit g (λ r. Unit {0}) (put_new a key value last position map o)
    new_fits last position map inside values None free = tt
    new_fits last position map inside values (Some block) free =
        let below : block < a.blocks = omega (arith, is.area.least, first_below (λ k. not (map_bit map k)) (buckets a + 1) (last_position a) block free) in
        let fits : bit_place block + 1 ≤ a.size = omega (arith, (bit_span block below).fits, is.size) in
        let four = length_word (bucket_of a key) in
        let five = length_word (position + 1) in
        let empty = length-replicate {A = ℕ} a.size 0 in
        let named : length (laid_at 4 (to_be_bytes w32 (bucket_of a key)) (replicate a.size 0)) ≡ a.size = length-block_with a.size 4 (to_be_bytes w32 (bucket_of a key)) (omega (arith, four, is.area.least_size)) in
        let placed : length (laid_at 8 (to_be_bytes w32 (position + 1)) (laid_at 4 (to_be_bytes w32 (bucket_of a key)) (replicate a.size 0))) ≡ a.size =
        length-laid_at 8 (to_be_bytes w32 (position + 1)) (laid_at 4 (to_be_bytes w32 (bucket_of a key)) (replicate a.size 0)) (omega (arith, five, named, is.area.least_size)) ∙ named in
        let placed_values : AreBytes (laid_at 8 (to_be_bytes w32 (position + 1)) (laid_at 4 (to_be_bytes w32 (bucket_of a key)) (replicate a.size 0))) =
        laid_bytes 8 (to_be_bytes w32 (position + 1)) (laid_at 4 (to_be_bytes w32 (bucket_of a key)) (replicate a.size 0)) (word_bytes (position + 1)) (block_with_bytes a.size 4 (to_be_bytes w32 (bucket_of a key)) (word_bytes (bucket_of a key))) in (
          subst (λ (n : ℕ). IsAccess g (store_access n (bit_mark block ∷ []) (block_with a.size (bit_place block) (set_bit (slice_index map (bit_place block)) block ∷ [])))) (omega arith)
              (stored_in g a is.size is.fits 0 (bit_mark block ∷ []) (block_with a.size (bit_place block) (set_bit (slice_index map (bit_place block)) block ∷ [])) (omega (arith, below)) (bit_span block below, tt) (omega arith)
              (length-block_with a.size (bit_place block) (set_bit (slice_index map (bit_place block)) block ∷ []) fits)
              (block_with_bytes a.size (bit_place block) (set_bit (slice_index map (bit_place block)) block ∷ []) (bytes_cons _ [] (or_lt 8 _ _ (values (bit_place block)) (bit_small block)) no_bytes))),
          (
            stored_in g a is.size is.fits block [] (new_block a.size (bucket_of a key) (position + 1) key value) below tt (omega arith)
                (length-cell 0 _ (omega (arith, some_cells)) placed) (cell_bytes 0 _ placed_values),
            (
              stored_in g a is.size is.fits last (next_mark ∷ []) (block_with a.size 0 (to_be_bytes w32 block)) inside (next_span, tt) (omega arith)
                  (length-block_with a.size 0 (to_be_bytes w32 block) (omega (arith, length_word block, is.area.least_size))) (block_with_bytes a.size 0 (to_be_bytes w32 block) (word_bytes block)),
              tt,
            ),
          ),
        )

    put_fits_at : (w : Walked) → EndsIn a w → AllFit g (λ r. Unit {0}) (put_at a key value w)
    put_fits_at (AtCell spot before keys old) (here, front) = (
      stored_in g a is.size is.fits spot.block (value_mark a.size spot.cell ∷ []) (block_with a.size (keys_end a.size + 33 * spot.cell) (value_part value)) here.block (value_span spot.cell here.cell, tt) (omega arith)
          (length-block_with a.size (keys_end a.size + 33 * spot.cell) (value_part value) (omega (arith, room, is.size, here.cell, length-part 32 value small)))
          (block_with_bytes a.size (keys_end a.size + 33 * spot.cell) (value_part value) (part_bytes 32 value (omega (arith, small)) value_values)),
      tt,
    )
    put_fits_at (AtEnd (Some spot) last position) (here, inside) = (
      stored_in g a is.size is.fits spot.block (key_mark spot.cell ∷ value_mark a.size spot.cell ∷ []) (with_cell a.size spot.cell key value (replicate a.size 0)) here.block (key_span spot.cell here.cell, (value_span spot.cell here.cell, tt)) (omega arith)
          (length-cell spot.cell (replicate a.size 0) here.cell (length-replicate a.size 0)) (cell_bytes spot.cell (replicate a.size 0) (replicate_bytes a.size 0 (omega arith))),
      tt,
    )
    put_fits_at (AtEnd None last position) (here, inside) = grind (arith, map_span, new_fits)
    put_fits_at (AtBroken block) ends = tt

  -- what del does
  del_fits_at : (w : Walked) → EndsIn a w → AllFit g (λ r. Unit {0}) (del_at a w)
  del_fits_at (AtCell spot before keys value) (here, front) =
      let zero_long = length-replicate {A = ℕ} a.size 0 in
      let zero_values : AreBytes (replicate a.size 0) = replicate_bytes a.size 0 (omega arith) in
      let fits : bit_place spot.block + 1 ≤ a.size = omega (arith, (bit_span spot.block here.block).fits, is.size) in
      fit_cond g (λ r. Unit {0}) (is_spent a spot keys) _ _
      (λ spent. (
        omega (arith, is.fits, is.area.least),
        map_span,
        λ xs. tt,
        λ xs ys values more. (
          subst (λ (n : ℕ). IsAccess g (store_access n (bit_mark spot.block ∷ []) (block_with a.size (bit_place spot.block) (clear_bit (slice_index xs (bit_place spot.block)) spot.block ∷ [])))) (omega arith)
              (stored_in g a is.size is.fits 0 (bit_mark spot.block ∷ []) (block_with a.size (bit_place spot.block) (clear_bit (slice_index xs (bit_place spot.block)) spot.block ∷ [])) (omega (arith, here.block)) (bit_span spot.block here.block, tt) (omega arith)
              (length-block_with a.size (bit_place spot.block) (clear_bit (slice_index xs (bit_place spot.block)) spot.block ∷ []) fits)
              (block_with_bytes a.size (bit_place spot.block) (clear_bit (slice_index xs (bit_place spot.block)) spot.block ∷ [])
              (bytes_cons _ [] (xor_lt 8 _ _ (values (bit_place spot.block)) (omega (arith, and_le_r (slice_index xs (bit_place spot.block)) (2 ^ (spot.block % 8)), bit_small spot.block))) no_bytes))),
          (stored_in g a is.size is.fits before (next_mark ∷ []) (replicate a.size 0) front (next_span, tt) (omega arith) zero_long zero_values, tt),
        ),
      ))
      (λ not_spent. (stored_in g a is.size is.fits spot.block (key_mark spot.cell ∷ value_mark a.size spot.cell ∷ []) (replicate a.size 0) here.block (key_span spot.cell here.cell, (value_span spot.cell here.cell, tt)) (omega arith) zero_long zero_values, tt))
  del_fits_at (AtEnd spare last position) ends = tt
  del_fits_at (AtBroken block) ends = tt

  -- the walk
  module _ (key : List ℕ) (bucket : ℕ) (with_value : Bool) where
    spare_inside : (spare : Option Spot) (block : ℕ) (keys : List ℕ) → IfSome spare (IsSpotOf a) → block < a.blocks → IfSome (spare_in a spare block keys) (IsSpotOf a)
    spare_inside (Some spot) block keys here inside = here
    spare_inside None block keys none inside = spot_inside (unused_cell a.size keys) refl
      where
        spot_inside : (o : Option ℕ) → unused_cell a.size keys ≡ o → IfSome (spot_in block o) (IsSpotOf a)
        spot_inside None e = tt
        spot_inside (Some i) e = record { block = inside; cell = below_cells _ i e }

    further_inside : (position : ℕ) (keys : List ℕ) → IfSome (walk_further a key bucket with_value position keys) (IsSpan g.block)
    further_inside position keys = either (with_value && is_linked a bucket position keys)
      where
        mark_inside : (o : Option ℕ) → cell_with a.size key keys ≡ o → IfSome (option_map (value_mark a.size) o) (IsSpan g.block)
        mark_inside None e = tt
        mark_inside (Some i) e = value_span i (below_cells _ i e)

        either : (test : Bool) → IfSome (cond test (option_map (value_mark a.size) (cell_with a.size key keys)) None) (IsSpan g.block)
        either test = grind (arith, mark_inside)

    fit_at_cell : (o : Option ℕ) (found : ℕ → Program Walked) (other : Program Walked) → ((i : ℕ) → o ≡ Some i → AllFit g (EndsIn a) (found i)) → AllFit g (EndsIn a) other
        → AllFit g (EndsIn a) (at_cell o found other)
    fit_at_cell None found other here there = there
    fit_at_cell (Some i) found other here there = here i refl

    walk_fits : (left position before block : ℕ) (spare : Option Spot) → block < a.blocks → before < a.blocks → IfSome spare (IsSpotOf a)
        → AllFit g (EndsIn a) (walk_from a key bucket with_value left position before block spare)
    walk_fits zero position before block spare inside front free = tt
    walk_fits (suc left) position before block spare inside front free = (
      omega (arith, is.fits, inside),
      keys_span,
      further_inside position,
      λ xs ys values more.
          fit_cond g (EndsIn a) (is_linked a bucket position xs) _ _
          (λ linked. fit_at_cell (cell_with a.size key xs) _ _
          (λ i e. (record { block = inside; cell = below_cells _ i e }, front))
          (fit_cond g (EndsIn a) (next_of xs == 0) _ _
          (λ last. (spare_inside spare block xs free inside, inside))
          (λ goes_on. walk_fits left (position + 1) block (next_of xs) (spare_in a spare block xs) (next_below a bucket position xs linked goes_on) inside (spare_inside spare block xs free inside))))
          (λ not_linked. tt),
    )

  whole_walk_fits : (key : List ℕ) (with_value : Bool) → AllFit g (EndsIn a) (walk a key with_value)
  unfolding walk bucket_of
  whole_walk_fits key with_value = grind (arith, walk_fits)

  pub get_fits : (key : List ℕ) → AllFit g (λ r. Unit {0}) (get_program a key)
  unfolding get_program
  get_fits key =
      fit_cond g (λ r. Unit {0}) (is_key key) _ _
      (λ good. fit_then g (EndsIn a) (λ r. Unit {0}) (walk a key true) (λ w. Done (got a w)) (whole_walk_fits key true) (λ w ends. tt)) (λ bad. tt)

  pub del_fits : (key : List ℕ) → AllFit g (λ r. Unit {0}) (del_program a key)
  unfolding del_program
  del_fits key =
      fit_cond g (λ r. Unit {0}) (is_key key) _ _
      (λ good. fit_then g (EndsIn a) (λ r. Unit {0}) (walk a key false) (del_at a) (whole_walk_fits key false) del_fits_at) (λ bad. tt)

  pub put_fits : (key value : List ℕ) → AreBytes key → AreBytes value → AllFit g (λ r. Unit {0}) (put_program a key value)
  unfolding put_program
  put_fits key value key_values value_values =
      fit_cond g (λ r. Unit {0}) (is_key key) _ _
      (λ good. fit_cond g (λ r. Unit {0}) (is_value value) _ _
      (λ small. fit_then g (EndsIn a) (λ r. Unit {0}) (walk a key false) (put_at a key value) (whole_walk_fits key false)
      (put_fits_at key value (leb-true _ _ (and_parts _ _ good).1) (leb-true _ _ small) key_values value_values)) (λ long. tt)) (λ bad. tt)
