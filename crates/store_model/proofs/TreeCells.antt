-- The cells of nodes that are read and written: they fit their places, and are bytes.
use Rattle.store_model.proofs.{Words.{◌≡◌, ◌≢◌, ◌∙◌, sym, refl, ap, ℕ, zero, suc, ◌+◌, ◌-◌, ◌*◌, ◌/◌, ◌%◌, ◌<◌, ◌≤◌, Bool, true, false, ◌&&◌, ◌||◌, ◌==◌, cond, List, [], ◌∷◌, ◌++◌, length, take, drop, replicate, filter, flat_map, nat_le, get_or, inl, inr, arith, ne_eqb, AllByRecursion, to_be_bytes, w32, and_parts, cases_Bool, false≢true, leb-true, nat_tests, length-drop, length-replicate, length-take, mod-lt, all_from, are_key_parts, cell_count, is_part, key_at, key_mark, key_part, keys_end, keys_mark, value_mark, value_part, is_block_size, AreBytes, bytes_in, Cell, IsBlock, before, cells_by, child_part, count_of, has_head, has_level, is_node, node_bytes, used_cells, emptied, put_after, without_first, bytes_append, bytes_cons, bytes_drop, bytes_take, no_bytes, replicate_bytes}, Laying.{length-part, part_bytes, word_bytes}}
use Rattle.std.proofs.lemmas.List.{length-append}

-- the numbers of a block size
size_is : (size n : ℕ) (rest : Bool) → 64 * (cell_count n + 1) ≡ n → n ≤ 4096 → ((size == n) || rest) ≡ true → (rest ≡ true → IsBlock size) → IsBlock size
size_is size n rest whole most is other = grind arith

pub block_size_is : (size : ℕ) → is_block_size size ≡ true → IsBlock size
block_size_is size is =
    size_is size 64 _ refl (omega arith) is (λ r1.
    size_is size 128 _ refl (omega arith) r1 (λ r2.
    size_is size 256 _ refl (omega arith) r2 (λ r3.
    size_is size 512 _ refl (omega arith) r3 (λ r4.
    size_is size 1024 _ refl (omega arith) r4 (λ r5.
    size_is size 2048 _ refl (omega arith) r5 (λ r6.
    size_is size 4096 _ refl (omega arith) r6 (λ none. absurd (false≢true none))))))))

-- one of the numbers that were tested
pub tested_at : (test : ℕ → Bool) (i n j : ℕ) → all_from test i n ≡ true → i ≤ j → j < i + n → test j ≡ true
tested_at test i zero j all from to = absurd (omega arith)
tested_at test i (suc n) j all from to =
    let parts = and_parts _ _ all in
    elim (cases_Bool (i == j)) [
      | inl here ↦ (let e : i ≡ j = grind (arith, nat_tests) in sym (ap test e) ∙ parts.0)
      | inr later ↦ (let differ : i ≢ j = grind (arith, nat_tests) in tested_at test (i + 1) n j parts.1 (omega arith) (omega arith))
    ]

-- what the test of a node says of its cells
pub record IsNodeRead (size level : ℕ) (keys : List ℕ) : Type 0 where
  pub few : count_of keys ≤ cell_count size
  pub parts : are_key_parts size keys ≡ true
  pub some : 0 < level → 2 ≤ count_of keys

pub node_read : (size level : ℕ) (keys : List ℕ) → is_node size level keys ≡ true → IsNodeRead size level keys
unfolding is_node
node_read size level keys is =
    let one = and_parts (has_head size level keys) _ is in
    let two = and_parts (are_key_parts size keys) _ one.1 in
    let three = and_parts _ (has_level size level keys (count_of keys)) two.1 in
    record {
      few = leb-true _ _ (and_parts _ _ one.0).1;
      parts = two.0;
      some = λ above.
          let inner : (level == 0) ≡ false = ne_eqb level 0 (λ e. absurd (omega arith)) in
          let kind : ((level == 0) || (nat_le 2 (count_of keys) && (length (key_at keys 0) == 0))) ≡ true = (and_parts _ _ three.1).0 in
          leb-true 2 (count_of keys) (and_parts _ _ (sym (ap (λ (t : Bool). t || (nat_le 2 (count_of keys) && (length (key_at keys 0) == 0))) inner) ∙ kind)).0;
    }

-- a cell that fits its place, of bytes
pub record IsCell (c : Cell) : Type 0 where
  pub short : length c.0 ≤ 28
  pub whole : length c.1 ≡ 33
  pub key : AreBytes c.0
  pub part : AreBytes c.1

abbrev pub AreCells : List Cell → Type 0
AreCells cs = AllByRecursion IsCell cs

module _ (size level : ℕ) (block : List ℕ) (sized : IsBlock size) (long : length block ≡ size) (values : AreBytes block) (is : is_node size level (bytes_in (keys_mark size) block) ≡ true) where
  abbrev keys : List ℕ
  keys = bytes_in (keys_mark size) block

  cell_is : (i : ℕ) → i < cell_count size → IsCell (key_at keys i, bytes_in (value_mark size i) block)
  cell_is i below =
      let part : is_part 28 (bytes_in (key_mark i) keys) ≡ true = tested_at (λ j. is_part 28 (bytes_in (key_mark j) keys)) 0 (cell_count size) i (node_read size level keys is).parts (omega arith) (omega arith) in
      let short : get_or (bytes_in (key_mark i) keys) 0 0 ≤ 28 = leb-true _ _ (and_parts _ _ part).0 in
      let whole = sized.whole in
      let of_keys : AreBytes (bytes_in (key_mark i) keys) = bytes_take 31 _ (bytes_drop (64 + 31 * i) keys (bytes_take (keys_end size) _ (bytes_drop 0 block values))) in
      record {
        short = omega (arith, short, length-take (get_or (bytes_in (key_mark i) keys) 0 0) (drop 1 (bytes_in (key_mark i) keys)));
        whole = omega (arith, length-take 33 (drop (keys_end size + 33 * i) block), length-drop (keys_end size + 33 * i) block);
        key = bytes_take (get_or (bytes_in (key_mark i) keys) 0 0) _ (bytes_drop 1 _ of_keys);
        part = bytes_take 33 _ (bytes_drop (keys_end size + 33 * i) block values);
      }

  cells_from : (i n : ℕ) → i + n ≤ cell_count size → AreCells (cells_by keys (λ j. bytes_in (value_mark size j) block) i n)
  cells_from i zero inside = tt
  cells_from i (suc n) inside = (cell_is i (omega arith), cells_from (i + 1) n (omega arith))

  length-from : (i n : ℕ) → length (cells_by keys (λ j. bytes_in (value_mark size j) block) i n) ≡ n
  length-from i zero = refl
  length-from i (suc n) = ap suc (length-from (i + 1) n)

  -- the cells of a node that was read
  pub used_are : AreCells (used_cells size block)
  used_are = cells_from 0 (count_of keys) (omega (arith, (node_read size level keys is).few))

  pub length-used : length (used_cells size block) ≡ count_of keys
  length-used = length-from 0 (count_of keys)

-- the bytes of a node that is written
key_row : (cs : List Cell) → AreCells cs → AreBytes (flat_map (λ c. key_part c.0) cs)
key_row [] all = no_bytes
key_row (c ∷ cs) all = bytes_append (key_part c.0) _ (part_bytes 30 c.0 (omega (arith, all.0.short)) all.0.key) (key_row cs all.1)

length-key_row : (cs : List Cell) → AreCells cs → length (flat_map (λ c. key_part c.0) cs) ≡ 31 * length cs
length-key_row [] all = refl
length-key_row (c ∷ cs) all =
    let rest = length-key_row cs all.1 in
    omega (arith, length-append (key_part c.0) (flat_map (λ c. key_part c.0) cs), length-part 30 c.0 (omega (arith, all.0.short)))

part_row : (cs : List Cell) → AreCells cs → AreBytes (flat_map (λ c. c.1) cs)
part_row [] all = no_bytes
part_row (c ∷ cs) all = bytes_append c.1 _ all.0.part (part_row cs all.1)

length-part_row : (cs : List Cell) → AreCells cs → length (flat_map (λ c. c.1) cs) ≡ 33 * length cs
length-part_row [] all = refl
length-part_row (c ∷ cs) all =
    let rest = length-part_row cs all.1 in
    omega (arith, length-append c.1 (flat_map (λ c. c.1) cs), all.0.whole)

module _ (size level : ℕ) (cs : List Cell) (sized : IsBlock size) (all : AreCells cs) (few : length cs ≤ cell_count size) where
  abbrev head_row : List ℕ
  head_row = 1 ∷ level ∷ length cs / 256 ∷ length cs % 256 ∷ replicate 60 0

  abbrev keys_row : List ℕ
  keys_row = flat_map (λ c. key_part c.0) cs ++ replicate (31 * (cell_count size - length cs)) 0

  abbrev values_row : List ℕ
  values_row = flat_map (λ c. c.1) cs ++ replicate (33 * (cell_count size - length cs)) 0

  pub length-node : length (node_bytes size level cs) ≡ size
  length-node =
      let head : length head_row ≡ 64 = refl in
      omega (
        arith,
        length-append head_row (keys_row ++ values_row),
        length-append keys_row values_row,
        length-append (flat_map (λ c. key_part c.0) cs) (replicate {A = ℕ} (31 * (cell_count size - length cs)) 0),
        length-append (flat_map (λ c. c.1) cs) (replicate {A = ℕ} (33 * (cell_count size - length cs)) 0),
        length-key_row cs all,
        length-part_row cs all,
        length-replicate {A = ℕ} (31 * (cell_count size - length cs)) 0,
        length-replicate {A = ℕ} (33 * (cell_count size - length cs)) 0,
        sized.whole,
      )

  pub node_values : level < 256 → AreBytes (node_bytes size level cs)
  node_values low =
      let most = sized.most in
      bytes_append head_row _
      (bytes_cons 1 (level ∷ length cs / 256 ∷ length cs % 256 ∷ replicate 60 0) (omega arith)
      (bytes_cons level (length cs / 256 ∷ length cs % 256 ∷ replicate 60 0) low
      (bytes_cons (length cs / 256) (length cs % 256 ∷ replicate 60 0) (omega arith)
      (bytes_cons (length cs % 256) (replicate 60 0) (mod-lt (length cs) (omega arith)) (replicate_bytes 60 0 (omega arith))))))
      (bytes_append keys_row _ (bytes_append (flat_map (λ c. key_part c.0) cs) _ (key_row cs all) (replicate_bytes _ 0 (omega arith)))
      (bytes_append (flat_map (λ c. c.1) cs) _ (part_row cs all) (replicate_bytes _ 0 (omega arith))))

-- cells stay cells
pub put_are : (key : List ℕ) (new : Cell) (cs : List Cell) → IsCell new → AreCells cs → AreCells (put_after key new cs)
put_are key new [] is all = (is, tt)
put_are key new (d ∷ ds) is all = elim (before key d.0) as (λ t. AreCells (cond t (new ∷ d ∷ ds) (d ∷ put_after key new ds))) [
  | true ↦ (is, all)
  | false ↦ (all.0, put_are key new ds is all.1)
]

pub length-put : (key : List ℕ) (new : Cell) (cs : List Cell) → length (put_after key new cs) ≡ suc (length cs)
length-put key new [] = refl
length-put key new (d ∷ ds) = elim (before key d.0) as (λ t. length (cond t (new ∷ d ∷ ds) (d ∷ put_after key new ds)) ≡ suc (suc (length ds))) [
  | true ↦ refl
  | false ↦ ap suc (length-put key new ds)
]

pub filter_are : (test : Cell → Bool) (cs : List Cell) → AreCells cs → AreCells (filter test cs)
filter_are test [] all = tt
filter_are test (c ∷ cs) all = elim (test c) as (λ t. AreCells (cond t (c ∷ filter test cs) (filter test cs))) [
  | true ↦ (all.0, filter_are test cs all.1)
  | false ↦ filter_are test cs all.1
]

pub length-filter_le : (test : Cell → Bool) (cs : List Cell) → length (filter test cs) ≤ length cs
length-filter_le test [] = omega arith
length-filter_le test (c ∷ cs) =
    let rest = length-filter_le test cs in
    grind arith

pub take_are : (n : ℕ) (cs : List Cell) → AreCells cs → AreCells (take n cs)
take_are zero cs all = tt
take_are (suc n) [] all = tt
take_are (suc n) (c ∷ cs) all = (all.0, take_are n cs all.1)

pub drop_are : (n : ℕ) (cs : List Cell) → AreCells cs → AreCells (drop n cs)
drop_are zero cs all = all
drop_are (suc n) [] all = tt
drop_are (suc n) (c ∷ cs) all = drop_are n cs all.1

first_are : (cs : List Cell) → AreCells cs → AreCells (without_first cs)
first_are [] all = tt
first_are (c ∷ cs) all = (record { short = omega arith; whole = all.0.whole; key = no_bytes; part = all.0.part }, all.1)

pub emptied_are : (level : ℕ) (cs : List Cell) → AreCells cs → AreCells (emptied level cs)
emptied_are zero cs all = all
emptied_are (suc level) cs all = first_are cs all

pub length-emptied : (level : ℕ) (cs : List Cell) → length (emptied level cs) ≡ length cs
length-emptied level cs = grind arith

pub value_cell : (key value : List ℕ) → length key ≤ 28 → length value ≤ 32 → AreBytes key → AreBytes value → IsCell (key, value_part value)
value_cell key value short small key_values values = record { short = short; whole = length-part 32 value small; key = key_values; part = part_bytes 32 value (omega arith) values }

pub child_cell : (key : List ℕ) (block : ℕ) → length key ≤ 28 → AreBytes key → IsCell (key, child_part block)
child_cell key block short key_values =
    let four : length (to_be_bytes w32 block) ≡ 4 = refl in
    value_cell key (to_be_bytes w32 block) short (omega arith) key_values (word_bytes block)
