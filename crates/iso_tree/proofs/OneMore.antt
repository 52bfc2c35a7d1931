-- The bytes of a node with a cell more, part by part.
use Rattle.iso_tree.proofs.{Words.{◌≡◌, ◌∙◌, sym, ap, ℕ, ◌+◌, ◌-◌, ◌*◌, ◌/◌, ◌%◌, ◌<◌, ◌≤◌, true, List, [], ◌∷◌, ◌++◌, take, drop, length, replicate, arith, flat_map, append_assoc, append-nil, flat_map-append, drop-drop, drop-take, take-take, cell_count, keys_end, key_part, are_key_parts, Cell, IsBlock, node_bytes, cells_from, row_from}, Copying.{keys_are, values_are}, Bytes.length-node_bytes, Filling.{row_about, row_fits, length-row}}

-- parts with one more among them, and zeros after them
abbrev pub parts_with : (place to : ℕ) → (part parts : List ℕ) → List ℕ
parts_with place to part parts = (take place parts ++ (part ++ take (to - place) (drop place parts))) ++ replicate (length parts - (to + length part)) 0

module _ (size : ℕ) (node : List ℕ) (sized : IsBlock size) (long : length node ≡ size) (parts : are_key_parts size (take (keys_end size) node) ≡ true) (place count : ℕ) (low : place ≤ count) (room : count < cell_count size) where
  abbrev n : ℕ
  n = cell_count size

  abbrev keys : List ℕ
  keys = take (31 * n) (drop 64 node)

  abbrev values : List ℕ
  values = take (33 * n) (drop (keys_end size) node)

  abbrev keys_of : List Cell → List ℕ
  keys_of cs = flat_map (λ (c : Cell). key_part c.0) cs

  abbrev values_of : List Cell → List ℕ
  values_of cs = flat_map (λ (c : Cell). c.1) cs

  -- the parts that are there, as those of cells
  keys_ahead : take (31 * place) keys ≡ keys_of (cells_from size node 0 place)
  keys_ahead = take-take (31 * place) (31 * n) (drop 64 node) (omega arith) ∙ keys_are size node sized long parts 0 place (omega arith)

  keys_behind : take (31 * count - 31 * place) (drop (31 * place) keys) ≡ keys_of (cells_from size node place (count - place))
  keys_behind =
      let whole : 31 * n ≡ 31 * place + 31 * (n - place) = omega arith in
      let few : 31 * count - 31 * place ≡ 31 * (count - place) = omega arith in
      ap (λ (k : ℕ). take (31 * count - 31 * place) (drop (31 * place) (take k (drop 64 node)))) whole
      ∙ ap (take (31 * count - 31 * place)) (drop-take (31 * place) (31 * (n - place)) (drop 64 node))
      ∙ take-take (31 * count - 31 * place) (31 * (n - place)) (drop (31 * place) (drop 64 node)) (omega arith)
      ∙ (λ i. take (few i) (drop-drop (31 * place) 64 node i))
      ∙ keys_are size node sized long parts place (count - place) (omega arith)

  values_ahead : take (33 * place) values ≡ values_of (cells_from size node 0 place)
  values_ahead =
      let start : keys_end size ≡ keys_end size + 33 * 0 = omega arith in
      take-take (33 * place) (33 * n) (drop (keys_end size) node) (omega arith) ∙ ap (λ (k : ℕ). take (33 * place) (drop k node)) start ∙ values_are size node sized long 0 place

  values_behind : take (33 * count - 33 * place) (drop (33 * place) values) ≡ values_of (cells_from size node place (count - place))
  values_behind =
      let whole : 33 * n ≡ 33 * place + 33 * (n - place) = omega arith in
      let few : 33 * count - 33 * place ≡ 33 * (count - place) = omega arith in
      ap (λ (k : ℕ). take (33 * count - 33 * place) (drop (33 * place) (take k (drop (keys_end size) node)))) whole
      ∙ ap (take (33 * count - 33 * place)) (drop-take (33 * place) (33 * (n - place)) (drop (keys_end size) node))
      ∙ take-take (33 * count - 33 * place) (33 * (n - place)) (drop (33 * place) (drop (keys_end size) node)) (omega arith)
      ∙ (λ i. take (few i) (drop-drop (33 * place) (keys_end size) node i))
      ∙ values_are size node sized long place (count - place)

  module _ (level : ℕ) (key part key_bytes : List ℕ) (key_is : key_bytes ≡ key_part key) (key_long : length key_bytes ≡ 31) (part_long : length part ≡ 33) (keys_long : length keys ≡ 31 * n) (values_long : length values ≡ 33 * n) where
    abbrev new : Cell
    new = (key, part)

    abbrev ahead : List Cell
    ahead = cells_from size node 0 place

    abbrev behind : List Cell
    behind = cells_from size node place (count - place)

    abbrev row : List Cell
    row = row_from size node place new 0 (count + 1)

    row_parts : (ahead ++ new ∷ []) ++ behind ≡ row
    row_parts =
        let z : place - 0 ≡ place = omega arith in
        let e : count + 1 - (place - 0 + 1) ≡ count - place = omega arith in
        (λ i. (cells_from size node 0 (sym z i) ++ new ∷ []) ++ cells_from size node place (sym e i)) ∙ row_about size node place new 0 (count + 1) (omega arith) (omega arith)

    in_row : (a b c : List ℕ) → a ++ (b ++ c) ≡ (a ++ (b ++ [])) ++ c
    in_row a b c = sym (append_assoc a b c) ∙ ap (λ (l : List ℕ). (a ++ l) ++ c) (sym (append-nil b))

    row_keys : take (31 * place) keys ++ (key_bytes ++ take (31 * count - 31 * place) (drop (31 * place) keys)) ≡ keys_of row
    row_keys =
        (λ i. keys_ahead i ++ (key_is i ++ keys_behind i)) ∙ in_row (keys_of ahead) (key_part key) (keys_of behind)
        ∙ ap (λ (l : List ℕ). l ++ keys_of behind) (sym (flat_map-append (λ (c : Cell). key_part c.0) ahead (new ∷ [])))
        ∙ sym (flat_map-append (λ (c : Cell). key_part c.0) (ahead ++ new ∷ []) behind) ∙ ap keys_of row_parts

    row_values : take (33 * place) values ++ (part ++ take (33 * count - 33 * place) (drop (33 * place) values)) ≡ values_of row
    row_values =
        (λ i. values_ahead i ++ (part ++ values_behind i)) ∙ in_row (values_of ahead) part (values_of behind)
        ∙ ap (λ (l : List ℕ). l ++ values_of behind) (sym (flat_map-append (λ (c : Cell). c.1) ahead (new ∷ [])))
        ∙ sym (flat_map-append (λ (c : Cell). c.1) (ahead ++ new ∷ []) behind) ∙ ap values_of row_parts

    -- head, key parts and value parts
    pub grown_is : ((1 ∷ level ∷ (count + 1) / 256 ∷ (count + 1) % 256 ∷ replicate 60 0) ++ parts_with (31 * place) (31 * count) key_bytes keys) ++ parts_with (33 * place) (33 * count) part values ≡ node_bytes size level row
    grown_is =
        let cells : count + 1 ≡ length row = sym (length-row size node place new 0 (count + 1)) in
        let rest_keys : length keys - (31 * count + length key_bytes) ≡ 31 * (n - (count + 1)) = omega (arith, key_long, keys_long) in
        let rest_values : length values - (33 * count + length part) ≡ 33 * (n - (count + 1)) = omega (arith, part_long, values_long) in
        let head : ℕ → List ℕ = λ c. 1 ∷ level ∷ c / 256 ∷ c % 256 ∷ replicate 60 0 in
        (λ i. (head (count + 1) ++ (row_keys i ++ replicate (rest_keys i) 0)) ++ (row_values i ++ replicate (rest_values i) 0))
        ∙ (λ i. (head (cells i) ++ (keys_of row ++ replicate (31 * (n - cells i)) 0)) ++ (values_of row ++ replicate (33 * (n - cells i)) 0))

    -- what was added, one after the other
    pub grown_whole : (cells : ℕ) (first second third all : List ℕ) (some others : List ℕ) → cells ≡ n → some ≡ take (31 * cells) (drop 64 node) → others ≡ take (33 * cells) (drop (64 + 31 * cells) node)
        → first ≡ [] → second ≡ first ++ 1 ∷ level ∷ (count + 1) / 256 ∷ (count + 1) % 256 ∷ replicate 60 0 → third ≡ second ++ parts_with (31 * place) (31 * count) key_bytes some → all ≡ third ++ parts_with (33 * place) (33 * count) part others
        → all ≡ node_bytes size level row
    grown_whole cells first second third all some others cells_are some_are others_are one two three four =
        let keys_here : some ≡ keys = some_are ∙ ap (λ (k : ℕ). take (31 * k) (drop 64 node)) cells_are in
        let values_here : others ≡ values = others_are ∙ ap (λ (k : ℕ). take (33 * k) (drop (64 + 31 * k) node)) cells_are in
        four
        ∙ (λ i. three i ++ parts_with (33 * place) (33 * count) part others)
        ∙ (λ i. (two i ++ parts_with (31 * place) (31 * count) key_bytes some) ++ parts_with (33 * place) (33 * count) part others)
        ∙ (λ i. ((one i ++ 1 ∷ level ∷ (count + 1) / 256 ∷ (count + 1) % 256 ∷ replicate 60 0) ++ parts_with (31 * place) (31 * count) key_bytes (keys_here i)) ++ parts_with (33 * place) (33 * count) part (values_here i))
        ∙ grown_is

    pub grown_long : (all : List ℕ) → all ≡ node_bytes size level row → length key ≤ 28 → length all ≡ size
    grown_long all is short =
        let fit = row_fits size node place new parts short sized long part_long (omega arith) 0 (count + 1) (omega arith) in
        ap length is ∙ length-node_bytes size level row fit (omega (arith, length-row size node place new 0 (count + 1))) sized.whole
