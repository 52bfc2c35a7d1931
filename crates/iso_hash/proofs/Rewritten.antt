-- One cell of a linked block is rewritten, key part and value part: what stays.
use Rattle.iso_hash.proofs.{Words.{◌≡◌, ◌≢◌, ◌⊎◌, ◌↔◌, ◌∙◌, sym, refl, ap, subst, ℕ, zero, suc, ◌+◌, ◌*◌, ◌<◌, ◌≤◌, true, false, ◌==◌, cond, IsTrue, List, [], ◌∷◌, length, get_or, arith, inl, inr, list_all, cases_eq, cases_lt, and_parts, and_from, or_left, or_right, Access, Span, Area, Spot, Array, covered, in_span, merged, put, block_at, bytes_in, store_access, cell_count, keys_end, keys_mark, key_mark, value_mark, word_at, is_zero, is_part, is_unused, are_key_parts, map_bytes, map_bit, view_of, last_position, next_of, is_next, is_linked, chain_from, chain, IsIn, AreLinked, Stands, IsOverflow, HaveValues, IsHashArea, written_block, other_block, all_at, kept_2, laid_all, piece_of}, Chains.{linked_alike, LinkedAlike, head_of}, Moves.IsSame}
use Rattle.tx_blocks.proofs.Frames.{AreApart}
pub use Rattle.iso_alloc.proofs.Loops.{all_pass}

-- the blocks of a chain are the same where the next numbers are
pub same_chain : (keys new : ℕ → List ℕ) (left block : ℕ) → ((k : ℕ) → next_of (new k) ≡ next_of (keys k)) → chain_from new left block ≡ chain_from keys left block
same_chain keys new zero block next = refl
same_chain keys new (suc left) block next =
    ap (λ (m : ℕ). block ∷ cond (m == 0) [] (chain_from new left m)) (next block)
    ∙ ap (λ (rest : List ℕ). block ∷ cond (next_of (keys block) == 0) [] rest) (same_chain keys new left (next_of (keys block)) next)

-- heads whose tested pieces are the same but for the next number
pub linked_again : (a : Area) (bucket position : ℕ) (x y : List ℕ) → is_linked a bucket position x ≡ true
    → bytes_in (record { off = 4; len = 4 }) y ≡ bytes_in (record { off = 4; len = 4 }) x → bytes_in (record { off = 8; len = 4 }) y ≡ bytes_in (record { off = 8; len = 4 }) x
    → bytes_in (record { off = 12; len = 52 }) y ≡ bytes_in (record { off = 12; len = 52 }) x → is_next a position (next_of y) ≡ true → are_key_parts a.size y ≡ true → is_linked a bucket position y ≡ true
unfolding is_linked
linked_again a bucket position x y linked four eight twelve next parts =
    let first = and_parts _ _ linked in
    let second = and_parts _ _ first.0 in
    let third = and_parts _ _ second.0 in
    let fourth = and_parts _ _ third.0 in
    let b : (word_at 4 y == cond (position == 0) 0 bucket) ≡ true = ap (λ (z : List ℕ). Rattle.std.specs.Int.from_be_bytes Rattle.std.specs.Int.w32 z == cond (position == 0) 0 bucket) four ∙ fourth.0 in
    let p : (word_at 8 y == position) ≡ true = ap (λ (z : List ℕ). Rattle.std.specs.Int.from_be_bytes Rattle.std.specs.Int.w32 z == position) eight ∙ fourth.1 in
    let z : list_all is_zero (bytes_in (record { off = 12; len = 52 }) y) ≡ true = ap (list_all is_zero) twelve ∙ third.1 in
    and_from _ _ (and_from _ _ (and_from _ _ (and_from _ _ b p) z) next) parts

-- the region after a change of one cell of a linked block
pub record IsRewritten (a : Area) (A B : Array) (s : Spot) (part value : List ℕ) : Type 0 where
  pub others : (k : ℕ) → k ≢ s.block → (view_of a B).keys k ≡ (view_of a A).keys k
  pub head : (span : Span) → span.off + span.len ≤ 64 → bytes_in span ((view_of a B).keys s.block) ≡ bytes_in span ((view_of a A).keys s.block)
  pub cells : (j : ℕ) → j < cell_count a.size → j ≢ s.cell → bytes_in (key_mark j) ((view_of a B).keys s.block) ≡ bytes_in (key_mark j) ((view_of a A).keys s.block)
  pub here : bytes_in (key_mark s.cell) ((view_of a B).keys s.block) ≡ part
  pub values : (k j : ℕ) → (k ≢ s.block) ⊎ (j ≢ s.cell) → (view_of a B).value k j ≡ (view_of a A).value k j
  pub value_here : (view_of a B).value s.block s.cell ≡ value
  pub first : (view_of a B).first ≡ (view_of a A).first

key_sides : (i j : ℕ) → i ≢ j → (64 + 31 * i + 31 ≤ 64 + 31 * j) ⊎ (64 + 31 * j + 31 ≤ 64 + 31 * i)
key_sides i j apart = elim (cases_lt i j) [ inl before ↦ inl (omega arith) | inr past ↦ inr (omega arith) ]

value_sides : (n i j : ℕ) → i ≢ j → (n + 33 * i + 33 ≤ n + 33 * j) ⊎ (n + 33 * j + 33 ≤ n + 33 * i)
value_sides n i j apart = elim (cases_lt i j) [ inl before ↦ inl (omega arith) | inr past ↦ inr (omega arith) ]

-- a write under the marks of one cell rewrites it
module _ (a : Area) (A : Array) (s : Spot) (bytes : List ℕ) (area : IsHashArea a) (cell : s.cell < cell_count a.size) (some : 0 < s.block) (long : length bytes ≡ length (block_at A (a.start + s.block))) where
  w : Access
  w = store_access (a.start + s.block) (key_mark s.cell ∷ value_mark a.size s.cell ∷ []) bytes

  here_is : block_at (put A w) (a.start + s.block) ≡ merged (key_mark s.cell ∷ value_mark a.size s.cell ∷ []) 0 (block_at A (a.start + s.block)) bytes
  unfolding w
  here_is = written_block A w

  key_fits : (i : ℕ) → i < cell_count a.size → 64 + 31 * i + 31 ≤ keys_end a.size
  key_fits i below = omega arith

  key_of : (x : List ℕ) (i : ℕ) → i < cell_count a.size → bytes_in (key_mark i) (bytes_in (keys_mark a.size) x) ≡ bytes_in (key_mark i) x
  key_of x i below = piece_of (key_mark i) (keys_end a.size) x (key_fits i below)

  head_piece : (x : List ℕ) (span : Span) → span.off + span.len ≤ 64 → bytes_in span (bytes_in (keys_mark a.size) x) ≡ bytes_in span x
  head_piece x span fits = piece_of span (keys_end a.size) x (omega arith)

  key_apart : (j : ℕ) → j < cell_count a.size → j ≢ s.cell → AreApart (key_mark j) (key_mark s.cell)
  key_apart j below other = key_sides j s.cell other

  value_apart : (j : ℕ) → j ≢ s.cell → AreApart (value_mark a.size j) (value_mark a.size s.cell)
  value_apart j other = value_sides (keys_end a.size) j s.cell other

  in_key : (p : ℕ) → in_span p (key_mark s.cell) ≡ true → covered (key_mark s.cell ∷ value_mark a.size s.cell ∷ []) p ≡ true
  in_key p has = or_left (in_span p (key_mark s.cell)) _ has

  in_value : (p : ℕ) → in_span p (value_mark a.size s.cell) ≡ true → covered (key_mark s.cell ∷ value_mark a.size s.cell ∷ []) p ≡ true
  in_value p has = or_right (in_span p (key_mark s.cell)) _ (or_left (in_span p (value_mark a.size s.cell)) false has)

  value_kept : (k j : ℕ) → (k ≢ s.block) ⊎ (j ≢ s.cell) → bytes_in (value_mark a.size j) (block_at (put A w) (a.start + k)) ≡ bytes_in (value_mark a.size j) (block_at A (a.start + k))
  unfolding w
  value_kept k j (inl other) = ap (bytes_in (value_mark a.size j)) (other_block A w (a.start + k) (λ e. absurd (other (omega arith))))
  value_kept k j (inr other) = elim (cases_eq k s.block) [
    | inr far ↦ ap (bytes_in (value_mark a.size j)) (other_block A w (a.start + k) (λ e. absurd (far (omega arith))))
    | inl same ↦ subst (λ (m : ℕ). bytes_in (value_mark a.size j) (block_at (put A w) (a.start + m)) ≡ bytes_in (value_mark a.size j) (block_at A (a.start + m))) (sym same)
        (ap (bytes_in (value_mark a.size j)) here_is ∙ kept_2 (value_mark a.size j) (key_mark s.cell) (value_mark a.size s.cell) (block_at A (a.start + s.block)) bytes (inr (omega arith)) (value_apart j other))
  ]

  pub rewrites : IsRewritten a A (put A (store_access (a.start + s.block) (key_mark s.cell ∷ value_mark a.size s.cell ∷ []) bytes)) s (bytes_in (key_mark s.cell) bytes) (bytes_in (value_mark a.size s.cell) bytes)
  unfolding w
  rewrites =
      let spans = key_mark s.cell ∷ value_mark a.size s.cell ∷ [] in
      let old = block_at A (a.start + s.block) in
      record {
        others = λ k other. ap (bytes_in (keys_mark a.size)) (other_block A w (a.start + k) (λ e. absurd (other (omega arith))));
        head = λ span fits.
            head_piece (block_at (put A w) (a.start + s.block)) span fits ∙ ap (bytes_in span) here_is
            ∙ kept_2 span (key_mark s.cell) (value_mark a.size s.cell) old bytes (inl (omega arith)) (inl (omega arith)) ∙ sym (head_piece old span fits);
        cells = λ j below other.
            key_of (block_at (put A w) (a.start + s.block)) j below ∙ ap (bytes_in (key_mark j)) here_is
            ∙ kept_2 (key_mark j) (key_mark s.cell) (value_mark a.size s.cell) old bytes (key_apart j below other) (inl (let fits = key_fits j below in omega arith)) ∙ sym (key_of old j below);
        here = key_of (block_at (put A w) (a.start + s.block)) s.cell cell ∙ ap (bytes_in (key_mark s.cell)) here_is ∙ laid_all (key_mark s.cell) spans old bytes long in_key;
        values = value_kept;
        value_here = ap (bytes_in (value_mark a.size s.cell)) here_is ∙ laid_all (value_mark a.size s.cell) spans old bytes long in_value;
        first = other_block A w a.start (λ e. absurd (omega arith));
      }

-- a cell is this one or another
pub is_spot : (k i : ℕ) (s : Spot) → ((k ≡ s.block) × (i ≡ s.cell)) ⊎ ((k ≡ s.block) × (i ≡ s.cell) → ⊥)
is_spot k i s = grind arith steps 100000

-- what follows of a rewritten cell whose key part is well formed
module _ (a : Area) (A B : Array) (s : Spot) (part value : List ℕ) (is : IsRewritten a A B s part value) (good : is_part 28 part ≡ true) where
  next_same : (k : ℕ) → next_of ((view_of a B).keys k) ≡ next_of ((view_of a A).keys k)
  next_same k = elim (cases_eq k s.block) [
    | inl here ↦ subst (λ (m : ℕ). next_of ((view_of a B).keys m) ≡ next_of ((view_of a A).keys m)) (sym here) (ap (Rattle.std.specs.Int.from_be_bytes Rattle.std.specs.Int.w32) (is.head (record { off = 0; len = 4 }) (omega arith)))
    | inr other ↦ ap next_of (is.others k other)
  ]

  pub chain_same : (b : ℕ) → chain a (view_of a B).keys b ≡ chain a (view_of a A).keys b
  chain_same b = same_chain (view_of a A).keys (view_of a B).keys (last_position a + 1) (1 + b) next_same

  parts_same : are_key_parts a.size ((view_of a A).keys s.block) ≡ true → are_key_parts a.size ((view_of a B).keys s.block) ≡ true
  parts_same parts = all_pass (λ i. is_part 28 (bytes_in (key_mark i) ((view_of a B).keys s.block))) 0 (cell_count a.size) (λ j low high.
      elim (cases_eq j s.cell) [
        | inl here ↦ subst (λ (i : ℕ). is_part 28 (bytes_in (key_mark i) ((view_of a B).keys s.block)) ≡ true) (sym here) (ap (is_part 28) is.here ∙ good)
        | inr other ↦ ap (is_part 28) (is.cells j (omega arith) other) ∙ all_at (λ i. is_part 28 (bytes_in (key_mark i) ((view_of a A).keys s.block))) 0 (cell_count a.size) j parts (omega arith) high
      ])

  linked_same : (b : ℕ) (blocks : List ℕ) → LinkedAlike a (view_of a A).keys (view_of a B).keys b blocks
  linked_same b blocks k p has linked = elim (cases_eq k s.block) [
    | inl here ↦
        (let old : is_linked a b p ((view_of a A).keys s.block) ≡ true = subst (λ (m : ℕ). is_linked a b p ((view_of a A).keys m) ≡ true) here linked in
        let head = head_of a b p ((view_of a A).keys s.block) old in (
          subst (λ (m : ℕ). is_linked a b p ((view_of a B).keys m) ≡ true) (sym here)
              (linked_again a b p ((view_of a A).keys s.block) ((view_of a B).keys s.block) old (is.head (record { off = 4; len = 4 }) (omega arith)) (is.head (record { off = 8; len = 4 }) (omega arith)) (is.head (record { off = 12; len = 52 }) (omega arith))
              (ap (is_next a p) (next_same s.block) ∙ head.next_is) (parts_same head.parts)),
          next_same k,
        ))
    | inr other ↦ (ap (is_linked a b p) (is.others k other) ∙ linked, next_same k)
  ]

  pub linked_kept : (b : ℕ) → AreLinked a (view_of a A).keys b 0 (chain a (view_of a A).keys b) (1 + b) 0 → AreLinked a (view_of a B).keys b 0 (chain a (view_of a B).keys b) (1 + b) 0
  linked_kept b linked = subst (λ (blocks : List ℕ). AreLinked a (view_of a B).keys b 0 blocks (1 + b) 0) (sym (chain_same b))
      (linked_alike a (view_of a A).keys (view_of a B).keys b 0 (chain a (view_of a A).keys b) (1 + b) 0 (linked_same b (chain a (view_of a A).keys b)) linked)

  to_old : (k : ℕ) → IsOverflow a (view_of a B).keys k → IsOverflow a (view_of a A).keys k
  to_old k over = record { bucket = over.bucket; below = over.below; linked = subst (IsIn k) (chain_same over.bucket) over.linked; past = over.past }

  to_new : (k : ℕ) → IsOverflow a (view_of a A).keys k → IsOverflow a (view_of a B).keys k
  to_new k over = record { bucket = over.bucket; below = over.below; linked = subst (IsIn k) (sym (chain_same over.bucket)) over.linked; past = over.past }

  pub bits_kept : ((k : ℕ) → k < 8 * map_bytes a.blocks → IsTrue (map_bit (view_of a A).first k) ↔ IsOverflow a (view_of a A).keys k)
      → (k : ℕ) → k < 8 * map_bytes a.blocks → IsTrue (map_bit (view_of a B).first k) ↔ IsOverflow a (view_of a B).keys k
  bits_kept bits k below = grind (arith, to_new, to_old) steps 100000

  -- the cell of a block that is not this one
  pub elsewhere : (k i : ℕ) → i < cell_count a.size → ((k ≡ s.block) × (i ≡ s.cell) → ⊥) → bytes_in (key_mark i) ((view_of a B).keys k) ≡ bytes_in (key_mark i) ((view_of a A).keys k)
  elsewhere k i below other = grind arith steps 100000

  value_elsewhere : (k i : ℕ) → ((k ≡ s.block) × (i ≡ s.cell) → ⊥) → (view_of a B).value k i ≡ (view_of a A).value k i
  value_elsewhere k i other = is.values k i (elim (cases_eq k s.block) [ inl here ↦ inr (λ e. other (here, e)) | inr far ↦ inl far ])

  pub same_there : (b k i : ℕ) → Stands a (view_of a A).keys b k i → ((k ≡ s.block) × (i ≡ s.cell) → ⊥) → IsSame a (view_of a A).keys (view_of a B).keys (view_of a A).value (view_of a B).value b k i
  same_there b k i stands other = grind (arith, elsewhere, chain_same, value_elsewhere) steps 100000

  pub same_before : (b k i : ℕ) → Stands a (view_of a B).keys b k i → ((k ≡ s.block) × (i ≡ s.cell) → ⊥) → IsSame a (view_of a B).keys (view_of a A).keys (view_of a B).value (view_of a A).value b k i
  same_before b k i stands other = grind (arith, elsewhere, chain_same, value_elsewhere) steps 100000

  -- the values, where that of the cell is well formed too
  pub values_kept : is_part 32 value ≡ true → (is_unused ((view_of a B).keys s.block) s.cell ≡ true → list_all is_zero value ≡ true)
      → HaveValues a (view_of a A).keys (view_of a A).value → HaveValues a (view_of a B).keys (view_of a B).value
  values_kept value_good blank old b k i below has cell =
      elim (is_spot k i s) [
        | inl here ↦
            (let at : (view_of a B).value k i ≡ value = ap (λ (m : ℕ). (view_of a B).value m i) here.0 ∙ ap (λ (j : ℕ). (view_of a B).value s.block j) here.1 ∙ is.value_here in
            (ap (is_part 32) at ∙ value_good, λ unused. ap (list_all is_zero) at ∙ blank (sym (ap (λ (m : ℕ). is_unused ((view_of a B).keys m) i) here.0 ∙ ap (λ (j : ℕ). is_unused ((view_of a B).keys s.block) j) here.1) ∙ unused)))
        | inr other ↦
            (let was = old b k i below (subst (IsIn k) (chain_same b) has) cell in
            let at = value_elsewhere k i other in
            (ap (is_part 32) at ∙ was.0, λ unused. ap (list_all is_zero) at ∙ was.1 (ap (λ (x : List ℕ). get_or x 0 0 == 0) (sym (elsewhere k i cell other)) ∙ unused)))
      ]
