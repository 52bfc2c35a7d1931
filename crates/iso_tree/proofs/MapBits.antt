-- The first block of a region after blocks were taken, and perhaps a new root.
use Rattle.iso_tree.proofs.Words.{◌≡◌, ◌≢◌, ◌⊎◌, ◌↔◌, ◌∙◌, sym, refl, ap, ℕ, suc, ◌+◌, ◌-◌, ◌*◌, ◌%◌, ◌<◌, ◌≤◌, ◌||◌, ◌==◌, Bool, true, false, IsTrue, List, [], ◌∷◌, ◌++◌, take, drop, length, get_or, replicate, Option, Some, None, arith, inl, inr, eq-eqb, ne_eqb, w32, to_be_bytes, bit_at, cases_eq, or_left, or_right, nat_tests, get_or-take, get_or-drop, get_or_append_left, get_or-append_right, get_or-set_other, length-set, length-take-le, length-drop, length-replicate, Span, Area, covered, in_span, merged, IsIn, bytes_in, laid_at, map_bytes, map_mark, bit_place, map_bit, set_bit, with_bit, merged_at, with_bits, laid_here, length-laid_at, Up, first_spans, first_bytes, head_mark, with_used, last_of, changed_mark, changed_map, kept_1, kept_2, laid_all}

pub up_in : (low : ℕ) (xs : List ℕ) (j : ℕ) → Up low xs → IsIn j xs → low ≤ j
up_in low [] j up is = absurd is
up_in low (x ∷ xs) j up is = elim is [
  | inl here ↦ omega (arith, up.0, here)
  | inr later ↦ omega (arith, up.0, up_in (suc x) xs j up.1 later)
]

pub up_to : (x : ℕ) (xs : List ℕ) (j : ℕ) → Up (suc x) xs → IsIn j (x ∷ xs) → j ≤ last_of x xs
up_to x [] j up is = elim is [ inl here ↦ omega (arith, here) | inr never ↦ absurd never ]
up_to x (y ∷ ys) j up is = elim is [
  | inl here ↦ omega (arith, here, up.0, up_to y ys y up.1 (inl refl))
  | inr later ↦ up_to y ys j up.1 later
]

pub last_in : (x : ℕ) (xs : List ℕ) → IsIn (last_of x xs) (x ∷ xs)
last_in x [] = inl refl
last_in x (y ∷ ys) = inr (last_in y ys)

pub used_long : (first blocks : List ℕ) → length (with_used first blocks) ≡ length first
used_long first [] = refl
used_long first (k ∷ blocks) = used_long (with_bit first k) blocks ∙ length-set first (bit_place k) (set_bit (get_or first (bit_place k) 0) k)

used_other : (first blocks : List ℕ) (p : ℕ) → ((j : ℕ) → IsIn j blocks → bit_place j ≢ p) → get_or (with_used first blocks) p 0 ≡ get_or first p 0
used_other first [] p other = refl
used_other first (k ∷ blocks) p other =
    used_other (with_bit first k) blocks p (λ j is. other j (inr is))
    ∙ get_or-set_other first (bit_place k) p (set_bit (get_or first (bit_place k) 0) k) 0 (λ e. other k (inl refl) (sym e))

-- the bits of blocks that were taken
used_bits : (first blocks : List ℕ) → ((j : ℕ) → IsIn j blocks → bit_place j < length first) → (k : ℕ) → IsTrue (map_bit (with_used first blocks) k) ↔ (IsIn k blocks ⊎ IsTrue (map_bit first k))
used_bits first [] inside k = (λ set. inr set, λ is. elim is [ inl never ↦ absurd never | inr set ↦ set ])
used_bits first (b ∷ blocks) inside k =
    let one : map_bit (with_bit first b) k ≡ ((k == b) || map_bit first k) = with_bits first b (inside b (inl refl)) k in
    let rest = used_bits (with_bit first b) blocks
    (λ j is. omega (arith, inside j (inr is), length-set first (bit_place b) (set_bit (get_or first (bit_place b) 0) b))) k in (
      λ set. elim (rest.0 set) [
        | inl later ↦ inl (inr later)
        | inr was ↦ elim (cases_eq k b) [
          | inl same ↦ inl (inl (sym same))
          | inr other ↦ inr (ap (λ (t : Bool). t || map_bit first k) (sym (ne_eqb k b other)) ∙ sym one ∙ was)
        ]
      ],
      λ is. rest.1 (elim is [
        | inl at ↦ elim at [
          | inl same ↦ inr (one ∙ or_left (k == b) (map_bit first k) (eq-eqb k b (sym same)))
          | inr later ↦ inl later
        ]
        | inr was ↦ inr (one ∙ or_right (k == b) (map_bit first k) was)
      ]),
    )

-- bytes that were laid into others
laid_in : (at : ℕ) (bytes block : List ℕ) (p : ℕ) → at + length bytes ≤ length block → at ≤ p → p < at + length bytes → get_or (laid_at at bytes block) p 0 ≡ get_or bytes (p - at) 0
laid_in at bytes block p fits from to =
    get_or-append_right (take at block) (bytes ++ drop (at + length bytes) block) at p 0 (length-take-le at block (omega arith)) from
    ∙ get_or_append_left bytes (drop (at + length bytes) block) 0 (p - at) (omega arith)

laid_past : (at : ℕ) (bytes block : List ℕ) (p : ℕ) → at + length bytes ≤ length block → at + length bytes ≤ p → get_or (laid_at at bytes block) p 0 ≡ get_or block p 0
laid_past at bytes block p fits from =
    let sum : at + length bytes + (p - at - length bytes) ≡ p = omega arith in
    get_or-append_right (take at block) (bytes ++ drop (at + length bytes) block) at p 0 (length-take-le at block (omega arith)) (omega arith)
    ∙ get_or-append_right bytes (drop (at + length bytes) block) (length bytes) (p - at) 0 refl (omega arith)
    ∙ get_or-drop (at + length bytes) block (p - at - length bytes) 0
    ∙ ap (λ (n : ℕ). get_or block n 0) sum

module _ (a : Area) (F : List ℕ) (long : length F ≡ a.size) (room : 64 + map_bytes a.blocks ≤ a.size) (k : ℕ) (ks : List ℕ) (up : Up 1 (k ∷ ks)) (inside : (j : ℕ) → IsIn j (k ∷ ks) → j < a.blocks) where
  abbrev taken : List ℕ
  taken = k ∷ ks

  abbrev first : List ℕ
  first = bytes_in (map_mark a.blocks) F

  abbrev U : List ℕ
  U = with_used first taken

  abbrev m : Span
  m = changed_mark taken

  first_long : length first ≡ 64 + map_bytes a.blocks
  first_long = length-take-le (64 + map_bytes a.blocks) F (omega arith)

  last_less : last_of k ks < a.blocks
  last_less = inside (last_of k ks) (last_in k ks)

  first_last : k ≤ last_of k ks
  first_last = up_to k ks k up.1 (inl refl)

  mark_inside : m.off + m.len ≤ 64 + map_bytes a.blocks
  mark_inside = let x = last_less in let y = first_last in omega arith

  piece_long : length (bytes_in m U) ≡ m.len
  piece_long = length-take-le m.len (drop m.off U) (let x = mark_inside in omega (arith, length-drop m.off U, used_long first taken, first_long))

  map_fits : m.off + length (bytes_in m U) ≤ length (replicate {A = ℕ} a.size 0)
  map_fits = let x = mark_inside in omega (arith, length-replicate {A = ℕ} a.size 0, piece_long)

  pub length-changed : length (changed_map a first taken) ≡ a.size
  length-changed = length-laid_at m.off (bytes_in m U) (replicate a.size 0) map_fits ∙ length-replicate {A = ℕ} a.size 0

  changed_at : (p : ℕ) → in_span p m ≡ true → get_or (changed_map a first taken) p 0 ≡ get_or U p 0
  changed_at p has =
      let from : m.off ≤ p = grind (arith, nat_tests) in
      let to : p < m.off + m.len = grind (arith, nat_tests) in
      let sum : m.off + (p - m.off) ≡ p = omega arith in
      laid_in m.off (bytes_in m U) (replicate a.size 0) p map_fits from (omega (arith, piece_long))
      ∙ get_or-take m.len (drop m.off U) (p - m.off) 0 (omega arith) ∙ get_or-drop m.off U (p - m.off) 0 ∙ ap (λ (n : ℕ). get_or U n 0) sum

  -- a byte past the head
  kept_at : (p : ℕ) → in_span p m ≡ false → 64 ≤ p → p < 64 + map_bytes a.blocks → get_or F p 0 ≡ get_or U p 0
  kept_at p not from to =
      sym (get_or-take (64 + map_bytes a.blocks) F p 0 to)
      ∙ sym (used_other first taken p (λ j is e. absurd (
      let least = up_in k taken j (omega arith, up.1) is in
      let most = up_to k ks j up.1 is in
      let y = first_last in
      let has : in_span p m ≡ true = grind (arith, nat_tests) in
      Rattle.std.proofs.lemmas.Bool.both_ways (in_span p m) not has)))

  abbrev head_long : ℕ → ℕ → List ℕ
  head_long r l = to_be_bytes w32 r ++ to_be_bytes w32 l

  some_fits : (r l : ℕ) → 0 + length (head_long r l) ≤ length (changed_map a first taken)
  some_fits r l = let e : length (head_long r l) ≡ 8 = refl in omega (arith, length-changed)

  pub length-first : (root : Option (ℕ × ℕ)) → length (first_bytes a first taken root) ≡ a.size
  length-first root = grind (arith, length-changed, length-laid_at, some_fits)

  bytes_past : (root : Option (ℕ × ℕ)) (p : ℕ) → 64 ≤ p → get_or (first_bytes a first taken root) p 0 ≡ get_or (changed_map a first taken) p 0
  bytes_past None p from = refl
  bytes_past (Some root) p from =
      laid_past 0 (head_long root.0 root.1) (changed_map a first taken) p (some_fits root.0 root.1) (omega arith)

  covered_past : (root : Option (ℕ × ℕ)) (p : ℕ) → 64 ≤ p → covered (first_spans taken root) p ≡ in_span p m
  covered_past None p from = elim (in_span p m) as (λ t. (t || false) ≡ t) [ true ↦ refl | false ↦ refl ]
  covered_past (Some root) p from = grind arith steps 100000

  abbrev after : Option (ℕ × ℕ) → List ℕ
  after root = merged (first_spans taken root) 0 F (first_bytes a first taken root)

  byte_after : (root : Option (ℕ × ℕ)) (p : ℕ) → 64 ≤ p → p < 64 + map_bytes a.blocks → get_or (after root) p 0 ≡ get_or U p 0
  byte_after root p from to = grind (arith, merged_at, length-first, covered_past, bytes_past, changed_at, kept_at) steps 100000

  -- THE BITS
  pub bits_after : (root : Option (ℕ × ℕ)) (j : ℕ) → j < 8 * map_bytes a.blocks → IsTrue (map_bit (after root) j) ↔ (IsIn j taken ⊎ IsTrue (map_bit F j))
  bits_after root j low =
      let place : bit_place j < 64 + map_bytes a.blocks = omega arith in
      let new : map_bit (after root) j ≡ map_bit U j = ap (λ (x : ℕ). bit_at x (j % 8) == 1) (byte_after root (bit_place j) (omega arith) place) in
      let old : map_bit first j ≡ map_bit F j = ap (λ (x : ℕ). bit_at x (j % 8) == 1) (get_or-take (64 + map_bytes a.blocks) F (bit_place j) 0 place) in
      let used = used_bits first taken (λ i is. let below = inside i is in omega (arith, first_long)) j in (
        λ set. elim (used.0 (sym new ∙ set)) [ inl is ↦ inl is | inr was ↦ inr (sym old ∙ was) ],
        λ is. new ∙ used.1 (elim is [ inl at ↦ inl at | inr was ↦ inr (old ∙ was) ]),
      )

  -- the zeros of the head
  pub zeros_after : (root : Option (ℕ × ℕ)) → bytes_in (record { off = 8; len = 56 }) (after root) ≡ bytes_in (record { off = 8; len = 56 }) F
  zeros_after None = kept_1 (record { off = 8; len = 56 }) m F (first_bytes a first taken None) (inl (omega arith))
  zeros_after (Some root) = kept_2 (record { off = 8; len = 56 }) m head_mark F (first_bytes a first taken (Some root)) (inl (omega arith)) (inr (omega arith))

  -- root and level
  pub head_kept : bytes_in head_mark (after None) ≡ bytes_in head_mark F
  head_kept = kept_1 head_mark m F (first_bytes a first taken None) (inl (omega arith))

  pub head_new : (r l : ℕ) → bytes_in head_mark (after (Some (r, l))) ≡ to_be_bytes w32 r ++ to_be_bytes w32 l
  head_new r l =
      laid_all head_mark (first_spans taken (Some (r, l))) F (first_bytes a first taken (Some (r, l))) (length-first (Some (r, l)) ∙ sym long)
      (λ p has. or_right (in_span p m) _ (or_left (in_span p head_mark) false has))
      ∙ laid_here 0 8 (head_long r l) (changed_map a first taken) refl (some_fits r l)
