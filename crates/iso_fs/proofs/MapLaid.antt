-- A block of which one span was written with the bytes of another list.
use Rattle.iso_fs.proofs.{Words.{length-block_with, ◌≡◌, ◌≢◌, ◌↔◌, ◌∙◌, sym, refl, ap, ℕ, ◌+◌, ◌-◌, ◌<◌, ◌≤◌, ◌==◌, ◌&&◌, true, false, not, cond, IsTrue, List, [], ◌∷◌, length, get_or, drop, replicate, arith, inl, inr, eq-eqb, ne_eqb, nat_lt, and_from, and_parts, cases_Bool, or_left, nat_tests, get_or-take, get_or-drop, get_or-set_other, length-drop, length-replicate, length-set, length-take-le, Span, covered, in_span, merged, bytes_in, block_with, bit_place, clear_bit, map_bit, without_bit, IsIn, merged_kept, laid_here, laid_all, high_place, low_place}}
use Rattle.iso_alloc.proofs.Bits.{without_bits}
use Rattle.store_model.specs.FileCalls as calls

pub byte_in : (span : Span) (block : List ℕ) (p : ℕ) → in_span p span ≡ true → get_or (bytes_in span block) (p - span.off) 0 ≡ get_or block p 0
byte_in span block p has =
    let from : span.off ≤ p = grind (arith, nat_tests) in
    let to : p < span.off + span.len = grind (arith, nat_tests) in
    let sum : span.off + (p - span.off) ≡ p = omega arith in
    get_or-take span.len (drop span.off block) (p - span.off) 0 (omega arith) ∙ get_or-drop span.off block (p - span.off) 0 ∙ ap (λ (n : ℕ). get_or block n 0) sum

module _ (size : ℕ) (F U : List ℕ) (m : Span) (long : length F ≡ size) (fits : m.off + m.len ≤ length U) (inside : m.off + m.len ≤ size)
    (same : (p : ℕ) → in_span p m ≡ false → p < length U → get_or F p 0 ≡ get_or U p 0) where
  abbrev N : List ℕ
  N = block_with size m.off (bytes_in m U)

  piece_long : length (bytes_in m U) ≡ m.len
  piece_long = length-take-le m.len (drop m.off U) (omega (arith, length-drop m.off U))

  pub length-laid : length (block_with size m.off (bytes_in m U)) ≡ size
  length-laid = length-block_with size m.off (bytes_in m U) (omega (arith, piece_long))

  here : bytes_in m (merged (m ∷ []) 0 F N) ≡ bytes_in m U
  here =
      laid_all m (m ∷ []) F N (length-laid ∙ sym long) (λ p has. or_left _ false has)
      ∙ laid_here m.off m.len (bytes_in m U) (replicate size 0) piece_long (omega (arith, piece_long, length-replicate {A = ℕ} size 0))

  pub laid_as : (p : ℕ) → p < length U → get_or (merged (m ∷ []) 0 F (block_with size m.off (bytes_in m U))) p 0 ≡ get_or U p 0
  laid_as p below = elim (cases_Bool (in_span p m)) [
    | inl has ↦ sym (byte_in m (merged (m ∷ []) 0 F N) p has) ∙ ap (λ (xs : List ℕ). get_or xs (p - m.off) 0) here ∙ byte_in m U p has
    | inr not ↦
        merged_kept (m ∷ []) 0 p F N (let z : 0 + p ≡ p = omega arith in ap (λ (n : ℕ). covered (m ∷ []) n) z ∙ (let far = not in rw far refl))
        ∙ same p not below
  ]

-- WITHOUT BITS
pub length-without : (first blocks : List ℕ) → length (calls.without_bits first blocks) ≡ length first
length-without first [] = refl
length-without first (k ∷ blocks) = length-without (without_bit first k) blocks ∙ length-set first (bit_place k) (clear_bit (get_or first (bit_place k) 0) k)

pub without_other : (first blocks : List ℕ) (p : ℕ) → ((j : ℕ) → IsIn j blocks → bit_place j ≢ p) → get_or (calls.without_bits first blocks) p 0 ≡ get_or first p 0
without_other first [] p other = refl
without_other first (k ∷ blocks) p other =
    without_other (without_bit first k) blocks p (λ j is. other j (inr is))
    ∙ get_or-set_other first (bit_place k) p (clear_bit (get_or first (bit_place k) 0) k) 0 (λ e. other k (inl refl) (sym e))

pub bits_left : (first blocks : List ℕ) → ((j : ℕ) → IsIn j blocks → bit_place j < length first) → (k : ℕ) → IsTrue (map_bit (calls.without_bits first blocks) k) ↔ ((IsIn k blocks → ⊥) × IsTrue (map_bit first k))
bits_left first [] inside k = (λ set. (λ never. never, set), λ both. both.1)
bits_left first (b ∷ blocks) inside k =
    let one : map_bit (without_bit first b) k ≡ (not (k == b) && map_bit first k) = without_bits first b (inside b (inl refl)) k in
    let rest = bits_left (without_bit first b) blocks (λ j is. omega (arith, inside j (inr is), length-set first (bit_place b) (clear_bit (get_or first (bit_place b) 0) b))) k in (
      λ set.
          let was = rest.0 set in
          let parts = and_parts (not (k == b)) (map_bit first k) (sym one ∙ was.1) in
          (λ is. elim is [ inl at ↦ Rattle.std.proofs.lemmas.Bool.both_ways (not (k == b)) (ap not (eq-eqb k b (sym at))) parts.0 | inr later ↦ was.0 later ], parts.1),
      λ both. rest.1 (λ later. both.0 (inr later), one ∙ and_from (not (k == b)) (map_bit first k) (ap not (ne_eqb k b (λ e. both.0 (inl (sym e))))) both.1),
    )

pub low_is : (x : ℕ) (xs : List ℕ) (j : ℕ) → IsIn j (x ∷ xs) → low_place x xs ≤ bit_place j
low_is x [] j is = elim is [ inl at ↦ omega (arith, at) | inr never ↦ absurd never ]
low_is x (y ∷ ys) j is =
    elim (nat_lt (bit_place x) (low_place y ys)) as (λ t. nat_lt (bit_place x) (low_place y ys) ≡ t → cond t (bit_place x) (low_place y ys) ≤ bit_place j) [
      | true ↦ λ t. elim is [ inl at ↦ omega (arith, at) | inr later ↦ (let low = low_is y ys j later in let less : bit_place x < low_place y ys = grind (arith, nat_tests) in omega arith) ]
      | false ↦ λ t. elim is [ inl at ↦ (let less : low_place y ys ≤ bit_place x = grind (arith, nat_tests) in omega (arith, at)) | inr later ↦ low_is y ys j later ]
    ] refl

pub high_is : (x : ℕ) (xs : List ℕ) (j : ℕ) → IsIn j (x ∷ xs) → bit_place j ≤ high_place x xs
high_is x [] j is = elim is [ inl at ↦ omega (arith, at) | inr never ↦ absurd never ]
high_is x (y ∷ ys) j is =
    elim (nat_lt (high_place y ys) (bit_place x)) as (λ t. nat_lt (high_place y ys) (bit_place x) ≡ t → bit_place j ≤ cond t (bit_place x) (high_place y ys)) [
      | true ↦ λ t. elim is [ inl at ↦ omega (arith, at) | inr later ↦ (let high = high_is y ys j later in let less : high_place y ys < bit_place x = grind (arith, nat_tests) in omega arith) ]
      | false ↦ λ t. elim is [ inl at ↦ (let less : bit_place x ≤ high_place y ys = grind (arith, nat_tests) in omega (arith, at)) | inr later ↦ high_is y ys j later ]
    ] refl

-- the highest place is that of one of the blocks
pub high_below : (x : ℕ) (xs : List ℕ) (n : ℕ) → ((j : ℕ) → IsIn j (x ∷ xs) → bit_place j < n) → high_place x xs < n
high_below x [] n each = each x (inl refl)
high_below x (y ∷ ys) n each =
    elim (nat_lt (high_place y ys) (bit_place x)) as (λ t. cond t (bit_place x) (high_place y ys) < n) [
      | true ↦ each x (inl refl)
      | false ↦ high_below y ys n (λ j is. each j (inr is))
    ]

pub low_least : (x : ℕ) (xs : List ℕ) → 64 ≤ low_place x xs
low_least x [] = omega arith
low_least x (y ∷ ys) =
    elim (nat_lt (bit_place x) (low_place y ys)) as (λ t. 64 ≤ cond t (bit_place x) (low_place y ys)) [
      | true ↦ omega arith
      | false ↦ low_least y ys
    ]
