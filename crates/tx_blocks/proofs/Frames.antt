-- What a marked write leaves of the bytes in a span.
use Rattle.tx_blocks.proofs.{Words.{◌≡◌, ◌⊎◌, ◌∙◌, sym, refl, ap, ℕ, zero, suc, ◌+◌, ◌-◌, ◌≤◌, true, false, cond, List, [], ◌∷◌, ◌++◌, length, get_or, take, drop, replicate, arith, zero-add, inl, inr, nat_le, list_all, cases_lt, nat_tests, ext_get_or, get_or_past, get_or-take, get_or-drop, get_or_append_left, get_or-append-add, length-take-le, take-take, drop-take, take_at, drop_at, drop-replicate, take-replicate, Span, covered, in_span, merged, bytes_in, is_zero, is_part, text_of, part_of, laid_at, length-merged, merged_at, merged_kept, length-laid_at}, Programs.same_bytes}

-- spans that stand apart
abbrev pub AreApart : Span → Span → Type 0
AreApart s r = (s.off + s.len ≤ r.off) ⊎ (r.off + r.len ≤ s.off)

outside : (s r : Span) (p : ℕ) → AreApart s r → in_span p s ≡ true → in_span p r ≡ false
outside s r p apart has = grind (arith, nat_tests)

-- the bytes of a span that none of the spans has
pub kept_1 : (span s : Span) (old new : List ℕ) → AreApart span s → bytes_in span (merged (s ∷ []) 0 old new) ≡ bytes_in span old
kept_1 span s old new apart = same_bytes span old (merged (s ∷ []) 0 old new) (length-merged (s ∷ []) 0 old new)
    (λ p has. merged_kept (s ∷ []) 0 p old new (rw (zero-add p) (let out = outside span s p apart has in rw out refl)))

pub kept_2 : (span s r : Span) (old new : List ℕ) → AreApart span s → AreApart span r → bytes_in span (merged (s ∷ r ∷ []) 0 old new) ≡ bytes_in span old
kept_2 span s r old new apart other = same_bytes span old (merged (s ∷ r ∷ []) 0 old new) (length-merged (s ∷ r ∷ []) 0 old new)
    (λ p has. merged_kept (s ∷ r ∷ []) 0 p old new (rw (zero-add p) (let out = outside span s p apart has in let far = outside span r p other has in rw (out, far) refl)))

-- the bytes of a span that the spans have
pub laid_all : (span : Span) (spans : List Span) (old new : List ℕ) → length new ≡ length old → ((p : ℕ) → in_span p span ≡ true → covered spans p ≡ true)
    → bytes_in span (merged spans 0 old new) ≡ bytes_in span new
laid_all span spans old new same all = same_bytes span new (merged spans 0 old new) (length-merged spans 0 old new ∙ sym same)
    (λ p has. elim (cases_lt p (length old)) [
      | inl inside ↦ merged_at spans 0 p old new inside same ∙ ap (λ t. cond t (get_or new p 0) (get_or old p 0)) (ap (covered spans) (zero-add p) ∙ all p has)
      | inr past ↦
          (let long : length (merged spans 0 old new) ≤ p = omega (arith, length-merged spans 0 old new) in
          get_or_past (merged spans 0 old new) p 0 long ∙ sym (get_or_past new p 0 (omega arith)))
    ])

-- a write of a whole block
pub laid_whole : (old new : List ℕ) → length new ≡ length old → merged [] 0 old new ≡ new
laid_whole old new same = ext_get_or 0 (merged [] 0 old new) new (length-merged [] 0 old new ∙ sym same)
    (λ p below. merged_at [] 0 p old new (omega (arith, length-merged [] 0 old new)) same)

-- bytes that are laid into others leave those elsewhere
pub laid_kept : (span : Span) (at : ℕ) (bytes block : List ℕ) → at + length bytes ≤ length block → (span.off + span.len ≤ at) ⊎ (at + length bytes ≤ span.off)
    → bytes_in span (laid_at at bytes block) ≡ bytes_in span block
laid_kept span at bytes block fits apart = same_bytes span block (laid_at at bytes block) (length-laid_at at bytes block fits) (λ p has.
    let long : length (take at block) ≡ at = length-take-le at block (omega arith) in
    elim (cases_lt p at) [
      | inl before ↦
          get_or_append_left (take at block) (bytes ++ drop (at + length bytes) block) 0 p (omega arith) ∙ get_or-take at block p 0 before
      | inr past ↦
          (let far : at + length bytes ≤ p = elim apart [ inl low ↦ absurd (grind (arith, nat_tests)) | inr high ↦ grind (arith, nat_tests) ] in
          let k : ℕ = p - (at + length bytes) in
          let one : p ≡ length (take at block) + (length bytes + k) = omega arith in
          let two : at + length bytes + k ≡ p = omega arith in
          ap (λ (n : ℕ). get_or (laid_at at bytes block) n 0) one
          ∙ get_or-append-add (take at block) (bytes ++ drop (at + length bytes) block) (length bytes + k) 0
          ∙ get_or-append-add bytes (drop (at + length bytes) block) k 0
          ∙ get_or-drop (at + length bytes) block k 0
          ∙ ap (λ (n : ℕ). get_or block n 0) two)
    ])

-- a piece of the first bytes
pub piece_of : (span : Span) (end : ℕ) (block : List ℕ) → span.off + span.len ≤ end → bytes_in span (take end block) ≡ bytes_in span block
piece_of span end block fits =
    let sum : end ≡ span.off + (end - span.off) = omega arith in
    ap (λ (n : ℕ). take span.len (drop span.off (take n block))) sum
    ∙ ap (take span.len) (drop-take span.off (end - span.off) block)
    ∙ take-take span.len (end - span.off) (drop span.off block) (omega arith)

-- zeros have zeros
pub zeros_are : (n : ℕ) → list_all is_zero (replicate n 0) ≡ true
zeros_are zero = refl
zeros_are (suc n) = zeros_are n

pub piece_zero : (span : Span) (n : ℕ) → span.off + span.len ≤ n → bytes_in span (replicate n 0) ≡ replicate span.len 0
piece_zero span n fits = ap (take span.len) (drop-replicate span.off n 0) ∙ take-replicate span.len (n - span.off) 0 (omega arith)

-- a part that was written spells its bytes
pub part_is_part : (n m : ℕ) (text : List ℕ) → length text ≤ m → is_part m (part_of n text) ≡ true
part_is_part n m text short =
    let low : nat_le (length text) m ≡ true = grind (arith, nat_tests) in
    let e : 1 + length text ≡ suc (length text) = omega arith in
    rw (low, e) (ap (list_all is_zero) (drop_at text (replicate (n - length text) 0) (length text) refl) ∙ zeros_are (n - length text))

pub part_text : (n : ℕ) (text : List ℕ) → text_of (part_of n text) ≡ text
part_text n text = take_at text (replicate (n - length text) 0) (length text) refl

-- a part of zeros spells nothing
pub zero_part : (m n : ℕ) → is_part m (replicate (suc n) 0) ≡ true
zero_part m n = let low : nat_le 0 m ≡ true = grind (arith, nat_tests) in rw low (zeros_are n)
