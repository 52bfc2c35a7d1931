use Rattle.iso_tree.proofs.Words.{◌≡◌, ◌≢◌, ◌∙◌, sym, ap, ℕ, ◌+◌, ◌*◌, ◌<◌, ◌≤◌, List, [], ◌∷◌, length, get_or, arith, inl, inr, cases_eq, cases_lt, nat_lt, nat_tests, before, word_at}

-- keys that differ in their first byte, and keys that do not
first_decides : (a e : ℕ) (x y : List ℕ) → a ≢ e → nat_lt a e ≡ before (a ∷ x) (e ∷ y)
first_decides a e x y other = grind (arith, nat_tests) steps 100000

same_first : (a e : ℕ) (x y : List ℕ) → a ≡ e → before x y ≡ before (a ∷ x) (e ∷ y)
same_first a e x y same = grind (arith, nat_tests) steps 100000

-- Two numbers whose first digits differ, or else what is left of them. A digit is worth `worth`, and what is left is less.
digit_decides : (worth : ℕ) → ((a e : ℕ) → a < e → worth * a + worth ≤ worth * e) → (a e p q : ℕ) (x y : List ℕ) → p < worth → q < worth → (p ≢ q → nat_lt p q ≡ before x y)
    → worth * a + p ≢ worth * e + q → nat_lt (worth * a + p) (worth * e + q) ≡ before (a ∷ x) (e ∷ y)
digit_decides worth more a e p q x y few less rest other =
    elim (cases_eq a e) [
      | inl same ↦
          (let whole : worth * a ≡ worth * e = ap (λ (k : ℕ). worth * k) same in
          let left : p ≢ q = λ s. other (λ i. worth * same i + s i) in
          let alike : nat_lt (worth * a + p) (worth * e + q) ≡ nat_lt p q = grind (arith, nat_tests) in
          alike ∙ rest left ∙ same_first a e x y same)
      | inr differ ↦
          (let alike : nat_lt (worth * a + p) (worth * e + q) ≡ nat_lt a e =
          elim (cases_lt a e) [
            | inl low ↦ (let gap = more a e low in grind (arith, nat_tests))
            | inr high ↦ (let gap = more e a (omega (arith, high, differ)) in grind (arith, nat_tests))
          ] in
          alike ∙ first_decides a e x y differ)
    ]

-- the number of four bytes, one digit after the other
word_is : (a b c d : ℕ) (x : List ℕ) → word_at 0 (a ∷ b ∷ c ∷ d ∷ x) ≡ 16777216 * a + (65536 * b + (256 * c + d))
word_is a b c d x = omega arith

word_decides : (a b c d e f g h : ℕ) (x y : List ℕ) → b < 256 → c < 256 → d < 256 → f < 256 → g < 256 → h < 256
    → 16777216 * a + (65536 * b + (256 * c + d)) ≢ 16777216 * e + (65536 * f + (256 * g + h))
    → nat_lt (16777216 * a + (65536 * b + (256 * c + d))) (16777216 * e + (65536 * f + (256 * g + h))) ≡ before (a ∷ b ∷ c ∷ d ∷ x) (e ∷ f ∷ g ∷ h ∷ y)
word_decides a b c d e f g h x y b_few c_few d_few f_few g_few h_few =
    digit_decides 16777216 (λ i j low. omega arith) a e (65536 * b + (256 * c + d)) (65536 * f + (256 * g + h)) (b ∷ c ∷ d ∷ x) (f ∷ g ∷ h ∷ y) (omega arith) (omega arith)
    (digit_decides 65536 (λ i j low. omega arith) b f (256 * c + d) (256 * g + h) (c ∷ d ∷ x) (g ∷ h ∷ y) (omega arith) (omega arith)
    (digit_decides 256 (λ i j low. omega arith) c g d h (d ∷ x) (h ∷ y) d_few h_few (first_decides d h x y)))

-- keys whose first four bytes differ
words_decide : (x y : List ℕ) → 4 ≤ length x → 4 ≤ length y → ((i : ℕ) → get_or x i 0 < 256) → ((i : ℕ) → get_or y i 0 < 256) → word_at 0 x ≢ word_at 0 y → nat_lt (word_at 0 x) (word_at 0 y) ≡ before x y
words_decide [] y some more few less other = absurd (omega arith)
words_decide (a ∷ []) y some more few less other = absurd (omega arith)
words_decide (a ∷ b ∷ []) y some more few less other = absurd (omega arith)
words_decide (a ∷ b ∷ c ∷ []) y some more few less other = absurd (omega arith)
words_decide (a ∷ b ∷ c ∷ d ∷ x) [] some more few less other = absurd (omega arith)
words_decide (a ∷ b ∷ c ∷ d ∷ x) (e ∷ []) some more few less other = absurd (omega arith)
words_decide (a ∷ b ∷ c ∷ d ∷ x) (e ∷ f ∷ []) some more few less other = absurd (omega arith)
words_decide (a ∷ b ∷ c ∷ d ∷ x) (e ∷ f ∷ g ∷ []) some more few less other = absurd (omega arith)
words_decide (a ∷ b ∷ c ∷ d ∷ x) (e ∷ f ∷ g ∷ h ∷ y) some more few less other =
    let one = word_is a b c d x in
    let two = word_is e f g h y in
    (λ i. nat_lt (one i) (two i)) ∙ word_decides a b c d e f g h x y (few 1) (few 2) (few 3) (less 1) (less 2) (less 3) (λ same. other (one ∙ same ∙ sym two))

pub returns : Rattle.iso_tree.proofs.keys.word_before.Goals.returns
returns c =
    (λ i. nat_lt (c.word_at.ensures i) (c.word_at-2.ensures i))
    ∙ words_decide c.args.x.now c.args.y.now c.requires.x c.requires.y (λ i. omega (arith, c.type_inv.x i)) (λ i. omega (arith, c.type_inv.y i)) c.requires.differ
