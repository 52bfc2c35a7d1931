-- What a write does to the bytes in its range, and what a torn one leaves outside it.
use Rattle.std.proofs.{Common.{◌≡◌, ◌⊎◌, ◌<◌, ◌≤◌, ◌+◌, ◌-◌, ℕ, List, ◌++◌, inl, inr, length, take, drop, get_or, refl, sym, ◌∙◌, ap, arith, length-append, length-drop, append_assoc, take-append-drop}, lemmas.List.{take-append-le, take_at, take-take, drop-drop, drop_at, get_or-take, get_or-drop, length-take-le, drop-take}}
use Rattle.iso_disk.specs.Disk.{spliced, Torn}

module _ (old : List ℕ) (at : ℕ) (bytes : List ℕ) (fits : at + length bytes ≤ length old) where
  front : length (take at old) ≡ at
  front = length-take-le at old (omega arith)

  pub length-spliced : length (spliced old at bytes) ≡ length old
  length-spliced = omega (arith, length-append (take at old ++ bytes) (drop (at + length bytes) old), length-append (take at old) bytes, length-drop (at + length bytes) old, front)

  -- the bytes up to the range stay
  pub take-spliced : (k : ℕ) → k ≤ at → take k (spliced old at bytes) ≡ take k old
  take-spliced k le =
      ap (take k) (append_assoc (take at old) bytes (drop (at + length bytes) old))
      ∙ take-append-le k (take at old) (bytes ++ drop (at + length bytes) old) (omega (arith, front))
      ∙ take-take k at old le

  -- the range has the bytes
  pub take-drop-spliced : take (length bytes) (drop at (spliced old at bytes)) ≡ bytes
  take-drop-spliced =
      ap (λ (l : List ℕ). take (length bytes) (drop at l)) (append_assoc (take at old) bytes (drop (at + length bytes) old))
      ∙ ap (take (length bytes)) (drop_at (take at old) (bytes ++ drop (at + length bytes) old) at front)
      ∙ take_at bytes (drop (at + length bytes) old) (length bytes) refl

  -- the bytes after the range stay
  pub drop-spliced : (k : ℕ) → at + length bytes ≤ k → drop k (spliced old at bytes) ≡ drop k old
  drop-spliced k le =
      let end : length (take at old ++ bytes) ≡ at + length bytes = omega (arith, length-append (take at old) bytes, front) in
      let far : at + length bytes + (k - (at + length bytes)) ≡ k = omega arith in
      ap (λ (n : ℕ). drop n (spliced old at bytes)) (sym far)
      ∙ sym (drop-drop (k - (at + length bytes)) (at + length bytes) (spliced old at bytes))
      ∙ ap (drop (k - (at + length bytes))) (drop_at (take at old ++ bytes) (drop (at + length bytes) old) (at + length bytes) end)
      ∙ drop-drop (k - (at + length bytes)) (at + length bytes) old
      ∙ ap (λ (n : ℕ). drop n old) far

  -- a write that is done is one of its torn outcomes
  pub spliced_torn : Torn at (length bytes) old (spliced old at bytes)
  spliced_torn = record { before = take-spliced at (omega arith); after = drop-spliced (at + length bytes) (omega arith); size = length-spliced }

-- a write that has not begun is one too
pub torn_same : (at n : ℕ) (c : List ℕ) → Torn at n c c
torn_same at n c = record { before = refl; after = refl; size = refl }

module _ {at n : ℕ} {old new : List ℕ} (torn : Torn at n old new) where
  -- the bytes up to the range stay
  pub take-torn : (k : ℕ) → k ≤ at → take k new ≡ take k old
  take-torn k le = sym (take-take k at new le) ∙ ap (take k) torn.before ∙ take-take k at old le

  -- the bytes after the range stay
  pub drop-torn : (k : ℕ) → at + n ≤ k → drop k new ≡ drop k old
  drop-torn k le =
      let far : at + n + (k - (at + n)) ≡ k = omega arith in
      ap (λ (m : ℕ). drop m new) (sym far) ∙ sym (drop-drop (k - (at + n)) (at + n) new) ∙ ap (drop (k - (at + n))) torn.after ∙ drop-drop (k - (at + n)) (at + n) old ∙ ap (λ (m : ℕ). drop m old) far

  -- so does each byte outside it
  pub get_or-torn : (k d : ℕ) → (k < at) ⊎ (at + n ≤ k) → get_or new k d ≡ get_or old k d
  get_or-torn k d outside = elim outside [
    | inl below ↦ sym (get_or-take at new k d below) ∙ ap (λ (l : List ℕ). get_or l k d) torn.before ∙ get_or-take at old k d below
    | inr behind ↦
        let far : at + n + (k - (at + n)) ≡ k = omega arith in
        ap (λ (m : ℕ). get_or new m d) (sym far) ∙ sym (get_or-drop (at + n) new (k - (at + n)) d) ∙ ap (λ (l : List ℕ). get_or l (k - (at + n)) d) torn.after ∙ get_or-drop (at + n) old (k - (at + n)) d ∙ ap (λ (m : ℕ). get_or old m d) far
  ]

-- a slice outside the range stays
pub slice-torn : {at n : ℕ} {old new : List ℕ} → Torn at n old new → (i len : ℕ) → (i + len ≤ at) ⊎ (at + n ≤ i) → take len (drop i new) ≡ take len (drop i old)
slice-torn {at = at} {old = old} {new = new} torn i len outside = elim outside [
  | inl below ↦
      sym (drop-take i len new) ∙ ap (drop i) (take-torn torn (i + len) below) ∙ drop-take i len old
  | inr behind ↦ ap (take len) (drop-torn torn i behind)
]

-- a wider range
pub torn_wider : {at n : ℕ} {old new : List ℕ} → Torn at n old new → (from len : ℕ) → from ≤ at → at + n ≤ from + len → Torn from len old new
torn_wider torn from len starts ends = record { before = take-torn torn from starts; after = drop-torn torn (from + len) ends; size = torn.size }

-- two writes in a row
pub torn_twice : {at n : ℕ} {first second third : List ℕ} → Torn at n first second → Torn at n second third → Torn at n first third
torn_twice one two = record { before = two.before ∙ one.before; after = two.after ∙ one.after; size = two.size ∙ one.size }

-- the torn outcome that has the bytes in the range is that of the write that is done
pub torn_whole : {at : ℕ} {old new : List ℕ} → (bytes : List ℕ) → Torn at (length bytes) old new → take (length bytes) (drop at new) ≡ bytes → new ≡ spliced old at bytes
torn_whole {at = at} {old = old} {new = new} bytes torn here =
    sym (take-append-drop at new)
    ∙ ap (λ (l : List ℕ). take at new ++ l) (sym (take-append-drop (length bytes) (drop at new)))
    ∙ sym (append_assoc (take at new) (take (length bytes) (drop at new)) (drop (length bytes) (drop at new)))
    ∙ (λ i. torn.before i ++ here i ++ rest i)
  where
    rest : drop (length bytes) (drop at new) ≡ drop (at + length bytes) old
    rest = drop-drop (length bytes) at new ∙ torn.after

-- two writes, one after the other, are one
pub spliced_behind : (old : List ℕ) (at : ℕ) (xs ys : List ℕ) → at + length xs + length ys ≤ length old → spliced (spliced old at xs) (at + length xs) ys ≡ spliced old at (xs ++ ys)
spliced_behind old at xs ys fits =
    let end : length (take at old ++ xs) ≡ at + length xs = omega (arith, length-append (take at old) xs, length-take-le at old (omega arith)) in
    let front : take (at + length xs) (spliced old at xs) ≡ take at old ++ xs = take_at (take at old ++ xs) (drop (at + length xs) old) (at + length xs) end in
    let sum : at + length xs + length ys ≡ at + length (xs ++ ys) = omega (arith, length-append xs ys) in
    let back : drop (at + length xs + length ys) (spliced old at xs) ≡ drop (at + length (xs ++ ys)) old =
    drop-spliced old at xs (omega arith) (at + length xs + length ys) (omega arith) ∙ ap (λ (n : ℕ). drop n old) sum in
    (λ i. front i ++ ys ++ back i) ∙ ap (λ (l : List ℕ). l ++ drop (at + length (xs ++ ys)) old) (append_assoc (take at old) xs ys)

-- what was written first is gone where the second write covers it
pub spliced_over : (old : List ℕ) (at : ℕ) (xs ys : List ℕ) → length xs ≡ length ys → at + length xs ≤ length old → spliced (spliced old at xs) at ys ≡ spliced old at ys
spliced_over old at xs ys same fits =
    let sum : at + length xs ≡ at + length ys = omega arith in
    let back : drop (at + length ys) (spliced old at xs) ≡ drop (at + length ys) old = drop-spliced old at xs fits (at + length ys) (omega arith) in
    (λ i. take-spliced old at xs fits at (omega arith) i ++ ys ++ back i)

-- the bytes of a range, one by one
pub get_or-spliced : (old : List ℕ) (at : ℕ) (bytes : List ℕ) → at + length bytes ≤ length old → (k d : ℕ) → k < length bytes → get_or (spliced old at bytes) (at + k) d ≡ get_or bytes k d
get_or-spliced old at bytes fits k d within =
    sym (get_or-drop at (spliced old at bytes) k d)
    ∙ sym (get_or-take (length bytes) (drop at (spliced old at bytes)) k d within)
    ∙ ap (λ (l : List ℕ). get_or l k d) (take-drop-spliced old at bytes fits)
