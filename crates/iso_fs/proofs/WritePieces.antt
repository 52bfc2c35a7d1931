-- What the writes of the pieces make of the bytes of a file's blocks.
use Rattle.iso_fs.proofs.{Words.{length-block_with, ◌≡◌, ◌≢◌, ◌⊎◌, ◌∙◌, sym, refl, ap, ℕ, zero, suc, ◌+◌, ◌-◌, ◌*◌, ◌/◌, ◌%◌, ◌<◌, ◌≤◌, Bool, true, false, cond, List, [], ◌∷◌, length, get_or, take, drop, replicate, nat_le, Ok, arith, inl, inr, nat_lt, cases_eq, cases_lt, or_left, nat_tests, div-add-mod', div-lt_iff_lt-mul, mod-lt, get_or-take, get_or-drop, length-drop, length-replicate, length-take-le, Access, Span, Area, Array, byte_at, covered, put, own, block_with, block_at, Done, Store, accesses_of, store_access, length-block_put, other_block, put_here, laid_here, piece_len, piece_mark, Call, write_pieces}, MapLaid.byte_in, Pieces.{IsPiece, near_div, near_mod, piece_is}}

-- one piece's marks, and the piece and the others
abbrev pub marks : Area → (old from to : ℕ) → List Span
marks a old from to = cond (nat_lt (from / a.size) old) (piece_mark a.size from to ∷ []) []

abbrev one : Area → (entries : List ℕ) → (old from to : ℕ) → (bytes : List ℕ) → Access
one a entries old from to bytes =
    store_access (a.start + get_or entries (from / a.size) 0) (marks a old from to) (block_with a.size (from % a.size) (take (piece_len a.size from to) bytes))

abbrev pub rest_of : Area → (entries : List ℕ) → (old most from to : ℕ) → (bytes : List ℕ) → Call Bool
rest_of a entries old most from to bytes = write_pieces a entries old most (from + piece_len a.size from to) to (drop (piece_len a.size from to) bytes)

abbrev pub both : Area → (entries : List ℕ) → (old most from to : ℕ) → (bytes : List ℕ) → Call Bool
both a entries old most from to bytes =
    Store (a.start + get_or entries (from / a.size) 0) (marks a old from to) (block_with a.size (from % a.size) (take (piece_len a.size from to) bytes)) (rest_of a entries old most from to bytes)

module _ (a : Area) (E : List ℕ) (old to : ℕ) (some : 0 < a.size) (inside : to ≤ length E * a.size) where
  abbrev size : ℕ
  size = a.size

  abbrev at : ℕ → ℕ
  at i = a.start + get_or E i 0

  abbrev after : (most from : ℕ) → List ℕ → Array → Array
  after most from bytes X = own X (accesses_of (write_pieces a E old most from to bytes) X)

  -- one piece and then the others, and nothing at the end
  goes : (most from : ℕ) (bytes : List ℕ) (X : Array) → from < to → after (suc most) from bytes X ≡ after most (from + piece_len size from to) (drop (piece_len size from to) bytes) (put X (one a E old from to bytes))
  goes most from bytes X less = (let test : nat_lt from to ≡ true = grind (arith, nat_tests) in ap (λ (t : Bool). own X (accesses_of (cond t (both a E old most from to bytes) (Done (Ok true))) X)) test)

  stays : (most from : ℕ) (bytes : List ℕ) (X : Array) → to ≤ from → after most from bytes X ≡ X
  stays zero from bytes X past = refl
  stays (suc most) from bytes X past = (let test : nat_lt from to ≡ false = grind (arith, nat_tests) in ap (λ (t : Bool). own X (accesses_of (cond t (both a E old most from to bytes) (Done (Ok true))) X)) test)

  place_inside : (p : ℕ) → p < to → p / size < length E
  place_inside p less = (div-lt_iff_lt-mul {k = size} {x = p} {y = length E} some).1 (omega arith)

  div_less : (p q : ℕ) → p ≤ q → p / size ≤ q / size
  div_less p q le = grind arith steps 100000

  -- a block that none of the pieces has
  pub others_stay : (most from : ℕ) (bytes : List ℕ) (X : Array) (b : ℕ) → ((i : ℕ) → from / size ≤ i → i < length E → at i ≢ b) → block_at (after most from bytes X) b ≡ block_at X b
  others_stay zero from bytes X b apart = refl
  others_stay (suc most) from bytes X b apart = elim (cases_lt from to) [
    | inr past ↦ ap (λ (Y : Array). block_at Y b) (stays (suc most) from bytes X past)
    | inl less ↦
        (let n = piece_len size from to in
        ap (λ (Y : Array). block_at Y b) (goes most from bytes X less)
        ∙ others_stay most (from + n) (drop n bytes) (put X (one a E old from to bytes)) b (λ i low high. apart i (let d = div_less from (from + n) (omega arith) in omega arith) high)
        ∙ other_block X (one a E old from to bytes) b (λ e. apart (from / size) (omega arith) (place_inside from less) (sym e)))
  ]

  module _ (apart : (i j : ℕ) → i < length E → j < length E → get_or E i 0 ≡ get_or E j 0 → i ≡ j) where
    -- ONE PIECE
    module _ (from : ℕ) (bytes : List ℕ) (X : Array) (less : from < to) (whole : length bytes ≡ to - from) (shape : (i : ℕ) → i < length E → length (block_at X (at i)) ≡ size) where
      abbrev n : ℕ
      n = piece_len size from to

      abbrev w : Access
      w = one a E old from to bytes

      abbrev off : ℕ
      off = from % size

      is : IsPiece size from to
      is = piece_is size from to some less

      piece_long : length (take n bytes) ≡ n
      piece_long = length-take-le n bytes (let x = is.within in omega arith)

      new_long : length w.bytes ≡ length (block_at X w.block)
      new_long = length-block_with size off (take n bytes) (let f = is.fits in omega (arith, piece_long)) ∙ sym (shape (from / size) (place_inside from less))

      mark_has : (pos : ℕ) → off ≤ pos → pos < off + n → covered (marks a old from to) pos ≡ true
      mark_has pos low high = grind (arith, or_left) steps 100000

      laid : (j : ℕ) → j < n → get_or (block_with size off (take n bytes)) (off + j) 0 ≡ get_or bytes j 0
      laid j below =
          let f = is.fits in
          let span : Span = record { off = off; len = n } in
          let e : off + j - off ≡ j = omega arith in
          sym (byte_in span (block_with size off (take n bytes)) (off + j) (grind (arith, nat_tests)))
          ∙ ap (λ (xs : List ℕ). get_or xs (off + j - off) 0) (laid_here off n (take n bytes) (replicate size 0) piece_long (omega (arith, piece_long, length-replicate {A = ℕ} size 0)))
          ∙ ap (λ (k : ℕ). get_or (take n bytes) k 0) e ∙ get_or-take n bytes j 0 below

      -- a byte that the piece has
      piece_here : (p : ℕ) → from ≤ p → p < from + n → byte_at (put X w) (at (p / size)) (p % size) ≡ get_or bytes (p - from) 0
      piece_here p low high =
          let f = is.fits in
          let j = p - from in
          let sum : p ≡ from + j = omega arith in
          let same_div : p / size ≡ from / size = ap (λ (k : ℕ). k / size) sum ∙ near_div size from j (omega arith) in
          let same_mod : p % size ≡ off + j = ap (λ (k : ℕ). k % size) sum ∙ near_mod size from j (omega arith) in
          (λ i. byte_at (put X w) (at (same_div i)) (same_mod i))
          ∙ put_here X w (off + j) new_long (omega (arith, shape (from / size) (place_inside from less)))
          ∙ ap (λ (t : Bool). cond t (get_or w.bytes (off + j) 0) (byte_at X w.block (off + j))) (mark_has (off + j) (omega arith) (omega arith))
          ∙ laid j (omega arith)

      -- a byte before it: of another block, or of an old one
      piece_before : (p : ℕ) → p < from → (p / size < old) ⊎ (p / size < from / size) → byte_at (put X w) (at (p / size)) (p % size) ≡ byte_at X (at (p / size)) (p % size)
      piece_before p before how = elim (cases_eq (p / size) (from / size)) [
        | inr other ↦ ap (λ (b : List ℕ). get_or b (p % size) 0) (other_block X w (at (p / size))
            (λ e. other (apart (p / size) (from / size) (place_inside p (omega arith)) (place_inside from less) (omega arith))))
        | inl same ↦
            (let young : from / size < old = elim how [ inl is_old ↦ omega arith | inr far ↦ absurd (omega arith) ] in
            let test : nat_lt (from / size) old ≡ true = grind (arith, nat_tests) in
            let far : Rattle.iso_model.specs.Array.in_span (p % size) (piece_mark size from to) ≡ false = grind (arith, nat_tests) in
            let out : covered (marks a old from to) (p % size) ≡ false =
            ap (λ (t : Bool). covered (cond t (piece_mark size from to ∷ []) []) (p % size)) test ∙ ap (λ (t : Bool). Rattle.std.proofs.Common.◌||◌ t false) far in
            ap (λ (k : ℕ). byte_at (put X w) (at k) (p % size)) same
            ∙ put_here X w (p % size) new_long (omega (arith, shape (from / size) (place_inside from less)))
            ∙ ap (λ (t : Bool). cond t (get_or w.bytes (p % size) 0) (byte_at X w.block (p % size))) out
            ∙ ap (λ (k : ℕ). byte_at X (at k) (p % size)) (sym same))
      ]

    -- ALL PIECES
    -- where a piece does not end the range, the next one begins a block
    next_block : (from : ℕ) → from < to → from + piece_len size from to < to → (p : ℕ) → p < from + piece_len size from to → p / size < (from + piece_len size from to) / size
    next_block from less more p before = elim (cases_lt (to - from) (size - from % size)) [
      | inl short ↦
          (let test : nat_lt (to - from) (size - from % size) ≡ true = grind (arith, nat_tests) in
          let is : piece_len size from to ≡ to - from = ap (λ (t : Bool). cond t (to - from) (size - from % size)) test in
          absurd (omega arith))
      | inr long ↦
          (let test : nat_lt (to - from) (size - from % size) ≡ false = grind (arith, nat_tests) in
          let is : piece_len size from to ≡ size - from % size = ap (λ (t : Bool). cond t (to - from) (size - from % size)) test in
          let e = div-add-mod' from size in
          let m = mod-lt from {m = size} some in
          let s = Rattle.std.proofs.Math.Nat.add-mul (from / size) 1 size in
          let o = Rattle.std.proofs.Math.Nat.one-mul size in
          let end : from + piece_len size from to ≡ (from / size + 1) * size + 0 = omega arith in
          let next : (from + piece_len size from to) / size ≡ from / size + 1 = ap (λ (k : ℕ). k / size) end ∙ Rattle.std.proofs.lemmas.Nat.div-mul-add (from / size + 1) size 0 some in
          let low : p / size < from / size + 1 = (div-lt_iff_lt-mul {k = size} {x = p} {y = from / size + 1} some).1 (omega arith) in
          omega arith)
    ]

    -- The bytes of the range are those that are written; the others of old blocks, and of blocks before the range, stay.
    pub bytes_written : (most from : ℕ) (bytes : List ℕ) (X : Array) → to - from ≤ most → from ≤ to → length bytes ≡ to - from → ((i : ℕ) → i < length E → length (block_at X (at i)) ≡ size)
        → (p : ℕ) → p < to → (from ≤ p) ⊎ ((p / size < old) ⊎ (p / size < from / size))
        → byte_at (after most from bytes X) (at (p / size)) (p % size) ≡ cond (nat_le from p) (get_or bytes (p - from) 0) (byte_at X (at (p / size)) (p % size))
    bytes_written zero from bytes X few up whole shape p low how = grind arith steps 100000
    bytes_written (suc most) from bytes X few up whole shape p low how = elim (cases_lt from to) [
      | inr past ↦
          (let test : nat_le from p ≡ false = grind (arith, nat_tests) in
          ap (λ (Y : Array). byte_at Y (at (p / size)) (p % size)) (stays (suc most) from bytes X past)
          ∙ ap (λ (t : Bool). cond t (get_or bytes (p - from) 0) (byte_at X (at (p / size)) (p % size))) (sym test))
      | inl less ↦
          (let n = piece_len size from to in
          let is = piece_is size from to some less in
          let X1 = put X (one a E old from to bytes) in
          let more = drop n bytes in
          let ih = bytes_written most (from + n) more X1 (omega arith) (omega arith) (omega (arith, length-drop n bytes)) (λ i below. length-block_put X (one a E old from to bytes) (at i) ∙ shape i below) p low in
          ap (λ (Y : Array). byte_at Y (at (p / size)) (p % size)) (goes most from bytes X less)
          ∙ elim (cases_lt p (from + n)) [
            | inr later ↦
                (let test : nat_le (from + n) p ≡ true = grind (arith, nat_tests) in
                let here : nat_le from p ≡ true = grind (arith, nat_tests) in
                let e : n + (p - (from + n)) ≡ p - from = omega arith in
                ih (inl later) ∙ ap (λ (t : Bool). cond t (get_or more (p - (from + n)) 0) (byte_at X1 (at (p / size)) (p % size))) test
                ∙ get_or-drop n bytes (p - (from + n)) 0 ∙ ap (λ (k : ℕ). get_or bytes k 0) e
                ∙ ap (λ (t : Bool). cond t (get_or bytes (p - from) 0) (byte_at X (at (p / size)) (p % size))) (sym here))
            | inl before ↦
                (let kept : byte_at (after most (from + n) more X1) (at (p / size)) (p % size) ≡ byte_at X1 (at (p / size)) (p % size) =
                elim (cases_lt (from + n) to) [
                  | inl goes_on ↦
                      (let test : nat_le (from + n) p ≡ false = grind (arith, nat_tests) in
                      ih (inr (inr (next_block from less goes_on p before))) ∙ ap (λ (t : Bool). cond t (get_or more (p - (from + n)) 0) (byte_at X1 (at (p / size)) (p % size))) test)
                  | inr ends ↦ ap (λ (Y : Array). byte_at Y (at (p / size)) (p % size)) (stays most (from + n) more X1 ends)
                ] in
                kept ∙ elim (cases_lt p from) [
                  | inr here ↦
                      (let test : nat_le from p ≡ true = grind (arith, nat_tests) in
                      piece_here from bytes X less whole shape p here before
                      ∙ ap (λ (t : Bool). cond t (get_or bytes (p - from) 0) (byte_at X (at (p / size)) (p % size))) (sym test))
                  | inl earlier ↦
                      (let test : nat_le from p ≡ false = grind (arith, nat_tests) in
                      piece_before from bytes X less whole shape p earlier (elim how [ inl here ↦ absurd (omega arith) | inr other ↦ other ])
                      ∙ ap (λ (t : Bool). cond t (get_or bytes (p - from) 0) (byte_at X (at (p / size)) (p % size))) (sym test))
                ])
          ])
    ]

    -- A byte after the range stays, where its block is an old one.
    piece_behind : (from : ℕ) (bytes : List ℕ) (X : Array) (less : from < to) (whole : length bytes ≡ to - from) (shape : (i : ℕ) → i < length E → length (block_at X (at i)) ≡ size)
        → (p : ℕ) → to ≤ p → p / size < old → p / size < length E → byte_at (put X (one a E old from to bytes)) (at (p / size)) (p % size) ≡ byte_at X (at (p / size)) (p % size)
    piece_behind from bytes X less whole shape p past young below =
        let w = one a E old from to bytes in
        elim (cases_eq (p / size) (from / size)) [
          | inr other ↦ ap (λ (b : List ℕ). get_or b (p % size) 0) (other_block X w (at (p / size))
              (λ e. other (apart (p / size) (from / size) below (place_inside from less) (omega arith))))
          | inl same ↦
              (let is = piece_is size from to some less in
              let test : nat_lt (from / size) old ≡ true = grind (arith, nat_tests) in
              let far : Rattle.iso_model.specs.Array.in_span (p % size) (piece_mark size from to) ≡ false = grind (arith, nat_tests) in
              let out : covered (marks a old from to) (p % size) ≡ false =
              ap (λ (t : Bool). covered (cond t (piece_mark size from to ∷ []) []) (p % size)) test ∙ ap (λ (t : Bool). Rattle.std.proofs.Common.◌||◌ t false) far in
              ap (λ (k : ℕ). byte_at (put X w) (at k) (p % size)) same
              ∙ put_here X w (p % size) (new_long from bytes X less whole shape) (omega (arith, shape (from / size) (place_inside from less)))
              ∙ ap (λ (t : Bool). cond t (get_or w.bytes (p % size) 0) (byte_at X w.block (p % size))) out
              ∙ ap (λ (k : ℕ). byte_at X (at k) (p % size)) (sym same))
        ]

    pub bytes_behind : (most from : ℕ) (bytes : List ℕ) (X : Array) → from ≤ to → length bytes ≡ to - from → ((i : ℕ) → i < length E → length (block_at X (at i)) ≡ size)
        → (p : ℕ) → to ≤ p → p / size < old → p / size < length E → byte_at (after most from bytes X) (at (p / size)) (p % size) ≡ byte_at X (at (p / size)) (p % size)
    bytes_behind zero from bytes X up whole shape p past young below = refl
    bytes_behind (suc most) from bytes X up whole shape p past young below = elim (cases_lt from to) [
      | inr over ↦ ap (λ (Y : Array). byte_at Y (at (p / size)) (p % size)) (stays (suc most) from bytes X over)
      | inl less ↦
          (let n = piece_len size from to in
          let is = piece_is size from to some less in
          let X1 = put X (one a E old from to bytes) in
          ap (λ (Y : Array). byte_at Y (at (p / size)) (p % size)) (goes most from bytes X less)
          ∙ bytes_behind most (from + n) (drop n bytes) X1 (omega arith) (omega (arith, length-drop n bytes)) (λ i inside. length-block_put X (one a E old from to bytes) (at i) ∙ shape i inside) p past young below
          ∙ piece_behind from bytes X less whole shape p past young below)
    ]
