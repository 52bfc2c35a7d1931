-- The bytes of a file, piece by piece.
use Rattle.iso_fs.proofs.Words.{◌≡◌, ◌∙◌, sym, refl, ap, ℕ, zero, suc, ◌+◌, ◌-◌, ◌*◌, ◌/◌, ◌%◌, ◌<◌, ◌≤◌, Bool, true, false, cond, List, ◌∷◌, ◌++◌, length, get_or, take, drop, map, Option, Some, None, Result, Ok, arith, append_assoc, inl, inr, nat_lt, range_with_len, cases_lt, nat_tests, div-mul-add, mod-mul-add, div-add-mod', append-nil, ext_get_or, get_or-take, get_or-drop, length-take-le, length-drop, drop_at, take_all, get_or-map-range_with_len, length-map-range_with_len, take-map-range_with_len, Area, Array, block_at, Done, Look, answer_of, bytes_in, FsError, FileAreas, bytes_of, entry_at, piece_len, piece_mark, Call, least, read_pieces, file_byte}

pub range_split : {X : Type 0} (f : ℕ → X) (a m n : ℕ) → map f (range_with_len a (m + n)) ≡ map f (range_with_len a m) ++ map f (range_with_len (a + m) n)
range_split f a zero n = let e : a ≡ a + 0 = omega arith in let z : 0 + n ≡ n = omega arith in ap (λ (k : ℕ). map f (range_with_len a k)) z ∙ ap (λ (b : ℕ). map f (range_with_len b n)) e
range_split f a (suc m) n =
    let sum : suc m + n ≡ suc (m + n) = omega arith in
    let e : a + 1 + m ≡ a + suc m = omega arith in
    ap (λ (k : ℕ). map f (range_with_len a k)) sum
    ∙ ap (λ r. f a ∷ r) (range_split f (a + 1) m n ∙ ap (λ (b : ℕ). map f (range_with_len (a + 1) m) ++ map f (range_with_len b n)) e)

-- a range of the bytes by places
pub slice_range : (f : ℕ → ℕ) (size off len : ℕ) → off ≤ size → take len (drop off (map f (range_with_len 0 size))) ≡ map f (range_with_len off (least (off + len) size - off))
slice_range f size off len inside =
    let sum : size ≡ off + (size - off) = omega arith in
    let z : 0 + off ≡ off = omega arith in
    let parts : map f (range_with_len 0 size) ≡ map f (range_with_len 0 off) ++ map f (range_with_len off (size - off)) =
    ap (λ (n : ℕ). map f (range_with_len 0 n)) sum ∙ range_split f 0 off (size - off) ∙ ap (λ (b : ℕ). map f (range_with_len 0 off) ++ map f (range_with_len b (size - off))) z in
    let rest : drop off (map f (range_with_len 0 size)) ≡ map f (range_with_len off (size - off)) =
    ap (drop off) parts ∙ drop_at (map f (range_with_len 0 off)) (map f (range_with_len off (size - off))) off (length-map-range_with_len f 0 off) in
    ap (take len) rest ∙ elim (cases_lt (off + len) size) [
      | inl short ↦
          (let test : nat_lt (off + len) size ≡ true = grind (arith, nat_tests) in
          let n : off + len - off ≡ len = omega arith in
          take-map-range_with_len f off (size - off) len (omega arith) ∙ ap (λ (k : ℕ). map f (range_with_len off k)) (sym n)
          ∙ ap (λ (t : Bool). map f (range_with_len off (cond t (off + len) size - off))) (sym test))
      | inr long ↦
          (let test : nat_lt (off + len) size ≡ false = grind (arith, nat_tests) in
          take_all len (map f (range_with_len off (size - off))) (omega (arith, length-map-range_with_len f off (size - off)))
          ∙ ap (λ (t : Bool). map f (range_with_len off (cond t (off + len) size - off))) (sym test))
    ]

-- bytes of one block
sum_is : (size from i : ℕ) → from + i ≡ from / size * size + (from % size + i)
sum_is size from i = let e = div-add-mod' from size in omega (arith, e)

pub near_div : (size from i : ℕ) → from % size + i < size → (from + i) / size ≡ from / size
near_div size from i below = ap (λ (n : ℕ). n / size) (sum_is size from i) ∙ div-mul-add (from / size) size (from % size + i) below

pub near_mod : (size from i : ℕ) → from % size + i < size → (from + i) % size ≡ from % size + i
near_mod size from i below = ap (λ (n : ℕ). n % size) (sum_is size from i) ∙ mod-mul-add (from / size) size (from % size + i) below

pub record IsPiece (size from to : ℕ) : Type 0 where
  pub some : 1 ≤ piece_len size from to
  pub within : piece_len size from to ≤ to - from
  pub fits : from % size + piece_len size from to ≤ size

pub piece_is : (size from to : ℕ) → 0 < size → from < to → IsPiece size from to
piece_is size from to some less = grind arith steps 100000

-- one piece and the others
abbrev pub step : Area → (file : List ℕ) → (most from to : ℕ) → (found : List ℕ) → Call (Option (List ℕ))
step a file most from to found =
    Look (a.start + entry_at file (from / a.size)) (piece_mark a.size from to) (λ piece. None) (λ piece none. read_pieces a file most (from + piece_len a.size from to) to (found ++ piece))

module _ (a : FileAreas) (A : Array) (file : List ℕ) (some : 0 < a.files.size)
    (shape : (p : ℕ) → p < bytes_of file → length (block_at A (a.files.start + entry_at file (p / a.files.size))) ≡ a.files.size) where
  abbrev f : ℕ → ℕ
  f = file_byte a A file

  abbrev size : ℕ
  size = a.files.size

  piece_bytes : (from to : ℕ) → from < to → to ≤ bytes_of file
      → bytes_in (piece_mark size from to) (block_at A (a.files.start + entry_at file (from / size))) ≡ map f (range_with_len from (piece_len size from to))
  piece_bytes from to less inside =
      let is = piece_is size from to some less in
      let n = piece_len size from to in
      let block = block_at A (a.files.start + entry_at file (from / size)) in
      let piece_long : length (take n (drop (from % size) block)) ≡ n = length-take-le n (drop (from % size) block) (omega (arith, length-drop (from % size) block)) in
      ext_get_or 0 (take n (drop (from % size) block)) (map f (range_with_len from n)) (piece_long ∙ sym (length-map-range_with_len f from n))
      (λ i below.
      let here : i < n = omega arith in
      get_or-take n (drop (from % size) block) i 0 here ∙ get_or-drop (from % size) block i 0
      ∙ sym (get_or-map-range_with_len f from n i (from + i) 0 here refl
      ∙ (λ j. get_or (block_at A (a.files.start + entry_at file (near_div size from i (omega arith) j))) (near_mod size from i (omega arith) j) 0)))

  -- The pieces are the bytes of the file.
  pub read_gives : (most from to : ℕ) (found : List ℕ) → to - from ≤ most → from ≤ to → to ≤ bytes_of file
      → ◌≡◌ {A = Result (Option (List ℕ)) FsError} (answer_of (read_pieces a.files file most from to found) A) (Ok (Some (found ++ map f (range_with_len from (to - from)))))
  read_gives zero from to found few up inside =
      let none : to - from ≡ 0 = omega arith in
      ap (λ (xs : List ℕ). Ok (Some xs)) (sym (append-nil found) ∙ ap (λ (k : ℕ). found ++ map f (range_with_len from k)) (sym none))
  read_gives (suc most) from to found few up inside =
      elim (cases_lt from to) [
        | inl less ↦
            (let is = piece_is size from to some less in
            let n = piece_len size from to in
            let test : nat_lt from to ≡ true = grind (arith, nat_tests) in
            let sum : n + (to - (from + n)) ≡ to - from = omega arith in
            ap (λ (t : Bool). answer_of (cond t (step a.files file most from to found) (Done (Ok (Some found)))) A) test
            ∙ read_gives most (from + n) to (found ++ bytes_in (piece_mark size from to) (block_at A (a.files.start + entry_at file (from / size)))) (omega arith) (omega arith) inside
            ∙ ap (λ (xs : List ℕ). Ok (Some (found ++ xs ++ map f (range_with_len (from + n) (to - (from + n)))))) (piece_bytes from to less inside)
            ∙ ap (λ (xs : List ℕ). Ok (Some xs)) (append_assoc found (map f (range_with_len from n)) (map f (range_with_len (from + n) (to - (from + n)))) ∙ ap (λ (xs : List ℕ). found ++ xs) (sym (range_split f from n (to - (from + n))) ∙ ap (λ (k : ℕ). map f (range_with_len from k)) sum)))
        | inr past ↦
            (let test : nat_lt from to ≡ false = grind (arith, nat_tests) in
            let none : to - from ≡ 0 = omega arith in
            ap (λ (t : Bool). answer_of (cond t (step a.files file most from to found) (Done (Ok (Some found)))) A) test
            ∙ ap (λ (xs : List ℕ). Ok (Some xs)) (sym (append-nil found) ∙ ap (λ (k : ℕ). found ++ map f (range_with_len from k)) (sym none)))
      ]
