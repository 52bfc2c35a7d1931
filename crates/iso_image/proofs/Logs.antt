-- The records of a log, and what becomes of them as more are appended.
use Rattle.iso_image.proofs.Words.{◌≡◌, ◌⊎◌, inl, inr, ◌<◌, ◌≤◌, ◌+◌, ℕ, List, [], ◌∷◌, ◌++◌, length, take, drop, get_or, refl, sym, ◌∙◌, ap, arith, length-append, length-drop, append_assoc, take-append-drop, subst, take_at, drop_more, take-take, length-take, length-take-le, get_or-take, get_or-drop, get_or_at, drop-drop, Geometry, Written, kind_of, records, spell, spliced, Torn, slice-torn, take-drop-spliced, get_or-spliced, spliced_torn, IsClosed, HasLog, Appending}

-- the records of two lists, one after the other
pub records-append : (g : Geometry) (n : ℕ) (told more : List Written) → records g n (told ++ more) ≡ records g n told ++ records g (n + length told) more
records-append g n [] more = let e : n + 0 ≡ n = omega arith in rw e refl
records-append g n (w ∷ told) more =
    let e : n + 1 + length told ≡ n + length (w ∷ told) = omega arith in
    ap (λ (l : List ℕ). spell 1 (kind_of g w.mode) n w.parts ++ l) (records-append g (n + 1) told more)
    ∙ sym (append_assoc (spell 1 (kind_of g w.mode) n w.parts) (records g (n + 1) told) (records g (n + 1 + length told) more))
    ∙ ap (λ (k : ℕ). spell 1 (kind_of g w.mode) n w.parts ++ records g (n + 1) told ++ records g k more) e

-- a list by its front, the item after it and the rest
front_item_rest : (xs : List ℕ) (n : ℕ) → n < length xs → xs ≡ take n xs ++ get_or xs n 0 ∷ drop (n + 1) xs
front_item_rest xs n inside = sym (take-append-drop n xs) ∙ ap (λ (l : List ℕ). take n xs ++ l) (drop_more xs n 0 inside)

-- the front of the log, where an image has it
pub log_front : (place room : ℕ) (g : Geometry) (first : ℕ) (told : List Written) (c : List ℕ) → HasLog place room g first told c
    → take (length (records g first told)) (take room (drop place c)) ≡ records g first told
log_front place room g first told c has =
    let (gate, rest, closed, is) = has in
    ap (take (length (records g first told))) is ∙ take_at (records g first told) (gate ∷ rest) (length (records g first told)) refl

-- its gate
pub log_gate : (place room : ℕ) (g : Geometry) (first : ℕ) (told : List Written) (c : List ℕ) → HasLog place room g first told c → IsClosed (place + length (records g first told)) c
log_gate place room g first told c has = λ at_one.
    let (gate, rest, closed, is) = has in
    let n : ℕ = length (records g first told) in
    let long : n < length (take room (drop place c)) = omega (arith, ap length is, length-append (records g first told) (gate ∷ rest)) in
    let inside : n < room = omega (arith, long, length-take room (drop place c)) in
    closed (sym (get_or_at (records g first told) gate rest 0 n refl) ∙ sym (ap (λ (l : List ℕ). get_or l n 0) is)
    ∙ get_or-take room (drop place c) n 0 inside ∙ get_or-drop place c n 0 ∙ at_one)

-- an image has the log where its log's bytes begin with the records, and the gate after them is closed
pub has_log : (place room : ℕ) (g : Geometry) (first : ℕ) (told : List Written) (c : List ℕ) → place + room ≤ length c → length (records g first told) < room
    → take (length (records g first told)) (drop place c) ≡ records g first told → IsClosed (place + length (records g first told)) c → HasLog place room g first told c
has_log place room g first told c fits short front closed =
    let n : ℕ = length (records g first told) in
    let slice : List ℕ = take room (drop place c) in
    let long : n < length slice = omega (arith, length-take room (drop place c), length-drop place c) in
    let gate : get_or slice n 0 ≡ get_or c (place + n) 0 = get_or-take room (drop place c) n 0 short ∙ get_or-drop place c n 0 in
    let start : take n slice ≡ records g first told = take-take n room (drop place c) (omega (arith, short)) ∙ front in
    (get_or slice n 0, drop (n + 1) slice, (λ is. closed (sym gate ∙ is)), front_item_rest slice n long ∙ ap (λ (l : List ℕ). l ++ get_or slice n 0 ∷ drop (n + 1) slice) start)

pub take-plus : (m n : ℕ) (xs : List ℕ) → m + n ≤ length xs → take (m + n) xs ≡ take m xs ++ take n (drop m xs)
take-plus m n xs fits =
    let front : length (take m xs) ≡ m = length-take-le m xs (omega arith) in
    let back : length (take n (drop m xs)) ≡ n = length-take-le n (drop m xs) (omega (arith, length-drop m xs)) in
    ap (take (m + n)) (sym (take-append-drop m xs) ∙ ap (λ (l : List ℕ). take m xs ++ l) (sym (take-append-drop n (drop m xs))) ∙ sym (append_assoc (take m xs) (take n (drop m xs)) (drop n (drop m xs))))
    ∙ take_at (take m xs ++ take n (drop m xs)) (drop n (drop m xs)) (m + n) (omega (arith, front, back, length-append (take m xs) (take n (drop m xs))))

-- the front stays through a step
pub front_stays : (place room : ℕ) (g : Geometry) (first : ℕ) (told : List Written) (bytes old new : List ℕ) → length (records g first told) ≤ room
    → HasLog place room g first told old → Torn (place + length (records g first told)) (length bytes) old new
    → take (length (records g first told)) (drop place new) ≡ records g first told
front_stays place room g first told bytes old new short has torn =
    slice-torn torn place (length (records g first told)) (inl (omega arith))
    ∙ sym (take-take (length (records g first told)) room (drop place old) short)
    ∙ log_front place room g first told old has

-- the log with the records whole
grown : (place room : ℕ) (g : Geometry) (first : ℕ) (told : List Written) (next : List Written) (bytes S old new : List ℕ)
    → S ≡ records g (first + length told) next → bytes ≡ S ++ 0 ∷ []
    → place + room ≤ length old → length (records g first told) + length bytes ≤ room
    → take (length (records g first told)) (drop place new) ≡ records g first told
    → length new ≡ length old → new ≡ spliced old (place + length (records g first told)) bytes
    → HasLog place room g first (told ++ next) new
grown place room g first told next bytes S old new S_is bytes_are fits short front size whole =
    has_log place room g first (told ++ next) new (omega (arith, size)) (omega (arith, count, long)) start closed
  where
    n : ℕ
    n = length (records g first told)

    long : length bytes ≡ length S + 1
    long = ap length bytes_are ∙ length-append S (0 ∷ [])

    all : records g first (told ++ next) ≡ records g first told ++ S
    all = records-append g first told next ∙ ap (λ (l : List ℕ). records g first told ++ l) (sym S_is)

    count : length (records g first (told ++ next)) ≡ length (records g first told) + length S
    count = ap length all ∙ length-append (records g first told) S

    enough : place + length (records g first told) + length bytes ≤ length old
    enough = omega arith

    here : take (length bytes) (drop (place + length (records g first told)) new) ≡ bytes
    here = ap (λ (l : List ℕ). take (length bytes) (drop (place + length (records g first told)) l)) whole ∙ take-drop-spliced old (place + length (records g first told)) bytes enough

    second : take (length S) (drop (length (records g first told)) (drop place new)) ≡ S
    second =
        ap (take (length S)) (drop-drop (length (records g first told)) place new)
        ∙ sym (take-take (length S) (length bytes) (drop (place + length (records g first told)) new) (omega (arith, long)))
        ∙ ap (take (length S)) (here ∙ bytes_are) ∙ take_at S (0 ∷ []) (length S) refl

    start : take (length (records g first (told ++ next))) (drop place new) ≡ records g first (told ++ next)
    start =
        ap (λ (m : ℕ). take m (drop place new)) count
        ∙ take-plus (length (records g first told)) (length S) (drop place new) (omega (arith, size, long, length-drop place new))
        ∙ (λ i. front i ++ second i) ∙ sym all

    closed : IsClosed (place + length (records g first (told ++ next))) new
    closed = λ at_one.
        let far : place + length (records g first (told ++ next)) ≡ place + length (records g first told) + length S = omega (arith, count) in
        let zero_there : get_or new (place + length (records g first told) + length S) 0 ≡ 0 =
        ap (λ (l : List ℕ). get_or l (place + length (records g first told) + length S) 0) whole
        ∙ get_or-spliced old (place + length (records g first told)) bytes enough (length S) 0 (omega (arith, long))
        ∙ ap (λ (l : List ℕ). get_or l (length S) 0) bytes_are ∙ get_or_at S 0 [] 0 (length S) refl in
        let one : get_or new (place + length (records g first told) + length S) 0 ≡ 1 = ap (λ (k : ℕ). get_or new k 0) (sym far) ∙ at_one in
        omega (arith, zero_there, one)

-- Through an append the log has its records, or more.
pub log_step : (place room : ℕ) (g : Geometry) (first : ℕ) (told : List Written) (next : List Written) (bytes old new : List ℕ)
    → bytes ≡ records g (first + length told) next ++ 0 ∷ []
    → place + room ≤ length old → length (records g first told) + length bytes ≤ room → HasLog place room g first told old
    → Appending (place + length (records g first told)) bytes old new
    → HasLog place room g first told new ⊎ HasLog place room g first (told ++ next) new
log_step place room g first told next bytes old new bytes_are fits short has step =
    let size : length new ≡ length old = step.torn.size in
    let long : 1 ≤ length bytes = omega (arith, ap length bytes_are, length-append (records g (first + length told) next) (0 ∷ [])) in
    let front = front_stays place room g first told bytes old new (omega arith) has step.torn in
    elim step.state [
      | inl closed ↦ inl (has_log place room g first told new (omega (arith, size)) (omega (arith, long)) front closed)
      | inr whole ↦ inr (grown place room g first told next bytes (records g (first + length told) next) old new refl bytes_are fits short front size whole)
    ]

-- Where the bytes stand whole, the log has these records more.
pub log_whole : (place room : ℕ) (g : Geometry) (first : ℕ) (told : List Written) (next : List Written) (bytes old new : List ℕ)
    → bytes ≡ records g (first + length told) next ++ 0 ∷ []
    → place + room ≤ length old → length (records g first told) + length bytes ≤ room → HasLog place room g first told old
    → new ≡ spliced old (place + length (records g first told)) bytes
    → HasLog place room g first (told ++ next) new
log_whole place room g first told next bytes old new bytes_are fits short has whole =
    let enough : place + length (records g first told) + length bytes ≤ length old = omega arith in
    let torn = spliced_torn old (place + length (records g first told)) bytes enough in
    let turned : Torn (place + length (records g first told)) (length bytes) old new =
    subst (λ (l : List ℕ). Torn (place + length (records g first told)) (length bytes) old l) (sym whole) torn in
    let front = front_stays place room g first told bytes old new (omega arith) has turned in
    grown place room g first told next bytes (records g (first + length told) next) old new refl bytes_are fits short front turned.size whole
