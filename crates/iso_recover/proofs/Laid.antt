-- What the calls that make an image leave of a blank disk.
use Rattle.iso_recover.proofs.Words.{◌≡◌, ◌⊎◌, inl, inr, ◌≤◌, ◌+◌, ◌-◌, ℕ, suc, List, [], ◌∷◌, ◌++◌, length, take, drop, replicate, get_or, Option, Some, None, refl, sym, ◌∙◌, ap, arith, length-append, append_assoc, take-append-drop, cases_eq, drop-replicate, get_or-replicate, take_at, drop_at, drop_more, drop-drop, drop_all, same_Some, none-some, DiskState, IsLawful, IsSettled, Elapses, LeavesOnly, Splices, Torn, TornFrom, spliced, at_end, goes_on, get_or-torn, torn_whole, IsClosed, fronted, staged}
use Rattle.std.specs.Option.{option_map}

-- ---- one image

first_is : (front : List ℕ) (size : ℕ) → length front ≡ 63 → spliced (replicate size 0) 0 front ≡ front ++ replicate (size - 63) 0
first_is front size count = ap (λ (l : List ℕ). front ++ l) (drop-replicate (0 + length front) size 0 ∙ ap (λ (n : ℕ). replicate n 0) (omega (arith, count)))

front_is : (front : List ℕ) (size : ℕ) → length front ≡ 63 → 96 ≤ size → spliced (replicate size 0) 0 front ≡ front ++ 0 ∷ [] ++ replicate (size - 64) 0
front_is front size count big =
    let more : size - 63 ≡ suc (size - 64) = omega arith in
    first_is front size count ∙ ap (λ (n : ℕ). front ++ replicate n 0) more ∙ sym (append_assoc front (0 ∷ []) (replicate (size - 64) 0))

length-front : (front : List ℕ) (b : ℕ) → length front ≡ 63 → length (front ++ b ∷ []) ≡ 64
length-front front b count = omega (arith, count, length-append front (b ∷ []))

-- zeros after both writes
pub staged_is : (front header : List ℕ) (size : ℕ) → length front ≡ 63 → length header ≡ 32 → 96 ≤ size
    → spliced (spliced (replicate size 0) 0 front) 64 header ≡ staged front header size
staged_is front header size count many big =
    let whole = front_is front size count big in
    let gate : length (front ++ 0 ∷ []) ≡ 64 = length-front front 0 count in
    let before : take 64 (spliced (replicate size 0) 0 front) ≡ front ++ 0 ∷ [] = ap (take 64) whole ∙ take_at (front ++ 0 ∷ []) (replicate (size - 64) 0) 64 gate in
    let rest : size - 64 - length header ≡ size - 96 = omega arith in
    let behind : drop (64 + length header) (spliced (replicate size 0) 0 front) ≡ replicate (size - 96) 0 =
    ap (drop (64 + length header)) whole ∙ sym (drop-drop (length header) 64 (front ++ 0 ∷ [] ++ replicate (size - 64) 0))
    ∙ ap (drop (length header)) (drop_at (front ++ 0 ∷ []) (replicate (size - 64) 0) 64 gate) ∙ drop-replicate (length header) (size - 64) 0
    ∙ ap (λ (n : ℕ). replicate n 0) rest in
    λ i. before i ++ header ++ behind i

-- and with the gate open
pub opened_is : (front header : List ℕ) (size : ℕ) → length front ≡ 63 → spliced (staged front header size) 63 (1 ∷ []) ≡ fronted 1 front header size
opened_is front header size count =
    let all : staged front header size ≡ (front ++ 0 ∷ []) ++ (header ++ replicate (size - 96) 0) = append_assoc (front ++ 0 ∷ []) header (replicate (size - 96) 0) in
    let before : take 63 (staged front header size) ≡ front =
    ap (take 63) (all ∙ append_assoc front (0 ∷ []) (header ++ replicate (size - 96) 0)) ∙ take_at front (0 ∷ (header ++ replicate (size - 96) 0)) 63 count in
    let behind : drop 64 (staged front header size) ≡ header ++ replicate (size - 96) 0 =
    ap (drop 64) all ∙ drop_at (front ++ 0 ∷ []) (header ++ replicate (size - 96) 0) 64 (length-front front 0 count) in
    (λ i. before i ++ 1 ∷ [] ++ behind i) ∙ sym (append_assoc (front ++ 1 ∷ []) header (replicate (size - 96) 0))

blank_closed : (size : ℕ) → 96 ≤ size → (c : List ℕ) → c ≡ replicate size 0 → IsClosed 63 c
blank_closed size big c is = λ one.
    let zero_there : get_or c 63 0 ≡ 0 = ap (λ (l : List ℕ). get_or l 63 0) is ∙ get_or-replicate size 63 0 0 (omega arith) in
    omega (arith, zero_there, one)

-- a write beside the gate
still_closed : {images : List ℕ → Type 0} (at n : ℕ) → (at + n ≤ 63) ⊎ (64 ≤ at) → ((d : List ℕ) → images d → IsClosed 63 d) → (c : List ℕ) → TornFrom at n images c → IsClosed 63 c
still_closed at n beside closed c from = λ one.
    closed from.old from.was (sym (get_or-torn from.torn 63 0 (elim beside [ inl before ↦ inr (omega arith) | inr behind ↦ inl (omega arith) ])) ∙ one)

-- the gate is written
pub gate_written : (mid c : List ℕ) → 64 ≤ length mid → Torn 63 1 mid c → IsClosed 63 c ⊎ (c ≡ spliced mid 63 (1 ∷ []))
gate_written mid c long torn = elim (cases_eq (get_or c 63 0) 1) [
  | inl is ↦
      let size : length c ≡ length mid = torn.size in
      inr (torn_whole (1 ∷ []) torn (ap (take 1) (drop_more c 63 0 (omega (arith, size))) ∙ (λ i. is i ∷ [])))
  | inr not ↦ inl not
]

-- a block by what is before its last byte
pub block_is : (block : List ℕ) → length block ≡ 64 → get_or block 63 0 ≡ 1 → take 63 block ++ 1 ∷ [] ≡ block
block_is block count one =
    let rest : drop 63 block ≡ 1 ∷ [] = drop_more block 63 0 (omega (arith, count)) ∙ (λ i. one i ∷ drop_all 64 block (omega (arith, count)) i) in
    ap (λ (l : List ℕ). take 63 block ++ l) (sym rest) ∙ take-append-drop 63 block

-- ---- moments

-- a write beside the gate, in a run that keeps it closed
pub writes_beside : {old mid new : DiskState} (at n : ℕ) → (at + n ≤ 63) ⊎ (64 ≤ at) → IsLawful mid → LeavesOnly old mid (IsClosed 63)
    → Elapses mid new (TornFrom at n mid.now) → LeavesOnly old new (IsClosed 63)
writes_beside at n beside laws run call = goes_on run call (still_closed at n beside (at_end laws run))

-- each image of a blank disk has a closed gate
pub blank_gates : (d : DiskState) → 96 ≤ d.size → ((c : List ℕ) → d.now c → c ≡ replicate d.size 0) → (c : List ℕ) → d.now c → IsClosed 63 c
blank_gates d big blank c image = blank_closed d.size big c (blank c image)

-- what the disk reads after both writes and the sync, of which each image is left
pub settled_parts : (old one two new : DiskState) (front header : List ℕ) (size : ℕ) → IsLawful old → ((c : List ℕ) → old.now c → c ≡ replicate size 0)
    → Splices 0 front old one → Splices 64 header one two → new.contents ≡ two.contents → IsSettled new
    → (c : List ℕ) → new.now c → c ≡ spliced (spliced (replicate size 0) 0 front) 64 header
settled_parts old one two new front header size laws blank first second synced settled c image = told old.contents refl
  where
    all : new.contents ≡ option_map (λ c. spliced c 64 header) (option_map (λ c. spliced c 0 front) old.contents)
    all = synced ∙ second ∙ ap (option_map (λ (l : List ℕ). spliced l 64 header)) first

    told : (o : Option (List ℕ)) → old.contents ≡ o → c ≡ spliced (spliced (replicate size 0) 0 front) 64 header
    told (Some z) is =
        let zeros : z ≡ replicate size 0 = blank z (laws.reads_as_image z is) in
        let reads : Some c ≡ Some (spliced (spliced z 0 front) 64 header) =
        sym (settled c image) ∙ all ∙ ap (λ (o : Option (List ℕ)). option_map (λ c. spliced c 64 header) (option_map (λ c. spliced c 0 front) o)) is in
        same_Some _ _ reads ∙ ap (λ (l : List ℕ). spliced (spliced l 0 front) 64 header) zeros
    told None is =
        absurd (none-some c (sym (sym (settled c image) ∙ all ∙ ap (λ (o : Option (List ℕ)). option_map (λ c. spliced c 64 header) (option_map (λ c. spliced c 0 front) o)) is)))
