-- The bytes of an image tell one generation and one history.
use Rattle.iso_model.proofs.{Words.{◌≡◌, ◌≢◌, ◌∙◌, sym, refl, ap, ℕ, ◌+◌, ◌-◌, ◌^◌, ◌<◌, ◌≤◌, cond, List, [], ◌∷◌, ◌++◌, length, get_or, take, drop, arith, subst, append_assoc, AllByRecursion, to_be_bytes, from_be_bytes, w32, length-append, length-take, from_be_bytes-to_be_bytes_2, from_be_bytes-to_be_bytes_4, from_be_bytes-to_be_bytes_8, same_Some, Geometry, Mode, Serial, Snapshot, Run, LAST, same_mode, log_place, base_place, header_place, History, IsRun, AreRuns, IsRecord, IsImage, Written, commits_of, records, spell, part, kind_of, half_header, superblock, mode_byte, current_half, blocks_of, Limits}, Bounds.limits, Opened.length-part}
use Rattle.std.proofs.Common.{flat_map}

-- lists that are joined to the same list, the first of one length
split_same : {X : Type 0} (xs xs' ys ys' : List X) → length xs ≡ length xs' → xs ++ ys ≡ xs' ++ ys' → (xs ≡ xs') × (ys ≡ ys')
split_same [] [] ys ys' size same = (refl, same)
split_same [] (y ∷ xs') ys ys' size same = absurd (omega arith)
split_same (x ∷ xs) [] ys ys' size same = absurd (omega arith)
split_same (x ∷ xs) (y ∷ xs') ys ys' size same =
    let head : x ≡ y = cc in
    let tail : xs ++ ys ≡ xs' ++ ys' = cc in
    let rest = split_same xs xs' ys ys' (omega arith) tail in
    (λ i. head i ∷ rest.0 i, rest.1)

runs_each : (g : Geometry) (list : List Run) → AreRuns g list → AllByRecursion (IsRun g) list
runs_each g [] all = tt
runs_each g (x ∷ []) all = (all, tt)
runs_each g (x ∷ y ∷ list) all = (all.0, runs_each g (y ∷ list) all.2)

-- one part, and what follows it
same_part : (g : Geometry) (x y : Run) (xs ys : List ℕ) → Limits g → IsRun g x → IsRun g y → part x ++ xs ≡ part y ++ ys → (x ≡ y) × (xs ≡ ys)
same_part g x y xs ys bounds first second same = grind (arith, from_be_bytes-to_be_bytes_4, from_be_bytes-to_be_bytes_2, split_same)

same_parts : (g : Geometry) (list other : List Run) (xs ys : List ℕ) → Limits g → AllByRecursion (IsRun g) list → AllByRecursion (IsRun g) other
    → length list ≡ length other → flat_map part list ++ xs ≡ flat_map part other ++ ys → (list ≡ other) × (xs ≡ ys)
same_parts g [] [] xs ys bounds first second count same = (refl, same)
same_parts g [] (y ∷ other) xs ys bounds first second count same = absurd (omega arith)
same_parts g (x ∷ list) [] xs ys bounds first second count same = absurd (omega arith)
same_parts g (x ∷ list) (y ∷ other) xs ys bounds first second count same =
    let head = same_part g x y (flat_map part list ++ xs) (flat_map part other ++ ys) bounds first.0 second.0
    (sym (append_assoc (part x) (flat_map part list) xs) ∙ same ∙ append_assoc (part y) (flat_map part other) ys) in
    let rest = same_parts g list other xs ys bounds first.1 second.1 (omega arith) head.1 in
    (λ i. head.0 i ∷ rest.0 i, rest.1)

parts_below : (list : List Run) → length list ≤ length (flat_map part list)
parts_below [] = omega arith
parts_below (x ∷ list) = omega (arith, parts_below list, length-append (part x) (flat_map part list), length-part x)

-- the kind of a record in an image of mode m
abbrev kind_in : (m mode : Mode) → ℕ
kind_in m mode = cond (same_mode mode m) 1 2

same_kind_of : (g : Geometry) (a b : Mode) → kind_of g a ≡ kind_of g b → a ≡ b
same_kind_of g a b same = go g.mode a b same
  where
    go : (m a b : Mode) → kind_in m a ≡ kind_in m b → a ≡ b
    go Serial Serial Serial e = refl
    go Serial Serial Snapshot e = absurd (omega arith)
    go Serial Snapshot Serial e = absurd (omega arith)
    go Serial Snapshot Snapshot e = refl
    go Snapshot Serial Serial e = refl
    go Snapshot Serial Snapshot e = absurd (omega arith)
    go Snapshot Snapshot Serial e = absurd (omega arith)
    go Snapshot Snapshot Snapshot e = refl

-- one record, and what follows it
same_record : (g : Geometry) (n : ℕ) (v w : Written) (xs ys : List ℕ) → Limits g → IsRecord g v → IsRecord g w
    → length v.parts < 2 ^ 32 → length w.parts < 2 ^ 32
    → spell 1 (kind_of g v.mode) n v.parts ++ xs ≡ spell 1 (kind_of g w.mode) n w.parts ++ ys → (v ≡ w) × (xs ≡ ys)
unfolding spell
same_record g n v w xs ys bounds first second few fewer same = grind (arith, same_kind_of, from_be_bytes-to_be_bytes_4, same_parts, runs_each)

parts_in : (gate kind n : ℕ) (parts : List Run) (xs : List ℕ) → length parts ≤ length (spell gate kind n parts ++ xs)
unfolding spell
parts_in gate kind n parts xs = omega (arith, parts_below parts, length-append (flat_map part parts) xs)

gate_is : (kind n : ℕ) (parts : List Run) (xs : List ℕ) (gate : ℕ) (ys : List ℕ) → gate ∷ ys ≡ spell 1 kind n parts ++ xs → gate ≡ 1
unfolding spell
gate_is kind n parts xs gate ys same = ap (λ (l : List ℕ). get_or l 0 0) same

length-rest : (gate kind n : ℕ) (parts : List Run) (xs : List ℕ) (m : ℕ) → length (spell gate kind n parts ++ xs) < m → length xs < m
length-rest gate kind n parts xs m less = omega (arith, length-append (spell gate kind n parts) xs)

-- one list of records
same_told : (g : Geometry) (n : ℕ) (told other : List Written) (gate : ℕ) (xs : List ℕ) (shut : ℕ) (ys : List ℕ) → Limits g
    → AllByRecursion (IsRecord g) told → AllByRecursion (IsRecord g) other → gate ≢ 1 → shut ≢ 1
    → length (records g n told ++ gate ∷ xs) < 2 ^ 32
    → records g n told ++ gate ∷ xs ≡ records g n other ++ shut ∷ ys → told ≡ other
same_told g n [] [] gate xs shut ys bounds first second closed shut_is small same = refl
same_told g n [] (w ∷ other) gate xs shut ys bounds first second closed shut_is small same =
    absurd (closed (gate_is (kind_of g w.mode) n w.parts (records g (n + 1) other ++ shut ∷ ys) gate xs
    (same ∙ append_assoc (spell 1 (kind_of g w.mode) n w.parts) (records g (n + 1) other) (shut ∷ ys))))
same_told g n (v ∷ told) [] gate xs shut ys bounds first second closed shut_is small same =
    absurd (shut_is (gate_is (kind_of g v.mode) n v.parts (records g (n + 1) told ++ gate ∷ xs) shut ys
    (sym same ∙ append_assoc (spell 1 (kind_of g v.mode) n v.parts) (records g (n + 1) told) (gate ∷ xs))))
same_told g n (v ∷ told) (w ∷ other) gate xs shut ys bounds first second closed shut_is small same =
    let va = append_assoc (spell 1 (kind_of g v.mode) n v.parts) (records g (n + 1) told) (gate ∷ xs) in
    let wa = append_assoc (spell 1 (kind_of g w.mode) n w.parts) (records g (n + 1) other) (shut ∷ ys) in
    let whole = sym va ∙ same ∙ wa in
    let small' : length (spell 1 (kind_of g v.mode) n v.parts ++ (records g (n + 1) told ++ gate ∷ xs)) < 2 ^ 32 = (rw va at small) in
    let other_small : length (spell 1 (kind_of g w.mode) n w.parts ++ (records g (n + 1) other ++ shut ∷ ys)) < 2 ^ 32 = (rw whole at small') in
    let one = same_record g n v w (records g (n + 1) told ++ gate ∷ xs) (records g (n + 1) other ++ shut ∷ ys) bounds first.0 second.0
    (omega (arith, parts_in 1 (kind_of g v.mode) n v.parts (records g (n + 1) told ++ gate ∷ xs)))
    (omega (arith, parts_in 1 (kind_of g w.mode) n w.parts (records g (n + 1) other ++ shut ∷ ys))) whole in
    let rest = same_told g (n + 1) told other gate xs shut ys bounds first.1 second.1 closed shut_is
    (length-rest 1 (kind_of g v.mode) n v.parts (records g (n + 1) told ++ gate ∷ xs) (2 ^ 32) small') one.1 in
    λ i. one.0 i ∷ rest i

same_header : (form m n a b : ℕ) → m < 2 ^ 64 → n < 2 ^ 64 → a < 2 ^ 64 → b < 2 ^ 64 → half_header 1 form m a ≡ half_header 1 form n b → (m ≡ n) × (a ≡ b)
unfolding half_header
same_header form m n a b ms ns below under same = grind (arith, from_be_bytes-to_be_bytes_8)

-- one history in an image of one geometry
one_history : (bytes : List ℕ) (g : Geometry) (m n : ℕ) (H G : History) → IsImage bytes g m H → IsImage bytes g n G → (m ≡ n) × (H ≡ G)
one_history bytes g m n H G is also =
    let bounds = limits g is.valid in
    let half : is.half ≡ also.half = same_Some is.half also.half (sym is.current ∙ also.current) in
    let generation : m ≤ LAST = is.generation_bound in
    let other_generation : n ≤ LAST = also.generation_bound in
    let base_bound : H.first - 1 ≤ LAST = is.base_bound in
    let other_bound : G.first - 1 ≤ LAST = also.base_bound in
    let header = same_header g.form m n (H.first - 1) (G.first - 1) (omega arith) (omega arith) (omega arith) (omega arith)
    (sym is.header ∙ ap (λ h. take 32 (drop (header_place g h) bytes)) half ∙ also.header) in
    let begins : 0 < H.first = is.first in
    let other_begins : 0 < G.first = also.first in
    let numbers : H.first - 1 ≡ G.first - 1 = header.1 in
    let first : H.first ≡ G.first = omega arith in
    let base : H.base ≡ G.base = is.base ∙ ap (λ h. blocks_of g.block g.blocks (drop (base_place g h) bytes)) half ∙ sym also.base in
    let (gate, xs, closed, log) = is.log in
    let (shut, ys, shut_is, other_log) = also.log in
    let short : length (take g.log (drop (log_place g is.half) bytes)) ≤ g.log = omega (arith, length-take g.log (drop (log_place g is.half) bytes)) in
    let largest : g.log ≤ 67108864 = bounds.largest_log in
    let small : length (records g H.first is.told ++ gate ∷ xs) < 2 ^ 32 = omega (arith, ap length log) in
    let told : is.told ≡ also.told = same_told g H.first is.told also.told gate xs shut ys bounds is.each also.each closed shut_is small
    (sym log ∙ ap (λ h. take g.log (drop (log_place g h) bytes)) half ∙ other_log ∙ ap (λ k. records g k also.told ++ shut ∷ ys) (sym first)) in
    let commits : H.commits ≡ G.commits = is.commits ∙ ap (λ k. commits_of g k is.told) first ∙ ap (commits_of g G.first) told ∙ sym also.commits in
    (header.0, λ i. record { first = first i; base = base i; commits = commits i })

same_mode_byte : (a b : Mode) → mode_byte a ≡ mode_byte b → a ≡ b
same_mode_byte Serial Serial e = refl
same_mode_byte Serial Snapshot e = absurd (omega arith)
same_mode_byte Snapshot Serial e = absurd (omega arith)
same_mode_byte Snapshot Snapshot e = refl

-- one geometry, but for the form, which a superblock does not tell
same_super : (g f : Geometry) → Limits g → Limits f → superblock 1 g ≡ superblock 1 f → record g { form = f.form } ≡ f
unfolding superblock
same_super g f bounds others same =
    let block : g.block ≡ f.block = word g.block f.block (omega arith) (omega arith) (ap (λ (l : List ℕ). take 4 (drop 12 l)) same) in
    let blocks : g.blocks ≡ f.blocks = word g.blocks f.blocks (omega arith) (omega arith) (ap (λ (l : List ℕ). take 4 (drop 16 l)) same) in
    let log : g.log ≡ f.log = word g.log f.log (omega arith) (omega arith) (ap (λ (l : List ℕ). take 4 (drop 20 l)) same) in
    let mode : g.mode ≡ f.mode = same_mode_byte g.mode f.mode (ap (λ (l : List ℕ). get_or l 24 0) same) in
    let hash : g.hash ≡ f.hash = word g.hash f.hash (omega arith) (omega arith) (ap (λ (l : List ℕ). take 4 (drop 28 l)) same) in
    let tree : g.tree ≡ f.tree = word g.tree f.tree (omega arith) (omega arith) (ap (λ (l : List ℕ). take 4 (drop 32 l)) same) in
    λ i. record { block = block i; blocks = blocks i; log = log i; mode = mode i; hash = hash i; tree = tree i; form = f.form }
  where
    word : (m n : ℕ) → m < 2 ^ 32 → n < 2 ^ 32 → to_be_bytes w32 m ≡ to_be_bytes w32 n → m ≡ n
    word m n ms ns same = sym (from_be_bytes-to_be_bytes_4 m ms) ∙ ap (from_be_bytes w32) same ∙ from_be_bytes-to_be_bytes_4 n ns

form_in_header : (gate form m a shape n b : ℕ) → half_header gate form m a ≡ half_header gate shape n b → form ≡ shape
unfolding half_header
form_in_header gate form m a shape n b same = ap (λ (l : List ℕ). get_or l 1 0) same

-- one geometry
one_geometry : (bytes : List ℕ) (g f : Geometry) (m n : ℕ) (H G : History) → IsImage bytes g m H → IsImage bytes f n G → g ≡ f
one_geometry bytes g f m n H G is also =
    let most : record g { form = f.form } ≡ f = same_super g f (limits g is.valid) (limits f also.valid) (sym is.super ∙ also.super) in
    let half : is.half ≡ also.half = same_Some is.half also.half
    (sym is.current ∙ ap (λ (x : Geometry). current_half x bytes) most ∙ also.current) in
    let place : header_place g is.half ≡ header_place f also.half =
    ap (λ (x : Geometry). header_place x is.half) most ∙ ap (header_place f) half in
    let form : g.form ≡ f.form = form_in_header 1 g.form m (H.first - 1) f.form n (G.first - 1)
    (sym is.header ∙ ap (λ at. take 32 (drop at bytes)) place ∙ also.header) in
    let formed : g ≡ record g { form = f.form } = λ i. record g { form = form i } in
    formed ∙ most

-- what an image tells
pub image_tells_one : (bytes : List ℕ) (g f : Geometry) (m n : ℕ) (H G : History) → IsImage bytes g m H → IsImage bytes f n G
    → (g ≡ f) × (m ≡ n) × (H ≡ G)
image_tells_one bytes g f m n H G is also =
    let geometry = one_geometry bytes g f m n H G is also in
    let rest = one_history bytes g m n H G is (subst (λ (x : Geometry). IsImage bytes x n G) (sym geometry) also) in
    (geometry, rest.0, rest.1)
