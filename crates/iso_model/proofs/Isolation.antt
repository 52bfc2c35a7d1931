-- A transaction without a clash is isolated at the next commit, and each commit stays so.
use Rattle.iso_model.proofs.{Words.{◌≡◌, ◌∙◌, sym, refl, ap, ℕ, zero, suc, ◌+◌, ◌-◌, ◌<◌, ◌≤◌, true, false, IsTrue, IfSome, List, [], ◌∷◌, ◌++◌, length, get_or, take, drop, Option, Some, None, is_some, slice_get, option_map, unwrap_or, arith, inl, inr, subst, AllByRecursion, cases_lt, or_left, or_right, false_from_ne_true, none-some, same_Some, IfSome_then, take_all, take-append-le, take-append-drop, get_or_past, length_push, Access, Clash, Commit, Geometry, Kind, Read, Write, Mode, Serial, Snapshot, Array, byte_at, is_write, has_write, covers, touches, effect_at, own, History, last, array_at, all_own, shown, shown_block, clash, guarded, IsClash, IsSerialAt, IsSnapshotAt, Meets, IsIsolatedAt, IsIsolated, HasSeen, block_at, IsAccess, AreAccesses, IsHistory, appended}, Bytes.{own_at, length-block_own, length-block_all_own, touches_where_effect}, Recorded.{CommitsOf, bytes_of_accesses}, Written.covers_where, Clashes.{none_from_clash, slice_get-drop}}

none_from_is_some : (o : Option ℕ) → is_some o ≡ false → o ≡ None
none_from_is_some o not = grind arith

-- a list that does not write the byte keeps it
own_kept : (g : Geometry) (A : Array) (accesses : List Access) (b p : ℕ) → AreAccesses g accesses → length (block_at A b) ≡ g.block → p < g.block
    → touches Write accesses b p ≡ false → byte_at (own A accesses) b p ≡ byte_at A b p
own_kept g A accesses b p all same inside not = grind (arith, own_at, bytes_of_accesses, none_from_is_some, touches_where_effect)

-- so do commits that do not
all_own_kept : (g : Geometry) (A : Array) (commits : List Commit) (b p : ℕ) → CommitsOf g commits → length (block_at A b) ≡ g.block → p < g.block
    → ((i : ℕ) (c : Commit) → slice_get commits i ≡ Some c → touches Write c.accesses b p ≡ false) → byte_at (all_own A commits) b p ≡ byte_at A b p
all_own_kept g A [] b p all same inside none = refl
all_own_kept g A (c ∷ commits) b p all same inside none =
    all_own_kept g (own A c.accesses) commits b p all.1 (length-block_own A c.accesses b ∙ same) inside (λ i d is. none (suc i) d is)
    ∙ own_kept g A c.accesses b p all.0 same inside (none 0 c refl)

pub all_own_append : (A : Array) (xs ys : List Commit) → all_own A (xs ++ ys) ≡ all_own (all_own A xs) ys
all_own_append A [] ys = refl
all_own_append A (x ∷ xs) ys = all_own_append (own A x.accesses) xs ys

pub commits_drop : (g : Geometry) (n : ℕ) (commits : List Commit) → CommitsOf g commits → CommitsOf g (drop n commits)
commits_drop g zero commits all = all
commits_drop g (suc n) [] all = all
commits_drop g (suc n) (c ∷ commits) all = commits_drop g n commits all.1

accesses_take : (g : Geometry) (n : ℕ) (accesses : List Access) → AreAccesses g accesses → AreAccesses g (take n accesses)
accesses_take g zero accesses all = tt
accesses_take g (suc n) [] all = tt
accesses_take g (suc n) (a ∷ accesses) all = (all.0, accesses_take g n accesses all.1)

pub all_at : {X : Type 0} (P : X → Type 0) (xs : List X) (i : ℕ) (x : X) → AllByRecursion P xs → slice_get xs i ≡ Some x → P x
all_at P [] i x all is = absurd (none-some x is)
all_at P (y ∷ xs) zero x all is = subst P (same_Some y x is) all.0
all_at P (y ∷ xs) (suc i) x all is = all_at P xs i x all.1 is

pub slice_get_append_left : {X : Type 0} (xs ys : List X) (i : ℕ) → i < length xs → slice_get (xs ++ ys) i ≡ slice_get xs i
slice_get_append_left [] ys i below = absurd (omega arith)
slice_get_append_left (x ∷ xs) ys zero below = refl
slice_get_append_left (x ∷ xs) ys (suc i) below = slice_get_append_left xs ys i (omega arith)

slice_get_push : {X : Type 0} (xs : List X) (y : X) (i : ℕ) → i ≡ length xs → slice_get (xs ++ y ∷ []) i ≡ Some y
slice_get_push [] y zero is = refl
slice_get_push [] y (suc i) is = absurd (omega arith)
slice_get_push (x ∷ xs) y zero is = absurd (omega arith)
slice_get_push (x ∷ xs) y (suc i) is = slice_get_push xs y i (omega arith)

touches_from : (kind : Kind) (accesses : List Access) (i : ℕ) (a : Access) (b p : ℕ) → slice_get accesses i ≡ Some a → covers kind b p a ≡ true
    → touches kind accesses b p ≡ true
touches_from kind [] i a b p is has = absurd (none-some a is)
touches_from kind (x ∷ accesses) zero a b p is has = or_left (covers kind b p x) (touches kind accesses b p) (subst (λ (y : Access). covers kind b p y ≡ true) (sym (same_Some x a is)) has)
touches_from kind (x ∷ accesses) (suc i) a b p is has = or_right (covers kind b p x) (touches kind accesses b p) (touches_from kind accesses i a b p is has)

-- the array after an earlier commit is that of the longer history
array_appended : (H : History) (c : Commit) (n : ℕ) → 0 < H.first → n ≤ last H → array_at (appended H c) n ≡ array_at H n
array_appended H c n first before = ap (all_own H.base) (take-append-le (n + 1 - H.first) H.commits (c ∷ []) (omega arith))

length-block_array : (H : History) (n b : ℕ) → length (block_at (array_at H n) b) ≡ length (block_at H.base b)
length-block_array H n b = length-block_all_own H.base (take (n + 1 - H.first) H.commits) b

-- the last array, from an earlier one on
array_from : (H : History) (n : ℕ) → 0 < H.first → array_at H (last H) ≡ all_own (array_at H n) (drop (n + 1 - H.first) H.commits)
array_from H n first =
    ap (all_own H.base) (take_all (last H + 1 - H.first) H.commits (omega arith) ∙ sym (take-append-drop (n + 1 - H.first) H.commits))
    ∙ all_own_append H.base (take (n + 1 - H.first) H.commits) (drop (n + 1 - H.first) H.commits)

-- no commit after the begin writes a byte that the transaction guards
not_written : (g : Geometry) (H : History) (mode : Mode) (begin : ℕ) (accesses : List Access) (b p : ℕ) → H.first ≤ begin + 1
    → ((d : Clash) → IsClash g H mode begin accesses d → ⊥) → b < g.blocks → p < g.block → touches (guarded mode) accesses b p ≡ true
    → (i : ℕ) (c : Commit) → slice_get (drop (begin + 1 - H.first) H.commits) i ≡ Some c → touches Write c.accesses b p ≡ false
not_written g H mode begin accesses b p known none block inside guards i c is =
    false_from_ne_true (touches Write c.accesses b p) (λ writes.
    let e : begin + 1 - H.first + i ≡ begin + 1 + i - H.first = omega arith in
    none (record { commit = begin + 1 + i; block = b; at = p }) (record {
      after = omega arith;
      since = omega arith;
      block = block;
      byte = inside;
      commit = c;
      is = rw (← e) (sym (slice_get-drop (begin + 1 - H.first) i H.commits) ∙ is);
      written = writes;
      guarded = guards;
    }))

-- a read shows the same byte at the begin and at the last commit, where no commit between them writes it
same_shown : (g : Geometry) (H : History) (n : ℕ) (accesses : List Access) (b p : ℕ) → IsHistory g H → AreAccesses g accesses
    → (b < g.blocks → p < g.block → (i : ℕ) (c : Commit) → slice_get (drop (n + 1 - H.first) H.commits) i ≡ Some c → touches Write c.accesses b p ≡ false)
    → get_or (shown_block H n accesses b) p 0 ≡ get_or (shown_block H (last H) accesses b) p 0
same_shown g H n accesses b p is all none = elim (cases_lt p (length (block_at H.base b))) [
  | inr past ↦
      get_or_past (shown_block H n accesses b) p 0 (omega (arith, length-block_own (array_at H n) accesses b, length-block_array H n b))
      ∙ sym (get_or_past (shown_block H (last H) accesses b) p 0
      (omega (arith, length-block_own (array_at H (last H)) accesses b, length-block_array H (last H) b)))
  | inl inside ↦ elim (cases_lt b g.blocks) [
    | inr beyond ↦
        (let blocks : length H.base ≡ g.blocks = is.base.blocks in
        let e : block_at H.base b ≡ [] = get_or_past H.base b [] (omega arith) in
        absurd (omega (arith, ap length e)))
    | inl block ↦
        (let size : length (block_at H.base b) ≡ g.block = is.base.bytes b block in
        let whole = bytes_of_accesses g accesses all in
        own_at (array_at H n) accesses b p g.block whole (length-block_array H n b ∙ size) (omega arith)
        ∙ ap (unwrap_or (effect_at accesses b p))
        (sym (ap (λ A. byte_at A b p) (array_from H n is.first)
        ∙ all_own_kept g (array_at H n) (drop (n + 1 - H.first) H.commits) b p (commits_drop g (n + 1 - H.first) H.commits is.commits)
        (length-block_array H n b ∙ size) (omega arith) (none block (omega arith))))
        ∙ sym (own_at (array_at H (last H)) accesses b p g.block whole (length-block_array H (last H) b ∙ size) (omega arith)))
  ]
]

-- what an access shows, by the array at the begin
abbrev shown_on : (A : Array) → List Access → (i : ℕ) → Option Access → List ℕ
shown_on A accesses i o = unwrap_or (option_map (λ a. block_at (own A (take i accesses)) a.block) o) []

-- what an access of the longer history shows, at a commit of the shorter one
shown_appended : (H : History) (c : Commit) (n : ℕ) (accesses : List Access) (i : ℕ) → 0 < H.first → n ≤ last H
    → shown (appended H c) n accesses i ≡ shown H n accesses i
shown_appended H c n accesses i first before = grind (arith, array_appended)

-- an access of the list that is a read shows at the last commit what it showed at the begin
shown_where_none : (g : Geometry) (H : History) (n : ℕ) (accesses : List Access) (i p : ℕ) (o : Option Access) → slice_get accesses i ≡ o
    → IsHistory g H → AreAccesses g accesses → H.first ≤ n + 1 → ((d : Clash) → IsClash g H Serial n accesses d → ⊥)
    → IfSome o (λ a. IsTrue (covers Read a.block p a) →
    get_or (shown_on (array_at H n) accesses i o) p 0 ≡ get_or (shown_on (array_at H (last H)) accesses i o) p 0)
shown_where_none g H n accesses i p None at is all known none = tt
shown_where_none g H n accesses i p (Some a) at is all known none = λ covered.
    same_shown g H n (take i accesses) a.block p is (accesses_take g i accesses all)
    (λ block inside. not_written g H Serial n accesses a.block p known none block inside (touches_from Read accesses i a a.block p at covered))

-- without a clash in serial mode the next commit is serial
pub next_is_serial : (g : Geometry) (H : History) (c : Commit) → IsHistory g H → AreAccesses g c.accesses → H.first ≤ c.begin + 1 → c.begin ≤ last H
    → has_write c.accesses ≡ true → clash g H Serial c.begin c.accesses ≡ None → IsSerialAt (appended H c) (last H + 1)
next_is_serial g H c is all known before write none =
    let first : 0 < H.first = is.first in
    let at : slice_get (H.commits ++ c ∷ []) (last H + 1 - H.first) ≡ Some c = slice_get_push H.commits c (last H + 1 - H.first) (omega arith) in
    let e : last H + 1 - 1 ≡ last H = omega arith in
    subst (λ (o : Option Commit). IfSome o (λ d. (i p : ℕ) → IfSome (slice_get d.accesses i) (λ a. IsTrue (covers Read a.block p a) →
    get_or (shown (appended H c) d.begin d.accesses i) p 0 ≡ get_or (shown (appended H c) (last H + 1 - 1) d.accesses i) p 0))) (sym at)
    (λ i p. IfSome_then (slice_get c.accesses i)
    (shown_where_none g H c.begin c.accesses i p (slice_get c.accesses i) refl is all known (none_from_clash g H Serial c.begin c.accesses write none))
    (λ a same covered.
    ap (λ (bytes : List ℕ). get_or bytes p 0) (shown_appended H c c.begin c.accesses i first before)
    ∙ same covered
    ∙ sym (ap (λ (n : ℕ). get_or (shown (appended H c) n c.accesses i) p 0) e
    ∙ ap (λ (bytes : List ℕ). get_or bytes p 0) (shown_appended H c (last H) c.accesses i first (omega arith)))))

-- without a clash in snapshot mode no write of the list meets a write of a later commit
no_meeting : (g : Geometry) (H : History) (n : ℕ) (accesses : List Access) (j : ℕ) (d : Commit) (x y : ℕ) (a b : Access) → AreAccesses g accesses
    → ((d : Clash) → IsClash g H Snapshot n accesses d → ⊥) → H.first ≤ j → n < j → slice_get H.commits (j - H.first) ≡ Some d
    → slice_get accesses x ≡ Some a → slice_get d.accesses y ≡ Some b → is_write a ≡ true → is_write b ≡ true → Meets g.block a b → ⊥
no_meeting g H n accesses j d x y a b all none from after is at there writes written meets =
    none (record { commit = j; block = a.block; at = meets.1.0 }) (record {
      after = after;
      since = from;
      block = (all_at (IsAccess g) accesses x a all at).block;
      byte = meets.1.1;
      commit = d;
      is = is;
      written = touches_from Write d.accesses y b a.block meets.1.0 there (covers_where a.block meets.1.0 b written (sym meets.0) meets.1.3);
      guarded = touches_from Write accesses x a a.block meets.1.0 at (covers_where a.block meets.1.0 a writes refl meets.1.2);
    })

-- what holds of the value, if there is one
pub if_some_from : {X : Type 0} (P : X → Type 0) (o : Option X) → ((x : X) → o ≡ Some x → P x) → IfSome o P
if_some_from P None each = tt
if_some_from P (Some x) each = each x refl

-- without one the next commit is a snapshot
pub next_is_snapshot : (g : Geometry) (H : History) (c : Commit) → IsHistory g H → AreAccesses g c.accesses
    → has_write c.accesses ≡ true → clash g H Snapshot c.begin c.accesses ≡ None → IsSnapshotAt g (appended H c) (last H + 1)
next_is_snapshot g H c is all write none =
    let first : 0 < H.first = is.first in
    let at : slice_get (H.commits ++ c ∷ []) (last H + 1 - H.first) ≡ Some c = slice_get_push H.commits c (last H + 1 - H.first) (omega arith) in
    subst (λ (o : Option Commit). IfSome o (λ u. (j : ℕ) → H.first ≤ j → u.begin < j → j < last H + 1 → IfSome (slice_get (H.commits ++ c ∷ []) (j - H.first)) (λ d.
    (x y : ℕ) → IfSome (slice_get u.accesses x) (λ a. IfSome (slice_get d.accesses y) (λ b.
    IsTrue (is_write a) → IsTrue (is_write b) → ¬ Meets g.block a b))))) (sym at)
    (λ j from after below. if_some_from _ (slice_get (H.commits ++ c ∷ []) (j - H.first)) (λ d there x y.
    if_some_from _ (slice_get c.accesses x) (λ a is_a. if_some_from _ (slice_get d.accesses y) (λ b is_b writes written meets.
    no_meeting g H c.begin c.accesses j d x y a b all (none_from_clash g H Snapshot c.begin c.accesses write none) from after
    (sym (slice_get_append_left H.commits (c ∷ []) (j - H.first) (omega arith)) ∙ there) is_a is_b writes written meets))))

-- an earlier commit stays serial
pub stays_serial : (H : History) (c : Commit) (k : ℕ) → 0 < H.first → H.first ≤ k → k ≤ last H
    → IfSome (slice_get H.commits (k - H.first)) (λ d. d.begin ≤ last H) → IsSerialAt H k → IsSerialAt (appended H c) k
stays_serial H c k first from to begun serial =
    let same : slice_get (H.commits ++ c ∷ []) (k - H.first) ≡ slice_get H.commits (k - H.first) =
    slice_get_append_left H.commits (c ∷ []) (k - H.first) (omega arith) in
    subst (λ (o : Option Commit). IfSome o (λ d. (i p : ℕ) → IfSome (slice_get d.accesses i) (λ a. IsTrue (covers Read a.block p a) →
    get_or (shown (appended H c) d.begin d.accesses i) p 0 ≡ get_or (shown (appended H c) (k - 1) d.accesses i) p 0))) (sym same)
    (go (slice_get H.commits (k - H.first)) begun serial)
  where
    go : (o : Option Commit) → IfSome o (λ d. d.begin ≤ last H)
        → IfSome o (λ d. (i p : ℕ) → IfSome (slice_get d.accesses i) (λ a. IsTrue (covers Read a.block p a) →
        get_or (shown H d.begin d.accesses i) p 0 ≡ get_or (shown H (k - 1) d.accesses i) p 0))
        → IfSome o (λ d. (i p : ℕ) → IfSome (slice_get d.accesses i) (λ a. IsTrue (covers Read a.block p a) →
        get_or (shown (appended H c) d.begin d.accesses i) p 0 ≡ get_or (shown (appended H c) (k - 1) d.accesses i) p 0))
    go None begun serial = tt
    go (Some d) begun serial = λ i p. IfSome_then (slice_get d.accesses i) (serial i p) (λ a shows covered.
        ap (λ (bytes : List ℕ). get_or bytes p 0) (shown_appended H c d.begin d.accesses i first begun)
        ∙ shows covered
        ∙ sym (ap (λ (bytes : List ℕ). get_or bytes p 0) (shown_appended H c (k - 1) d.accesses i first (omega arith))))

-- and a snapshot
pub stays_snapshot : (g : Geometry) (H : History) (c : Commit) (k : ℕ) → 0 < H.first → H.first ≤ k → k ≤ last H
    → IsSnapshotAt g H k → IsSnapshotAt g (appended H c) k
stays_snapshot g H c k first from to snapshot = grind (arith, slice_get_append_left)

-- every commit of the history with one more
pub stays_isolated : (g : Geometry) (H : History) (c : Commit) → IsHistory g H → IsIsolated g H
    → AreAccesses g c.accesses → H.first ≤ c.begin + 1 → c.begin ≤ last H → has_write c.accesses ≡ true → clash g H c.mode c.begin c.accesses ≡ None
    → IsIsolated g (appended H c)
stays_isolated g H c is isolated all known before write none k from to = elim (cases_lt (last H) k) [
  | inl behind ↦
      (let count : length (H.commits ++ c ∷ []) ≡ length H.commits + 1 = length_push H.commits c in
      let first : 0 < H.first = is.first in
      let e : last H + 1 ≡ k = omega arith in
      subst (λ (n : ℕ). IfSome (slice_get (H.commits ++ c ∷ []) (n - H.first)) (HasSeen g (appended H c) n)) e
      (subst (λ (o : Option Commit). IfSome o (HasSeen g (appended H c) (last H + 1)))
      (sym (slice_get_push H.commits c (last H + 1 - H.first) (omega arith)))
      (record { since = known; before = omega arith; isolated = next_is_isolated c.mode none })))
  | inr within ↦
      (let first : 0 < H.first = is.first in
      subst (λ (o : Option Commit). IfSome o (HasSeen g (appended H c) k))
      (sym (slice_get_append_left H.commits (c ∷ []) (k - H.first) (omega arith)))
      (here (slice_get H.commits (k - H.first)) refl within (isolated k from within)))
]
  where
    next_is_isolated : (mode : Mode) → clash g H mode c.begin c.accesses ≡ None → IsIsolatedAt g (appended H c) mode (last H + 1)
    next_is_isolated Serial none = next_is_serial g H c is all known before write none
    next_is_isolated Snapshot none = next_is_snapshot g H c is all write none

    stay : (mode : Mode) → IfSome (slice_get H.commits (k - H.first)) (λ d. d.begin ≤ last H) → k ≤ last H → IsIsolatedAt g H mode k
        → IsIsolatedAt g (appended H c) mode k
    stay Serial begun within serial = stays_serial H c k is.first from within begun serial
    stay Snapshot begun within snapshot = stays_snapshot g H c k is.first from within snapshot

    here : (o : Option Commit) → slice_get H.commits (k - H.first) ≡ o → k ≤ last H → IfSome o (HasSeen g H k) → IfSome o (HasSeen g (appended H c) k)
    here None at within seen = tt
    here (Some d) at within seen = grind (arith, stay)
