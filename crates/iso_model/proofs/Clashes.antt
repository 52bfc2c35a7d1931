-- The least clash, and what there is where there is none.
use Rattle.iso_model.proofs.Words.{◌≡◌, ◌≢◌, ◌⊎◌, ◌∙◌, sym, refl, ap, ℕ, zero, suc, ◌+◌, ◌-◌, ◌<◌, ◌≤◌, Bool, true, false, cond, List, [], ◌∷◌, drop, Option, Some, None, option_map, slice_get, arith, inl, inr, zero-add, cases_eq, and_from, Access, Clash, Commit, Geometry, Mode, has_write, or_else, History, clash, clash_from, clashes, first_after, first_from, first_byte, IsClash, NotAfter}

-- what the first passing number of n from p on is
abbrev IsFirst : (ℕ → Bool) → (p n : ℕ) → Option ℕ → Type 0
IsFirst test p n None = (r : ℕ) → p ≤ r → r < p + n → test r ≡ true → ⊥
IsFirst test p n (Some q) = (p ≤ q) × (q < p + n) × (test q ≡ true) × ((r : ℕ) → p ≤ r → r < p + n → test r ≡ true → q ≤ r)

first_step : (test : ℕ → Bool) (p n : ℕ) (t : Bool) → test p ≡ t → (rest : Option ℕ) → IsFirst test (p + 1) n rest → IsFirst test p (suc n) (cond t (Some p) rest)
first_step test p n true e rest is = (omega arith, omega arith, e, λ r from below passes. from)
first_step test p n false e None is = grind arith
first_step test p n false e (Some q) is = grind arith

first_is : (test : ℕ → Bool) (p n : ℕ) → IsFirst test p n (first_from test p n)
first_is test p zero = λ r from below passes. omega arith
first_is test p (suc n) = first_step test p n (test p) refl (first_from test (p + 1) n) (first_is test (p + 1) n)

-- by block, then by byte
abbrev NotBefore : (x y : ℕ × ℕ) → Type 0
NotBefore x y = (x.0 < y.0) ⊎ ((x.0 ≡ y.0) × (x.1 ≤ y.1))

-- what the first passing byte of n blocks from b on is
abbrev IsFirstByte : (ℕ → ℕ → Bool) → (size b n : ℕ) → Option (ℕ × ℕ) → Type 0
IsFirstByte test size b n None = (c p : ℕ) → b ≤ c → c < b + n → p < size → test c p ≡ true → ⊥
IsFirstByte test size b n (Some at) =
    (b ≤ at.0) × (at.0 < b + n) × (at.1 < size) × (test at.0 at.1 ≡ true)
    × ((c p : ℕ) → b ≤ c → c < b + n → p < size → test c p ≡ true → NotBefore at (c, p))

first_byte_step : (test : ℕ → ℕ → Bool) (size b n : ℕ) (here : Option ℕ) (rest : Option (ℕ × ℕ))
    → IsFirst (test b) 0 size here → IsFirstByte test size (b + 1) n rest
    → IsFirstByte test size b (suc n) (or_else (option_map (λ p. (b, p)) here) rest)
first_byte_step test size b n (Some p) rest is others = grind arith
first_byte_step test size b n None None is others = λ c q from below inside passes. elim (cases_eq b c) [
  | inl same ↦ is q (omega arith) (omega arith) (rw (← same) at passes)
  | inr other ↦ others c q (omega arith) (omega arith) inside passes
]
first_byte_step test size b n None (Some at) is others = (
  omega arith,
  omega arith,
  others.2,
  others.3,
  λ c q from below inside passes. elim (cases_eq b c) [
    | inl same ↦ absurd (is q (omega arith) (omega arith) (rw (← same) at passes))
    | inr other ↦ others.4 c q (omega arith) (omega arith) inside passes
  ],
)

first_byte_is : (test : ℕ → ℕ → Bool) (size b n : ℕ) → IsFirstByte test size b n (first_byte test size b n)
first_byte_is test size b zero = λ c p from below inside passes. omega arith
first_byte_is test size b (suc n) =
    first_byte_step test size b n (first_from (test b) 0 size) (first_byte test size (b + 1) n) (first_is (test b) 0 size) (first_byte_is test size (b + 1) n)

-- what a clash at commit number n of these is, the first of which has the number k
record IsAt (g : Geometry) (mode : Mode) (accesses : List Access) (k : ℕ) (commits : List Commit) (c : Clash) : Type 0 where
  from : k ≤ c.commit
  block : c.block < g.blocks
  byte : c.at < g.block
  commit : Commit
  is : slice_get commits (c.commit - k) ≡ Some commit
  meets : clashes mode commit accesses c.block c.at ≡ true

-- what the least of these is
abbrev IsLeast : (g : Geometry) → (mode : Mode) → List Access → (k : ℕ) → List Commit → Option Clash → Type 0
IsLeast g mode accesses k commits None = (d : Clash) → IsAt g mode accesses k commits d → ⊥
IsLeast g mode accesses k commits (Some c) = IsAt g mode accesses k commits c × ((d : Clash) → IsAt g mode accesses k commits d → NotAfter c d)

-- a clash with a later commit
at_later : (g : Geometry) (mode : Mode) (accesses : List Access) (k : ℕ) (c : Commit) (commits : List Commit) (d : Clash)
    → IsAt g mode accesses (k + 1) commits d → IsAt g mode accesses k (c ∷ commits) d
at_later g mode accesses k c commits d at =
    let e : d.commit - k ≡ suc (d.commit - (k + 1)) = omega (arith, at.from) in
    record { from = omega (arith, at.from); block = at.block; byte = at.byte; commit = at.commit; is = rw e at.is; meets = at.meets }

-- a clash is with the first commit or with a later one
at_first : (g : Geometry) (mode : Mode) (accesses : List Access) (k : ℕ) (c : Commit) (commits : List Commit) (d : Clash)
    → IsAt g mode accesses k (c ∷ commits) d → d.commit ≡ k → clashes mode c accesses d.block d.at ≡ true
at_first g mode accesses k c commits d at same = grind arith

at_rest : (g : Geometry) (mode : Mode) (accesses : List Access) (k : ℕ) (c : Commit) (commits : List Commit) (d : Clash)
    → IsAt g mode accesses k (c ∷ commits) d → d.commit ≢ k → IsAt g mode accesses (k + 1) commits d
at_rest g mode accesses k c commits d at other =
    let from : k + 1 ≤ d.commit = omega (arith, at.from) in
    let e : d.commit - k ≡ suc (d.commit - (k + 1)) = omega arith in
    record { from = from; block = at.block; byte = at.byte; commit = at.commit; is = rw e at at.is; meets = at.meets }

least_step : (g : Geometry) (mode : Mode) (accesses : List Access) (k : ℕ) (c : Commit) (commits : List Commit)
    (here : Option (ℕ × ℕ)) (rest : Option Clash)
    → IsFirstByte (clashes mode c accesses) g.block 0 g.blocks here → IsLeast g mode accesses (k + 1) commits rest
    → IsLeast g mode accesses k (c ∷ commits) (or_else (option_map (λ at. record { commit = k; block = at.0; at = at.1 }) here) rest)
least_step g mode accesses k c commits (Some at) rest first least = (
  record { from = omega arith; block = omega arith; byte = first.2; commit = c; is = (let e : k - k ≡ 0 = omega arith in rw e refl); meets = first.3 },
  λ d is. elim (cases_eq d.commit k) [
    | inl same ↦ inr (sym same, first.4 d.block d.at (omega arith) (omega (arith, is.block)) is.byte (at_first g mode accesses k c commits d is same))
    | inr other ↦ inl (omega (arith, is.from))
  ],
)
least_step g mode accesses k c commits None None first least = λ d is. elim (cases_eq d.commit k) [
  | inl same ↦ first d.block d.at (omega arith) (omega (arith, is.block)) is.byte (at_first g mode accesses k c commits d is same)
  | inr other ↦ least d (at_rest g mode accesses k c commits d is other)
]
least_step g mode accesses k c commits None (Some x) first least = (
  at_later g mode accesses k c commits x least.0,
  λ d is. elim (cases_eq d.commit k) [
    | inl same ↦ absurd (first d.block d.at (omega arith) (omega (arith, is.block)) is.byte (at_first g mode accesses k c commits d is same))
    | inr other ↦ least.1 d (at_rest g mode accesses k c commits d is other)
  ],
)

least_is : (g : Geometry) (mode : Mode) (accesses : List Access) (k : ℕ) (commits : List Commit)
    → IsLeast g mode accesses k commits (clash_from g mode accesses k commits)
least_is g mode accesses k [] = λ d is. cc (is.is)
least_is g mode accesses k (c ∷ commits) =
    least_step g mode accesses k c commits (first_byte (clashes mode c accesses) g.block 0 g.blocks) (clash_from g mode accesses (k + 1) commits)
    (first_byte_is (clashes mode c accesses) g.block 0 g.blocks) (least_is g mode accesses (k + 1) commits)

pub slice_get-drop : {A : Type 0} → (n i : ℕ) (xs : List A) → slice_get (drop n xs) i ≡ slice_get xs (n + i)
slice_get-drop zero i xs = rw (zero-add i) refl
slice_get-drop (suc n) i [] = refl
slice_get-drop (suc n) i (x ∷ xs) = let e : suc n + i ≡ suc (n + i) = omega arith in rw e (slice_get-drop n i xs)

-- a clash of a transaction, among the commits after its begin
clash_at : (g : Geometry) (H : History) (mode : Mode) (begin : ℕ) (accesses : List Access) (d : Clash)
    → IsClash g H mode begin accesses d → IsAt g mode accesses (first_after H begin) (drop (begin + 1 - H.first) H.commits) d
clash_at g H mode begin accesses d is =
    let e : begin + 1 - H.first + (d.commit - first_after H begin) ≡ d.commit - H.first = omega arith in
    record {
      from = omega arith;
      block = is.block;
      byte = is.byte;
      commit = is.commit;
      is = slice_get-drop (begin + 1 - H.first) (d.commit - first_after H begin) H.commits ∙ rw e is.is;
      meets = and_from _ _ is.written is.guarded;
    }

clash_from_at : (g : Geometry) (H : History) (mode : Mode) (begin : ℕ) (accesses : List Access) (d : Clash)
    → IsAt g mode accesses (first_after H begin) (drop (begin + 1 - H.first) H.commits) d → IsClash g H mode begin accesses d
clash_from_at g H mode begin accesses d at = grind (arith, slice_get-drop)

-- what the answer is
abbrev pub IsAnswer : (g : Geometry) → (H : History) → Mode → (begin : ℕ) → List Access → Option Clash → Type 0
IsAnswer g H mode begin accesses None = (d : Clash) → IsClash g H mode begin accesses d → ⊥
IsAnswer g H mode begin accesses (Some c) = IsClash g H mode begin accesses c × ((d : Clash) → IsClash g H mode begin accesses d → NotAfter c d)

answer_from_least : (g : Geometry) (H : History) (mode : Mode) (begin : ℕ) (accesses : List Access) (o : Option Clash)
    → IsLeast g mode accesses (first_after H begin) (drop (begin + 1 - H.first) H.commits) o → IsAnswer g H mode begin accesses o
answer_from_least g H mode begin accesses None least = λ d is. least d (clash_at g H mode begin accesses d is)
answer_from_least g H mode begin accesses (Some c) least =
    (clash_from_at g H mode begin accesses c least.0, λ d is. least.1 d (clash_at g H mode begin accesses d is))

-- the clash of a transaction with a write
pub clash_answers : (g : Geometry) (H : History) (mode : Mode) (begin : ℕ) (accesses : List Access)
    → has_write accesses ≡ true → IsAnswer g H mode begin accesses (clash g H mode begin accesses)
unfolding clash
clash_answers g H mode begin accesses some = grind (arith, answer_from_least, least_is)

-- one without a write has none
pub no_clash : (g : Geometry) (H : History) (mode : Mode) (begin : ℕ) (accesses : List Access) → has_write accesses ≡ false → clash g H mode begin accesses ≡ None
unfolding clash
no_clash g H mode begin accesses none = rw none refl

some_clash_writes : (g : Geometry) (H : History) (mode : Mode) (begin : ℕ) (accesses : List Access) (c : Clash) (t : Bool) → has_write accesses ≡ t
    → clash g H mode begin accesses ≡ Some c → t ≡ true
some_clash_writes g H mode begin accesses c true e some = refl
some_clash_writes g H mode begin accesses c false e some = cc (no_clash g H mode begin accesses e)

pub some_clash : (g : Geometry) (H : History) (mode : Mode) (begin : ℕ) (accesses : List Access) (c : Clash)
    → clash g H mode begin accesses ≡ Some c → IsAnswer g H mode begin accesses (Some c)
some_clash g H mode begin accesses c some =
    rw some at (clash_answers g H mode begin accesses (some_clash_writes g H mode begin accesses c (has_write accesses) refl some))

pub none_from_clash : (g : Geometry) (H : History) (mode : Mode) (begin : ℕ) (accesses : List Access)
    → has_write accesses ≡ true → clash g H mode begin accesses ≡ None → IsAnswer g H mode begin accesses None
none_from_clash g H mode begin accesses some none = rw none at (clash_answers g H mode begin accesses some)

-- two clashes that are each not after the other are one
same_clash : (c d : Clash) → NotAfter c d → NotAfter d c → c ≡ d
same_clash c d first second = grind arith

only_answer : (g : Geometry) (H : History) (mode : Mode) (begin : ℕ) (accesses : List Access) (c : Clash) (o : Option Clash)
    → IsAnswer g H mode begin accesses o → IsClash g H mode begin accesses c → ((d : Clash) → IsClash g H mode begin accesses d → NotAfter c d) → o ≡ Some c
only_answer g H mode begin accesses c None answer is least = absurd (answer c is)
only_answer g H mode begin accesses c (Some e) answer is least = ap Some (same_clash e c (answer.1 c is) (least e answer.0))

-- the least clash is the answer
pub least_is_clash : (g : Geometry) (H : History) (mode : Mode) (begin : ℕ) (accesses : List Access) (c : Clash)
    → has_write accesses ≡ true → IsClash g H mode begin accesses c → ((d : Clash) → IsClash g H mode begin accesses d → NotAfter c d)
    → clash g H mode begin accesses ≡ Some c
least_is_clash g H mode begin accesses c some is least = search (arith, only_answer, clash_answers)
