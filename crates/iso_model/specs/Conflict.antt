-- When a transaction conflicts, and what a transaction that did not conflict has seen.
use Rattle.std.specs.Prelude.{◌≡◌, ℕ, zero, suc, ◌+◌, ◌-◌, ◌<◌, ◌≤◌, Bool, ◌&&◌, ◌⊎◌, cond, List, [], ◌∷◌, Option, Some, None, IsTrue, IfSome, drop, slice_get, slice_index, option_map}
use Rattle.iso_model.specs.{declared.access.Access.Access, declared.access.Clash.Clash, declared.access.Commit.Commit, declared.access.Geometry.Geometry, declared.access.Kind.Kind, declared.access.Kind.TheVariants.{Read, Write}, declared.access.Mode.Mode, declared.access.Mode.TheVariants.{Serial, Snapshot}, Array.covered, Effect.{is_write, has_write, touches, or_else, covers}, History.{History, shown}}

-- some byte of one block of this size is covered in both accesses
abbrev pub Meets : (size : ℕ) → Access → Access → Type 0
Meets size x y = (x.block ≡ y.block) × ((p : ℕ) × (p < size) × IsTrue (covered x.spans p) × IsTrue (covered y.spans p))

-- the accesses that a later commit's writes may not meet
abbrev pub guarded : Mode → Kind
guarded Serial = Read
guarded Snapshot = Write

-- whether the commit writes the byte and an access of the guarded kind covers it
abbrev pub clashes : Mode → Commit → List Access → (b p : ℕ) → Bool
clashes mode commit accesses b p = touches Write commit.accesses b p && touches (guarded mode) accesses b p

-- the first of the numbers from p on, n of them, that passes the test
abbrev pub first_from : (ℕ → Bool) → (p n : ℕ) → Option ℕ
first_from test p zero = None
first_from test p (suc n) = cond (test p) (Some p) (first_from test (p + 1) n)

-- the least block from b on, n of them, and the least byte of it that pass the test
abbrev pub first_byte : (ℕ → ℕ → Bool) → (size b n : ℕ) → Option (ℕ × ℕ)
first_byte test size b zero = None
first_byte test size b (suc n) = or_else (option_map (λ p. (b, p)) (first_from (test b) 0 size)) (first_byte test size (b + 1) n)

-- the least clash with these commits, the first of which has the number k
abbrev pub clash_from : Geometry → Mode → List Access → (k : ℕ) → List Commit → Option Clash
clash_from g mode accesses k [] = None
clash_from g mode accesses k (c ∷ commits) =
    or_else (option_map (λ at. record { commit = k; block = at.0; at = at.1 }) (first_byte (clashes mode c accesses) g.block 0 g.blocks))
    (clash_from g mode accesses (k + 1) commits)

-- the number of the first commit of the history that comes after the begin
abbrev pub first_after : History → (begin : ℕ) → ℕ
first_after H begin = H.first + (begin + 1 - H.first)

-- The least commit after the begin, block and byte such that the commit writes the byte and, in serial mode, a read
-- of the list covers it, or, in snapshot mode, a write. None where there is none, or where the list has no write.
unfoldable pub clash : Geometry → History → Mode → (begin : ℕ) → List Access → Option Clash
clash g H mode begin accesses =
    cond (has_write accesses) (clash_from g mode accesses (first_after H begin) (drop (begin + 1 - H.first) H.commits)) None

-- a place where such a transaction meets a commit after its begin
pub record IsClash (g : Geometry) (H : History) (mode : Mode) (begin : ℕ) (accesses : List Access) (c : Clash) : Type 0 where
  pub after : begin < c.commit
  pub since : H.first ≤ c.commit
  pub block : c.block < g.blocks
  pub byte : c.at < g.block
  pub commit : Commit
  pub is : slice_get H.commits (c.commit - H.first) ≡ Some commit
  pub written : IsTrue (touches Write commit.accesses c.block c.at)
  pub guarded : IsTrue (touches (guarded mode) accesses c.block c.at)

-- by commit, then by block, then by byte
abbrev pub NotAfter : Clash → Clash → Type 0
NotAfter x y = (x.commit < y.commit) ⊎ ((x.commit ≡ y.commit) × ((x.block < y.block) ⊎ ((x.block ≡ y.block) × (x.at ≤ y.at))))

-- each byte that a read of commit k covers has the value that it had directly before the commit
abbrev pub IsSerialAt : History → ℕ → Type 0
IsSerialAt H k = IfSome (slice_get H.commits (k - H.first)) (λ c.
    (i p : ℕ) → IfSome (slice_get c.accesses i) (λ a. IsTrue (covers Read a.block p a) →
    slice_index (shown H c.begin c.accesses i) p ≡ slice_index (shown H (k - 1) c.accesses i) p))

-- no commit between the begin of commit k and its number has a write that meets a write of it
abbrev pub IsSnapshotAt : Geometry → History → ℕ → Type 0
IsSnapshotAt g H k = IfSome (slice_get H.commits (k - H.first)) (λ c.
    (j : ℕ) → H.first ≤ j → c.begin < j → j < k → IfSome (slice_get H.commits (j - H.first)) (λ d.
    (x y : ℕ) → IfSome (slice_get c.accesses x) (λ a. IfSome (slice_get d.accesses y) (λ b.
    IsTrue (is_write a) → IsTrue (is_write b) → ¬ Meets g.block a b))))
