-- The commits of an image in order, and the array after each of them.
use Rattle.std.specs.Prelude.{ℕ, ◌+◌, ◌-◌, List, [], ◌∷◌, ◌++◌, length, take, slice_get, slice_index_or, unwrap_or, option_map}
use Rattle.iso_model.specs.{declared.access.Access.Access, declared.access.Commit.Commit, Array.Array, Effect.own}

-- commits in order, the number of the first of them, and the array before it
pub record History : Type 0 where
  pub first : ℕ
  pub base : Array
  pub commits : List Commit

-- the number of the last commit
abbrev pub last : History → ℕ
last H = H.first + length H.commits - 1

-- the history with these commits after the others
abbrev pub with_commits : List Commit → History → History
with_commits more H = record H { commits = H.commits ++ more }

-- the array after the writes of these commits, in order
abbrev pub all_own : Array → List Commit → Array
all_own A [] = A
all_own A (c ∷ commits) = all_own (own A c.accesses) commits

-- the array after the commits numbered up to n
abbrev pub array_at : History → ℕ → Array
array_at H n = all_own H.base (take (n + 1 - H.first) H.commits)

-- what a read of the block shows to a transaction with this begin that has made these accesses
abbrev pub shown_block : History → (begin : ℕ) → List Access → (block : ℕ) → List ℕ
shown_block H begin accesses block = slice_index_or (own (array_at H begin) accesses) block []

-- what access i of the list shows: its block after the accesses before it
abbrev pub shown : History → (begin : ℕ) → List Access → (i : ℕ) → List ℕ
shown H begin accesses i = unwrap_or (option_map (λ a. shown_block H begin (take i accesses) a.block) (slice_get accesses i)) []
