-- The amounts of a store whose pairs are accounts.
use Rattle.std.specs.{Prelude.{◌≡◌, ◌≢◌, ◌⊎◌, ℕ, List, [], ◌∷◌, Option, Some, None, sum_by}, FinMap.{empty, entries, get}, Int.{from_be_bytes, w64}}
use Rattle.store_model.specs.HashRegion.{Pairs}

-- the number that a value of eight bytes is
abbrev pub amount : List ℕ → ℕ
amount value = from_be_bytes w64 value

abbrev pub amount_in : Option (List ℕ) → ℕ
amount_in None = 0
amount_in (Some value) = amount value

-- the sum of all accounts of the store
abbrev pub total : Pairs → ℕ
total m = sum_by (λ e. amount e.1) (entries m)

-- accounts with the values that they open with
abbrev pub Accounts : Type 0
Accounts = List (List ℕ × List ℕ)

abbrev pub sum_of : Accounts → ℕ
sum_of accounts = sum_by (λ e. amount e.1) accounts

-- the first of the accounts is there
abbrev pub HasFirst : Accounts → Pairs → Type 0
HasFirst [] m = Unit {0}
HasFirst (a ∷ accounts) m = get m a.0 ≢ None

-- the accounts are open, and what they have together is what they opened with
pub record AreOpen (accounts : Accounts) (m : Pairs) : Type 0 where
  pub sum : total m ≡ sum_of accounts
  pub first : HasFirst accounts m

-- nothing is there yet, or the accounts are open, with their sum
abbrev pub KeepsSum : Accounts → Pairs → Type 0
KeepsSum accounts m = (m ≡ empty) ⊎ AreOpen accounts m
