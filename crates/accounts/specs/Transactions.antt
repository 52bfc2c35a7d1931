-- What the transactions of accounts do, as calls of the hash store and their answers.
use Rattle.std.specs.Prelude.{◌≡◌, ◌≢◌, ◌⊎◌, ℕ, ◌+◌, List, [], ◌∷◌, Some, None}
use Rattle.iso_model.specs.{declared.access.Commit.Commit, declared.access.Geometry.Geometry, History.History}
use Rattle.store_laws.specs.{Both.{IsOfBoth, firsts}, Calls.{Get, Got, KeyCall, Put, StoreAnswer, WasPut}, Parts.{answers_in, calls_in}}
use Rattle.store_scripts.specs.Stores.{image_hash, image_tree}
use Rattle.accounts.specs.Sums.{Accounts, amount}

-- The amount n goes from one account to another one: both are looked up, and each is given what it has then.
pub record IsTransfer (from to : List ℕ) (n : ℕ) (calls : List KeyCall) (answers : List StoreAnswer) : Type 0 where
  pub apart : from ≢ to
  -- what the two had, and what they have then
  pub had : List ℕ
  pub other_had : List ℕ
  pub left : List ℕ
  pub other : List ℕ
  pub calls_are : calls ≡ Get from ∷ Get to ∷ Put from left ∷ Put to other ∷ []
  pub answers_are : answers ≡ Got (Some had) ∷ Got (Some other_had) ∷ WasPut ∷ WasPut ∷ []
  pub taken : amount left + n ≡ amount had
  pub given : amount other ≡ amount other_had + n

-- The accounts are opened: each is looked up and not found, and given what it opens with.
abbrev pub opening_calls : Accounts → List KeyCall
opening_calls [] = []
opening_calls (a ∷ accounts) = Get a.0 ∷ Put a.0 a.1 ∷ opening_calls accounts

abbrev pub opening_answers : Accounts → List StoreAnswer
opening_answers [] = []
opening_answers (a ∷ accounts) = Got None ∷ WasPut ∷ opening_answers accounts

pub record IsOpening (accounts : Accounts) (calls : List KeyCall) (answers : List StoreAnswer) : Type 0 where
  pub calls_are : calls ≡ opening_calls accounts
  pub answers_are : answers ≡ opening_answers accounts

-- calls that open the accounts, or move an amount
abbrev pub IsOfAccounts : Accounts → List KeyCall → List StoreAnswer → Type 0
IsOfAccounts accounts calls answers = ((from : List ℕ) × (to : List ℕ) × (n : ℕ) × IsTransfer from to n calls answers) ⊎ IsOpening accounts calls answers

-- a commit whose calls open the accounts or move an amount, and which writes no block of a store otherwise
pub record CommitsAccounts (accounts : Accounts) (g : Geometry) (H : History) (c : Commit) : Type 0 where
  pub of : IsOfBoth (image_hash g) (image_tree g) H c
  pub does : IsOfAccounts accounts (calls_in (firsts of.parts)) (answers_in (firsts of.parts))
