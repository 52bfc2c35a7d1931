-- What calls of the hash store add to a transaction over blocks.
use Rattle.std.specs.{Prelude.{◌≡◌, ◌≢◌, ℕ, ◌+◌, ◌<◌, ◌≤◌, List, [], ◌∷◌, ◌++◌, Some, map}, Int.{to_be_bytes, w64}}
use Rattle.accounts.specs.{Sums.{Accounts, amount}, Transactions.IsOfAccounts, declared.account.Account.Account, declared.account.Step.Step}
use Rattle.iso_model.specs.{declared.access.Geometry.Geometry, Array.Array}
use Rattle.store_laws.specs.{Both.firsts, BothStores.StorePart, Calls.{Get, Got, KeyCall, Put, StoreAnswer, WasPut}, Growing.IsMadeOfBoth, Parts.{answers_in, calls_in}}
use Rattle.store_model.specs.{declared.stores.Area.Area, declared.stores.Region.Region, Areas.hash_area, HashRegion.IsHashArea}
use Rattle.store_scripts.specs.Stores.{image_hash, image_tree}
use Rattle.tx_blocks.specs.{Runs.area_of, Tx.Tx}
use Rattle.accounts.specs.declared.account.Step.TheVariants as step

-- the region is that of a hash store, in the transaction's blocks
abbrev pub HasHash : Tx → Region → Type 0
HasHash t region = IsHashArea (area_of t region) × (region.start + region.size ≤ t.blocks)

-- the transaction is on the same blocks
pub record SameBlocks (t u : Tx) : Type 0 where
  pub size : u.size ≡ t.size
  pub blocks : u.blocks ≡ t.blocks

-- further parts of a transaction, which make these calls of the hash store, with these answers
pub record Further (g : Geometry) (A : Array) (u : Tx) (parts : List StorePart) (calls : List KeyCall) (answers : List StoreAnswer) : Type 0 where
  pub more : List StorePart
  pub made : IsMadeOfBoth (image_hash g) (image_tree g) A u (parts ++ more)
  pub calls_are : calls_in (firsts more) ≡ calls
  pub answers_are : answers_in (firsts more) ≡ answers

-- Where the transaction was made of parts, it is made of them and of these calls of the hash store in the area, which is that of an
-- image, with these answers.
abbrev pub Adds : Area → (t u : Tx) → List KeyCall → List StoreAnswer → Type 0
Adds a t u calls answers =
    (g : Geometry) → g.hash ≢ 0 → hash_area g ≡ a → (A : Array) (parts : List StorePart) → IsMadeOfBoth (image_hash g) (image_tree g) A t parts → Further g A u parts calls answers

-- calls came to it that are such
pub record Does (a : Area) (t u : Tx) (Is : List KeyCall → List StoreAnswer → Type 0) : Type 0 where
  pub calls : List KeyCall
  pub answers : List StoreAnswer
  pub is : Is calls answers
  pub adds : Adds a t u calls answers

-- so it is of the hash store in this region, on the same blocks
pub record AddsIn (region : Region) (t u : Tx) (calls : List KeyCall) (answers : List StoreAnswer) : Type 0 where
  pub same : SameBlocks t u
  pub adds : Adds (area_of t region) t u calls answers

pub record DoesIn (region : Region) (t u : Tx) (Is : List KeyCall → List StoreAnswer → Type 0) : Type 0 where
  pub same : SameBlocks t u
  pub does : Does (area_of t region) t u Is

-- this amount was found at the account
pub record FindsAmount (region : Region) (t u : Tx) (name : List ℕ) (n : ℕ) : Type 0 where
  pub value : List ℕ
  pub is : amount value ≡ n
  pub small : n < 18446744073709551616
  pub got : AddsIn region t u (Get name ∷ []) (Got (Some value) ∷ [])

-- the accounts with the values that they open with
abbrev pub opening_of : List Account → Accounts
opening_of accounts = map (λ a. (a.name, to_be_bytes w64 a.amount)) accounts

-- one value is put
pub record IsPut (key value : List ℕ) (calls : List KeyCall) (answers : List StoreAnswer) : Type 0 where
  pub calls_are : calls ≡ Put key value ∷ []
  pub answers_are : answers ≡ WasPut ∷ []

-- The first half of a transfer: both accounts are looked up, and the amount n is taken from the one. With it the other one is to have
-- `more`, which is still to be put there.
pub record IsTaken (from to : List ℕ) (n more : ℕ) (calls : List KeyCall) (answers : List StoreAnswer) : Type 0 where
  pub apart : from ≢ to
  pub had : List ℕ
  pub other_had : List ℕ
  pub left : List ℕ
  pub calls_are : calls ≡ Get from ∷ Get to ∷ Put from left ∷ []
  pub answers_are : answers ≡ Got (Some had) ∷ Got (Some other_had) ∷ WasPut ∷ []
  pub taken : amount left + n ≡ amount had
  pub given : more ≡ amount other_had + n
  pub small : more < 18446744073709551616

-- an amount was taken so from some account
abbrev pub IsTakenFor : (to : List ℕ) → (more : ℕ) → List KeyCall → List StoreAnswer → Type 0
IsTakenFor to more calls answers = (from : List ℕ) × (n : ℕ) × IsTaken from to n more calls answers

-- what the calls of a step are, which answered this number
abbrev pub calls_of : Accounts → Step → (answer : ℕ) → List KeyCall → List StoreAnswer → Type 0
calls_of accounts (step.Whole work) answer = IsOfAccounts accounts
calls_of accounts (step.Take transfer) answer = IsTakenFor transfer.to answer
