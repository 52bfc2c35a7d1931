-- The write of a region's first block, where a put takes blocks.
use Rattle.std.specs.{Prelude.{◌≡◌, ℕ, suc, ◌+◌, ◌-◌, ◌/◌, ◌<◌, ◌≤◌, true, List, [], ◌∷◌, ◌++◌, Option, Some, None, Result, IfErr, OnErr, OnOk, length, take}, Int.{w32, to_be_bytes}}
use Rattle.iso_model.specs.{declared.access.Access.Access, declared.access.Span.Span}
use Rattle.store_model.specs.{declared.stores.Area.Area, declared.stores.TxError.TxError, Cells.laid_at, FreeMap.map_bytes, Stores.store_access, TreeNodes.head_mark, TreeCalls.{last_of, changed_mark, changed_map, with_used}}
use Rattle.store_model.specs.declared.stores.TxError.TheVariants as error
use Rattle.tx_blocks.specs.{Runs.IsCause, Tx.{Device, Tx, room_of, with_accesses}}
use Rattle.iso_tree.specs.Rows.{AreBlocks}

-- numbers that rise from one on
abbrev pub Up : (low : ℕ) → List ℕ → Type 0
Up low [] = Unit {0}
Up low (x ∷ xs) = (low ≤ x) × Up (suc x) xs

-- the first and the last of some numbers
abbrev pub ends : List ℕ → ℕ × ℕ
ends [] = (0, 0)
ends (k ∷ ks) = (k, last_of k ks)

-- the bytes of the map from the one with a bit to that with another
abbrev pub bits_between : (low high : ℕ) → Span
bits_between low high = record { off = 64 + low / 8; len = high / 8 + 1 - low / 8 }

-- bits that rise, of a map in a block
pub record AreBits (size low high : ℕ) : Type 0 where
  pub rising : low ≤ high
  pub inside : 64 + high / 8 < size

-- the marks and the bytes of the write
abbrev pub first_spans : List ℕ → Option (ℕ × ℕ) → List Span
first_spans taken None = changed_mark taken ∷ []
first_spans taken (Some root) = changed_mark taken ∷ head_mark ∷ []

abbrev pub first_bytes : Area → (first taken : List ℕ) → Option (ℕ × ℕ) → List ℕ
first_bytes a first taken None = changed_map a first taken
first_bytes a first taken (Some root) = laid_at 0 (to_be_bytes w32 root.0 ++ to_be_bytes w32 root.1) (changed_map a first taken)

abbrev pub first_access : Area → (first taken : List ℕ) → Option (ℕ × ℕ) → Access
first_access a first taken root = store_access a.start (first_spans taken root) (first_bytes a first taken root)

-- the transaction has one access more
pub record HasOneMore (t u : Tx) : Type 0 where
  pub access : Access
  pub is : u ≡ with_accesses t (access ∷ [])

-- new blocks of an area, some of them, lowest first
pub record AreNew (a : Area) (news : List ℕ) : Type 0 where
  pub some : 0 < length news
  pub rising : Up 1 news
  pub inside : AreBlocks a news

-- How the write ends, with these bytes of the map: the access is made, or nothing is; where it fits, memory alone may be wanted; the
-- disk has no part in it.
pub record HasStoredFirst (a : Area) (map news : List ℕ) (root : Option (ℕ × ℕ)) (t u : Tx) (before now : Device) (result : Result (Unit {0}) TxError) : Type 0 where
  pub stored : OnOk result ((first : List ℕ) → take (64 + map_bytes a.blocks) map ≡ with_used first news → u ≡ with_accesses t (first_access a first news root ∷ []))
  pub one : OnOk result (HasOneMore t u)
  pub kept : OnErr result (u ≡ t)
  pub cause : IfErr result (IsCause u 1 before now)
  pub room : 0 < room_of t → t.is_open ≡ true → IfErr result (λ e. e ≡ error.Memory)
  pub device : now ≡ before
