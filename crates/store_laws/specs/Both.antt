-- Transactions that call two stores.
use Rattle.std.specs.Prelude.{◌≡◌, ◌⊎◌, ℕ, ◌+◌, ◌<◌, ◌≤◌, List, [], ◌∷◌}
use Rattle.iso_model.specs.{declared.access.Access.Access, declared.access.Commit.Commit, declared.access.Geometry.Geometry, declared.access.Mode.TheVariants.Serial, Array.Array, Effect.own, History.{History, array_at, last}, Isolation.IsIsolated}
use Rattle.store_model.specs.Stores.{IsLocal}
use Rattle.store_laws.specs.{Region.{MapStore, SpareRegion}, Parts.{AnswerByMap, AnswerInOrder, Called, CommitsAfter, Other, Part, accesses_in, calls_in}}

-- A part of a transaction: a call of the first store or of the second, with the accesses that it made and its answer, or other accesses.
pub data Mixed (OneCall OneAnswer TwoCall TwoAnswer : Type 0) : Type 0 where
  First : (call : OneCall) → (accesses : List Access) → (answer : OneAnswer) → Mixed OneCall OneAnswer TwoCall TwoAnswer
  Second : (call : TwoCall) → (accesses : List Access) → (answer : TwoAnswer) → Mixed OneCall OneAnswer TwoCall TwoAnswer
  Neither : (accesses : List Access) → Mixed OneCall OneAnswer TwoCall TwoAnswer

-- the parts as those of two stores
abbrev pub MixedParts : (s t : MapStore) → Type 0
MixedParts s t = List (Mixed s.Call s.Answer t.Call t.Answer)

-- what the transaction is to the first store: calls of the second are other accesses
abbrev pub firsts : {OneCall OneAnswer TwoCall TwoAnswer : Type 0} → List (Mixed OneCall OneAnswer TwoCall TwoAnswer) → List (Part OneCall OneAnswer)
firsts [] = []
firsts (First call accesses answer ∷ parts) = Called call accesses answer ∷ firsts parts
firsts (Second call accesses answer ∷ parts) = Other accesses ∷ firsts parts
firsts (Neither accesses ∷ parts) = Other accesses ∷ firsts parts

-- and what it is to the second
abbrev pub seconds : {OneCall OneAnswer TwoCall TwoAnswer : Type 0} → List (Mixed OneCall OneAnswer TwoCall TwoAnswer) → List (Part TwoCall TwoAnswer)
seconds [] = []
seconds (First call accesses answer ∷ parts) = Other accesses ∷ seconds parts
seconds (Second call accesses answer ∷ parts) = Called call accesses answer ∷ seconds parts
seconds (Neither accesses ∷ parts) = Other accesses ∷ seconds parts

-- The parts of a transaction that is shown this array: each call is local for its store, and writes no block of the other's region;
-- all other accesses write neither region.
abbrev pub AreMixed : (s t : MapStore) → Array → MixedParts s t → Type 0
AreMixed s t A [] = Unit {0}
AreMixed s t A (First call accesses answer ∷ parts) =
    IsLocal s.IsWellFormed s.map_of (s.act call) A accesses answer × SpareRegion t accesses × AreMixed s t (own A accesses) parts
AreMixed s t A (Second call accesses answer ∷ parts) =
    IsLocal t.IsWellFormed t.map_of (t.act call) A accesses answer × SpareRegion s accesses × AreMixed s t (own A accesses) parts
AreMixed s t A (Neither accesses ∷ parts) = SpareRegion s accesses × SpareRegion t accesses × AreMixed s t (own A accesses) parts

-- both regions of an array are well formed
pub record BothWellFormed (s t : MapStore) (A : Array) : Type 0 where
  pub first : s.IsWellFormed A
  pub second : t.IsWellFormed A

-- the calls of each store answered in order
pub record BothInOrder (s t : MapStore) (parts : MixedParts s t) (A B : Array) : Type 0 where
  pub first : AnswerInOrder s (firsts parts) A B
  pub second : AnswerInOrder t (seconds parts) A B

-- each call answered by its store's map of this array
pub record BothByMap (s t : MapStore) (parts : MixedParts s t) (A : Array) : Type 0 where
  pub first : AnswerByMap s (firsts parts) A
  pub second : AnswerByMap t (seconds parts) A

-- A commit that writes the two regions by calls of their stores alone; a snapshot makes none.
pub record IsOfBoth (s t : MapStore) (H : History) (c : Commit) : Type 0 where
  pub parts : MixedParts s t
  pub are : accesses_in (firsts parts) ≡ c.accesses
  pub made : AreMixed s t (array_at H c.begin) parts
  pub mode : ((calls_in (firsts parts) ≡ []) × (calls_in (seconds parts) ≡ [])) ⊎ (c.mode ≡ Serial)

-- each commit after n does
abbrev pub AreOfBoth : (s t : MapStore) → History → (n : ℕ) → Type 0
AreOfBoth s t H n = CommitsAfter H n (λ k. IsOfBoth s t H)

-- An isolated history whose commits after n write the two regions by calls alone, and in which both are well formed at n.
pub record IsByBoth (s t : MapStore) (g : Geometry) (H : History) (n : ℕ) : Type 0 where
  pub first : 0 < H.first
  pub since : H.first ≤ n + 1
  pub within : n ≤ last H
  pub isolated : IsIsolated g H
  pub calls : AreOfBoth s t H n
  pub begins : BothWellFormed s t (array_at H n)
