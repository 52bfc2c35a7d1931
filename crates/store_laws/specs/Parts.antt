-- A transaction cut into the calls of a store and other accesses, and the same calls on a map by one thread.
use Rattle.std.specs.Prelude.{◌≡◌, ◌⊎◌, ℕ, ◌+◌, ◌-◌, ◌<◌, ◌≤◌, IfSome, List, [], ◌∷◌, ◌++◌, map, slice_get}
use Rattle.iso_model.specs.{declared.access.Access.Access, declared.access.Commit.Commit, declared.access.Geometry.Geometry, declared.access.Mode.TheVariants.Serial, Array.Array, Effect.own, History.{History, array_at, last}, Isolation.IsIsolated}
use Rattle.store_model.specs.Stores.{IsLocal}
use Rattle.store_laws.specs.Region.{MapStore, SpareRegion}

-- A part of a transaction: a call with the accesses that it made and its answer, or other accesses.
pub data Part (Call Answer : Type 0) : Type 0 where
  Called : (call : Call) → (accesses : List Access) → (answer : Answer) → Part Call Answer
  Other : (accesses : List Access) → Part Call Answer

-- the parts as those of a store
abbrev pub PartsOf : MapStore → Type 0
PartsOf s = List (Part s.Call s.Answer)

-- all accesses of the parts, in order
abbrev pub accesses_in : {Call Answer : Type 0} → List (Part Call Answer) → List Access
accesses_in [] = []
accesses_in (Called call accesses answer ∷ parts) = accesses ++ accesses_in parts
accesses_in (Other accesses ∷ parts) = accesses ++ accesses_in parts

-- the calls among them, in order
abbrev pub calls_in : {Call Answer : Type 0} → List (Part Call Answer) → List Call
calls_in [] = []
calls_in (Called call accesses answer ∷ parts) = call ∷ calls_in parts
calls_in (Other accesses ∷ parts) = calls_in parts

-- and what each of these answered
abbrev pub answers_in : {Call Answer : Type 0} → List (Part Call Answer) → List Answer
answers_in [] = []
answers_in (Called call accesses answer ∷ parts) = answer ∷ answers_in parts
answers_in (Other accesses ∷ parts) = answers_in parts

-- The parts of a transaction that is shown this array: each call was made on what it was shown and is local, and all other
-- accesses may read what they like, and write no block of the region.
abbrev pub AreMade : (s : MapStore) → Array → PartsOf s → Type 0
AreMade s A [] = Unit {0}
AreMade s A (Called call accesses answer ∷ parts) = IsLocal s.IsWellFormed s.map_of (s.act call) A accesses answer × AreMade s (own A accesses) parts
AreMade s A (Other accesses ∷ parts) = SpareRegion s accesses × AreMade s (own A accesses) parts

-- one thread calls the store on a map: what each call answers, and the map in the end
abbrev pub run : (s : MapStore) → s.Map → List s.Call → List s.Answer × s.Map
run s m [] = ([], m)
run s m (call ∷ calls) = ((s.act call m).0 ∷ (run s (s.act call m).1 calls).0, (run s (s.act call m).1 calls).1)

-- The calls of the parts answered as one thread's calls on the map of A, which end in the map of B, a well-formed region.
pub record AnswerInOrder (s : MapStore) (parts : PartsOf s) (A B : Array) : Type 0 where
  pub answers : (run s (s.map_of A) (calls_in parts)).0 ≡ answers_in parts
  pub ends : (run s (s.map_of A) (calls_in parts)).1 ≡ s.map_of B
  pub well_formed : s.IsWellFormed B

-- each call answered by the map of A alone
abbrev pub AnswerByMap : (s : MapStore) → PartsOf s → (A : Array) → Type 0
AnswerByMap s parts A = answers_in parts ≡ map (λ call. (s.act call (s.map_of A)).0) (calls_in parts)

-- something holds of each commit after n, and of its number
abbrev pub CommitsAfter : History → (n : ℕ) → (ℕ → Commit → Type 0) → Type 0
CommitsAfter H n P = (k : ℕ) → n < k → k ≤ last H → IfSome (slice_get H.commits (k - H.first)) (P k)

-- something holds of the array at n, and of that at each commit after it
abbrev pub ArraysFrom : History → (n : ℕ) → (Array → Type 0) → Type 0
ArraysFrom H n P = (m : ℕ) → n ≤ m → m ≤ last H → P (array_at H m)

-- A commit that writes the region by calls alone; a snapshot makes none.
pub record IsOfCalls (s : MapStore) (H : History) (c : Commit) : Type 0 where
  pub parts : PartsOf s
  pub are : accesses_in parts ≡ c.accesses
  pub made : AreMade s (array_at H c.begin) parts
  pub mode : (calls_in parts ≡ []) ⊎ (c.mode ≡ Serial)

-- each commit after n does
abbrev pub AreOfCalls : MapStore → History → (n : ℕ) → Type 0
AreOfCalls s H n = CommitsAfter H n (λ k. IsOfCalls s H)

-- An isolated history whose commits after n write the region by calls alone, and in which the region is well formed at n.
pub record IsByCalls (s : MapStore) (g : Geometry) (H : History) (n : ℕ) : Type 0 where
  pub first : 0 < H.first
  pub since : H.first ≤ n + 1
  pub within : n ≤ last H
  pub isolated : IsIsolated g H
  pub calls : AreOfCalls s H n
  pub begins : s.IsWellFormed (array_at H n)
