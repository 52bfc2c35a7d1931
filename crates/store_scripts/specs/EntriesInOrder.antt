-- The store theorem of the list of a shared device, as one word.
use Rattle.std.specs.Prelude.{◌≡◌, ℕ, ◌-◌, true, List, ◌∷◌, ◌++◌}
use Rattle.iso_model.specs.{declared.access.Access.Access, declared.access.Commit.Commit, declared.access.EndReply.TheVariants.{Committed, ReadOnly}, declared.access.Geometry.Geometry, Array.Array, Effect.own, History.{History, array_at, last}, Step.commit_from, World.World}
use Rattle.iso_model.specs.declared.access.GroupReply.TheVariants as member
use Rattle.iso_shared.specs.{declared.entry.Entry.Entry, declared.entry.MemberEnd.MemberEnd, States.{Start, is_live, live_of, state_at, tx_of}}
use Rattle.iso_shared.specs.declared.entry.Entry.TheVariants as entry
use Rattle.store_laws.specs.{Both.{AreMixed, BothByMap, BothInOrder, BothWellFormed, IsByBoth, IsOfBoth, MixedParts, firsts}, Region.MapStore, Parts.accesses_in}
use Rattle.store_scripts.specs.Stores.{image_files, image_hash, image_tree}

abbrev pub world_at : Start → List Entry → World
world_at A es = (state_at A es).world

-- the commit that an end of the transaction of this number makes, with these accesses
abbrev pub commit_at : World → (number : ℕ) → List Access → Commit
commit_at W n accesses = commit_from (tx_of W n accesses)

-- the array at the begin of the transaction
abbrev pub array_at_begin : World → (number : ℕ) → Array
array_at_begin W n = array_at W.history (live_of n W.live).begin

-- Accesses of a transaction that began with this array: those of calls of the hash store and of another store t beside it, each made on
-- what the transaction was shown and local for its store, and others that write neither region.
pub record AreByCalls (t : MapStore) (g : Geometry) (A : Array) (accesses : List Access) : Type 0 where
  pub parts : MixedParts (image_hash g) t
  pub are : accesses_in (firsts parts) ≡ accesses
  pub made : AreMixed (image_hash g) t A parts

-- a member of a group that commits, and one that ends without a write
abbrev pub commits_as : (number k : ℕ) → List Access → MemberEnd
commits_as n k accesses = record { number = n; accesses = accesses; reply = member.Committed k }

abbrev pub ends_bare : (number : ℕ) → List Access → MemberEnd
ends_bare n accesses = record { number = n; accesses = accesses; reply = member.ReadOnly }

-- each transaction that commits in the list, by its end or in a group, writes the regions by calls of their stores alone; one in
-- snapshot mode makes none
pub record CommitsAreByCalls (t : MapStore) (A : Start) (es : List Entry) : Type 0 where
  pub ends : (before later : List Entry) (n k : ℕ) (accesses : List Access) → es ≡ before ++ entry.End n accesses (Committed k) ∷ later
      → let W = world_at A before in IsOfBoth (image_hash A.world.geometry) t W.history (commit_at W n accesses)
  pub groups : (before later : List Entry) (first others : List MemberEnd) (n k : ℕ) (accesses : List Access)
      → es ≡ before ++ entry.EndGroup (first ++ commits_as n k accesses ∷ others) ∷ later
      → IsOfBoth (image_hash A.world.geometry) t (world_at A before).history (commit_at (world_at A before) n accesses)

-- both stores are well formed in the array at the last commit
abbrev pub StoresAreWell : MapStore → Geometry → History → Type 0
StoresAreWell t g H = BothWellFormed (image_hash g) t (array_at H (last H))

-- the parts answer in order between the maps directly before commit k and those directly after it
abbrev pub IsInPlace : (t : MapStore) → (A : Start) → List Entry → (k : ℕ) → MixedParts (image_hash A.world.geometry) t → Type 0
IsInPlace t A es k parts = let G = (world_at A es).history in BothInOrder (image_hash A.world.geometry) t parts (array_at G (k - 1)) (array_at G k)

-- each of the parts answers by the maps of one array
abbrev pub AnswersByOne : (t : MapStore) → (A : Start) → MixedParts (image_hash A.world.geometry) t → Array → Type 0
AnswersByOne t A parts B = BothByMap (image_hash A.world.geometry) t parts B

-- The calls of each commit of the list, made by an end or in a group, answer as one thread's calls on the maps directly before it, and
-- end in those directly after it. Those of a transaction that is live answer so by the maps at its begin; and where it ended without
-- a write, each of them by these maps alone. The stores are well formed at the last commit, so that a later run begins well.
pub record AreCallsInOrderAt (t : MapStore) (A : Start) (es : List Entry) : Type 0 where
  pub by_calls : let W = world_at A es in IsByBoth (image_hash A.world.geometry) t W.geometry W.history (last A.world.history)
  pub commits : (before later : List Entry) (n k : ℕ) (accesses : List Access) → es ≡ before ++ entry.End n accesses (Committed k) ∷ later
      → let W = world_at A before in let H = (world_at A es).history in
      (of : IsOfBoth (image_hash A.world.geometry) t W.history (commit_at W n accesses))
      → BothInOrder (image_hash A.world.geometry) t of.parts (array_at H (k - 1)) (array_at H k)
  pub group_commits : (before later : List Entry) (first others : List MemberEnd) (n k : ℕ) (accesses : List Access)
      → es ≡ before ++ entry.EndGroup (first ++ commits_as n k accesses ∷ others) ∷ later
      → (of : IsOfBoth (image_hash A.world.geometry) t (world_at A before).history (commit_at (world_at A before) n accesses))
      → IsInPlace t A es k of.parts
  pub read_only : (before later : List Entry) (n : ℕ) (accesses : List Access) → es ≡ before ++ entry.End n accesses ReadOnly ∷ later
      → let B = array_at_begin (world_at A before) n in
      (by : AreByCalls t A.world.geometry B accesses) → BothByMap (image_hash A.world.geometry) t by.parts B
  pub group_read_only : (before later : List Entry) (first others : List MemberEnd) (n : ℕ) (accesses : List Access)
      → es ≡ before ++ entry.EndGroup (first ++ ends_bare n accesses ∷ others) ∷ later
      → (by : AreByCalls t A.world.geometry (array_at_begin (world_at A before) n) accesses) → AnswersByOne t A by.parts (array_at_begin (world_at A before) n)
  pub live : (before later : List Entry) (n : ℕ) (accesses : List Access) → es ≡ before ++ later
      → let W = world_at A before in let B = array_at_begin W n in is_live n W.live ≡ true
      → (by : AreByCalls t A.world.geometry B accesses) → BothInOrder (image_hash A.world.geometry) t by.parts B (own B accesses)
  pub well : StoresAreWell t A.world.geometry (world_at A es).history

-- it is so where the stores begin well formed and each commit is by their calls
abbrev pub AnswersWithAt : MapStore → Start → List Entry → Type 0
AnswersWithAt t A es = StoresAreWell t A.world.geometry A.world.history → CommitsAreByCalls t A es → AreCallsInOrderAt t A es

-- of the hash store and the tree store
abbrev pub StoresAnswerAt : Start → List Entry → Type 0
StoresAnswerAt A es = AnswersWithAt (image_tree A.world.geometry) A es

-- of the hash store and the files, where file calls alone write the tree store
abbrev pub FilesAnswerAt : Start → List Entry → Type 0
FilesAnswerAt A es = AnswersWithAt (image_files A.world.geometry) A es
