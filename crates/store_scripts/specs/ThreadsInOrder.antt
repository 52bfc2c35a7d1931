-- The store theorem of clients that run concurrently, by what their lines say, as one word.
use Rattle.std.specs.Prelude.{◌≡◌, ℕ, ◌-◌, true, IsTrue, List, [], ◌∷◌, ◌++◌, Some}
use Rattle.iso_model.specs.{declared.access.EndReply.TheVariants.{Committed, ReadOnly}, declared.access.Geometry.Geometry, declared.access.GroupReply.GroupReply, Effect.own, History.{History, array_at, last}}
use Rattle.iso_model.specs.declared.access.GroupReply.TheVariants as member
use Rattle.script_model.specs.declared.script.Line.{Line}
use Rattle.iso_shared.specs.{declared.entry.Entry.Entry, declared.entry.MemberEnd.MemberEnd, States.{Start, is_live}}
use Rattle.iso_shared.specs.declared.entry.Entry.TheVariants as entry
use Rattle.par_script.specs.{Lines.Own, declared.part.Part.Part}
use Rattle.store_scripts.specs.{EntriesInOrder.{array_at_begin, world_at}, Notes.{Notes, after_line, no_notes, notes_after}, Trace.{Done, Event, IsTrace, Made, Step, entries_in}}
use Rattle.store_laws.specs.Both.{BothWellFormed}
use Rattle.store_scripts.specs.{Kept.{ToldByMap, ToldInOrder}, Stores.{SecondStore, image_hash, second_store, the_files, the_tree}, Told.Told}

-- where a member is told that it is a commit, with its number
abbrev pub WhereCommitted : (ℕ → Type 0) → GroupReply → Type 0
WhereCommitted P (member.Committed k) = P k
WhereCommitted P r = Unit {0}

-- each member of a group that commits, with what is told of it
abbrev pub EachCommit : {T : Type 0} → (ℕ → T → Type 0) → List MemberEnd → List T → Type 0
EachCommit P [] told = Unit {0}
EachCommit P (e ∷ ends) [] = ⊥
EachCommit P (e ∷ ends) (m ∷ told) = WhereCommitted (λ k. P k m) e.reply × EachCommit P ends told

-- each commit that an entry of the client makes, with what is told of its transaction
abbrev pub OfCommits : (S : SecondStore) → (ℕ → Told S → Type 0) → (client : ℕ) → Entry → Notes S → Type 0
OfCommits S P c (entry.End n accesses (Committed k)) N = P k (N.of c)
OfCommits S P c (entry.EndGroup ends) N = EachCommit P ends (N.found c)
OfCommits S P c e N = Unit {0}

-- of each entry of the events, with the notes before it
abbrev pub ThroughCommits : (S : SecondStore) → (ℕ → Told S → Type 0) → Geometry → List Event → Type 0
ThroughCommits S P g events =
    (before later : List Event) (c : ℕ) (e : Entry) → events ≡ before ++ Made c e ∷ later → OfCommits S P c e (notes_after S g (no_notes S) before)

-- each transaction that commits keeps to the stores
abbrev pub CommitsKeep : SecondStore → Geometry → List Event → Type 0
CommitsKeep S g events = ThroughCommits S (λ k told. IsTrue told.kept) g events

-- the calls that are told of each commit answered as one thread's calls on the maps directly before it, which end in those directly
-- after it
abbrev pub CommitsInOrder : SecondStore → Geometry → History → List Event → Type 0
CommitsInOrder S g H events = ThroughCommits S (λ k told. ToldInOrder S g told (array_at H (k - 1)) (array_at H k)) g events

-- each member of a group that ends without a write, by its number, with what is told of it
abbrev pub WhereBare : Type 0 → GroupReply → Type 0
WhereBare P member.ReadOnly = P
WhereBare P r = Unit {0}

abbrev pub EachBare : {T : Type 0} → (ℕ → T → Type 0) → List MemberEnd → List T → Type 0
EachBare P [] told = Unit {0}
EachBare P (e ∷ ends) [] = ⊥
EachBare P (e ∷ ends) (m ∷ told) = WhereBare (P e.number m) e.reply × EachBare P ends told

-- each transaction that an entry of the client ends without a write, by its number, with what is told of it
abbrev pub OfReads : (S : SecondStore) → (ℕ → Told S → Type 0) → (client : ℕ) → Entry → Notes S → Type 0
OfReads S P c (entry.End n accesses ReadOnly) N = P n (N.of c)
OfReads S P c (entry.EndGroup ends) N = EachBare P ends (N.found c)
OfReads S P c e N = Unit {0}

-- each call that is told of a transaction that ended without a write, and keeps to the stores, answered by the maps at its begin
abbrev pub ReadsByMap : SecondStore → Start → List Event → Type 0
ReadsByMap S A events = (before later : List Event) (c : ℕ) (e : Entry) → events ≡ before ++ Made c e ∷ later
    → OfReads S (λ n told. IsTrue told.kept → ToldByMap S A.world.geometry told (array_at_begin (world_at A (entries_in before)) n)) c e (notes_after S A.world.geometry (no_notes S) before)

-- Once a line was answered: the calls that are told of its client's transaction, if that is live and keeps to the stores, answered as one
-- thread's calls on the maps at its begin, which end in those of what it is shown.
abbrev pub LiveInOrder : SecondStore → Start → List Event → Type 0
LiveInOrder S A events = (before later : List Event) (c : ℕ) (s : Step) (t : Own) → events ≡ before ++ Done c s ∷ later → s.after ≡ Some t
    → is_live t.number (world_at A (entries_in before)).live ≡ true → let told = (after_line S A.world.geometry c s (notes_after S A.world.geometry (no_notes S) before)).of c in IsTrue told.kept
    → let B = array_at_begin (world_at A (entries_in before)) t.number in ToldInOrder S A.world.geometry told B (own B t.accesses)

-- the calls that are told of commits, of transactions that wrote nothing, and of those that are live
pub record AreInOrder (S : SecondStore) (A : Start) (E : List Entry) (events : List Event) : Type 0 where
  pub commits : CommitsInOrder S A.world.geometry (world_at A E).history events
  pub read_only : ReadsByMap S A events
  pub live : LiveInOrder S A events

-- Where the device tells its bytes, a store and the hash store begin well formed, and each commit of the events keeps to them, the calls
-- that are told answer so.
abbrev pub CallsAnswer : SecondStore → Start → List Entry → List Event → Type 0
CallsAnswer S A E events =
    let g = A.world.geometry in
    A.tells ≡ true → BothWellFormed (image_hash g) (second_store S g) (array_at A.world.history (last A.world.history)) → CommitsKeep S g events → AreInOrder S A E events

-- The lines of the clients stand with their entries in one order, so that what they tell of a transaction goes with it from client
-- to client; and in each such order the calls that they tell answer so, of the tree store and of the files.
pub record LinesTellCalls (A : Start) (lines : List (ℕ × Line)) (parts : List Part) (E : List Entry) : Type 0 where
  pub events : List Event
  pub trace : IsTrace A lines parts E events
  pub tree : (order : List Event) → IsTrace A lines parts E order → CallsAnswer the_tree A E order
  pub files : (order : List Event) → IsTrace A lines parts E order → CallsAnswer the_files A E order
