-- What the lines of clients and their replies tell of the calls of each transaction, as a look hands it on.
use Rattle.std.specs.{Prelude.{ℕ, ◌==◌, cond, List, [], ◌∷◌, ◌++◌, Option, Some, None, bytes_eq}, Map.{lookup, remove_entry}}
use Rattle.iso_model.specs.{declared.access.Access.Access, declared.access.Geometry.Geometry}
use Rattle.iso_shared.specs.declared.entry.Entry.{Entry}
use Rattle.iso_shared.specs.declared.entry.Entry.TheVariants as entry
use Rattle.par_script.specs.Lines.{Own}
use Rattle.store_scripts.specs.{Stores.SecondStore, Told.{Told, nothing_told, told_more}}
use Rattle.store_scripts.specs.Trace.{Event, Made, Done, Step}

-- What is told of the transaction of each client, of those under labels, the one first that was posted first, and of those that
-- the looks of a client's line have found so far.
pub record Notes (S : SecondStore) : Type 0 where
  pub of : ℕ → Told S
  pub posted : List (List ℕ × Told S)
  pub found : ℕ → List (Told S)

abbrev pub no_notes : (S : SecondStore) → Notes S
no_notes S = record { of = λ c. nothing_told S; posted = []; found = λ c. [] }

abbrev pub put_at : {X : Type 0} → (client : ℕ) → X → (ℕ → X) → ℕ → X
put_at c x f = λ d. cond (d == c) x (f d)

abbrev pub if_some : {X : Type 0} → Option X → List X
if_some None = []
if_some (Some x) = x ∷ []

-- after an entry of a client: a post puts what is told of its transaction under the label, and a look takes it from there
abbrev pub after_entry : (S : SecondStore) → (client : ℕ) → Entry → Notes S → Notes S
after_entry S c (entry.Post n label accesses) N = record N { posted = N.posted ++ (label, N.of c) ∷ [] }
after_entry S c (entry.Look label found) N = record {
  of = N.of;
  posted = remove_entry (bytes_eq label) N.posted;
  found = put_at c (N.found c ++ if_some (lookup (bytes_eq label) N.posted)) N.found;
}
after_entry S c e N = N

-- nothing is told of a transaction that begins, and of one that a look found what is told of that
abbrev pub first_or_nothing : (S : SecondStore) → List (Told S) → Told S
first_or_nothing S [] = nothing_told S
first_or_nothing S (m ∷ found) = m

abbrev pub own_accesses : Option Own → List Access
own_accesses None = []
own_accesses (Some t) = t.accesses

-- what is told of a client's transaction after its line, by what is told of it before and of those that its looks found
abbrev pub told_by : (S : SecondStore) → Geometry → Option Own → Step → Told S → List (Told S) → Told S
told_by S g None s told found = first_or_nothing S found
told_by S g (Some t) s told found = told_more S g s.line.1.op s.reply t.accesses (own_accesses s.after) told (S.answered s.line.1.op s.reply)

abbrev pub after_line : (S : SecondStore) → Geometry → (client : ℕ) → Step → Notes S → Notes S
after_line S g c s N = record {
  of = put_at c (told_by S g s.before s (N.of c) (N.found c)) N.of;
  posted = N.posted;
  found = put_at c [] N.found;
}

abbrev pub notes_after : (S : SecondStore) → Geometry → Notes S → List Event → Notes S
notes_after S g N [] = N
notes_after S g N (Made c e ∷ events) = notes_after S g (after_entry S c e N) events
notes_after S g N (Done c s ∷ events) = notes_after S g (after_line S g c s N) events
