-- One order of the lines of all clients and of their entries.
use Rattle.std.specs.{Prelude.{◌≡◌, ℕ, ◌==◌, Bool, cond, List, [], ◌∷◌, ◌++◌, Option, Some, None, Ok, true}, List.{AllByRecursion, list_any}}
use Rattle.iso_model.specs.declared.access.Geometry.{Geometry}
use Rattle.script_model.specs.{declared.script.Line.Line, declared.script.Reply.Reply}
use Rattle.iso_shared.specs.{declared.entry.Entry.Entry, States.{Start, members_of}}
use Rattle.iso_shared.specs.declared.entry.Entry.TheVariants as entry
use Rattle.par_script.specs.{Lines.{Did, Own, members_for}, Told.{FoundSome, lines_run}, declared.part.Part.Part}

-- a line that was answered, with the transaction of its client before it and after it
pub record Step : Type 0 where
  pub line : ℕ × Line
  pub reply : Reply
  pub before : Option Own
  pub after : Option Own

-- a client made an entry, or was answered a line
pub data Event : Type 0 where
  Made : (client : ℕ) → (e : Entry) → Event
  Done : (client : ℕ) → (step : Step) → Event

-- the entries
abbrev pub entries_in : List Event → List Entry
entries_in [] = []
entries_in (Made c e ∷ events) = e ∷ entries_in events
entries_in (Done c s ∷ events) = entries_in events

-- the lines that were answered, and the replies with their numbers
abbrev pub lines_in : List Event → List (ℕ × Line)
lines_in [] = []
lines_in (Made c e ∷ events) = lines_in events
lines_in (Done c s ∷ events) = s.line ∷ lines_in events

abbrev pub told_in : List Event → List (ℕ × Reply)
told_in [] = []
told_in (Made c e ∷ events) = told_in events
told_in (Done c s ∷ events) = (s.line.0, s.reply) ∷ told_in events

abbrev pub client_of : Event → ℕ
client_of (Made c e) = c
client_of (Done c s) = c

-- the events of one client
abbrev pub events_of : (client : ℕ) → List Event → List Event
events_of c [] = []
events_of c (e ∷ events) = cond (client_of e == c) (e ∷ events_of c events) (events_of c events)

-- the transactions that the looks among entries found
abbrev pub found_in : List Entry → List Own
found_in [] = []
found_in (entry.Look label (Some t) ∷ es) = t ∷ found_in es
found_in (e ∷ es) = found_in es

-- what holds of the client's own transaction, which it has
abbrev pub OfOwn : Option Own → (Own → Type 0) → Type 0
OfOwn None P = ⊥
OfOwn (Some t) P = P t

-- an entry that fetches for a transaction, posts it or ends it is of the client's own, with its accesses; a group has the members
-- that its looks found
abbrev pub IsOfOwn : Option Own → (made : List Entry) → Entry → Type 0
IsOfOwn own made (entry.Fetch n block bytes) = OfOwn own (λ t. n ≡ t.number)
IsOfOwn own made (entry.Post n label accesses) = OfOwn own (λ t. (n ≡ t.number) × (accesses ≡ t.accesses))
IsOfOwn own made (entry.End n accesses reply) = OfOwn own (λ t. (n ≡ t.number) × (accesses ≡ t.accesses))
IsOfOwn own made (entry.EndGroup ends) = members_of ends ≡ members_for (found_in made)
IsOfOwn own made (entry.Sweep found) = ⊥
IsOfOwn own made e = Unit {0}

-- The events of one client, whose transaction is own, and whose line has made these entries so far: each line is answered by the
-- entries directly before it, and the next one begins with the transaction that it left.
abbrev pub Runs : Geometry → (tells : Bool) → Option Own → (made : List Entry) → List Event → Type 0
Runs g tells own made [] = Unit {0}
Runs g tells own made (Made c e ∷ events) = IsOfOwn own made e × Runs g tells own (made ++ e ∷ []) events
Runs g tells own made (Done c s ∷ events) = (s.before ≡ own) × Did g tells own s.line.1.op made (Ok s.reply) s.after × Runs g tells s.after [] events

-- the events of a client are those of the lines that it ran, up to the one at which it stopped, with what it was told
pub record IsOfPart (g : Geometry) (tells : Bool) (lines : List (ℕ × Line)) (p : Part) (events : List Event) : Type 0 where
  pub told : told_in events ≡ p.told
  pub unanswered : List (ℕ × Line)
  pub ran : lines_in events ++ unanswered ≡ lines_run lines p
  pub runs : Runs g tells None [] events

-- the client is one of those that were told something
abbrev pub IsOneOf : List Part → (client : ℕ) → Type 0
IsOneOf parts c = list_any (λ p. p.client == c) parts ≡ true

-- One order of all lines and entries of the clients: its entries are those of the list but for the sweeps at the end, and each
-- client has its own lines and entries in it, in their order.
pub record IsTrace (A : Start) (lines : List (ℕ × Line)) (parts : List Part) (E : List Entry) (events : List Event) : Type 0 where
  pub swept : List Entry
  pub found : AllByRecursion FoundSome swept
  pub are : E ≡ entries_in events ++ swept ++ entry.Sweep None ∷ []
  pub owned : AllByRecursion (λ e. IsOneOf parts (client_of e)) events
  pub each : (c : ℕ) → Runs A.world.geometry A.tells None [] (events_of c events)
  pub of : AllByRecursion (λ p. IsOfPart A.world.geometry A.tells lines p (events_of p.client events)) parts
