-- What all clients of a run were told, as one legal list.
use Rattle.std.specs.{Prelude.{◌≡◌, ℕ, ◌+◌, ◌==◌, true, Bool, cond, List, [], ◌∷◌, ◌++◌, Some, None, filter, is_some, length, map, take}, List.{AllByRecursion, list_any, range_with_len}}
use Rattle.script_model.specs.declared.script.Line.{Line}
use Rattle.iso_shared.specs.{declared.entry.Entry.Entry, Legal.IsLegal, States.Start}
use Rattle.iso_shared.specs.declared.entry.Entry.TheVariants as entry
use Rattle.par_script.specs.{Lines.ClientLines, declared.part.Part.Part}

-- the lines of a client, in their order
abbrev pub lines_of : (client : ℕ) → List (ℕ × Line) → List (ℕ × Line)
lines_of client lines = filter (λ l. l.1.client == client) lines

abbrev pub has_line : List (ℕ × Line) → (client : ℕ) → Bool
has_line lines client = list_any (λ l. l.1.client == client) lines

-- the clients that have a line, in rising number
abbrev pub clients_in : List (ℕ × Line) → List ℕ
clients_in lines = filter (has_line lines) (range_with_len 1 64)

-- the lines that the client ran: all of its lines, or those up to the one at which it stopped
abbrev pub lines_run : List (ℕ × Line) → Part → List (ℕ × Line)
lines_run lines p = cond (is_some p.stop) (take (length p.told + 1) (lines_of p.client lines)) (lines_of p.client lines)

-- of these entries, each with its client, those of the one client
abbrev pub entries_of : (client : ℕ) → (owners : List ℕ) → List Entry → List Entry
entries_of client [] es = []
entries_of client (owner ∷ owners) [] = []
entries_of client (owner ∷ owners) (e ∷ es) = cond (owner == client) (e ∷ entries_of client owners es) (entries_of client owners es)

-- a sweep that found a transaction
abbrev pub FoundSome : Entry → Type 0
FoundSome (entry.Sweep (Some n)) = Unit {0}
FoundSome e = ⊥

-- The list is legal. Its last entries are sweeps, up to the first that finds none, and each other one is one client's. Each
-- client was told the replies to its lines by its own entries.
pub record Told (A : Start) (lines : List (ℕ × Line)) (parts : List Part) (E : List Entry) : Type 0 where
  pub legal : IsLegal A E
  pub made : List Entry
  pub swept : List Entry
  pub found : AllByRecursion FoundSome swept
  pub are : E ≡ made ++ swept ++ entry.Sweep None ∷ []
  -- the client of each entry
  pub owners : List ℕ
  pub each : length owners ≡ length made
  pub clients : map (λ p. p.client) parts ≡ clients_in lines
  pub owned : AllByRecursion (λ owner. list_any (λ p. p.client == owner) parts ≡ true) owners
  pub told : AllByRecursion (λ p. ClientLines A.world.geometry A.tells (lines_run lines p) p.told p.stop (entries_of p.client owners made)) parts
