-- What a step of the parser answers.
use Rattle.std.specs.Prelude.{◌≡◌, ℕ, List, [], ◌∷◌, ◌++◌, Result, Ok, Err}
use Rattle.script_model.specs.{Script.{◌>>=◌, operation_of}, Text.words_of, declared.script.Op.Op, declared.script.Parsed.Parsed, declared.script.Parsed.TheVariants.{Line as Says}, declared.script.LineError.LineError, declared.script.LineError.TheVariants.{Cause, Memory}}

-- the definition fails by that cause, or memory ran out
abbrev pub Fails : {X : Type 0} → LineError → Result X ℕ → Type 0
Fails (Cause cause) defined = defined ≡ Err cause
Fails Memory defined = Unit {0}

-- the value that is defined, or the cause that is defined, unless memory ran out
abbrev pub Gives : {X : Type 0} → Result X LineError → Result X ℕ → Type 0
Gives (Ok x) defined = defined ≡ Ok x
Gives (Err error) defined = Fails error defined

-- what a step gives that leaves it in a place
abbrev pub placed : {X : Type 0} → Result (Unit {0}) LineError → X → Result X LineError
placed (Ok done) x = Ok x
placed (Err error) x = Err error

-- the items that are defined, after those that were there, or the cause that is defined, unless memory ran out
abbrev pub GivesBehind : {X : Type 0} → Result (Unit {0}) LineError → Result (List X) ℕ → (old new : List X) → Type 0
GivesBehind {X = X} (Ok done) defined old new = (more : List X) × (defined ≡ Ok more) × (new ≡ old ++ more)
GivesBehind (Err error) defined old new = Fails error defined

-- an operation as what a line of this client says
abbrev pub said_by : (client : ℕ) → Result Op ℕ → Result Parsed ℕ
said_by client defined = do
  op ← defined
  Ok (Says (record { client = client; op = op }))

-- a line of this client is put in a place, with the operation that the words of a text are the arguments of
abbrev pub Places : Result (Unit {0}) LineError → (place : Parsed) → (client : ℕ) → (List (List ℕ) → Result Op ℕ) → (text : List ℕ) → Type 0
Places result place client arguments text = Gives (placed result place) (said_by client (arguments (words_of text)))

-- what the words after this client say
abbrev pub said_behind : (client : ℕ) → List (List ℕ) → Result Parsed ℕ
said_behind client [] = Err 2
said_behind client (name ∷ arguments) = said_by client (operation_of name arguments)
