-- How the lines of a script are gathered.
use Rattle.std.specs.Prelude.{◌≡◌, ℕ, List, ◌++◌, Some, Result, Ok, Err}
use Rattle.script_model.specs.{declared.script.Line.Line, declared.script.LineError.LineError, declared.script.Parsed.Parsed, Script.Script}
use Rattle.script_model.specs.declared.script.LineError.TheVariants as line
use Rattle.script_runner.specs.{Lines.lines_of, declared.lines.ScriptError.ScriptError}
use Rattle.script_runner.specs.declared.lines.ScriptError.TheVariants as error

-- what a line says comes after these lines
abbrev pub Adds : (number : ℕ) → Result Parsed LineError → (old new : List (ℕ × Line)) → Type 0
Adds number (Ok parsed) old new = new ≡ old ++ lines_of number parsed
Adds number (Err e) old new = ⊥

-- a line is bad, or memory is wanting for it
abbrev pub Stops : (number : ℕ) → Result Parsed LineError → ScriptError → Type 0
Stops number (Ok parsed) e = e ≡ error.Memory
Stops number (Err (line.Cause cause)) e = e ≡ error.BadLine (record { line = number; cause = cause })
Stops number (Err line.Memory) e = e ≡ error.Memory

-- why the lines of this script are not run, once it is read
abbrev pub IsWhyOf : Script → ScriptError → Type 0
IsWhyOf S (error.BadLine bad) = S.bad ≡ Some bad
IsWhyOf S error.Input = ⊥
IsWhyOf S error.Memory = Unit {0}
