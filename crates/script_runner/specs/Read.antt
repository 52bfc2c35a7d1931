-- What reading a whole script has done.
use Rattle.std.specs.Prelude.{◌≡◌, ℕ, List, Some, None, IfSome}
use Rattle.counts.specs.Count.{Rose}
use Rattle.iso_io.specs.Source.{MetEnd, SourceState, Took}
use Rattle.script_model.specs.{declared.script.BadLine.BadLine, declared.script.Line.Line, Script.script}
use Rattle.script_runner.specs.declared.lines.ScriptError.{ScriptError}
use Rattle.script_runner.specs.declared.lines.ScriptError.TheVariants as error

-- The input was read to its end. It has these lines, and no bad one.
pub record HasRead (old new : SourceState) (lines : List (ℕ × Line)) : Type 0 where
  pub bytes : List ℕ
  pub took : Took old new bytes
  pub ended : MetEnd old new bytes
  pub lines_are : script bytes ≡ record { lines = lines; bad = None }
  pub passed : new.faults ≡ old.faults

-- The input has this bad line first.
pub record HasBadLine (old new : SourceState) (bad : BadLine) : Type 0 where
  pub bytes : List ℕ
  pub took : Took old new bytes
  pub bad_is : (script bytes).bad ≡ Some bad
  pub told : IfSome old.rest (λ all. (script all).bad ≡ Some bad)
  pub passed : new.faults ≡ old.faults

-- why no line of the input is run
abbrev pub HasNoLines : SourceState → SourceState → ScriptError → Type 0
HasNoLines old new (error.BadLine bad) = HasBadLine old new bad
HasNoLines old new error.Input = Rose old.faults new.faults
HasNoLines old new error.Memory = new.faults ≡ old.faults
