-- The words that the proofs of a script that is read whole cite from elsewhere.
pub use Rattle.std.{proofs.Common.{Bool, Err, IfSome, List, None, Ok, Option, Result, Some, ap, append_assoc, arith, cond, false, length, length-append, nat_le, nat_lt, refl, subst, sym, take, true, ℕ, [], ◌++◌, ◌+◌, ◌<◌, ◌∙◌, ◌∷◌, ◌≡◌, ◌≤◌}, proofs.lemmas.Bool.le-leb, proofs.lemmas.Bool.Decides.nat_tests, proofs.lemmas.List.{take-append-le, take_all}, specs.Io.KnownBytes.prepend_known}
pub use Rattle.iso_io.specs.Source.{MetEnd, SourceState, Took}
pub use Rattle.iso_model.specs.declared.limits.TheConstants.{MAX_INPUT, MAX_LINE}
pub use Rattle.script_model.specs.{Script.{Script, bad_line, before_script, last_piece, no_lines, parse_whole, script_from}, Text.{is_empty, pieces}, declared.script.BadLine.BadLine, declared.script.Line.Line, declared.script.LineError.LineError, declared.script.Parsed.Parsed}
unfoldable pub use Rattle.script_model.specs.Script.{parse, script}
pub use Rattle.script_runner.{proofs.Feeds.one_piece, proofs.Fronts.{says-more, script-line}, specs.Lines.{SaysFirst, behind}, specs.Parts.{Adds, IsWhyOf, Stops}, specs.Read.HasNoLines, specs.Run.HasNoFeed, specs.declared.lines.ScriptError.ScriptError}
pub use Rattle.script_text.specs.Parsing.{Gives}
