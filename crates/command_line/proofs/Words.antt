-- The words that the proofs of this crate cite from elsewhere.
pub use Rattle.std.{proofs.Common.{Bool, List, None, Option, Some, ap, ap₂, arith, codes, false, inl, inr, length, refl, rules, subst, sym, tests, true, ℕ, [], ◌&&◌, ◌*◌, ◌++◌, ◌+◌, ◌-◌, ◌<◌, ◌^◌, ◌||◌, ◌∙◌, ◌∷◌, ◌≡◌, ◌≢◌, ◌≤◌}, proofs.lemmas.Bool.{cond-false, cond-true, le-leb, lt-ltb}, proofs.lemmas.Iterator.YieldsList-from_slice, proofs.lemmas.Iterator.Search.all_from_yields_List, proofs.lemmas.Result.IfOk-weaker, proofs.lemmas.Str.Parse.{IsNumeralModel, numerals_by_fold, parse_digits}, specs.List.list_all, specs.Prelude.{Err, IsFalse, IsTrue, Ok, Result, fold, nat_le, nat_lt, option_and_then, option_map}, specs.Result.{OkIff, result_ok}, specs.Str.Parse.ParsesUnsigned}
unfoldable pub use Rattle.clap.proofs.OnLiterals.{clap_on_literals}
pub use Rattle.clap.{proofs.WalkLemmas.first_value-rows, specs.Simple.app_of_fields, specs.Words.{App, HasKind, HasMatchesOf, IsAmong, Kinds, Row, Text, app_of, fault_of, first_of, first_value, found_of, is_simple, is_simple_and_free, kind_of, rows_of, subcommand_of, subcommand_rows_of, with_rule, with_subcommand}, specs.declared.error.Error.Error, specs.declared.error.kind.ErrorKind.ErrorKind, specs.declared.error.kind.ErrorKind.TheVariants.OutOfMemory, specs.declared.parser.matches.ArgMatches.ArgMatches}
unfoldable pub use Rattle.iso_model.specs.Geometry.{is_valid}
pub use Rattle.iso_model.specs.{Labels.is_digit, declared.access.Geometry.Geometry, declared.access.Mode.Mode}
pub use Rattle.script_model.specs.Text.{is_decimal, mode_of, value_of}
unfoldable pub use Rattle.script_model.specs.Text.{number_of, words_of}
pub use Rattle.script_text.proofs.WordLemmas.{is_decimal-by_all}
pub use Rattle.command_line.specs.{Grammar.{bare_app, isotope_app, texts, unless_refused, with_required}, Requests.{for_image, geometry_with, if_valid}, Values.{begins_with_hyphen, count_of}, declared.task.Task.TheVariants.{Bench, New, Par, Recover, Run}}
unfoldable pub use Rattle.command_line.specs.{Grammar.rows_found, Requests.{geometry_of, request_of, task_of}, Values.long_number_of}
