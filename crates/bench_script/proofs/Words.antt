-- The words that the proofs of this crate cite from elsewhere.
pub use Rattle.std.{proofs.Common.{Bool, List, None, Ok, Option, Result, Some, ap, append-nil, append_assoc, arith, codes, cond, decimal, drop, false, get_or, if◌then◌else◌, inr, length, length-append, length-drop, min, nat_eq, nat_le, nat_lt, not, refl, slice_index, subst, suc, sum_by, sym, take, true, zero, ℕ, [], ◌%◌, ◌&&◌, ◌*◌, ◌++◌, ◌+◌, ◌-◌, ◌/◌, ◌<◌, ◌==◌, ◌||◌, ◌∙◌, ◌∷◌, ◌≡◌, ◌≢◌, ◌≤◌}, proofs.Math.ListN.drop_of_length-le, proofs.Math.Seq.{drop-append-add, get_or-append_seam}, proofs.lemmas.Bool.{and_from, and_parts, cond-false, eq-eqb, eqb-false, eqb-true, le-leb, le-ltb, leb-true, lt-leb, lt-ltb, ltb-true, ne_eqb}, proofs.lemmas.Fmt.{decimal_digit, length-decimal-le}, proofs.lemmas.List.{drop-drop, drop_all, take-append-drop, take_all}, proofs.lemmas.List.Elements.Contains-append_right, proofs.lemmas.List.Folds.list_all-append, proofs.lemmas.List.Sums.sum_by-append, proofs.lemmas.Option.{get_or_from_slice_get, slice_get-get_or, slice_get_within}, specs.Cmp.Lexicographic.pointwise, specs.Fmt.{digit_glyph, digits_onto}, specs.List.{AllByRecursion, list_all}, specs.Prelude.{Contains, filter, flat_map}}
unfoldable pub use Rattle.std.specs.Fmt.{digits}
pub use Rattle.iso_model.{proofs.Clashes.{least_is_clash, some_clash}, proofs.Lookups.value_runs, proofs.Maximal.are_runs, proofs.Unique.same_runs, specs.Array.Array, specs.Conflict.{IsClash, clash_from}, specs.Effect.{effect_at, has_write, or_else, record_length, touches}, specs.History.{History, last}, specs.Premises.{AreBytes, value_in}, specs.Step.{after_begin, after_commit, after_leaving, commit_from, get_access, mode_named, need, put_access, shown_to}, specs.World.{Live, World, client, empty_history, used, with, without}, specs.declared.access.Access.Access, specs.declared.access.Clash.Clash, specs.declared.access.Commit.Commit, specs.declared.access.GroupReply.GroupReply, specs.declared.access.Kind.TheVariants.{Read, Write}, specs.declared.access.Mode.TheVariants.Serial, specs.declared.access.Run.Run, specs.declared.limits.TheConstants.{LAST, MAX_ACCESSES, MAX_INPUT, MAX_LINE}}
unfoldable pub use Rattle.iso_model.specs.{Conflict.clash, Effect.runs, Step.{begin_step, commit_step, end_step}}
pub use Rattle.script_model.specs.{Bench.{after_draws, answers_to, bench_geometry, bench_world, drawn_round, is_committed, is_conflict, nth_drawn, round_text, tells_first}, CoreReplies.as_step, Script.{Script, after, before_script, is_printable, replies, script_from, without_return}, Step.{access_step, in_transaction, out_of_transaction, with_access}, Text.{dashed, digit_of, hex_text, labels_text, pair_text, pieces, reply_line}, declared.script.Line.Line, declared.script.Op.Op, declared.script.Op.TheVariants.{Begin, End, Get, Put}, declared.script.Parsed.Parsed, declared.script.Parsed.TheVariants.{Line as Says}, declared.script.Reply.Reply, declared.script.Reply.TheVariants.{BadBlock, BadKey, BadName, BadRange, BadValue, Began, Broken, Committed, Compacted, Conflict, Done, Exists, Found, Grouped, InTx, LabelTaken, LogFull, Missing, ModeFixed, NoAccess, NoBlocks, NoHandle, NoStore, NotInTx, Numbers, Pairs, ReadOnly, Shown, StoreMode, TooManyAccesses, TooManyMarks, TooManyTx, Trimmed, Upgraded, Worn}}
unfoldable pub use Rattle.script_model.specs.{Bench.bench_text, Script.{parse_whole, script}, Step.{get_step, put_step, step}, Text.{label_text, reply_text}}
pub use Rattle.script_runner.{proofs.Feeds.{no_feed-cons, no_feed-nil}, proofs.Fronts.script-line, specs.Replies.{AreSameButShown, text_of}, specs.Run.HasNoFeed, specs.Told.{ArePlain, SameButShown}}
pub use Rattle.script_text.{proofs.Numerals.{IsWord, decimal_word, hex_word}, proofs.Readings.parse-printed, proofs.Spaces.{AreWords, spaced_printable}, specs.Spelling.{AreSome, IsLine, line_words}}
unfoldable pub use Rattle.script_text.specs.Spelling.{line_text}
pub use Rattle.sha2.specs.{Hashers.Holds256, declared.Sha256.Sha256}
pub use seplogic.Ra.Ura.{Ura}
pub use mir.{Syntax.Fn, Val.{Val, vnil, vptr, vstruct}}
pub use types.{ByLocal.{alloc_all, free_all, look_at, pass_all, sets}, Kit.{Goal, Item, Step, done, feq_i, feq_l, fjoin, fpack, fsplit, keep, move, prop, qed, raw, regoal, split, suffices, !, ‵, ◌$◌, ◌∵◌, ◌⊛◌}, Logic.Logic, Part.agg, Run.{enter, no_more, returns}}
pub use denote.{Builtin.RefOf, Exit.yes, RattleType.{RattleType, Valss, owns}, Signature.{named_lft, plain, types_at}, Steps.nothing, Struct.Struct.{Struct, within}, Triple.Clauses.{Clauses, Ended, closing}, Triple.Entry.alive, Triple.Spec.{Meets, triple_of}, Triple.Table.entered, Triple.Walked.{Goes-dropped, Stays, ends_at, says, stay_dropped, walk_Meets, walk_of}}
pub use base.Logic.{SProp, ent}
pub use prog.{Memory.Memory, Routine.Routine, Wp.{Calls, Loops, Tables, WpFn}}
pub use contract.{Monad.Fun, Running.tables}
unfoldable pub use contract.Running.{tables_of}
pub use sound.WpLaws.{WpFn-mono}
pub use Rattle.bench_script.specs.{Counts.IsFed, Ends.{DigestedState, DrawnState}, Rounds.{AreRoundReplies, is_one_place, last_after, one_places}, contracts.taken.Taken.nothing.Key.{name as #self}}
