-- The words that the proofs of this crate cite from elsewhere.
pub use Rattle.std.{proofs.Common.{Bool, Err, IfOk, IfSome, IsErrOf, IsSome, IsTrue, List, None, Ok, Option, Result, Some, ap, append-nil, append_assoc, arith, cond, false, filter, inl, inr, length, length-append, refl, subst, suc, sym, take, true, ℕ, [], ⊎_elim, ◌*◌, ◌++◌, ◌+◌, ◌-◌, ◌<◌, ◌==◌, ◌||◌, ◌∙◌, ◌∷◌, ◌≡◌, ◌≢◌, ◌≤◌, ◌⊎◌}, proofs.Math.Seq.take-append-add, proofs.lemmas.Option.same_Some, specs.Io.KnownBytes.append_known, specs.List.{AllByRecursion, list_any}, specs.Option.ForSome, specs.Prelude.{codes, option_map}}
pub use Rattle.iso_top.specs.{Begun.{HasCore, HasNoCore}, Clients.{HasRunClients, HasRunNone, PrintedClients, ShowsBehind, ShowsState, WereRun}, Founded.BeginsWith, Outcome.{HasAnswered, HasBegun, HasBenched, HasMet, HasNotBegun, HasRecovered, IsAccepted, IsGoodInput, IsStatus, PrintedBench, PrintedDigest, PrintedEnd, PrintedLine, PrintedResult, summary_of}, Prints.{Printed, SinkFailed, WasCut, WroteWhole}, Ran.{HasClosed, HasRunLines, PutOf}, Starts.{GoesOnTelling, IsUntouched, MayBeUnmade, OpensTo, TellsNamed, WasBoundOnce}, Texts.{bench_text_of, disk_fault_text, end_status, error_status, error_text, memory_text, recover_text, script_error_status, script_error_text}, contracts.opened.Opened.the_row, contracts.opened.world_of.{clauses, ended}, contracts.opened.world_of.Key.{name as #self}, declared.digest.DigestError.DigestError, declared.opened.Opened.Opened}
pub use Rattle.bench_script.specs.{Ends.{DigestedState, DrawnState, digested_state, drawn_state}}
pub use Rattle.command_line.specs.{Requests.made_geometry, declared.task.Task.Task, declared.task.Task.TheVariants.{Bench, New, Par, Recover, Run}}
pub use Rattle.counts.specs.Count.{Rose}
pub use Rattle.iso_core.specs.{Core.{StandsFor, disk_of}, Standing.up, declared.answers.Stat.Stat, declared.core_itself.Core.Core}
pub use Rattle.iso_disk.{proofs.Moments.{joined, lasts, since_bind, still_bound, weakened}, proofs.Told.told_same, specs.Disk.{DiskState, IsBoundTo, IsLawful, IsSettled, LeavesOnly, StaysTold, WritesNothing}, specs.declared.disk.Disk.Ghosts}
pub use Rattle.iso_image.{proofs.Histories.half_shows, proofs.SmallImages.with_piece, specs.Refusal.refusal, specs.declared.open_error.OpenError.OpenError}
pub use Rattle.iso_io.{proofs.Told.append_known-append, specs.Sink.{CountsStand, SinkState, Wrote}, specs.Source.SourceState}
pub use Rattle.iso_machine.specs.{Shown.shows, Standing.IsMachineOf}
pub use Rattle.iso_model.{proofs.FreshWorlds.empty_world_is, specs.Between.ShowsBetween, specs.Geometry.is_valid, specs.History.{History, array_at, last}, specs.World.{World, empty_history, fresh}, specs.Worlds.{IsWorld, LeadsTo}, specs.declared.access.Commit.Commit, specs.declared.access.Geometry.Geometry, specs.declared.access.Mode.Mode}
pub use Rattle.iso_recover.specs.{Cause.{IsBlamed, IsTest}, Made.IsUnmadeOrEmpty, Opened.HasOpened}
unfoldable pub use Rattle.iso_image.proofs.{SmallImages.{blank, one_commit}, RefusalWords.{fault_of, half_of, parts_fault, put, super_of}}
pub use Rattle.iso_shared.{proofs.Growing.{between_grown, grows_all}, proofs.Standings.came_first, specs.Legal.{Fits, LegalFrom, MayRefuse}, specs.Ports.{port_moments, port_view}, specs.Standing.{Came, HaveEnded, Holds, standing_of, start_at, whole}, specs.States.{Start, State, after_all, after_fault, after_refusal, opened, state_at}, specs.declared.entry.Call.Call, specs.declared.entry.Cause.Cause, specs.declared.entry.Entry.Entry}
pub use Rattle.par_lines.specs.{Ends.{Ends, HasEnded, status_of, stopped, wants}, declared.par.ParEnd.ParEnd}
pub use Rattle.par_script.specs.{Lines.{Aborts, Begins, CallsStore, ClientLines, Compacts, Did, Does, EndsNow, EndsThen, Fetches, GroupEnds, Groups, Looks, LooksFor, Own, Posts, Reads, Says, Stats, StopsAtLast, StopsBy, Trims, Upgrades, Where, WhereShown, fetches as all_fetches, refused, refused_fetch}, Output.{IsFront, IsOutput}, Told.{Told, entries_of, lines_run}, declared.part.Part.Part}
pub use Rattle.script_model.{proofs.ScriptBytes.script_lines, proofs.Small.{answers, text}, specs.Bench.{answers_to, array_bytes, bench_geometry, bench_output, bench_text, bench_world, is_committed, is_conflict, recover_output}, specs.Operations.AreLines, specs.Script.{Script, after, replies, script}, specs.declared.script.BadLine.BadLine, specs.declared.script.Line.Line, specs.declared.script.Op.Op, specs.declared.script.Reply.Reply, specs.declared.stop.Stop.Stop}
unfoldable pub use Rattle.script_model.proofs.Words.{begin_step, digits, get_step, number_of, numbers, operation_of, other_operation, reply_text, runs, step, versions, words_of}
pub use Rattle.script_runner.{proofs.Histories.{between_on, shows_last}, proofs.Replying.plain_same, proofs.Steps.all_first, specs.Read.{HasNoLines, HasRead}, specs.Replies.{AreSameButShown, text_of}, specs.Run.{AreFirst, AreLinesOf, HasRun, IfUp}, specs.Told.{ArePlain, IsPlain}, specs.declared.lines.ScriptError.ScriptError, specs.declared.run_end.RunEnd.RunEnd}
pub use Rattle.sha2.specs.Sha256.{sha256}
pub use Rattle.store_scripts.{proofs.{Listed.{files_answer_at, stores_answer_at}, Tracing.lines_tell}}
pub use Rattle.store_scripts.{proofs.Whole.{files_answer, stores_answer}}
pub use seplogic.Ra.Ura.{Ura}
pub use mir.{MapTy.inst_fn, Syntax.{Dict, Fn, a_type, dcons, dnil}, Val.{Val, vnil, vptr, vstruct}}
pub use base.{Fml.Fml, Logic.{SProp, ent, fst∗, snd∗, via}}
pub use prog.{Memory.Memory, Routine.Routine, Wp.{Calls, Loops, Tables, WpFn}}
pub use types.{ByLocal.{alloc_all, free_all, look_at, pass_all, sets}, Kit.{done, fjoin, join, keep, move, qed, raw, split, suffices, use0, !, ‵, ◌$◌, ◌∵◌, ◌⊛◌}, Logic.{Logic, sem}, Part.agg, Run.{enter, no_more, returns}}
pub use contract.{BorrowLft.◌⊑◌, Lifetimes.lft_at, Monad.{Fun, fact, fact_use}, Running.tables}
unfoldable pub use contract.Running.{tables_of}
pub use sound.WpLaws.{WpFn-mono}
pub use denote.{Builtin.RefOf, Exit.yes, Laws.{Are, Ises, owns_show, showss}, Param.{bounded, param}, Param.Laws.Laws, RattleType.{RattleType, owns}, Shadow.makes_shadow, Signature.{plain, type_at, types_at}, Steps.{heard, nothing}, Triple.Clauses.{Clauses, closing}, Triple.Entry.{alive, on_entry}, Triple.Spec.{Meets, triple_of}, Triple.Table.entered, Triple.Walked.{Goes-dropped, Stays, ends_at, says, stay_dropped, walk_Meets, walk_of}}
