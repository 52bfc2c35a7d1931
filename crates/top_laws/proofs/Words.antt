-- The words that the proofs of this crate cite from elsewhere.
pub use Rattle.std.{proofs.Common.{Bool, IfSome, IsSome, List, None, Option, Some, ap, append_assoc, arith, drop, filter, inl, inr, length, refl, subst, sym, take, ℕ, [], ⊎_elim, ◌*◌, ◌++◌, ◌+◌, ◌-◌, ◌<◌, ◌∙◌, ◌∷◌, ◌≡◌, ◌≢◌, ◌≤◌, ◌⊎◌}, proofs.lemmas.List.take-append-drop, specs.List.AllByRecursion}
pub use Rattle.iso_top.specs.{Clients.{HasRunClients, HasRunNone, PrintedClients, ShowsBehind, WereRun}, Outcome.{HasAnswered, HasBenched, HasDone, HasMet, HasNotBegun, HasRecovered, PrintedBench, PrintedDigest, PrintedLine, PrintedResult, summary_of}, Prints.{Printed, SinkFailed, WasCut}, Starts.{IsUntouched, MayBeUnmade, OpensTo, TellsNamed}, Texts.{bad_line_text, bench_text_of, disk_fault_text, end_status, end_text, error_status, error_text, input_fault_text, memory_text, script_error_status}}
pub use Rattle.top_laws.specs.Plain.{AnswerInOneOrder, GoesOnIsolated, HasCommitsOf, NamesBadLine, NamesRefusal, OfItsWorld, OpensFrom, PrintsButShown, PrintsButShownOf, PrintsClients, PrintsClientsFront, PrintsCounts, PrintsDigestOf, PrintsFirst, PrintsFront, PrintsReplies, PrintsRepliesOf, PrintsSomeOfClients, PrintsWholeLines}
pub use Rattle.bench_script.specs.Rounds.{one_places}
pub use Rattle.command_line.specs.{declared.task.Task.Task, declared.task.Task.TheVariants.{Bench, New, Par, Recover, Run}}
pub use Rattle.iso_disk.{specs.Disk.{DiskState, IsBoundTo, SinceBind}}
pub use Rattle.iso_image.{proofs.ImageLaws.image_opens, specs.declared.open_error.OpenError.OpenError}
pub use Rattle.iso_io.{specs.Sink.{SinkState, Wrote}, specs.Source.SourceState}
pub use Rattle.iso_model.{specs.Between.ShowsBetween, specs.Image.Shows, specs.History.{History, array_at, last, with_commits}, specs.World.{World, empty_history, fresh}, specs.Worlds.LeadsTo, specs.declared.access.Commit.Commit, specs.declared.access.Geometry.Geometry}
pub use Rattle.iso_recover.specs.{Cause.IsTest, Made.IsUnmadeOrEmpty}
pub use Rattle.iso_shared.{proofs.Follows.{histories_grow, last_longer}, proofs.Growing.{Grows, between_grown}, proofs.Grouped.behind_it, proofs.PostsBefore.told_shown, specs.Plain.CommitsUpTo, specs.Standing.{ShowsFrom, start_at, whole, with_lost}, specs.States.{Start, State, state_at}, specs.declared.entry.Entry.Entry}
pub use Rattle.par_script.specs.{Output.{IsFront, IsOutput}, Told.Told, declared.part.Part.Part}
pub use Rattle.script_model.{specs.Bench.{answers_to, bench_output, bench_text, bench_world, is_committed, is_conflict, recover_output}, specs.Operations.IsOp, specs.Script.{Script, after, replies, script}, specs.declared.script.BadLine.BadLine, specs.declared.script.Line.Line, specs.declared.script.Reply.Reply}
pub use Rattle.script_runner.{proofs.Acknowledged.told_kept, proofs.Histories.shows_last, proofs.Replying.plain_same, proofs.Steps.{all_first, replies-append}, specs.Replies.{AreSameButShown, Replied, TellsCommit, text_of}, specs.Run.{Acknowledges, AreFirst, AreLinesOf, HasRun}, specs.Told.ArePlain, specs.declared.lines.ScriptError.ScriptError, specs.declared.run_end.RunEnd.RunEnd}
pub use Rattle.sha2.specs.Sha256.{sha256}
pub use Rattle.store_scripts.{specs.ThreadsInOrder.CallsAnswer, specs.Trace.{Event, IsTrace}}
pub use Rattle.store_scripts.{specs.Kept.BeginsWell, specs.Stores.{SecondStore, the_files, the_tree}}
