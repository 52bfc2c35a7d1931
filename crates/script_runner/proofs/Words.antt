-- The words that the proofs of this crate cite from elsewhere.
pub use Rattle.std.{proofs.Common.{Bool, Err, IfErr, IfOk, IfSome, List, None, Ok, OnOk, Option, Result, Some, ap, append-nil, append_assoc, arith, cond, drop, eqb, false, get_or, inl, inr, length, length-append, length-take, map, nat_eq, nat_le, nat_lt, not, refl, replicate, slice_index, subst, sym, take, true, vec_len, w8, ℕ, [], ⊎_elim, ◌%◌, ◌&&◌, ◌++◌, ◌+◌, ◌-◌, ◌<◌, ◌==◌, ◌^◌, ◌∙◌, ◌∷◌, ◌≡◌, ◌≢◌, ◌≤◌, ◌⊎◌}, proofs.Math.Seq.take-append-add, proofs.lemmas.Bool.{and_parts, eqb-false, eqb-true, false≢true, le-leb, leb-true, lt-leb, lt-ltb, ltb-false}, proofs.lemmas.Bool.Decides.eqb_tells, proofs.lemmas.List.take_all, proofs.lemmas.List.Elements.{Contains-append_cases, Contains-append_right}, proofs.lemmas.Option.same_Some, proofs.lemmas.Simd.{bitmask_splat, length-chunk, none_from_empty_mask, run_in_chunk_fails, run_in_chunk_le, run_in_chunk_stops, trailing_mask_l}, specs.Io.KnownBytes.{append_known, prepend_known}, specs.List.{AllByRecursion, list_all, prefix_len}, specs.Prelude.{Contains, IsSome, IsTrue, codes, is_some}}
unfoldable pub use Rattle.std.specs.Fmt.{digits}
pub use Rattle.counts.specs.Count.{Rose}
pub use Rattle.iso_disk.{proofs.Moments.{at_end, joined, started, weakened}, specs.Disk.{DiskState, IsLawful, LeavesOnly}}
pub use Rattle.iso_io.{proofs.Told.{append_known-append, append_known-nil, prepend_known-append, prepend_known-nil}, specs.Sink.{Broke, CountsStand, SinkState, Wrote, WroteFront}, specs.Source.{MetEnd, SourceState, Took}, specs.declared.sink.PutError.TheVariants.{Failed, TookNothing}}
pub use Rattle.iso_model.{proofs.Groups.{consecutive, group_is}, proofs.Held.{shows_any_form, shows_longer}, proofs.Worlds.{leads_on, longer}, specs.Between.{ShowsBetween, ShowsEither, ShowsLast}, specs.Effect.has_write, specs.Geometry.same_mode, specs.Group.{Follow, ahead, decided, found_ones, group, label_replies, leave_all, looks, made_by, member_reply, numbers_told}, specs.History.{History, last}, specs.Image.Shows, specs.Marks.mark_fault, specs.Step.{after_commit, after_leaving, mode_named, need, read_access, shown_to}, specs.World.{Live, Place, World, attached, client, floor, held, used}, specs.Worlds.{Extends, IsWorld, KeepsGeometry, LeadsTo}, specs.declared.access.Access.Access, specs.declared.access.Clash.Clash, specs.declared.access.Geometry.Geometry, specs.declared.access.GroupReply.GroupReply, specs.declared.access.MarkError.MarkError, specs.declared.access.Mode.Mode, specs.declared.access.Span.Span, specs.declared.core_reply.CoreReply.CoreReply, specs.declared.limits.TheConstants.{LAST, MAX_ACCESSES, MAX_INPUT, MAX_LINE, MAX_LIVE}}
unfoldable pub use Rattle.iso_model.specs.{Array.put, Conflict.clash, Effect.runs, Group.group_step, Step.{begin_step, commit_step, end_step, switch_step}}
pub use Rattle.script_model.{proofs.CoreSteps.as_either, proofs.Looks.looks_history, proofs.ScriptBytes.{IfGiven, any_given, given_next, given_none, given_one, script_lines}, proofs.Steps.{after_leads, step_leads}, specs.Bench.answers_to, specs.CoreReplies.{as_reply, as_step}, specs.FilesArea.{file_blocks, files_area}, specs.Operations.{AreLines, IsAmongGrouped, IsOp, SaysCommit}, specs.Script.{Script, after, bad_line, before_script, client_in_range, is_printable, is_skipped, last_piece, no_lines, operation_of, replies, script_from, without_return}, specs.Step.{access_step, after_store, array_of, file_refusal, file_step, found_reply, grouped, in_store, in_transaction, marked_step, out_of_transaction, pairs_reply, release_step, removed_reply, store_refusal, takeover_step}, specs.Text.{before_piece, is_empty, number_of, pieces, reply_line, words_of}, specs.declared.script.BadLine.BadLine, specs.declared.script.Line.Line, specs.declared.script.LineError.LineError, specs.declared.script.LineError.TheVariants.{Cause, Memory as NoMemory}, specs.declared.script.Op.Op, specs.declared.script.Op.TheVariants.{Abort, Await, Begin, Compact, End, FileDelete, FileMove, FileNew, FileRead, FileWrite, Fill, Get, Group, HashDelete, HashGet, HashPut, Mark, Put, Read as ReadBlock, Release, Stat, Takeover, TreeDelete, TreeGet, TreePut, TreeScan, Trim, Upgrade, Write as WriteBlock}, specs.declared.script.Parsed.Parsed, specs.declared.script.Parsed.TheVariants.{Line as Says, Skip}, specs.declared.script.Reply.Reply}
unfoldable pub use Rattle.script_model.specs.{Script.{parse, parse_whole, said, script}, Step.{file_delete_step, file_move_step, file_new_step, file_read_step, file_write_step, fill_step, get_step, hash_delete_step, hash_get_step, hash_put_step, mark_step, numbers, put_step, read_step, step, store_step, tree_delete_step, tree_get_step, tree_put_step, tree_scan_step, write_step}, Text.reply_text}
pub use Rattle.script_text.specs.Parsing.{Gives, placed}
pub use Rattle.store_model.specs.{Areas.{hash_area, tree_area}, FileCalls.{Call, create_program, read_program, remove_program, rename_program, write_program}, HashCalls.{del_program, get_program, put_program}, Stores.{Program, outcome}, declared.files.FsError.FsError, declared.stores.StoreError.StoreError}
pub use lib.Count.{count_trailing_zeros}
pub use lib.Lanes.{chunk, mask_l, top, zip2}
pub use Rattle.script_runner.specs.{Counts.{DiskCount, SinkCounts, SinkFailed, SourceCount}, Lines.{AnswersParsed, EndsAt, Gave, IsByStep, IsLine, Ran, Reads, SaysFirst, SaysLine, behind, end_of, in_front, lines_of}, Rehearsal.rehearsed, Replies.{AreRepliesTo, AreSameButShown, IfCut, IsReplyTo, PutReplies, PutRepliesBy, Replied, TellsCommit, text_of}, Run.{Acknowledges, Answered, AreFirst, AreLinesOf, HasNoFeed, HasRun, IfUp, IsBehind, AllShow, MadeNothing}, Told.{ArePlain, IfTold, IsPlain, SameButShown, StandsSo}, declared.run_end.Halt.Halt, declared.run_end.RunEnd.RunEnd, declared.run_end.RunEnd.TheVariants.{Disk, Done, Memory, Output}}
