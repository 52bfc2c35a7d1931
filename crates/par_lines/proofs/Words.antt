-- The words that the proofs of this crate cite from elsewhere.
pub use Rattle.std.{proofs.Common.{Bool, List, None, Option, Some, ap, append_assoc, arith, cond, drop, eq-eqb, false, get_or, inl, inr, length, length-append, map, nat_le, nat_lt, not, refl, replicate, reverse, subst, suc, sym, take, true, zero, ℕ, [], ⊎_elim, ◌&&◌, ◌*◌, ◌++◌, ◌+◌, ◌-◌, ◌<◌, ◌==◌, ◌||◌, ◌∙◌, ◌∷◌, ◌≡◌, ◌≢◌, ◌≤◌, ◌⊎◌}, proofs.Math.ListN.get_or-append, proofs.Math.Seq.{drop-cons, get_or-append_seam}, proofs.lemmas.Bool.{eqb-true, ne_eqb}, proofs.lemmas.Bool.Decides.nat_tests, proofs.lemmas.List.{append-nil, append_cancel_left, length-map, length-replicate, length-set, length-take-le, map-append, reverse-append, take_all, take_at, take_more}, proofs.lemmas.List.Elements.{All-append, filter-append}, proofs.lemmas.List.Sums.{sum_by-append, sum_by-cons}, specs.List.{AllByRecursion, list_any, range_with_len}, specs.Option.ForSome, specs.Prelude.{All, Err, IfErr, IfNone, IfOk, IfSome, IsSome, IsTrue, MatchOption, Ok, Result, filter, is_some, option_map, set, slice_get, slice_index, sum_by, vec_capacity}}
pub use Rattle.group_commit.{proofs.Grouping.through_group, specs.Groups.{AreMembers, HasGrouped, found_in, group_of, marks_of, refused_by, spread, units_all}}
pub use Rattle.iso_shared.specs.{Groups.{answered, units_of}, Legal.{IsLegal, reply_of}, Ports.{IsPort, IsTx, Made as PassMade, doing_of, number_of, port_view, tx_view}, States.{Start, members_of, replies_of, state_at}, Told.{cause_of, compact_entry, members_in, numbers_of, posting_of_tx, trim_entry, upgrade_entry}, declared.entry.Cause.Cause, declared.entry.Entry.Entry, declared.entry.Member.Member, declared.shared.Port.Port, declared.shared.Shared.Shared}
pub use Rattle.handle_pass.{proofs.Logs.{log_count, log_more, log_none, log_seen, moves_joined, moves_made, moves_none, moves_on, moves_rested, through_made, through_none, through_on}, proofs.Visiting.blocks_append, specs.Accesses.{HasAdded, HasMarked, HasRead, HasWritten, IsReadCause, IsWriteCause, Shows, access_answer, accesses_of, mark_answer, tx_on, with_access, with_mark}, specs.Calls.{CannotClash, EndsWith, HasAborted, HasBegun, HasChecked, HasEnded, IsCheckCause, left_by}, specs.Handles.{HasLooked, HasPosted}, specs.Logs.{Log, Moves, MovesThrough}, specs.Inside.{own_in, own_of}, specs.Sessions.{IsPortAt, KeepsTx, Made, Rested, SessionState, count, device_of}, specs.Splits.{Joined, Split, port_units}, specs.Visits.{Failed, IsVisit, Seen, Visited, base_in, base_of, begin_array, seen_by}, specs.declared.errors.BeginError.BeginError, specs.declared.errors.EndError.EndError, specs.declared.errors.PostTxError.PostTxError}
pub use Rattle.iso_core.specs.declared.answers.Stat.{Stat}
pub use Rattle.iso_model.{proofs.Bounds.limits, proofs.Marked.marked_last, specs.Array.Array, specs.Geometry.{is_serial, is_valid}, specs.History.{all_own, array_at}, specs.Marks.{is_outside, mark_fault, marked, marks_fault}, specs.Premises.block_at, specs.Reserved.WithRoom, specs.Step.{get_access, put_access, read_access, write_access}, specs.World.{Live, World}, specs.declared.access.Access.Access, specs.declared.access.Commit.Commit, specs.declared.access.EndReply.EndReply, specs.declared.access.Geometry.Geometry, specs.declared.access.GroupReply.GroupReply, specs.declared.access.MarkError.MarkError, specs.declared.access.Mode.Mode, specs.declared.access.Mode.TheVariants.{Serial, Snapshot}, specs.declared.core_error.CoreError.CoreError, specs.declared.limits.TheConstants.{LAST, MAX_ACCESSES}, specs.declared.memory.InTx.InTx, specs.declared.memory.NotInTx.NotInTx}
pub use Rattle.par_runner.specs.{Runs.{Halted, JobRan, Went}, declared.job.Flow.TheVariants.{Go, Halt}, declared.job.Job.Job}
pub use Rattle.par_script.{proofs.Owners.{AreRising, Dealt, ReadsAt, clients_rise, dealt_entries, dealt_times, length-owners, owned_by, owners_of}, specs.Lines.{AnswersOn, CallsStore, ClientLines, Did, Does, EndsThen, Fetches, GroupEnds, GroupWants, Groups, InStore, LooksFor, Own, Ran, Says, StopsAtLast, StopsBy, Walk, Where, WhereShown, alone, answer, blocks_read, found_ones, last_abort, live_of, members_for, own_after, own_among, replies_to, with_block}, specs.Told.{FoundSome, Told, clients_in, entries_of, has_line, lines_of, lines_run}, specs.declared.TheConstants.MAX_LOOKS, specs.declared.part.Part.Part}
pub use Rattle.script_model.specs.{CoreReplies.as_reply, Step.{access_step, array_of, in_store, mark_refused, marked_step}, declared.script.Line.Line, declared.script.Op.Op, declared.script.Op.TheVariants.{Abort, Begin, Compact, End, Fill, Get, Group, Mark, Put, Read, Release, Takeover, Trim, Upgrade, Write}, declared.script.Reply.Reply, declared.stop.Stop.Stop}
unfoldable pub use Rattle.script_model.specs.Step.{file_delete_step, file_move_step, file_new_step, file_read_step, file_write_step, fill_step, get_step, hash_delete_step, hash_get_step, hash_put_step, mark_step, put_step, read_step, step, store_step, tree_delete_step, tree_get_step, tree_put_step, tree_scan_step, write_step}
pub use Rattle.store_calls.{proofs.Areas.{store_areas_are, store_areas_fit}, specs.Calls.{AreStoreAreas, HasCalled, Stops, is_empty_scan, placed, store_areas, store_blocks, store_ended}}
pub use Rattle.store_model.specs.{declared.files.FileAreas.FileAreas, declared.files.FsRegion.FsRegion, declared.stores.TxError.TxError}
pub use Rattle.turn_lock.{proofs.Prefixes.prefix_whole, proofs.Rising.{rises_less, times_before}, specs.Lists.{AllBelow, AreDistinct, RisesFrom, count_up, places, times}, specs.declared.view.View.View}
pub use Rattle.iso_fs.specs.Ends.{areas_of}
pub use Rattle.tx_blocks.specs.Tx.{IsRefused, Tx, access_refusal, mark_refusal, marking, room_of, with_accesses}
pub use Rattle.tx_table.specs.Work.{span_at}
pub use mathlib.Core.List.{IsPrefix}
pub use Rattle.par_lines.specs.{Answers.Answered, Clients.{IsClient, Stepped, Tells}, Ends.{stopped, wants}, Groups.{AreNew, HaveLooked, looks_for, told_of}, Jobs.{AllTold, Finished, IsNew, Swept, part_of, units_in}, Stores.{IsOnStore, settled}, declared.client.ParClient.ParClient}
pub use Rattle.iso_shared.proofs.Mades.{count_snoc}
