-- The words that the proofs of this crate cite from elsewhere.
pub use Rattle.std.{proofs.Common.{Bool, Err, IfErr, IfOk, IsErrOf, IsSome, IsTrue, List, None, Ok, OnErr, OnOk, Option, Result, Some, ap, append-nil, append_assoc, arith, bytes_eq, cond, drop, eq-eqb, false, filter, find, get_or, if◌then◌else◌, inl, inr, length, map, nat_eq, nat_le, nat_lt, ne_eqb, not, option_map, refl, replicate, set, slice_index, slice_index_or, subst, suc, sym, take, true, zero, ℕ, [], ⊎_elim, ◌&&◌, ◌++◌, ◌+◌, ◌-◌, ◌<◌, ◌==◌, ◌∙◌, ◌∷◌, ◌≡◌, ◌≢◌, ◌≤◌, ◌⊎◌}, proofs.Math.Seq.take-append_seam, proofs.lemmas.Bool.{and_parts, both_ways, cases_eq, eqb-true, false≢true}, proofs.lemmas.Bool.Decides.nat_tests, proofs.lemmas.List.{drop-take, get_or-replicate, get_or_default, map-append, map_push, set-get_or, with_items_is}, proofs.lemmas.Option.same_Some, proofs.lemmas.Slice.Eq.bytes_eq-Decides, specs.List.{AllByRecursion, HoldsAt, remove}, specs.Option.{ForSome, IfSome, MatchOption}}
pub use Rattle.conflict_rule.specs.Decision.{up_to}
pub use Rattle.iso_machine.{proofs.Arrays.{array_shown, guest_begins}, specs.Accessing.{Accesses, Acts, IsActive, IsAllowed, IsGiven, IsHere, IsShown, IsWorkedTo, MayRead, Reads, act_step, or_stop}, specs.Answering.{Always, Answers, AnswersTold, Never, Wanting, answer_to}, specs.Grouping.{HasTaken, filled, found_in, left_in, member_of, stand_in, under, without_found}, specs.Guests.{Counts, IsSameWork, Seen, tx_of}, specs.Shown.shows, specs.ShownArrays.{array_in, array_told}, specs.Standing.{AreKnown, AreListed, AreOf, IsFound, IsOff, IsSized, live_of, number_at, number_under, place_of}, specs.Storing.{IsStored, called_of, store_act}, specs.declared.attached.Attached.Attached, specs.declared.finder.Finder.Finder}
pub use Rattle.iso_core.{proofs.Standings.stands_on, proofs.Transactions.{among, kept_floor}, proofs.Words.{at_range, same_range, whole_range}, specs.Calls.{IsAmong, IsCheckedOf, IsTx, IsWorkOf, Refuses, Writes, refusal_of, reply_of}, specs.Core.{StandsFor, disk_of}, specs.Kept.bare, specs.Planned.{AreEach, IsMember, reply_in}, specs.Standing.up, specs.declared.answers.Stat.Stat, specs.declared.core_itself.Core.Core, specs.declared.group_end.GroupEnd.GroupEnd}
pub use Rattle.iso_disk.{proofs.Moments.{started, starts_unwritten, stays, weakened}, specs.Disk.{DiskState, IsLawful, LeavesOnly, StaysTold, WritesNothing}}
pub use Rattle.iso_model.{proofs.Bounds.tests_passed, proofs.Bytes.{length-block_access, length-block_own, other_block, written_block}, proofs.Distinct.{all_filter, all_find, distinct_filter, same_number}, proofs.Groups.{decided_live, group_is}, proofs.Growth.{all_push, all_weaker}, proofs.Marked.marked_last, proofs.Recorded.array_shape, proofs.Worlds.{accesses_are, all_append, live_at}, specs.Array.{Array, byte_at, covered, merged}, specs.Between.{ShowsEither, ShowsLast}, specs.Conflict.{clash_from, first_after}, specs.Effect.{has_write, is_write, own}, specs.Geometry.{is_block_size, is_serial, same_mode}, specs.Group.{after_look, ahead, decided, found_ones, group, label_replies, leave_all, looks, made_by, member_reply}, specs.History.{History, array_at, last}, specs.Image.Shows, specs.Labels.{is_label, key_of}, specs.Marks.{is_outside, mark_fault, marked, marks_fault}, specs.Premises.block_at, specs.Step.{after_begin, after_commit, after_leaving, after_switch, after_trim, get_access, mode_named, need, placed, put_access, read_access, shown_to, with_accesses, with_live, write_access}, specs.World.{Live, Place, World, attached, client, floor, floor_of, held, is_at_client, is_under_label, label, unattached, used, with, without}, specs.Worlds.{AreApart, AreDistinct, AreTwo, IsLive, IsWorld}, specs.declared.access.Access.Access, specs.declared.access.Clash.Clash, specs.declared.access.EndReply.EndReply, specs.declared.access.Geometry.Geometry, specs.declared.access.GroupReply.GroupReply, specs.declared.access.Kind.TheVariants.Write, specs.declared.access.MarkError.MarkError, specs.declared.access.Mode.Mode, specs.declared.access.Mode.TheVariants.{Serial, Snapshot}, specs.declared.access.Span.Span, specs.declared.core_error.CoreError.CoreError, specs.declared.core_reply.CoreReply.CoreReply, specs.declared.limits.TheConstants.{LAST, MAX_ACCESSES, MAX_LIVE}}
unfoldable pub use Rattle.iso_model.specs.{Array.put, Conflict.clash, Geometry.is_valid, Group.group_step, Step.{begin_step, commit_step, end_step, switch_step}}
pub use Rattle.script_model.{proofs.Looks.{held_live, look_leads, looks_geometry, looks_lead}, proofs.Steps.step_leads, specs.CoreReplies.{as_reply, as_step}, specs.Operations.IsOp, specs.Step.{access_step, array_of, grouped, in_store, in_transaction, mark_refused, marked_step, out_of_transaction, release_step, takeover_step, with_access}, specs.declared.script.Op.Op, specs.declared.script.Reply.Reply, specs.declared.stop.Stop.Stop}
unfoldable pub use Rattle.script_model.specs.Step.{file_delete_step, file_move_step, file_new_step, file_read_step, file_write_step, fill_step, get_step, hash_delete_step, hash_get_step, hash_put_step, mark_step, numbers, put_step, read_step, step, store_step, tree_delete_step, tree_get_step, tree_put_step, tree_scan_step, write_step}
pub use Rattle.script_runner.specs.{Counts.BlamesDisk, Stopped.{GoesOn, without_accesses}, Told.{IfTold, IsPlain, SameButShown}}
pub use Rattle.store_calls.{proofs.Areas.{store_areas_are, store_areas_fit}, specs.Calls.{AreStoreAreas, HasCalled, Stops, is_empty_scan, store_areas, store_blocks, store_ended}}
pub use Rattle.store_model.specs.{declared.files.FileAreas.FileAreas, declared.files.FsRegion.FsRegion}
pub use Rattle.iso_fs.specs.Ends.{areas_of}
pub use Rattle.tx_blocks.specs.Tx.{Device, Tx}
pub use Rattle.tx_table.specs.Work.{Doing, span_at}
pub use Rattle.indexmap.specs.IndexMap.{get}
pub use Rattle.conflict_rule.proofs.Clashing.{none_behind}
