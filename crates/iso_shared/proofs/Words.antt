-- The words that the proofs of this crate cite from elsewhere.
pub use Rattle.std.{proofs.Common.{Bool, Err, IfErr, IfOk, IsSome, IsTrue, List, None, Ok, OnErr, OnOk, Option, Result, Some, ap, append-nil, arith, cond, eq-eqb, false, inl, inr, length, length-append, map, nat_le, nat_lt, not, refl, replicate, rules, subst, suc, sym, take, true, zero, ℕ, [], ⊎_elim, ◌&&◌, ◌++◌, ◌+◌, ◌-◌, ◌<◌, ◌==◌, ◌||◌, ◌∙◌, ◌∷◌, ◌≡◌, ◌≢◌, ◌≤◌, ◌⊎◌}, proofs.Math.Seq.take-length, proofs.lemmas.Bool.and_parts, proofs.lemmas.Bool.Decides.nat_tests, proofs.lemmas.List.{append_assoc, append_cancel_left, length-map, length-replicate, map-append, take-append-le}, proofs.lemmas.Map.Made.lookup-map_values, proofs.lemmas.Option.same_Some, proofs.lemmas.Slice.Eq.bytes_eq-Decides, specs.List.AllByRecursion, specs.Map.{lookup, remove_entry}, specs.Option.ForSome, specs.Prelude.{IsErr, IsErrOf, bytes_eq, drop, is_some, option_map, option_to_list, slice_get, unwrap_or}, specs.Result.result_ok}
pub use Rattle.byte_marks.specs.Touched.{AreTouched}
pub use Rattle.conflict_rule.{proofs.Following.dropped_after, specs.Decision.{AreNotesAfter, up_to}, specs.declared.decision.Checked.Checked}
pub use Rattle.iso_core.{proofs.Grouping.leave_all_is, proofs.Moments.shows_world, specs.Calls.{BlamesDisk, IsAmong, IsCheckedOf, IsTx, IsWorkOf, Refuses, Writes}, specs.Core.{StandsFor, disk_of}, specs.Kept.bare, specs.Planned.{AreEach, IsMember, bare_end, reply_in}, specs.Standing.{Standing, down, is_down, up}, specs.declared.answers.Begun.Begun, specs.declared.answers.Recent.Recent, specs.declared.answers.Stat.Stat, specs.declared.core_itself.Core.Core, specs.declared.group_end.GroupEnd.GroupEnd, specs.declared.group_end.TheConstants.MAX_GROUP}
pub use Rattle.iso_disk.{proofs.Moments.{at_end, joined, started, starts_unwritten, weakened}, specs.Disk.{DiskState, IsLawful, LeavesOnly, StaysTold, WritesNothing}}
pub use Rattle.iso_model.{proofs.Bounds.tests_passed, proofs.Groups.{group_is, nothing_ahead}, proofs.Held.{shows_any_form, shows_longer}, proofs.Worlds.{extends_itself, extends_on}, specs.Between.{ShowsBetween, ShowsEither, ShowsLast}, specs.Conflict.{clash_from, clashes, first_after, first_byte}, specs.Effect.{has_write, or_else}, specs.Geometry.{is_block_size, same_mode}, specs.Group.{ahead, decided, group, leave_all, made_by, member_reply, numbers_told}, specs.History.{History, array_at, last, with_commits}, specs.Image.Shows, specs.Premises.block_at, specs.Step.{after_begin, after_commit, after_leaving, after_switch, after_trim, commit_from, mode_named, need, put_access, read_access, with_live, write_access}, specs.World.{Live, World, empty_history, floor, fresh, unattached, used, without}, specs.Worlds.{Extends, IsLive, IsWorld}, specs.declared.access.Access.Access, specs.declared.access.Clash.Clash, specs.declared.access.Commit.Commit, specs.declared.access.EndReply.EndReply, specs.declared.access.EndReply.TheVariants.{Committed, Conflict, ReadOnly}, specs.declared.access.Geometry.Geometry, specs.declared.access.GroupReply.GroupReply, specs.declared.access.Kind.TheVariants.{Read, Write}, specs.declared.access.Mode.Mode, specs.declared.access.Mode.TheVariants.{Serial, Snapshot}, specs.declared.core_error.CoreError.CoreError, specs.declared.core_error.CoreError.TheVariants.{Disk as OfDisk}, specs.declared.core_reply.CoreReply.CoreReply, specs.declared.core_reply.CoreReply.TheVariants.Done, specs.declared.limits.TheConstants.{LAST, MAX_ACCESSES, MAX_LIVE}}
unfoldable pub use Rattle.iso_model.specs.{Array.put, Conflict.clash, Effect.runs, Geometry.is_valid, Step.{begin_step, commit_step, end_step, switch_step}, Versions.versions}
pub use Rattle.turn_lock.{proofs.Outs.{held_first, times_without}, proofs.Prefixes.{prefix_more, prefix_self, prefix_trans, prefix_whole}, proofs.Rising.times_append, proofs.Totals.hit_same, specs.Lists.{AreDistinct, count_up, hit, longer, places, times, total}, specs.Numbers.{AreFree, AreHeld, IsOut, held_after, is_among, is_out, out_from, out_next}, specs.Views.{both, kept_part}, specs.declared.view.View.View}
pub use Rattle.tx_table.specs.{Work.{AreWithin, Doing}, declared.rack.PostError.PostError}
pub use mathlib.Core.List.{IsPrefix}
pub use Rattle.iso_shared.specs.{Groups.{ArePaired, IsBack, IsEnd, IsJoined, IsNote, IsNoteOf, IsPartOf, IsTaken, answered, end_of, held_in, made_in, numbers_handed, numbers_in, units_of}, Legal.{Answers, AreLoose, Fits, IsCall, IsGroup, IsLegal, IsOfCore, LegalFrom, MayHaveMade, MayRefuse, MayWantMemory, answer_to, end_answer, ended, ended_by, handed, needed, numbers_at, reply_of, returned, switch_answer, tx_in}, Plain.{CommitsUpTo, IsMemberUpTo, IsReplyUpTo, WasPosted, is_number, takes_out}, Ports.{IsAhead, IsIsolatedAt, IsOwn, IsRecent, IsSameTx, IsTxOf, Made, MadeAll, MadeBoth, TookFew, most_steps, tx_view}, Standing.{Came, Holds, IsOn, HaveEnded, ShowsFrom, ShowsSince, StandsAt, WasAt, faults_of, posting_in, postings, standing_of, start_at, whole, with_lost}, States.{Start, State, after, after_all, after_end, after_fault, after_group, after_refusal, after_sweep, commits_made, group_answers, is_live, is_loose, live_of, lost_commit, lost_commits, member_numbers, member_of, members_of, opened, posting_of, racked, replies_of, state_at, tx_of, txs_of, with_world}, TestImage.{MayStart, small}, Stamps.{clock_of, entries_in, moments_in, stamped}, Turns.{moments, shown, view}, Told.{begin_entry, cause_of, compact_entry, end_entry, ends_at, entry_of, fetch_entry, group_entry, members_at, members_in, numbers_of, post_entry, recent_entry, told_entry, trim_entry, upgrade_entry, wanting_entry}, declared.entry.Call.Call, declared.entry.Cause.Cause, declared.entry.Entry.Entry, declared.entry.Entry.TheVariants.Abort, declared.entry.Member.Member, declared.entry.MemberEnd.MemberEnd, declared.entry.Numbers.Numbers, declared.entry.Posting.Posting, declared.guarded.Posted.Posted, declared.guarded.Stamped.Stamped, declared.shared.Shared.Shared, declared.tx.Tx.Tx}
