-- The words that the proofs of this crate cite from elsewhere.
pub use Rattle.std.{proofs.Common.{Bool, Err, IfErr, IfOk, IsErrOf, IsPermutation, IsSome, IsTrue, List, None, Ok, OnOk, Option, Result, Some, ap, append-nil, arith, cond, drop, eq-eqb, false, flat_map, get_or, inl, inr, length, length-drop, length-take-le, map, min, nat_eq, nat_lt, ne_eqb, not, refl, rules, slice_index_or, subst, suc, sum_by, sym, take, true, zero, ℕ, [], ◌&&◌, ◌*◌, ◌++◌, ◌+◌, ◌-◌, ◌<◌, ◌==◌, ◌^◌, ◌∙◌, ◌∷◌, ◌≡◌, ◌≢◌, ◌≤◌, ◌⊎◌}, proofs.Math.Path.transport, proofs.lemmas.Bool.{cases_eq, cases_lt, le-leb, le-ltb, lt-leb, lt-ltb}, proofs.lemmas.List.{append_assoc, drop-append-le, drop-map, drop-take, drop_all, length-append, length-map, length_push, map-append, take-append-drop, take-append-le, take_all}, proofs.lemmas.List.Sorted.{IsNonDecreasingBy-from_sort_by_key, sum_by-IsPermutation}, proofs.lemmas.List.Sums.{sum_by-append, sum_by-cons}, proofs.lemmas.Result.on_ok_weaker, specs.List.{All, AllByRecursion}, specs.Map.{lookup, remove_entry}, specs.Prelude.unwrap_or}
pub use Rattle.byte_marks.specs.{Touched.AreTouched, declared.extent.Extent.Extent}
pub use Rattle.conflict_rule.{proofs.Clashing.none_behind, proofs.Following.{added_after, dropped_after, none_after, notes_appended, notes_rise}, proofs.Numbers.all_above, specs.Decision.{AreNotes, AreNotesAfter, Bytes, IsAsked, up_to}, specs.Notes.{Held, Note, RisesFrom, above}, specs.declared.decision.Checked.Checked}
pub use Rattle.half_switch.{proofs.Forms.refilled_history, specs.Plan.{AreHalves, Copies, place_of, refilled}, specs.declared.plan.FillPlan.FillPlan}
pub use Rattle.iso_disk.{proofs.Moments.{at_end, joined, started, stays, stays_settled, weakened}, specs.Disk.{DiskState, IsLawful, IsSettled, LeavesOnly, WritesNothing}}
pub use Rattle.iso_format.specs.{Spelled.Spelled, Writing.LieInAnImage}
pub use Rattle.iso_image.{proofs.Adds.held_log, proofs.Frames.log_inside, proofs.Histories.{half_after, half_form, half_shows, later_records, records_form, world_bytes}, proofs.Logs.records-append, proofs.Switches.end_inside, specs.Half.{Half, HasLog, IsHeld, MayFollow, half_of, half_of_world, history_of, in_form, last_told, next_gate, told_bytes, with_records}, specs.declared.places.HalfPlace.HalfPlace}
pub use Rattle.iso_log.specs.{Extent.{Extent as LogExtent, extent_of, next_place}, Log.{HasTold, IsNext}}
pub use Rattle.iso_model.{proofs.Bounds.limits, proofs.Distinct.all_filter, proofs.Floors.{floor_above, floor_below}, proofs.Groups.{all_apart_nowhere, group_is, nothing_ahead, stays_ahead}, proofs.Growth.{all_push, all_weaker}, proofs.Maximal.are_runs, proofs.Opened.{length-records, sum_by-map}, proofs.Recorded.array_shape, proofs.Worlds.{all_append, begins, commit_is_record, commits, floor_between, leaves, may_have, switch_leads, trim_leads}, proofs.Written.runs_where_write, specs.Array.Array, specs.Between.{ShowsEither, ShowsLast}, specs.Conflict.{clash_from, first_after}, specs.Effect.{has_write, record_length, runs, runs_from}, specs.Geometry.{base_place, header_place, image_size, is_valid, log_place, same_mode}, specs.Group.{after_member, ahead, decided, group, leave_all, made_by, member_reply, with_first}, specs.History.{History, all_own, array_at, last, with_commits}, specs.Image.{IsRecord, Written, kind_of, records, spell, written}, specs.Premises.{AreAccesses, block_at}, specs.Step.{after_begin, after_commit, after_leaving, after_switch, after_trim, commit_from, mode_named, need, with_live}, specs.Versions.{is_written, kept_from}, specs.World.{Live, Place, World, client, floor, floor_of, label, least_begin, logged_commits, unattached, used, without}, specs.Worlds.{AreApart, AreDistinct, AreTwo, IsLive, IsWorld, MayHave}, specs.declared.access.Access.Access, specs.declared.access.Clash.Clash, specs.declared.access.Commit.Commit, specs.declared.access.Geometry.Geometry, specs.declared.access.GroupReply.GroupReply, specs.declared.access.Kind.TheVariants.{Read, Write}, specs.declared.access.Mode.Mode, specs.declared.access.Run.Run, specs.declared.access.Span.Span, specs.declared.access.EndReply.EndReply, specs.declared.core_error.CoreError.CoreError, specs.declared.core_error.CoreError.TheVariants.Disk, specs.declared.core_reply.CoreReply.CoreReply, specs.declared.limits.TheConstants.{LAST, MAX_ACCESSES, MAX_LIVE}}
unfoldable pub use Rattle.iso_model.specs.{Conflict.clash, Step.{begin_step, commit_step, end_step, switch_step}, Versions.versions}
pub use Rattle.merge_write.{proofs.Effects.pieces_of_any_block, proofs.Growth.runs_back, specs.Patch.{piece, run_of}}
pub use Rattle.mv_index.{proofs.Again.shown_again, proofs.Counts.count_is, proofs.Sublists.all_at, specs.Moves.{AreSplit, moved_to}, specs.Placed.{IsIndexOf, versions_of}, specs.Shown.{AllLie, Lies, ShowTheSame, ShowTheSameIn}, specs.Versions.{BlockVersions, count_of, no_version, shown_since, upto, versions_in}, specs.Weights.bytes_above, specs.declared.version.Version.Version}
pub use Rattle.tx_table.specs.{Live.{AreBefore, at_work, begin_of}, Work.{AreWithin, Doing}, declared.live.Begun.Begun}
pub use Rattle.version_read.{proofs.Above.records_above, proofs.Fetched.{array_of, fetched, last_of, newest}, proofs.Following.{index_more, index_moved, index_split}, proofs.Lying.{all_lie, all_upto}, proofs.Ranges.{at_range, length-whole_block, range_is_over, same_range, whole_block, whole_is_over, whole_range}, proofs.Taking.{may_take, parts_below, parts_few, parts_rise}, specs.Blocks.{IsOver, IsOverIn}, specs.Parts.{BlocksRise, HasRoom, HasTaken, MayTake, no_part, part_of, parts_in}, specs.declared.part_span.PartSpan.PartSpan}
pub use Rattle.iso_core.specs.{Calls.{IsAmong, IsCheckedOf, IsTx, IsWorkOf, Refuses, reply_of}, Core.{AllHold, AreImages, AreOf}, Ends.{AreNextRecords, Appends, EndsAs, EndsOn, IsGrownBy, IsNextCommit, IsPrepared, IsSettledOf, IsSpelled, MayAppend, MayCommit, written_of}, Kept.{AreNeeded, Becomes, IsOf, Keeps, NotesSince, Reserves, ReservesOnly, SpellsOnly, Stays, bare}, Opening.{IsOpenedTo, opened_world}, Planned.{AreEach, AreNextMembers, AreStaged, EndsGroup, EndsGroupOn, HasMembers, HasPlanned, HasStaged, IfCommits, IsAhead, IsGrownWith, IsLiveMember, IsMember, IsNextMember, IsNextStaged, IsPlannedFor, IsReady, IsReserved, MayTakeAll, all_parts, bare_end, is_commit, parts_of, reply_in, unsettled, without_reply}, Standing.{ShowsWith, Standing, down, up}, Switching.{HasForm, HasFormOr, IsForm, MayRefill, Switches, SwitchesOn}, declared.group_end.GroupEnd.GroupEnd, declared.kept.Kept.Kept, declared.opening.Opened.Opened, declared.plan.Plan.Plan, declared.plan.Staged.Staged}
