-- The words that the proofs of this crate cite from elsewhere.
pub use Rattle.std.{proofs.Common.{Bool, Err, IsTrue, List, None, Ok, OnErr, Option, Result, Some, ap, append_assoc, arith, cond, drop, eq-eqb, false, get_or, inl, inr, le-ltb, length, length-append, length-drop, mul-le-mul_right, nat_le, nat_lt, ne_eqb, refl, set, subst, suc, sym, take, take-append-drop, true, true≢false, unwrap_or, zero, ℕ, [], ◌&&◌, ◌*◌, ◌++◌, ◌+◌, ◌-◌, ◌<◌, ◌==◌, ◌^◌, ◌∙◌, ◌∷◌, ◌≡◌, ◌≢◌, ◌≤◌, ◌⊎◌}, proofs.lemmas.Bool.{and_parts, cases_eq, le-leb, leb-true, lt-ltb, ltb-true}, proofs.lemmas.List.{drop-drop, drop-take, drop_at, get_or-drop, get_or-take, get_or_at, length-set, length-take-le, take-take, take_at}, proofs.lemmas.Nat.from_be_bytes-to_be_bytes_4, proofs.lemmas.Result.{on_err_weaker, on_ok_weaker}, specs.Int.{from_be_bytes, to_be_bytes, w32, w64}, specs.List.{AllByRecursion, slice_range}}
pub use Rattle.commit_gate.specs.Gate.{IsClosed, IsOpen}
pub use Rattle.iso_disk.{proofs.Causes.{all_passed, failed_behind}, proofs.Told.{told_same, told_written}, proofs.Bytes.{get_or-spliced, get_or-torn, length-spliced, slice-torn, spliced_torn, take-drop-spliced, torn_same, torn_twice, torn_wider}, proofs.Images.{length-contents, tells_spliced}, proofs.Moments.{at_end, goes_on_still, joined, started, stays_settled, weakened}, proofs.Ranges.{runs_inside, starts_inside, writes_inside}, specs.Disk.{DiskState, IsLawful, IsSettled, LeavesOnly, Splices, TellsTorn, Torn, TornFrom, WritesNothing, spliced}}
pub use Rattle.iso_format.{proofs.Parts.body_bound, specs.Reading.number_at, specs.Records.{BeginsWith, Recorded, is_kind, record_window}, specs.declared.half.HalfHeader.HalfHeader}
unfoldable pub use Rattle.iso_format.specs.Reading.{half_of}
pub use Rattle.iso_image.{proofs.Adds.{held_each, held_last, held_log}, proofs.Frames.{blocks_same, held_half, log_inside}, proofs.Histories.{later_records, records_form}, proofs.Logs.{has_log, records-append}, proofs.Others.{beside_closed, beside_shut}, proofs.Switches.{switched, switching}, specs.Changes.MaySwitch, specs.Half.{Half, HasLog, IsFilled, IsHeld, history_of, in_form, last_told, told_bytes}, specs.declared.places.HalfPlace.HalfPlace}
pub use Rattle.iso_model.{proofs.Bounds.limits, proofs.Bytes.own_at, proofs.Held.held_array, proofs.Opened.length-spell, proofs.Recorded.{HasSize, effect_recorded, length-recorded, own_size, same_arrays}, proofs.Unique.{head_is, tail_are}, specs.Array.{Array, byte_at, in_span}, specs.Effect.{or_else, own}, specs.Geometry.{base_place, half_size, header_place, image_size, is_valid, log_place, same_mode}, specs.History.{History, all_own, array_at}, specs.Image.{AreRuns, IsRecord, IsRun, Written, blocks_of, body_length, chosen_half, commit_of, commits_of, current_half, generation_at, kind_of, recorded, records}, specs.Premises.{HasBytes, IsHistory, block_at, value_in, value_of}, specs.declared.access.Commit.Commit, specs.declared.access.Geometry.Geometry, specs.declared.access.Mode.Mode, specs.declared.access.Mode.TheVariants.{Serial, Snapshot}, specs.declared.access.Run.Run, specs.declared.limits.TheConstants.LAST}
unfoldable pub use Rattle.iso_model.specs.Image.{half_header, spell}
pub use Rattle.half_switch.specs.{Laid.{AreBytesOf, all_laid, laid, one_laid, run_place}, Plan.{AreHalves, Copies, IsFrom, IsReady, place_of, refilled}, Put.{HasRecords, IsLaidOut, IsPut, closed_log, filled_with, header_tail}, declared.plan.FillPlan.FillPlan}
