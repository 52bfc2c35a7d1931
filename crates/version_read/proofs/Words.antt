-- The words that the proofs of this crate cite from elsewhere.
pub use Rattle.std.{proofs.Common.{Bool, IsTrue, List, None, Option, Some, ap, append_assoc, arith, cond, count_by, drop, false, flat_map, get_or, inl, inr, length, length-append, length-drop, length-take, map, max, min, nat_le, nat_lt, not, refl, replicate, subst, suc, sum_by, sym, take, true, unwrap_or, zero, ℕ, [], ◌%◌, ◌&&◌, ◌*◌, ◌++◌, ◌+◌, ◌-◌, ◌/◌, ◌<◌, ◌==◌, ◌^◌, ◌||◌, ◌∙◌, ◌∷◌, ◌≡◌, ◌≢◌, ◌≤◌, ◌⊎◌}, proofs.Math.Bool.and-false, proofs.Math.Nat.mul-le-mul_right, proofs.lemmas.Bool.{and_parts, cases_eq, cases_lt, eq-eqb, le-leb, leb-false, leb-true, lt-leb, ltb-false, ltb-true, ne_eqb}, proofs.lemmas.List.{append-nil, drop_all, drop_more, ext_get_or, get_or-append_right, get_or-drop, get_or-take, get_or_append_left, get_or_past, length-map, length-take-le, map-append, take-append-drop, take_all, take_more}, proofs.lemmas.List.Elements.filter-append, proofs.lemmas.List.FromFn.{get_or-map-range_with_len, length-map-range_with_len}, proofs.lemmas.List.Sums.{count_by_more_no, count_by_more_yes, sum_by-append, sum_by-cons, sum_by-take-le}, proofs.lemmas.Nat.Bits.bit_at-zero, proofs.lemmas.Result.on_ok_weaker, specs.Int.{bit_at, to_be_bytes, w16, w32}, specs.List.{AllByRecursion, filter, list_any, range_with_len, slice_range}, specs.Option.ForSome}
pub use Rattle.iso_disk.{proofs.Causes.{all_passed, failed_behind}, proofs.Images.length-contents, proofs.Moments.{joined_unwritten, starts_unwritten}, specs.Disk.WritesNothing}
pub use Rattle.iso_image.{proofs.Adds.{held_each, held_log, log_in_image}, proofs.Frames.log_inside, proofs.Logs.{log_front, records-append}, specs.Half.{Half, HasLog, IsHeld, MayFollow, half_of, history_of, last_told, next_gate, told_bytes}}
pub use Rattle.iso_model.{proofs.Bounds.limits, proofs.Bytes.own_at, proofs.Held.held_array, proofs.Opened.{length-part, length-records, length-spell, sum_by-map}, proofs.Recorded.{HasSize, effect_recorded, length-recorded, own_size}, specs.Array.{Array, byte_at, in_span}, specs.Effect.{effect_at, or_else, own, record_length}, specs.Geometry.{base_place, image_size, is_valid, log_place}, specs.History.{History, all_own, array_at, last}, specs.Image.{AreRuns, IsRecord, IsRun, Written, blocks_of, body_length, commits_of, kind_of, part, recorded, records, written}, specs.Premises.{HasBytes, IsHistory, block_at, value_in}, specs.declared.access.Commit.Commit, specs.declared.access.Geometry.Geometry, specs.declared.access.Run.Run}
unfoldable pub use Rattle.iso_model.specs.Image.{spell}
pub use Rattle.mv_index.{proofs.Again.{above_stay, shown_again, shown_more}, proofs.Counts.{blocks_below, rows_total, total, total_add, total_same, total_zero}, proofs.Layers.{byte_in-append, newest_kept, or_else_none, same_newest, since_same}, proofs.Masks.{in_is, in_over, in_split, in_under}, proofs.Sublists.{all_at, all_of, all_shown}, proofs.Weights.{part_bytes_above-append, part_bytes_above-shown_since, placed_above, placed_below}, specs.Masks.is_seen, specs.Moves.{AreSplit, moved, moved_to}, specs.Placed.{IsIndexOf, placed, version_of, versions_of}, specs.Shown.{Lies, ShowTheSame, byte_in, byte_of}, specs.Versions.{AreAtMost, BlockVersions, IsAdded, block_of, count_of, has, in_bytes, no_version, no_versions, room_of, shown_since, still_shows, upto, versions_in}, specs.Weights.{bytes_above, part_bytes_above}, specs.declared.version.Version.Version}
pub use Rattle.version_read.specs.{Blocks.{IsLaidIn, IsOver, IsOverIn}, Fills.IsFilled, Parts.{BlocksRise, HasRoom, HasTaken, IsPart, MayTake, no_part, part_of, part_versions, parts_in, parts_length}, declared.part_span.PartSpan.PartSpan}
