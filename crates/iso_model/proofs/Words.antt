-- The words that the proofs of this crate cite from elsewhere.
pub use Rattle.std.{proofs.Common.{Bool, IfSome, IsTrue, List, None, Option, Some, ap, append-nil, append_assoc, arith, bytes_eq, cond, drop, eq-eqb, false, filter, find, get_or, inl, inr, is_some, length, map, min, mul-le-mul, nat_le, nat_lt, ne_eqb, not, option_map, refl, replicate, set, slice_get, slice_index, subst, suc, sum_by, sym, take, true, true≢false, unwrap_or, zero, zero-add, ℕ, [], ◌&&◌, ◌*◌, ◌++◌, ◌+◌, ◌-◌, ◌<◌, ◌==◌, ◌^◌, ◌||◌, ◌∙◌, ◌∷◌, ◌≡◌, ◌≢◌, ◌≤◌, ◌⊎◌}, proofs.Math.Nat.pow-suc, proofs.lemmas.Bool.{and_from, and_parts, both_ways, cases_Bool, cases_eq, cases_lt, cases_order, eqb-false, eqb-true, false_from_ne_true, le-leb, leb-false, leb-true, lt-ltb, ltb-false, ltb-true, or_cases, or_left, or_parts, or_right}, proofs.lemmas.Bool.Decides.nat_tests, proofs.lemmas.Grind.common_steps, proofs.lemmas.List.{drop-append-le, drop-drop, ext_get_or, get_or-append_right, get_or-drop, get_or-replicate, get_or-set_other, get_or-set_same, get_or-take, get_or_append_left, get_or_past, length-append, length-drop, length-replicate, length-set, length-take, length-take-le, length_push, set_past, take-append-drop, take-append-le, take_all}, proofs.lemmas.List.Folds.{Any-from_list_any, list_any-append, list_any_at}, proofs.lemmas.List.FromFn.{get_or-range_with_len, length-range_with_len}, proofs.lemmas.List.Sums.{sum_by-append, sum_by-cons, sum_by-take-drop}, proofs.lemmas.Nat.{from_be_bytes-to_be_bytes_2, from_be_bytes-to_be_bytes_4, from_be_bytes-to_be_bytes_8}, proofs.lemmas.Option.{IfSome_then, none-some, same_Some}, proofs.lemmas.Slice.Eq.bytes_eq-Decides, specs.Int.{from_be_bytes, to_be_bytes, w16, w32, w64}, specs.List.{AllByRecursion, flat_map, list_all, list_any, range_with_len}, specs.Prelude.{codes, slice_index_or}}
pub use Rattle.iso_model.specs.{Array.{Array, byte_at, covered, in_span, merged, zeros}, Conflict.{IsClash, IsSerialAt, IsSnapshotAt, Meets, NotAfter, clash_from, clashes, first_after, first_byte, first_from, guarded}, Effect.{block_runs, covers, effect_at, effects_from, has_write, is_write, joined, or_else, own, record_length, runs_from, touches}, Geometry.{base_place, header_place, image_size, is_block_size, is_region, log_place, same_mode}, Group.{Follow, after_look, after_member, ahead, decided, found_ones, group, leave_all, looks, made_by, member_reply, numbers_told, with_first}, History.{History, all_own, array_at, last, shown, shown_block}, Image.{AreRuns, IsImage, IsRecord, IsRun, SameCommit, SameEffect, Shows, Written, blocks_of, chosen_half, commit_of, commits_of, current_half, kind_of, mode_byte, part, recorded, records, written}, Isolation.{HasSeen, IsIsolated, IsIsolatedAt}, Labels.{is_label, is_label_byte, key_of}, Marks.{is_outside, mark_fault, marked, marks_fault}, Premises.{AreAccesses, AreBytes, HasBytes, HasShape, IsAccess, IsHistory, IsSpan, Limits, appended, block_at, in_run, value_in, value_of}, Step.{after_begin, after_commit, after_leaving, after_trim, commit_from, get_access, need, placed, put_access, read_access, with_accesses, with_live, write_access}, Versions.{IsWritten, StillShows, is_kept, is_written, kept_from}, World.{BeganAt, Live, Place, World, attached, client, empty_history, floor, floor_of, fresh, held, is_at_client, is_under_label, label, least_begin, logged_commits, unattached, used, with, without}, Worlds.{AreApart, AreDistinct, AreRecords, AreTwo, Extends, IsLive, IsPlace, IsWorld, KeepsGeometry, LeadsTo, MayHave}, declared.access.Access.Access, declared.access.Clash.Clash, declared.access.Commit.Commit, declared.access.Geometry.Geometry, declared.access.GroupReply.GroupReply, declared.access.Kind.Kind, declared.access.Kind.TheVariants.{Read, Write}, declared.access.Mode.Mode, declared.access.Mode.TheVariants.{Serial, Snapshot}, declared.access.Run.Run, declared.access.Span.Span, declared.core_reply.CoreReply.CoreReply, declared.limits.TheConstants.{LAST, MAX_ACCESSES, MAX_LIVE, MAX_SPANS}}
unfoldable pub use Rattle.iso_model.specs.{Array.put, Conflict.clash, Effect.runs, Geometry.is_valid, Group.group_step, Image.{half_header, spell, superblock}, Step.{begin_step, commit_step, end_step, switch_step}, Versions.versions}
