-- The words that the proofs of this crate cite from elsewhere.
pub use Rattle.std.{proofs.Common.{Bool, Err, IfSome, IsTrue, List, None, Ok, Option, Result, Some, ap, append-nil, append_assoc, arith, cond, drop, eq-eqb, false, inl, inr, length, map, nat_le, ne_eqb, not, option_map, refl, slice_get, subst, suc, sym, take, true, zero, ℕ, [], ◌&&◌, ◌*◌, ◌++◌, ◌+◌, ◌-◌, ◌<◌, ◌==◌, ◌||◌, ◌↔◌, ◌∙◌, ◌∷◌, ◌≡◌, ◌≢◌, ◌≤◌, ◌⊎◌}, proofs.lemmas.Bool.{and_parts, both_ways, cases_Bool, cases_eq, cases_lt, eqb-false, leb-true, ltb-false, ltb-true}, proofs.lemmas.Bool.Decides.nat_tests, proofs.lemmas.List.{length-append, take-append-le}, proofs.lemmas.Option.same_Some, specs.FinMap.empty, specs.List.{AllByRecursion, list_all}, specs.Prelude.{codes, find, nat_lt}}
unfoldable pub use Rattle.std.specs.Fmt.{digits}
pub use Rattle.iso_model.{proofs.Bounds.limits, proofs.Distinct.{all_filter, all_find, same_number}, proofs.FreshWorlds.empty_world_is, proofs.Groups.{group_is, group_leads, member_leaves}, proofs.Growth.{all_push, all_weaker, both_of}, proofs.Recorded.{array_shape, own_shape}, proofs.Worlds.{commits, live_at, live_on}, specs.Array.{Array, zeros}, specs.Effect.{has_write, is_write, own}, specs.Geometry.{is_serial, is_valid, same_mode}, specs.Group.{after_look, after_member, ahead, decided, found_ones, group, label_replies, leave_all, looks, made_by, member_reply}, specs.History.{History, all_own, array_at, last}, specs.Marks.{mark_fault, marked}, specs.Premises.{HasShape, appended, block_at}, specs.Step.{after_begin, after_commit, after_leaving, after_switch, after_trim, commit_from, mode_named, need, placed, read_access, shown_to, with_accesses}, specs.World.{Live, Place, World, attached, client, empty_history, fresh, held, is_at_client, is_under_label, label, unattached, used, with}, specs.Worlds.{Extends, IsLive, IsWorld}, specs.declared.access.Access.Access, specs.declared.access.Clash.Clash, specs.declared.access.Commit.Commit, specs.declared.access.Geometry.Geometry, specs.declared.access.GroupReply.GroupReply, specs.declared.access.MarkError.MarkError, specs.declared.access.Mode.Mode, specs.declared.access.Mode.TheVariants.{Serial, Snapshot}, specs.declared.access.Span.Span, specs.declared.core_reply.CoreReply.CoreReply, specs.declared.limits.TheConstants.{LAST, MAX_ACCESSES, MAX_LIVE}}
unfoldable pub use Rattle.iso_model.specs.{Array.put, Conflict.clash, Effect.runs, Group.group_step, Step.{begin_step, commit_step, end_step, switch_step}}
pub use Rattle.script_model.{proofs.CoreSteps.as_either, proofs.Looks.{first_found, found_are_live, held_live, look_leads, looks_geometry, looks_history, looks_keep}, proofs.Small.{lines_of, made}, proofs.Steps.{after_leads, step_leads}, specs.CoreReplies.{as_reply, as_step}, specs.FilesArea.{blocks_behind, file_blocks, files_area}, specs.Operations.{AreLines, IsOp, IsPlain}, specs.Script.after, specs.Step.{access_step, array_of, file_refusal, found_reply, grouped, in_store, in_transaction, mark_refused, marked_step, numbers, out_of_transaction, pairs_reply, release_step, removed_reply, store_refusal, store_reply, takeover_step}, specs.declared.script.Line.Line, specs.declared.script.Op.Op, specs.declared.script.Op.TheVariants.{Abort, Await, Begin, Compact, End, FileDelete, FileMove, FileNew, FileRead, FileWrite, Fill, Get, Group, HashDelete, HashGet, HashPut, Mark, Put, Read, Release, Stat, Takeover, TreeDelete, TreeGet, TreePut, TreeScan, Trim, Upgrade, Write}, specs.declared.script.Reply.Reply, specs.declared.script.Reply.TheVariants.Committed}
unfoldable pub use Rattle.script_model.specs.{Script.{file_operation, operation_of, other_operation, store_operation, tree_operation}, Step.{file_delete_step, file_move_step, file_new_step, file_read_step, file_write_step, fill_step, get_step, hash_delete_step, hash_get_step, hash_put_step, mark_step, put_step, read_step, step, store_step, tree_delete_step, tree_get_step, tree_put_step, tree_scan_step, write_step}, Text.{hex_of, number_of, words_of}}
pub use Rattle.store_laws.{proofs.BothCalls.disjoint_blocks, proofs.BothGrowth.{made_append, mixed_append}, proofs.FileBlank.made_files, proofs.FileWrites.{WritesIn, create_in, read_in, remove_in, rename_in, write_in}, proofs.Growth.reads_spare, proofs.InOrder.same_shape, proofs.Longer.{array_longer, begins_by_both, last_of, stays_by_both}, proofs.Programs.{spare_where_apart, writes_within}, proofs.TwoStores.{both_commits, both_live, both_well_formed}, proofs.Zeros.zeros_blank, specs.Both.{AreMixed, BothInOrder, BothWellFormed, First, IsByBoth, IsOfBoth, Mixed, Neither, Second, firsts, seconds}, specs.Calls.{Del, Found, Get as GetKey, Got, KeyCall, Put as PutKey, StoreAnswer, Found as WasFound, WasPut, WasThere, in_area, key_act}, specs.FileBlocks.files_are_of_their_blocks, specs.Files.{FileAnswer, FileCall, FileMade, FileThere, MakeFile, ReadFile, RemoveFile, RenameFile, FileRead as WasRead, WriteFile, file_act, file_store, in_areas}, specs.HashBlocks.hash_is_of_its_blocks, specs.Parts.{Called, Other, Part, accesses_in, answers_in, calls_in, run}, specs.Region.{IsOfItsBlocks, MapStore, SameRegion, SpareRegion}, specs.Tree.{OnKey, Scan, TreeCall, tree_act}, specs.TreeBlocks.tree_is_of_its_blocks, specs.Writes.ShareNoBlock}
pub use Rattle.store_model.{proofs.HashAccesses.hash_area_is, proofs.TreeAccesses.tree_area_is, specs.Areas.{hash_area, tree_area}, specs.Cells.{cell_count, cell_with, value_part}, specs.FileCalls.{Call, create_op, is_many, least, read_op, remove_op, rename_op, write_op}, specs.FileRegion.{AreFileAreas, AreFileRegions, files}, specs.FreeMap.{free_count, lowest_free}, specs.HashCalls.{AtBroken, AtCell, AtEnd, Walked, at_cell, is_key, is_spent, is_value, spare_in, walk_from}, specs.HashRegion.{IsHashRegion, Pairs, bucket_of, buckets, del_op, get_op, hash_map, is_linked, last_position, next_of, put_op}, specs.Stores.{AreReads, Done, IsLocal, Look, LookWhole, Program, Reserve, Store, accesses_of, answer_of, bytes_in, further_bytes, outcome, store_access, then_do}, specs.TreeCalls.{Climb, Descent, climb, descend, first_write, free_list, full_row, look_again, need_of, put_new, put_writes, store_nodes, with_head, with_map}, specs.TreeNodes.{Cell, cell_of, child_of, count_of, is_child, is_head}, specs.TreeRegion.{IsTreeRegion, scan_op, tree_map}, specs.declared.files.FsError.FsError, specs.declared.stores.Area.Area, specs.declared.stores.Spot.Spot, specs.declared.stores.StoreError.StoreError, specs.declared.stores.StoreError.TheVariants.{BadKey, BadValue}}
unfoldable pub use Rattle.store_model.specs.{FileCalls.{create_program, read_program, remove_program, rename_program, write_program}, FileNodes.is_file, HashCalls.walk, TreeNodes.is_node}
pub use Rattle.tx_blocks.proofs.{Outcomes.outcome_whole, Programs.own_reads, Progress.own_append}
pub use Rattle.iso_fs.proofs.{CreateCalls.{HaveBlocks, create_local}, FileReads.{read_local, read_reads}, RemoveCalls.remove_local, RenameCalls.rename_local, WriteWhole.write_local}
pub use Rattle.store_scripts.specs.{Answers.{Answered, CallsStore, OfHash, OfSecond, answered, del_answer, get_answer, make_answer, put_answer, read_answer, scan_answer, there_answer}, InOrder.{AnswersWith, FilesAnswer, StoresAnswer}, Kept.{BeginsWell, IsToldOf, ToldByMap, ToldInOrder}, Stores.{IfAny, SecondStore, image_hash, pairs_if_any, second_store, the_files, the_tree}, Told.{CommitKeeps, CommitsKeep, EndsAs, IsEndedAs, Notes, Told, accesses_or_none, no_notes, noted, notes_after, nothing_told, spares_calls, spares_stores, told_after, told_by, told_more, with_call}}
