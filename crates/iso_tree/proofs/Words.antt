-- The words that the proofs of this crate cite from elsewhere.
pub use Rattle.std.{proofs.Common.{Bool, Err, IfErr, IfOk, IsTrue, List, None, Ok, OnOk, Option, Result, Some, ap, arith, cond, drop, eq-eqb, false, get_or, inl, inr, is_some, length, map, nat_le, ne_eqb, not, option_map, refl, replicate, rules, set, slice_index, subst, suc, sym, take, true, zero, zero-add, ℕ, [], ◌%◌, ◌&&◌, ◌*◌, ◌++◌, ◌+◌, ◌-◌, ◌/◌, ◌<◌, ◌==◌, ◌^◌, ◌||◌, ◌↔◌, ◌∙◌, ◌∷◌, ◌≡◌, ◌≢◌, ◌≤◌, ◌⊎◌}, proofs.Math.Dec.T, proofs.Math.Seq.{take-add, take-nil}, proofs.lemmas.Bool.{and_from, and_parts, both_ways, cases_Bool, cases_eq, cases_lt, false_from_ne_true, leb-true, ltb-true, or_left, or_right}, proofs.lemmas.Bool.Decides.nat_tests, proofs.lemmas.Grind.{common_steps, flat_map-append}, proofs.lemmas.List.{append-nil, append_assoc, drop-drop, drop-replicate, drop-take, drop_at, get_or-append_right, get_or-drop, get_or-set_other, get_or-take, get_or_append_left, length-append, length-drop, length-replicate, length-set, length-take, length-take-le, map-append, take-append-drop, take-take, take_at}, proofs.lemmas.List.Elements.filter-append, proofs.lemmas.List.Folds.list_all-append, proofs.lemmas.Nat.from_be_bytes-to_be_bytes_4, proofs.lemmas.Slice.Eq.bytes_eq-Decides, specs.Cmp.Lexicographic.{nat_list_cmp_total, nat_list_eq_equiv, slice_cmp}, specs.FinMap.{FinMap, entries, entries-from_sorted, from_entries, from_sorted, get, get-from_entries, get-from_sorted, get-insert, get-remove, insert, nat_cmp-IsAntisymmetric, remove, same_map, slice_cmp-IsAntisymmetric}, specs.FinMap.Entries.{below_all, is_sorted}, specs.Int.{bit_at, from_be_bytes, to_be_bytes, w32}, specs.List.{AllByRecursion, filter, flat_map, list_all, range_with_len}, specs.Option.ForSome, specs.Ordering.{eq_by_cmp, is_lt, nat_cmp, ordering_reverse}, specs.Prelude.nat_lt, specs.Str.bytes_eq, specs.declared.cmp.Ordering.Ordering, specs.declared.cmp.Ordering.TheVariants.{Equal, Greater, Less}}
pub use Rattle.iso_alloc.proofs.{Bits.with_bits, Finding.{ties, not_bytes_eq, found_in, find_append}, Laying.laid_here, Loops.{all_at, all_end, all_fails, all_goes_on, all_pass, first_found, first_goes_on, first_passes}, Members.{in_front, in_back, in_cases}}
pub use Rattle.iso_model.{proofs.Bytes.{length-block_put, merged_at, other_block, written_block}, proofs.Worlds.all_append, specs.Array.{Array, covered, in_span, merged, put}, specs.Conflict.first_from, specs.Effect.{is_write, or_else, own}, specs.Marks.marked, specs.Premises.{IsSpan, block_at}, specs.declared.access.Access.Access, specs.declared.access.Span.Span}
pub use Rattle.store_model.{proofs.AreaBlocks.{in_its_area, same_block, same_first, start_in}, proofs.HashAccesses.first_below, proofs.Laying.{length-laid_at, length-part}, proofs.TreeCells.{length-filter_le, length-emptied, block_size_is}, proofs.TreeWays.{row_less, length-placed, free_are}, specs.Areas.in_area, specs.Cells.{all_from, are_key_parts, block_with, cell_count, is_part, is_unused, is_zero, key_at, key_mark, key_part, keys_end, keys_mark, laid_at, text_of, value_mark, value_part, word_at}, specs.FreeMap.{bit_place, free_count, lowest_free, map_bit, map_bytes, map_mark, set_bit, with_bit}, specs.HashCalls.{at_cell, is_key, is_value}, specs.HashRegion.{IsIn, Pairs, del_op, get_op, put_op}, specs.Stores.{AreReads, Done, IsLocal, Look, LookWhole, Program, Reserve, Store, accesses_of, answer_of, bytes_in, further_bytes, look_access, store_access, then_do, with_further}, specs.TreeCalls.{Answer, AtBroken, AtLeaf, Climb, Descent, Scanned, and_then, changed_map, changed_mark, climb, climb_on, del_at, del_below, descend, edit_leaf, first_in, first_write, free_list, full_row, get_below, got, inner_further, last_of, leaf_further, look_again, many_in, need_of, pairs_with, parts_of, placed, put_at, put_below_root, put_new, put_writes, root_cells, scan_below, scan_children, scan_from, scan_further, store_nodes, with_head, with_map, with_used, without_key}, specs.TreeNodes.{Cell, FitCells, IsBlock, Node, are_cells, before, below_from, cell_of, cells_by, child_of, child_part, count_of, found_or, has_head, has_level, head_mark, is_child, is_head, keys_in, node_bytes, place_from, place_of, used_cells, value_in}, specs.TreeRegion.{AreNodes, IsNode, IsTreeArea, IsTreeRegion, cells_in, is_part_at, is_within, level_of, root_of, scan_op, tree_nodes, tree_pairs}, specs.Trees.{AreAfter, AreChildren, IsApart, IsOrdered, Put, Rise, RiseAfter, Tree, emptied, first_key, fit, half, halves, in_range, nodes_in, pairs_in, put_after, tree_at, without_first}, specs.declared.stores.Area.Area, specs.declared.stores.Region.Region, specs.declared.stores.StoreError.StoreError, specs.declared.stores.StoreError.TheVariants.{BadKey, BadValue, Broken, NoBlocks}, specs.declared.stores.TxError.TxError}
unfoldable pub use Rattle.store_model.specs.{TreeCalls.{del_program, get_program, put_program, scan_program}, TreeNodes.is_node, TreeRegion.tree_map}
pub use Rattle.tx_blocks.{proofs.Frames.{kept_1, kept_2, laid_all, laid_whole, piece_of, zeros_are, part_is_part, part_text}, proofs.Marking.{looked_as, marked_access, may_mark}, proofs.Parts.{began_from, behaves_after, behaves_next, cut_from, ended_from, read_join, refused_first, refused_reading, refused_so, refused_then, run_from, run_local, scanned_ok}, proofs.Programs.{AreWhole, HasBlocks, IsCorrect, accesses_then, answer_then, blocks_of, cond_reads, local_from, own_reads, reads_append, reads_then, same_ok, whole_append, whole_reads}, proofs.Progress.{IsAt, at_as, at_join, at_look, at_look_whole, at_reserve, at_start, at_store, at_then, began_at, full_at_reserve, own_append, ran_at, ran_done, room_after, whole_run}, proofs.Refusals.{behaves_more, cause_since, cut_at_look, cut_at_store, cut_first, cut_then, later_same, later_than, read_base, read_more, read_none, read_one, read_same, store_cause}, proofs.Storing.{Answers, StoresIn, answers_cond, stores_cell, stores_cond, stores_if, stores_then}, specs.Runs.{HasArea, AreBytesOf, Behaves, HasEnded, HasRead, HasRun, IsCause, IsCut, IsLocalCall, Passed, Ran, WantsMemory, area_of}, specs.Tx.{Device, IsLater, IsTx, Tx, mark_refusal, room_of, with_accesses}}
pub use Rattle.iso_tree.specs.{Entries.{key_at_row, row, spelled}, FirstBlock.{Up, ends, first_access, first_bytes, first_spans}, Rows.{AreBlocks, AreInside, ArePathUsable, AreShownUsable, AreUsable, IsUsable, key_in_row, nodes_from, part_in_row, row_from, upto_from, NeedsBlocks, cells_from}, Sizes.{HasNodeParts, AreBytes}, Visits.{AreIn, HasScanned, IsVisited, keys_of, left_of, node_read, scan_nodes, values_mark, values_of, visit_program}, Ways.{HasLookedAgain, climbed, halves_of}, Walks.{HasDescended, HasReadLeaf, HasWritten, IsFollowed, IsLeaf, IsWalkError, OnlyReads, child_program, head_program, leaf_program, leaf_value}, declared.descent.Leaf.Leaf, declared.entry.Entry.Entry, declared.growth.Growth.Growth, declared.visit.Visit.Visit, declared.way.Way.Way}
