-- The words that the proofs of this crate cite from elsewhere.
pub use Rattle.std.{proofs.Common.{Bool, Err, IfOk, IsTrue, List, None, Ok, Option, Result, Some, ap, append_assoc, arith, cond, drop, eq-eqb, false, get_or, inl, inr, length, length-append, map, nat_le, ne_eqb, not, option_map, refl, replicate, set, subst, suc, sym, take, true, zero, ℕ, [], ◌%◌, ◌&&◌, ◌*◌, ◌++◌, ◌+◌, ◌-◌, ◌/◌, ◌<◌, ◌==◌, ◌^◌, ◌||◌, ◌↔◌, ◌∙◌, ◌∷◌, ◌≡◌, ◌≢◌, ◌≤◌, ◌⊎◌}, proofs.Math.Nat.{div-eq_of_lt, div-lt_iff_lt-mul, div-mul-le_self, mod-lt, mul-le-mul_right}, proofs.Math.Seq.take-set-lt, proofs.lemmas.Bool.{and_from, and_parts, both_ways, cases_Bool, cases_eq, cases_lt, false≢true, leb-true, ltb-true, or_left, or_right}, proofs.lemmas.Bool.Decides.nat_tests, proofs.lemmas.Grind.{common_steps, flat_map-append, take_at_read}, proofs.lemmas.List.{append-nil, drop-drop, drop-replicate, drop-take, drop_at, ext_get_or, get_or-append_right, get_or-drop, get_or-set_other, get_or-set_same, get_or-take, get_or_append_left, length-drop, length-replicate, length-set, length-take, length-take-le, take-take, take_all, take_at, take_rest, with_items_is}, proofs.lemmas.List.FromFn.{get_or-map-range_with_len, length-map-range_with_len, take-map-range_with_len}, proofs.lemmas.Result.err_from_is_err_and, proofs.lemmas.Nat.{div-add-mod', div-mul-add, from_be_bytes-to_be_bytes_4, le-div, mod-mul-add}, proofs.lemmas.Slice.Eq.bytes_eq-Decides, specs.Cmp.Lexicographic.{nat_list_cmp_total, slice_cmp}, specs.FinMap.{entries, get, get-entries, get-from_entries, get-insert, get-remove, insert, nat_cmp-IsAntisymmetric, remove, same_map, slice_cmp-IsAntisymmetric}, specs.Int.{from_be_bytes, to_be_bytes, w32}, specs.List.{filter, flat_map, list_all, range_with_len}, specs.Option.ForSome, specs.Ordering.{eq_by_cmp, nat_cmp}, specs.Prelude.{IfErr, OnOk, is_some, nat_lt, slice_index}}
pub use Rattle.iso_alloc.proofs.{Bits.bits_with, Finding.{found_in, not_bytes_eq, ties}, Laying.laid_here, Loops.{all_at, all_fails, all_goes_on}}
pub use Rattle.iso_model.{proofs.Bytes.{length-block_own, length-block_put, merged_kept, other_block, put_here, written_block}, specs.Array.{Array, byte_at, covered, in_span, merged, put}, specs.Conflict.first_from, specs.Effect.own, specs.Premises.block_at, specs.declared.access.Access.Access, specs.declared.access.Span.Span}
pub use Rattle.iso_tree.{proofs.DelCalls.{del_correct, del_whole}, proofs.Enlarging.{blocks_from, free_same, taken_same, used_same}, proofs.Facts.nothing_is, proofs.Fits.area_block, proofs.Gets.{get_answers, get_reads}, proofs.Getting.{blocks_in, cut_at_whole}, proofs.Looking.at_as, proofs.MapBits.{bits_after, length-changed}, proofs.NewBlocks.sizes_of, proofs.PutCalls.put_correct, proofs.PutWhole.put_whole, proofs.Scanning.then_assoc, proofs.Taking.{AreTaken, taken_are, up_apart}, proofs.TreeBlocks.{map_new, region_new}, proofs.TreeWrites.{del_program_stores, put_program_stores}, specs.FirstBlock.Up, specs.Rows.AreBlocks, specs.Walks.TakesNoBlocks}
pub use Rattle.store_model.{proofs.Laying.{length-block_with, length-laid_at}, specs.Areas.in_area, specs.Cells.{all_from, block_with, is_zero, laid_at}, specs.FileCalls.{Call, at_file, bits_mark, broken, create_at, create_new, create_op, empty_writes, goes_on, high_place, in_tree, is_many, least, look_map, low_place, name_file, numbered, read_from, read_of, read_op, read_pieces, refuse, remove_file, remove_op, remove_writes, rename_found, rename_free, rename_in, rename_op, with_file, with_new, without_bits, write_in, write_op, write_pieces, write_sized, write_to, written}, specs.FileNodes.{are_entries, blocks_for, bytes_of, data_count, entries_of, entry_at, entry_count, file_block, has_zeros, is_handed, is_number, most_bytes, number_of, piece_len, piece_mark}, specs.FileRegion.{AreFileAreas, AreFileRegions, IsUsed, Uses, block_in, content, file_at, file_byte, number_at}, specs.FreeMap.{bit_mark, bit_place, clear_bit, free_count, lowest_free, map_bit, map_bytes, map_mark, set_bit, with_bit, without_bit}, specs.HashCalls.{is_key, is_value}, specs.HashRegion.{IsIn, Pairs}, specs.Stores.{AreReads, Done, IsLocal, Look, LookWhole, Program, Store, accesses_of, answer_of, bytes_in, look_access, store_access, then_do}, specs.TreeCalls.{changed_map, changed_mark, first_write, free_list}, specs.TreeRegion.{IsTreeArea, IsTreeRegion, tree_map}, specs.Trees.IsApart, specs.declared.files.FileAreas.FileAreas, specs.declared.files.FsError.FsError, specs.declared.files.FsRegion.FsRegion, specs.declared.stores.Area.Area, specs.declared.stores.Region.Region, specs.declared.stores.StoreError.StoreError, specs.declared.stores.StoreError.TheVariants.NoBlocks, specs.declared.stores.TxError.TxError}
unfoldable pub use Rattle.store_model.specs.{FileCalls.{create_program, read_program, remove_program, rename_program, write_program}, FileNodes.is_file, FileRegion.files, TreeCalls.{del_program, get_program, put_program}}
pub use Rattle.tx_blocks.{proofs.Frames.{kept_1, laid_all, laid_whole, zeros_are}, proofs.MapByte.{byte_far, byte_here, head_far, map_byte}, proofs.Outcomes.outcome_whole, proofs.Parts.{cut_from, ends_from, read_join, stopped_from}, proofs.Programs.{AreWhole, HasBlocks, IsCorrect, accesses_then, answer_then, cond_reads, local_from, own_reads, reads_append, same_ok, whole_append, whole_reads}, proofs.Progress.{HasAccess, IsAt, at_join, at_look, at_look_whole, at_start, at_store, at_then, own_append, ran_at, ran_done, stopped_at, stopped_then, whole_run}, proofs.Refusals.{cause_earlier, cause_since, cut_at_look, cut_at_store, cut_then, later_same, later_than, read_more, read_none, read_same, store_cause}, proofs.Storing.kept_outside, specs.Runs.{AreBytesOf, HasEnded, HasRead, IsCause, IsLocalCall, IsStoreCause, Passed, Ran}, specs.Tx.{Device, IsLater, IsTx, Tx, room_of, with_accesses}}
pub use Rattle.iso_fs.specs.{Ends.{ExistsWhere, FsBehaves, HasAnswered, HasArea, HasRun, IsFsCause, IsPart, IsUnwritten, areas_of, may_follow}, Finds.{ArePlaces, Found, drop_name, find_program, found_file, on_found, with_dropped, with_taken}}
