-- The words that the proofs of this crate cite from elsewhere.
pub use Rattle.std.{proofs.Common.{Bool, Err, IfOk, IfSome, IsTrue, List, None, Ok, Option, Result, Some, ap, append_assoc, arith, cond, drop, eq-eqb, false, get_or, inl, inr, is_some, length, length-append, nat_eq, nat_le, nat_lt, ne_eqb, not, option_map, refl, replicate, subst, suc, sym, take, true, zero, ℕ, [], ◌%◌, ◌&&◌, ◌*◌, ◌++◌, ◌+◌, ◌-◌, ◌<◌, ◌==◌, ◌^◌, ◌||◌, ◌↔◌, ◌∙◌, ◌∷◌, ◌≡◌, ◌≢◌, ◌≤◌, ◌⊎◌}, proofs.lemmas.Bool.{and_from, and_parts, both_ways, cases_Bool, cases_eq, cases_lt, eqb-false, eqb-true, leb-true, ltb-true, or_cases, or_left, or_right}, proofs.lemmas.Bool.Decides.nat_tests, proofs.lemmas.List.{get_or-set_same, get_or-take, length-replicate}, proofs.lemmas.Nat.from_be_bytes-to_be_bytes_4, proofs.lemmas.Slice.Eq.bytes_eq-Decides, specs.Cmp.Lexicographic.{nat_list_cmp_total, slice_cmp}, specs.FinMap.{from_entries, get, get-from_entries, get-insert, get-remove, insert, nat_cmp-IsAntisymmetric, remove, same_map, slice_cmp-IsAntisymmetric}, specs.Int.{from_be_bytes, to_be_bytes, w32}, specs.List.{AllByRecursion, flat_map, list_all, range_with_len}, specs.Option.ForSome, specs.Ordering.{eq_by_cmp, nat_cmp}, specs.Str.bytes_eq}
unfoldable pub use Rattle.std.specs.List.{IsDistinct}
pub use Rattle.iso_alloc.proofs.{Bits.{bits_with, bits_without}, Laying.laid_here, Loops.{all_at, all_pass, first_low, first_passes, lowest_alike}, Members.{in_front, in_back, in_cases}}
pub use Rattle.iso_model.{proofs.Bytes.{length-block_put, other_block, written_block}, specs.Array.{Array, covered, in_span, merged, put}, specs.Conflict.first_from, specs.Effect.{or_else, own}, specs.Premises.block_at, specs.declared.access.Access.Access, specs.declared.access.Span.Span}
pub use Rattle.store_model.{proofs.HashAccesses.first_below, proofs.Laying.{length-laid_at, length-part}, specs.Cells.{are_key_parts, block_with, cell_count, cell_with, is_part, is_unused, is_zero, key_at, key_mark, key_part, keys_end, keys_mark, laid_at, next_mark, text_of, unused_cell, value_mark, value_part, word_at}, specs.FreeMap.{bit_mark, bit_place, clear_bit, lowest_free, map_bit, map_bytes, map_mark, set_bit, with_bit, without_bit}, specs.HashCalls.{AtBroken, AtCell, AtEnd, Walked, at_cell, del_at, got, is_alone, is_key, is_spent, is_value, new_block, put_at, put_new, spare_in, spot_in, walk_from, walk_further, walk_next, with_cell}, specs.HashRegion.{AreLinked, HaveValues, IsHashArea, IsHashRegion, IsIn, IsKeyed, IsOverflow, Pairs, Stands, all_pairs, bucket_pairs, buckets, chain, chain_from, del_op, get_op, is_next, last_position, next_of, pairs_from, pairs_of, put_op, view_of}, specs.Stores.{AreReads, Done, IsLocal, Look, Program, Reserve, Store, accesses_of, answer_of, bytes_in, further_bytes, look_access, store_access, then_do, with_further}, specs.declared.stores.Area.Area, specs.declared.stores.Region.Region, specs.declared.stores.Spot.Spot, specs.declared.stores.StoreError.StoreError, specs.declared.stores.StoreError.TheVariants.{BadKey, Broken, NoBlocks}, specs.declared.stores.TxError.TxError}
unfoldable pub use Rattle.store_model.specs.{HashCalls.{del_program, get_program, put_program, walk}, HashRegion.{bucket_of, hash_map, is_linked}}
pub use Rattle.tx_blocks.{proofs.Frames.{kept_1, kept_2, laid_all, laid_whole, laid_kept, piece_of, zeros_are, piece_zero, part_is_part, part_text, zero_part}, proofs.MapByte.{map_byte, length-block_with, in_block_with, byte_here, byte_far, head_far}, proofs.Marking.{looked_as, marked_access, may_mark}, proofs.Parts.{behaves_next, done_so, ended_from, refused_first, refused_memory, refused_so, run_from, run_local}, proofs.Programs.{AreWhole, HasBlocks, IsCorrect, accesses_then, answer_then, blocks_of, cond_reads, local_from, no_ok, own_reads, reads_then, same_ok, whole_append, whole_reads}, proofs.Progress.{IsAt, at_as, at_look, at_reserve, at_start, at_store, at_then, full_at_reserve, own_append, ran_at, ran_done, whole_run}, proofs.Refusals.{behaves_more, cause_earlier, cut_at_look, cut_at_store, cut_first, cut_then, later_same, later_than, read_more, read_none, read_one, read_same, read_size, store_cause}, specs.Runs.{Behaves, HasEnded, HasRead, HasRun, IsCause, IsCut, IsLocalCall, IsStoreCause, Ran, area_of}, specs.Tx.{Device, IsLater, IsTx, Tx, room_of, with_accesses}}
pub use Rattle.iso_hash.specs.Walks.{HasWalked, IsSpot}
