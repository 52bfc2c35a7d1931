-- The words that the proofs of this crate cite from elsewhere.
pub use Rattle.std.{proofs.Common.{Bool, Err, IsSome, IsTrue, List, Ok, Option, Result, ap, arith, cond, drop, false, filter, inl, inr, length, nat_le, nat_lt, not, ok_or, slice_index, subst, suc, take, true, zero, ℕ, ◌%◌, ◌&&◌, ◌+◌, ◌/◌, ◌<◌, ◌==◌, ◌^◌, ◌||◌, ◌∙◌, ◌≢◌, ◌≤◌, ◌⊎◌}, proofs.Math.Nat.{div-lt_iff_lt-mul, div-mul-le_self, mod-lt}, proofs.lemmas.Bool.{and_parts, cases_lt, eqb-false, eqb-true, le-leb, leb-false, leb-true, lt-ltb, ltb-false, ltb-true, not-false, or_parts}, proofs.lemmas.Bool.Decides.nat_tests, proofs.lemmas.List.{length-append, length-replicate, length-take, length_push}, proofs.lemmas.List.FromFn.length-map-range_with_len, proofs.lemmas.Nat.{and_le_r, le-div, or_lt, xor_lt}, specs.Int.{to_be_bytes, w32}, specs.List.{AllByRecursion, range_with_len}, specs.Prelude.{None, Some, codes, flat_map, map, refl, replicate, [], ◌*◌, ◌++◌, ◌-◌, ◌∷◌, ◌≡◌}}
unfoldable pub use Rattle.std.specs.Fmt.{digits}
pub use Rattle.iso_model.{proofs.Groups.all_apart_nowhere, proofs.Accesses.{get_is_access, inside_block, length-marked, marked_are, put_is_access, read_is_access, write_is_access}, proofs.Bounds.limits, proofs.ByteLists.{bytes_append, bytes_cons, bytes_drop, bytes_take, no_bytes, replicate_bytes, set_bytes}, proofs.Bytes.{length-block_put, length-put}, proofs.Distinct.{all_apart, all_find}, proofs.FreshWorlds.{empty_world_is, world_is_serial}, proofs.Groups.group_step_leads, proofs.Growth.all_push, proofs.Leads.{begin_leads, end_leads}, proofs.Places.all_apart_from_label, proofs.Recorded.{array_shape, own_shape, put_values}, proofs.Worlds.{accesses_are, all_append, chosen, leads_on, leaves, live_at, live_on, places, stays, switch_leads, trim_leads}, specs.Array.{Array, zeros}, specs.Geometry.{is_serial, is_valid}, specs.Group.{after_look, found_ones, looks}, specs.History.{History, array_at, shown_block}, specs.Labels.{is_digit, is_label, label_of}, specs.Marks.{is_outside, mark_fault, marked}, specs.Premises.{AreBytes, HasShape, IsAccess, IsSpan, block_at}, specs.Step.{after_leaving, after_switch, get_access, mode_named, placed, put_access, read_access, shown_to, write_access}, specs.World.{Live, Place, World, attached, client, empty_history, floor, fresh, held, is_under_label, label, unattached}, specs.Worlds.{AreApart, IsLive, IsWorld, LeadsTo}, specs.declared.access.Access.Access, specs.declared.access.Geometry.Geometry, specs.declared.access.MarkError.MarkError, specs.declared.access.Mode.TheVariants.{Serial, Snapshot}, specs.declared.access.Span.Span, specs.declared.core_reply.CoreReply.CoreReply, specs.declared.core_reply.CoreReply.TheVariants.{Began, Committed, Compacted, Conflict, ModeFixed, TooManyTx, Worn}, specs.declared.limits.TheConstants.{LAST, MAX_ACCESSES, MAX_INPUT, MAX_LINE}}
unfoldable pub use Rattle.iso_model.specs.{Array.put, Conflict.clash, Effect.runs, Group.group_step, Step.{begin_step, commit_step, end_step, switch_step}, Versions.versions}
unfoldable pub use Rattle.sha2.specs.Sha256.{compress, digest_bytes, first_words, hash_after, rounds, schedule, sha256}
pub use Rattle.store_model.{proofs.HashAccesses.{IsIn, bit_small, del_fits, first_below, get_fits, hash_area_is, put_fits}, proofs.Laying.{laid_bytes, length-laid_at, word_bytes}, proofs.StoreAccesses.{AllFit, FitsOn, fits_cond, fits_on, fits_then, outcome_fits}, proofs.TreeAccesses.{IsTreeIn, tree_area_is, tree_del_fits, tree_get_fits, tree_put_fits, tree_scan_fits}, specs.Areas.{hash_area, tree_area}, specs.Cells.{all_from, block_with, is_part, text_of, word_at}, specs.FileCalls.{Call, at_file, bits_mark, create_at, create_new, empty_writes, goes_on, high_place, in_tree, is_many, least, look_map, low_place, read_from, read_pieces, refuse, remove_file, remove_writes, rename_found, rename_free, with_new, without_bits, write_pieces, write_sized, write_to}, specs.FileNodes.{are_entries, blocks_for, bytes_of, data_count, entries_of, entry_at, entry_count, file_block, has_zeros, is_handed, is_number, most_bytes, piece_len, piece_mark}, specs.FreeMap.{bit_mark, bit_place, clear_bit, free_count, lowest_free, map_bit, map_mark, set_bit, with_bit, without_bit}, specs.HashCalls.{at_cell, del_program, is_key}, specs.Stores.{Look, LookWhole, Program, Reserve, Store, bytes_in, further_bytes, outcome, store_access, then_do}, specs.TreeCalls.{AtBroken, AtLeaf, Descent, changed_map, changed_mark, descend, first_write, free_list, get_below, got, last_of, with_head, with_used}, specs.TreeNodes.{cell_of, is_child, is_head}, specs.declared.files.FileAreas.FileAreas, specs.declared.stores.Area.Area, specs.declared.stores.StoreError.StoreError, specs.declared.stores.StoreError.TheVariants.{BadKey, Broken, NoBlocks}}
unfoldable pub use Rattle.store_model.specs.{FileCalls.{create_program, read_program, remove_program, rename_program, write_program}, FileNodes.is_file, HashCalls.{get_program, put_program, walk}, HashRegion.{bucket_of, is_linked}, TreeCalls.scan_program, TreeNodes.is_node}
pub use Rattle.script_model.specs.{Bench.{bench_output, bench_summary, drawn, number_drawn, recover_output, round_text}, CoreReplies.as_step, FilesArea.{blocks_behind, file_blocks, files_area}, Operations.{AreLines, IsOp, IsUpkeep}, Script.{Script, after, bad_line, bare, before_script, begin_arguments, client_in_range, group_arguments, hex_argument, key_and_value, label_argument, labels_of, last_piece, mode_argument, no_lines, number_and_bytes, number_argument, one_key, one_label, one_number, put_arguments, read_arguments, replies, scan_arguments, script_from, store_argument, three_numbers, two_numbers, without_return, write_arguments, ◌>>=◌}, Step.{access_step, array_of, file_refusal, file_step, found_reply, in_store, in_transaction, marked_step, out_of_transaction, pairs_reply, release_step, removed_reply, store_refusal, takeover_step, with_access}, Text.{before_piece, hex_digit, hex_pair, hex_pairs, is_empty, pieces}, declared.script.Line.Line, declared.script.Op.Op, declared.script.Op.TheVariants.{Abort, Await, Begin, Compact, End, FileDelete, FileMove, FileNew, FileRead, FileWrite, Fill, Get, Group, HashDelete, HashGet, HashPut, Mark, Put, Read, Read as ReadBlock, Release, Stat, Takeover, TreeDelete, TreeGet, TreePut, TreeScan, Trim, Upgrade, Write, Write as WriteBlock}, declared.script.Parsed.Parsed, declared.script.Parsed.TheVariants.{Line as Says, Skip}, declared.script.Reply.Reply, declared.script.Reply.TheVariants.{BadBlock, BadRange, Done, Pairs, TooManyAccesses}, declared.script.TheConstants.MAX_LABELS}
unfoldable pub use Rattle.script_model.specs.{Bench.bench_text, Script.{file_operation, operation_of, other_operation, parse, parse_whole, said, script, store_operation, tree_operation}, Step.{file_delete_step, file_move_step, file_new_step, file_read_step, file_write_step, fill_step, get_step, hash_delete_step, hash_get_step, hash_put_step, mark_step, numbers, put_step, read_step, step, store_step, tree_delete_step, tree_get_step, tree_put_step, tree_scan_step, write_step}, Text.{hex_of, label_text, number_of, reply_text, words_of}}
