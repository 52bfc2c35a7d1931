-- The words that the proofs of this crate cite from elsewhere.
pub use Rattle.std.{proofs.Common.{Bool, IfSome, IsTrue, List, None, Option, Result, Some, ap, arith, cond, drop, eq-eqb, false, filter, flat_map, get_or, inl, inr, length, length-append, nat_le, nat_lt, ne_eqb, not, option_map, refl, replicate, slice_index, subst, suc, sym, take, true, zero, ℕ, [], ◌%◌, ◌&&◌, ◌*◌, ◌++◌, ◌+◌, ◌-◌, ◌/◌, ◌<◌, ◌==◌, ◌^◌, ◌||◌, ◌∙◌, ◌∷◌, ◌≡◌, ◌≢◌, ◌≤◌, ◌⊎◌}, proofs.Math.Nat.{mod-lt, mul-div-le}, proofs.lemmas.Bool.{and_parts, cases_Bool, eqb-false, eqb-true, false≢true, leb-false, leb-true, ltb-false, ltb-true, not-true, or_cases}, proofs.lemmas.Bool.Decides.nat_tests, proofs.lemmas.List.{length-drop, length-replicate, length-take, length-take-le}, proofs.lemmas.Nat.{and_le_r, or_lt, xor_lt}, specs.Int.{to_be_bytes, w32}, specs.List.{AllByRecursion, list_all, range_with_len}, specs.Prelude.{Err, Ok, map}, specs.Str.bytes_eq}
pub use Rattle.iso_model.{proofs.Bounds.{region_there, tests_passed}, proofs.ByteLists.{bytes_append, bytes_cons, bytes_drop, bytes_take, no_bytes, replicate_bytes, set_bytes}, proofs.Bytes.{length-block_put, length-put}, proofs.Recorded.put_values, specs.Array.{Array, zeros}, specs.Conflict.first_from, specs.Effect.own, specs.Geometry.is_block_size, specs.Premises.{AreAccesses, AreBytes, HasShape, IsAccess, IsSpan, block_at}, specs.declared.access.Access.Access, specs.declared.access.Geometry.Geometry, specs.declared.access.Kind.Kind, specs.declared.access.Kind.TheVariants.{Read, Write}, specs.declared.access.Span.Span}
unfoldable pub use Rattle.iso_model.specs.{Array.put, Geometry.is_valid}
unfoldable pub use Rattle.sha2.specs.Sha256.{compress, digest_bytes, first_words, hash_after, rounds, schedule, sha256}
pub use Rattle.store_model.specs.{Areas.{hash_area, in_area, tree_area}, Cells.{all_from, are_key_parts, block_with, cell_count, cell_with, is_part, key_at, key_mark, key_part, keys_end, keys_mark, laid_at, next_mark, part_of, unused_cell, value_mark, value_part}, FileCalls.Call, FreeMap.{bit_mark, bit_place, clear_bit, free_count, lowest_free, map_bit, map_mark, set_bit, with_bit}, HashCalls.{AtBroken, AtCell, AtEnd, Walked, at_cell, del_at, got, is_key, is_spent, is_value, new_block, put_at, put_new, spare_in, spot_in, walk_from, walk_further, with_cell}, HashRegion.{IsHashArea, buckets, last_position, next_of}, Stores.{Done, Look, LookWhole, Program, Reserve, Store, accesses_of, after, answer_of, bytes_in, further_bytes, look_access, outcome, store_access, then_do, with_further}, TreeCalls.{Answer, AtLeaf, Climb, Descent, Scanned, and_then, changed_map, changed_mark, climb, climb_on, del_below, descend, edit_leaf, first_in, first_write, free_list, full_row, get_below, inner_further, last_of, leaf_further, look_again, many_in, need_of, pairs_with, parts_of, placed, put_below_root, put_writes, root_cells, scan_below, scan_children, scan_from, scan_further, store_nodes, with_head, with_map, with_used, without_key}, TreeNodes.{Cell, IsBlock, before, below_from, cell_of, cells_by, child_of, child_part, count_of, has_head, has_level, head_mark, is_child, is_head, node_bytes, place_from, place_of, used_cells}, TreeRegion.{IsTreeArea, tree_nodes, tree_pairs}, Trees.{Put, emptied, first_key, fit, half, halves, put_after, without_first}, declared.files.FileAreas.FileAreas, declared.files.FsError.TheVariants.{BadRange, Exists}, declared.stores.Area.Area, declared.stores.Spot.Spot, declared.stores.StoreError.StoreError, declared.stores.StoreError.TheVariants.{Broken, NoBlocks}}
unfoldable pub use Rattle.store_model.specs.{FileCalls.{create_program, read_program, remove_program, rename_program, write_program}, FileNodes.is_file, HashCalls.{del_program, get_program, put_program, walk}, HashRegion.{bucket_of, is_linked}, TreeCalls.scan_program, TreeNodes.is_node}
