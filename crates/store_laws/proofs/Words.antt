-- The words that the proofs of this crate cite from elsewhere.
pub use Rattle.std.{proofs.Common.{Bool, Err, IfOk, IfSome, IsTrue, List, None, Ok, Option, Result, Some, ap, append-nil, append_assoc, arith, cond, eq-eqb, false, get_or, inl, inr, length, map, nat_le, not, option_map, refl, replicate, slice_get, subst, suc, sym, take, true, unwrap_or, zero, ℕ, [], ◌%◌, ◌&&◌, ◌++◌, ◌+◌, ◌-◌, ◌<◌, ◌==◌, ◌||◌, ◌∙◌, ◌∷◌, ◌≡◌, ◌≤◌, ◌⊎◌}, proofs.lemmas.Bool.{and_from, and_parts, both_ways, cases_Bool, cases_eq, cases_lt, eqb-false, eqb-true, false≢true, leb-true, ltb-true, or_cases, or_right}, proofs.lemmas.Bool.Decides.nat_tests, proofs.lemmas.List.{get_or-replicate, get_or_past, length-append, length-replicate, take-append-le, take-replicate}, proofs.lemmas.Nat.Bits.bit_at-zero, proofs.lemmas.Option.{none-some, same_Some}, proofs.lemmas.Slice.Eq.bytes_eq-Decides, specs.Cmp.Lexicographic.{nat_list_cmp_total, slice_cmp}, specs.FinMap.{empty, entries, entries-insert, from_entries, get, get-empty, get-insert, insert, nat_cmp-IsAntisymmetric, same_map, slice_cmp-IsAntisymmetric}, specs.Int.{bit_at, from_be_bytes, w32}, specs.List.{filter, flat_map, list_all, range_with_len}, specs.Ordering.nat_cmp, specs.Prelude.nat_lt}
pub use Rattle.iso_hash.proofs.{Chains.{head_of, next_in}, Finding.ties, Gets.bucket_below, Rewritten.all_pass}
pub use Rattle.iso_model.{proofs.Bounds.limits, proofs.Bytes.{length-all_own, length-block_all_own, length-block_own, length-block_put, length-own, other_block, put_here, put_kept}, proofs.Isolation.{if_some_from, slice_get_append_left}, proofs.Rows.small, proofs.Worlds.all_append, specs.Array.{Array, byte_at, covered, in_span, zeros}, specs.Conflict.{IsSerialAt, IsSnapshotAt, Meets}, specs.Effect.{covers, has_write, is_write, own}, specs.History.{History, all_own, array_at, last, shown}, specs.Isolation.{HasSeen, IsIsolated, IsIsolatedAt}, specs.Premises.{IsHistory, appended, block_at}, specs.declared.access.Access.Access, specs.declared.access.Commit.Commit, specs.declared.access.Geometry.Geometry, specs.declared.access.Kind.TheVariants.{Read, Write}, specs.declared.access.Mode.Mode, specs.declared.access.Mode.TheVariants.{Serial, Snapshot}, specs.declared.access.Span.Span}
unfoldable pub use Rattle.iso_model.specs.Array.{put}
pub use Rattle.iso_tree.proofs.{Gets.get_reads, ScanCalls.{entries_are, program_reads}, Taking.taken_are, TreeWrites.{del_program_stores, put_program_stores}}
pub use Rattle.store_model.{proofs.AreaBlocks.{in_its_area, start_in}, proofs.HashAccesses.{first_below, hash_area_is}, proofs.TreeAccesses.tree_area_is, specs.Areas.{hash_area, tree_area, in_area}, specs.Cells.{are_key_parts, cell_count, cell_with, is_part, is_unused, is_zero, key_mark, keys_end, keys_mark, unused_cell, value_mark, word_at}, specs.FileCalls.{Call, at_file, create_at, create_new, create_op, goes_on, in_tree, is_many, read_op, read_program, remove_file, remove_op, remove_writes, rename_found, rename_free, rename_op, with_new, write_op, write_pieces, write_sized, write_to}, specs.FileNodes.{blocks_for, bytes_of, data_count, entries_of, entry_at, is_file, is_handed, is_number, most_bytes, number_of}, specs.FileRegion.{AreFileAreas, AreFileRegions, Uses, content, files, number_at}, specs.FreeMap.{bit_place, free_count, lowest_free, map_bit}, specs.HashCalls.{AtBroken, AtCell, AtEnd, Walked, at_cell, del_at, got, is_key, is_spent, put_at, put_new, spare_in, spot_in, walk_from}, specs.HashRegion.{AreLinked, IsHashArea, IsHashRegion, IsIn, IsOverflow, Pairs, Stands, bucket_of, bucket_pairs, buckets, chain, chain_from, del_op, get_op, last_position, next_of, pairs_from, put_op, view_of}, specs.Stores.{Agree, AreReads, Done, IsLocal, Look, LookWhole, Program, Reserve, SameShape, Store, accesses_of, answer_of, bytes_in, depends, further_bytes, look_access, store_access, then_do}, specs.TreeCalls.{free_list, scan_program}, specs.TreeNodes.{head_mark, is_head}, specs.TreeRegion.{IsTreeArea, IsTreeRegion, cells_in, is_within, level_of, root_of, scan_op, tree_nodes}, specs.Trees.{IsApart, nodes_in, pairs_in, tree_at}, specs.declared.files.FileAreas.FileAreas, specs.declared.stores.Area.Area, specs.declared.stores.Region.Region, specs.declared.stores.Spot.Spot, specs.declared.stores.StoreError.StoreError}
unfoldable pub use Rattle.store_model.specs.{FileCalls.{create_program, remove_program, rename_program, write_program}, HashCalls.{del_program, get_program, put_program, walk}, HashRegion.{hash_map, is_linked}, TreeRegion.tree_map}
pub use Rattle.tx_blocks.{proofs.Frames.piece_zero, proofs.Parts.scanned_ok, proofs.Programs.accesses_then, proofs.Progress.{added_is, own_append, whole_run}, proofs.Storing.{Answers, StoresIn, answers_cond, stores_cell, stores_cond, stores_then}, specs.Runs.{HasEnded, HasRead, IsLocalCall, WantsMemory, area_of}, specs.Tx.{Tx, added, with_accesses}}
pub use Rattle.iso_fs.{proofs.FileBlocks.place_in, proofs.FileReads.read_reads, proofs.Files.{entry_handed, file_parts, handed_is}, proofs.Lookups.files_get, proofs.Removes.in_range_map}
pub use Rattle.store_laws.specs.{Both.{AreMixed, BothByMap, BothInOrder, BothWellFormed, First, IsByBoth, IsOfBoth, Mixed, MixedParts, Neither, Second, firsts, seconds}, BothStores.{IsMadeOfStores, StorePart}, Committed.{AnswersAt, AnswersShown, AreCommitted, BothAnswerFrom, BothAnswerAt, BothAnswerShown, AnswersFrom, IsCommitted}, Calls.{AreDisjoint, Del, Found, Get, Got, IsBlank, KeyCall, Put, StoreAnswer, WasPut, WasThere, key_act}, FileBlocks.files_are_of_their_blocks, Files.{FileMade, FileRead, FileThere, MakeFile, ReadFile, RemoveFile, RenameFile, WriteFile, file_act, file_store, in_areas}, Growing.{IsMadeOf, IsMadeOfBoth}, Hash.hash_store, HashBlocks.hash_is_of_its_blocks, Looks.{AreLooking, LooksAnswer, LooksAnswerAt}, Parts.{AnswerByMap, AnswerInOrder, AreMade, ArraysFrom, Called, CommitsAfter, IsByCalls, IsOfCalls, Other, Part, PartsOf, accesses_in, answers_in, calls_in, run}, Region.{IsOfItsBlocks, MapStore, SameRegion, SpareRegion}, Tree.{OnKey, Scan, TreeCall, tree_act, tree_store}, TreeBlocks.tree_is_of_its_blocks, Writes.{ShareNoBlock, WriteWithin}}
