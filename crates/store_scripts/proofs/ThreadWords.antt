-- The words that the proofs of this crate cite from elsewhere.
pub use Rattle.iso_model.{proofs.Bounds.limits, proofs.Bytes.{other_block, written_block}, proofs.FreshWorlds.fresh_is, proofs.Growth.{all_weaker, appended_is}, proofs.Recorded.array_shape, proofs.Worlds.with_lives, specs.Array.{Array, merged}, specs.Effect.{is_write, own, own as written}, specs.Geometry.is_serial, specs.Group.leave_all, specs.History.{History, all_own, array_at, last}, specs.Marks.{is_outside, mark_fault, marked}, specs.Premises.{AreAccesses, HasBytes, HasShape, IsAccess, IsHistory, IsSpan, block_at}, specs.Step.{after_leaving, get_access, put_access, read_access, shown_to, with_accesses, write_access}, specs.World.{Live, World, attached, fresh, unattached}, specs.Worlds.{Extends, IsWorld}, specs.declared.access.Access.Access, specs.declared.access.Commit.Commit, specs.declared.access.EndReply.TheVariants.{Committed, Conflict, ReadOnly}, specs.declared.access.Geometry.Geometry, specs.declared.access.GroupReply.GroupReply, specs.declared.access.MarkError.MarkError, specs.declared.access.Mode.Mode, specs.declared.access.Mode.TheVariants.Serial, specs.declared.access.Span.Span, specs.declared.limits.TheConstants.MAX_ACCESSES}
unfoldable pub use Rattle.iso_model.specs.{Array.put, Geometry.is_valid}
pub use Rattle.iso_shared.{proofs.Racked.known_on, proofs.Begins.began_last, proofs.Follows.{Follows, follows_all, follows_next, last_longer}, proofs.Giving.fault_keeps, proofs.Grouped.after_live, proofs.Racked.IsPosting, proofs.Trace.{IsSound, after_append, legal_append, loose_is, opened_sound, sound_next}, specs.Legal.{AreLoose, Fits, IsLegal, LegalFrom, MayHaveMade}, specs.Ports.IsIsolatedAt, specs.States.{Start, State, after, after_all, after_fault, after_refusal, commits_made, is_live, is_loose, lost_commits, member_numbers, members_of, opened, posting_of, state_at, txs_of}, specs.declared.entry.Call.Call, specs.declared.entry.Cause.Cause, specs.declared.entry.Entry.Entry, specs.declared.entry.Member.Member, specs.declared.entry.MemberEnd.MemberEnd, specs.declared.entry.Posting.Posting}
pub use Rattle.par_script.specs.{Lines.{Aborts, AsksAndEnds, Begins, CallsStore, ClientLines, Compacts, Did, Does, Ends, EndsNow, EndsThen, Fetched, Fetches, GroupEnds, GroupWants, Groups, InStore, Looks, LooksFor, Own, Posts, Reads, Says, Stats, StopsAtLast, Trims, Upgrades, Walk, Where, WhereShown, aborts_after, aborts_of, alone, answer, blocks_read, fetches, found_ones, last_abort, live_of, member_for, members_for, own_after, own_among, refused_fetch, with_block}, Told.{FoundSome, entries_of, has_line, lines_of, lines_run}, declared.part.Part.Part}
pub use Rattle.script_model.specs.{Operations.{AreLines, IsOnStore, IsOp}, Step.{access_step, array_of, found_reply, in_store, in_transaction, mark_refused, marked_step, pairs_reply, removed_reply}, declared.script.Line.Line, declared.script.Op.Op, declared.script.Reply.Reply, declared.stop.Stop.Stop}
unfoldable pub use Rattle.script_model.specs.Step.{file_delete_step, file_move_step, file_new_step, file_read_step, file_write_step, fill_step, get_step, hash_delete_step, hash_get_step, hash_put_step, mark_step, put_step, read_step, step, store_step, tree_delete_step, tree_get_step, tree_put_step, tree_scan_step, write_step}
pub use Rattle.std.{proofs.Common.{Bool, Err, IsTrue, List, None, Ok, Option, Result, Some, ap, append-nil, append_assoc, arith, bytes_eq, cond, drop, eq-eqb, false, filter, inl, inr, is_some, length, map, nat_le, not, refl, replicate, slice_index, subst, suc, sym, take, true, zero, ℕ, [], ◌&&◌, ◌++◌, ◌+◌, ◌-◌, ◌<◌, ◌==◌, ◌||◌, ◌∙◌, ◌∷◌, ◌≡◌, ◌≤◌, ◌⊎◌}, proofs.lemmas.Bool.{and_from, and_parts, cases_eq, eqb-true, le-leb}, proofs.lemmas.List.append_cancel_left, specs.List.{AllByRecursion, list_all, list_any, range_with_len}, specs.Map.{lookup, remove_entry}}
pub use Rattle.store_calls.specs.Calls.{filed, is_empty_scan, store_areas, store_blocks, store_ended, stored}
pub use Rattle.store_scripts.{proofs.Listed.{files_answer_at, stores_answer_at}, specs.EntriesInOrder.{AnswersWithAt, AreByCalls, AreCallsInOrderAt, CommitsAreByCalls, array_at_begin, commit_at, commits_as, ends_bare, world_at}, specs.ThreadsInOrder.{CallsAnswer, CommitsInOrder, CommitsKeep, EachBare, EachCommit, LinesTellCalls, LiveInOrder, OfCommits, OfReads, ReadsByMap, WhereBare, WhereCommitted}, specs.Notes.{own_accesses, after_entry, after_line, first_or_nothing, if_some, no_notes, notes_after, put_at}, specs.Trace.{Event, IsOfOwn, IsOfPart, IsOneOf, IsTrace, Made, OfOwn, Runs, Step, client_of, entries_in, events_of, found_in, lines_in, told_in}}
pub use Rattle.store_laws.specs.{Both.{BothByMap, BothInOrder, IsOfBoth, MixedParts, firsts, seconds}, Calls.{Get, Got, Put, WasPut}, Parts.{answers_in, calls_in, run}, Tree.OnKey}
pub use Rattle.store_model.specs.{FileCalls.{create_program, read_program, remove_program, rename_program, write_program}, Stores.{Done, Look, LookWhole, Program, Reserve, Store, bytes_in, further_bytes, look_access, outcome, store_access, with_further}, declared.files.FileAreas.FileAreas}
pub use Rattle.store_scripts.{proofs.Acting.SecondGoes, proofs.Blocks.{files_second, tree_second}, proofs.FileGoes.file_goes, proofs.Growing.{all_are, all_parts, begins_told, in_form, same_told}, proofs.Lines.noted_step, proofs.Members.array_extends, proofs.Noted.IsNoted, proofs.Seconds.IsSecond, proofs.TreeGoes.tree_goes, specs.Answers.Answered, specs.Kept.{IsToldOf, ToldByMap, ToldInOrder}, specs.Stores.{SecondStore, image_hash, second_store, the_files, the_tree}, specs.Told.{Notes, Told, nothing_told, spares_calls, spares_stores, told_by, told_more}}
pub use Rattle.turn_lock.specs.Lists.{RisesFrom}
pub use Rattle.tx_blocks.proofs.Progress.{own_append}
