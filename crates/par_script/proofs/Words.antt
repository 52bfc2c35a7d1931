-- The words that the proofs of this crate cite from elsewhere.
pub use Rattle.std.{proofs.Common.{Bool, List, None, Option, Some, ap, append_assoc, arith, cond, eq-eqb, false, get_or, inl, inr, length, length-append, map, nat_lt, refl, replicate, subst, suc, sym, true, zero, ℕ, [], ◌++◌, ◌+◌, ◌<◌, ◌==◌, ◌||◌, ◌∙◌, ◌∷◌, ◌≡◌, ◌≤◌, IsPermutation, drop, flat_map, rules, take}, proofs.Math.ListN.get_or-map, proofs.Math.Seq.{get_or-append_seam, take-append-add, take-append_seam}, proofs.lemmas.Bool.eqb-true, proofs.lemmas.Bool.Decides.nat_tests, proofs.lemmas.List.{append-nil, length-map, get_or_default, take-append-drop, take-append-le, take_all, take_more}, proofs.lemmas.List.Concat.flat_map-append, proofs.lemmas.List.Folds.concat-append, proofs.lemmas.List.Sorted.IsNonDecreasingBy-from_sort_by_key, proofs.lemmas.Result.{on_err_weaker, on_ok_weaker}, specs.List.{AllByRecursion, list_any, concat}, specs.Prelude.{Err, Ok, filter, slice_index, OnErr, Result}}
pub use Rattle.iso_model.{proofs.Accesses.{get_is_access, put_is_access}, proofs.ByteLists.no_bytes, specs.Array.{Array, zeros}, specs.Premises.{AreBytes, IsAccess, block_at}, specs.Step.{get_access, put_access}, specs.World.{empty_history, fresh}, specs.declared.access.Access.Access, specs.declared.access.EndReply.TheVariants.{Committed, ReadOnly}, specs.declared.access.Geometry.Geometry, specs.declared.access.GroupReply.GroupReply, specs.declared.access.Mode.TheVariants.{Serial, Snapshot}}
unfoldable pub use Rattle.iso_model.specs.{Array.put, Conflict.clash, Effect.runs, Step.{begin_step, commit_step, end_step}}
pub use Rattle.iso_shared.specs.{Legal.IsLegal, States.Start, declared.entry.Cause.Cause, declared.entry.Entry.Entry, declared.entry.Member.Member, declared.entry.MemberEnd.MemberEnd}
pub use Rattle.par_script.specs.{Lines.{CallsStore, Did, Does, Fetched, Own, StopsBy, Walk, answer, blocks_read, fetches, last_abort, members_for, own_after, refused_fetch}, Output.{commit_by, AreCommits, AreFirst, IsFront, IsOutput, commit_in, commit_line, commits_of, told_lines}, Told.{Told, clients_in, entries_of, lines_of}, declared.TheConstants.MAX_LOOKS, declared.commit_line.CommitLine.CommitLine, declared.part.Part.Part}
unfoldable pub use Rattle.script_model.specs.Step.{file_move_step, file_new_step, file_read_step, get_step, hash_get_step, put_step, read_step, step, store_step}
pub use Rattle.script_model.specs.{Text.reply_line, declared.script.Line.Line, declared.script.Op.Op, declared.script.Reply.Reply}
pub use Rattle.store_model.specs.{Areas.hash_area, Cells.keys_mark, HashCalls.{got, walk_of}, Stores.{Done, look_access, then_do}}
unfoldable pub use Rattle.store_model.specs.{FileCalls.create_program, HashCalls.{get_program, walk}, HashRegion.{bucket_of, is_linked}}
pub use Rattle.turn_lock.{proofs.Rising.{rises_less, times_before}, proofs.Totals.{hit_other, hit_same}, specs.Lists.{AreDistinct, RisesFrom, count_up, hit, places, times, total}}
