-- The words that the proofs over a list of entries cite from elsewhere.
pub use Rattle.std.{proofs.Common.{Bool, IfSome, List, None, Option, Some, ap, append-nil, append_assoc, arith, cond, false, inl, inr, length, length-append, map, nat_lt, not, refl, slice_get, subst, sym, true, ℕ, [], ◌++◌, ◌+◌, ◌-◌, ◌<◌, ◌==◌, ◌∙◌, ◌∷◌, ◌≡◌, ◌≤◌}, proofs.lemmas.Bool.{and_parts, cases_lt}, specs.List.AllByRecursion}
pub use Rattle.iso_model.{proofs.Distinct.all_filter, proofs.Groups.group_is, proofs.Growth.{all_push, all_weaker}, proofs.Isolation.slice_get_append_left, proofs.Worlds.{extends_itself, extends_on}, specs.Array.Array, specs.Conflict.clash, specs.Effect.{has_write, own}, specs.Group.{ahead, decided, leave_all, made_by, member_reply}, specs.History.{History, array_at, last, with_commits}, specs.Premises.appended, specs.Step.{after_commit, after_leaving, need}, specs.World.{Live, World, used, without}, specs.Worlds.{Extends, IsWorld}, specs.declared.access.Access.Access, specs.declared.access.Clash.Clash, specs.declared.access.Commit.Commit, specs.declared.access.EndReply.EndReply, specs.declared.access.EndReply.TheVariants.{Committed, Conflict, ReadOnly}, specs.declared.access.GroupReply.GroupReply, specs.declared.core_reply.CoreReply.CoreReply, specs.declared.limits.TheConstants.LAST}
unfoldable pub use Rattle.iso_model.specs.Step.{commit_step, end_step}
pub use Rattle.iso_shared.{proofs.Follows.{follows_all, last_longer}, proofs.Grouped.{after_history, after_is, behind_it, decided_extends}, proofs.Trace.{after_append, legal_append}, specs.Legal.{AreLoose, Fits, IsLegal, LegalFrom}, specs.Ports.IsIsolatedAt, specs.States.{Start, State, after, after_all, after_fault, after_refusal, commits_made, is_live, live_of, lost_commits, member_numbers, members_of, opened, racked, replies_of, state_at, tx_of, txs_of}, specs.declared.entry.Call.Call, specs.declared.entry.Cause.Cause, specs.declared.entry.Entry.Entry, specs.declared.entry.Member.Member, specs.declared.entry.MemberEnd.MemberEnd}
pub use Rattle.store_laws.{proofs.Histories.if_some, proofs.Longer.{array_longer, last_of}, proofs.TwoStores.{both_commits, both_live, both_read_only, both_well_formed}, specs.Both.{AreMixed, BothByMap, BothInOrder, BothWellFormed, First, IsByBoth, IsOfBoth, firsts}, specs.BothStores.StorePart, specs.Calls.{Get, Got, StoreAnswer}, specs.Parts.{accesses_in, answers_in, calls_in, run}, specs.Region.{IsOfItsBlocks, MapStore}}
pub use Rattle.store_model.specs.HashRegion.{get_op}
pub use Rattle.store_scripts.{proofs.Blocks.{file_blocks_are, hash_blocks, tree_blocks}, proofs.Members.array_extends, specs.Stores.{image_files, image_hash, image_tree}}
pub use Rattle.turn_lock.specs.Lists.{times}
pub use Rattle.store_scripts.specs.EntriesInOrder.{AnswersByOne, AreByCalls, AreCallsInOrderAt, CommitsAreByCalls, FilesAnswerAt, IsInPlace, StoresAnswerAt, StoresAreWell, array_at_begin, commit_at, commits_as, ends_bare, world_at}
