-- The words that the proofs of this crate cite from elsewhere.
pub use Rattle.std.{proofs.Common.{Bool, Err, IfSome, List, None, Ok, Option, Result, Some, ap, append-nil, append_assoc, arith, cond, eq-eqb, eqb-true, false, inl, inr, length, length-append, lt_of_le_of_lt, option_map, refl, subst, suc, sym, true, zero, ℕ, [], ◌++◌, ◌+◌, ◌-◌, ◌<◌, ◌==◌, ◌∙◌, ◌∷◌, ◌≡◌, ◌≢◌, ◌≤◌, ◌⊎◌}, proofs.lemmas.Bool.cases_lt, proofs.lemmas.List.ext_get_or, proofs.lemmas.Nat.from_be_bytes-to_be_bytes_8, specs.Int.{to_be_bytes, w64}, specs.List.AllByRecursion, specs.Prelude.{bytes_eq, vec_capacity, ◌^◌}, specs.Vec.Iter.{into_iter_items, into_iter_len}}
pub use Rattle.iso_model.{proofs.Recorded.array_shape, specs.Array.Array, specs.Group.made_by, specs.History.{array_at, last}, specs.Premises.block_at, specs.World.{Live, World}, specs.Worlds.IsWorld, specs.declared.access.Access.Access, specs.declared.access.Commit.Commit, specs.declared.access.EndReply.EndReply, specs.declared.access.EndReply.TheVariants.{Committed, Conflict, ReadOnly}, specs.declared.access.Geometry.Geometry, specs.declared.access.GroupReply.GroupReply, specs.declared.access.Mode.Mode, specs.declared.access.Mode.TheVariants.Serial, specs.declared.core_error.CoreError.CoreError, specs.declared.memory.NotInTx.NotInTx}
pub use Rattle.accounts.{proofs.Images.opens_with_sum, proofs.SoundWorlds.sound_at, proofs.Walks.sum_kept, specs.Ends.{BeginsWithSum, SumStays}, specs.Jobs.planned, specs.Kept.{AreGiven, Covers, Gains, Gives, HasStore, IsFilled, IsGiven, HoldsCalls, IsKept, BeginsIdle, IsWhole, KeepsOn, OfCalls, OwnFilled, Stays, half_units}, specs.Lists.{AreOfAccounts, IsOfAccountsAt, KeepsSumAt, commits_by}, specs.Made.{Adds, AddsIn, Does, DoesIn, FindsAmount, IsPut, IsTaken, IsTakenFor, SameBlocks, calls_of, opening_of}, specs.Sums.{Accounts, amount}, specs.Transactions.{CommitsAccounts, IsOfAccounts, IsOpening, IsTransfer}, specs.declared.account.Account.Account}
pub use Rattle.store_laws.{proofs.BothCalls.disjoint_blocks, proofs.BothGrowth.first_called, proofs.KeyCalls.{got_local, put_local}, proofs.Programs.spare_where_apart, specs.Both.{AreMixed, First, firsts}, specs.Calls.{Get, Got, KeyCall, Put, StoreAnswer, WasPut, key_act}, specs.Growing.IsMadeOfBoth, specs.Hash.hash_store, specs.Parts.{answers_in, calls_in}, specs.Tree.tree_store, specs.Writes.WriteWithin}
pub use Rattle.store_model.{proofs.HashAccesses.hash_area_is, specs.Areas.{hash_area, tree_area}, specs.HashRegion.{IsHashArea, IsHashRegion, get_op, hash_map, put_op}, specs.Stores.Program, specs.declared.stores.Area.Area, specs.declared.stores.Region.Region, specs.declared.stores.StoreError.StoreError}
pub use Rattle.store_scripts.{proofs.Growing.{more_first_answers, more_first_calls}, proofs.Members.array_extends, specs.Stores.{IfAny, image_hash, image_tree, pairs_if_any, the_tree}}
pub use Rattle.tx_blocks.specs.{Runs.{HasEnded, IsLocalCall, area_of}, Tx.{Tx, added}}
pub use mathlib.Core.List.{IsPrefix}
pub use Rattle.turn_lock.{proofs.Prefixes.{prefix_self, prefix_shorter, prefix_trans}, specs.Lists.{count_up, hit, times}, specs.declared.view.View.View}
pub use Rattle.handle_pass.{proofs.Logs.next_prefix, proofs.Shapes.{block_shaped, length-shaped}, specs.Accesses.{accesses_of, tx_on}, specs.Calls.{EndsWith, HasAborted, HasBegun}, specs.Handles.{Released, TookOver}, specs.Held.{HandleState, IsReleased, held_state}, specs.Inside.own_in, specs.Logs.{AreNext, Next}, specs.Sessions.{DeviceId, IsPortAt, IsTxAt, Made, Own, SessionState, count, device_of}, specs.Visits.{Visited, base_in, begin_array, fetches, number_in, refusals, shaped, with_list}, specs.declared.errors.BeginError.BeginError, specs.declared.errors.EndError.EndError}
pub use Rattle.iso_shared.{proofs.Begins.{began_last, began_own}, proofs.Follows.{Follows, follows_all, follows_prefix}, proofs.Trace.{legal_last, loose_is, opened_sound, sound_all}, specs.Groups.{answered, made_in, units_of}, specs.Legal.{AreLoose, IsLegal}, specs.Ports.{IsOwn, number_of, port_view, tx_view}, specs.Standing.{Came, Holds}, specs.States.{Start, commits_made, group_answers, is_live, live_of, lost_commits, member_numbers, members_of, opened, state_at, txs_of}, specs.Told.{cause_of, members_in}, specs.declared.entry.Cause.Cause, specs.declared.entry.Entry.Entry, specs.declared.entry.Member.Member, specs.declared.shared.Shared.Shared}
pub use Rattle.store_scripts.specs.EntriesInOrder.{commit_at, world_at}
pub use Rattle.tx_table.specs.Work.{Doing}
pub use Rattle.device_calls.specs.{Regions.area_in, Stores.HashPuts, Visits.HasCalled}
pub use Rattle.group_commit.specs.Groups.{HasGrouped, HasMade, KnowsAll, aborts_after, aborts_of, count_all, found_in, group_of, refused_by}
pub use Rattle.iso_core.specs.{Core.disk_of, declared.core_itself.Core.Core}
pub use Rattle.iso_disk.{proofs.Moments.weakened, specs.Disk.DiskState}
