-- The words that the proofs of the laws of accounts cite from elsewhere.
pub use Rattle.std.{proofs.Common.{Bool, Equal, Greater, IfSome, Less, List, None, Option, Ordering, Some, T, ap, append_assoc, arith, cond, false, inl, inr, is_eq, is_lt, length, length-append, nat_le, nat_lt, not, refl, slice_get, subst, suc, sym, true, zero, ℕ, [], ◌&&◌, ◌++◌, ◌+◌, ◌-◌, ◌<◌, ◌==◌, ◌∙◌, ◌∷◌, ◌≡◌, ◌≢◌, ◌≤◌, ◌⊎◌}, proofs.lemmas.Bool.cases_lt, proofs.lemmas.Cmp.nat_list_cmp_total, proofs.lemmas.List.append-nil, proofs.lemmas.List.Sums.sum_by-cons, specs.Cmp.Lexicographic.slice_cmp, specs.FinMap.{empty, entries, entries-insert, entries_sorted, get, get-empty, get-entries, get-insert, insert, len-empty, len-entries}, specs.FinMap.Entries.{below_all, by_order, find, is_sorted, put}, specs.List.{AllByRecursion, sum_by}, specs.Ordering.{eq_by_cmp, nat_cmp}}
pub use Rattle.iso_hash.proofs.Finding.{bytes_other, ties}
pub use Rattle.iso_model.{proofs.Groups.all_apart_nowhere, proofs.Bounds.limits, proofs.Groups.{group_is, group_leads}, proofs.Leads.{begin_leads, end_leads}, proofs.Worlds.{leads_on, leaves, stays, switch_leads, trim_leads}, specs.Array.Array, specs.Geometry.same_mode, specs.Group.{ahead, decided, leave_all, made_by, member_reply}, specs.History.{History, array_at, last, with_commits}, specs.Step.{after_begin, after_leaving, after_switch, end_step}, specs.World.{Live, Place, World, client, label, unattached}, specs.Worlds.{AreApart, IsLive, IsWorld, LeadsTo}, specs.declared.access.Access.Access, specs.declared.access.Commit.Commit, specs.declared.access.EndReply.EndReply, specs.declared.access.EndReply.TheVariants.{Committed, Conflict, ReadOnly}, specs.declared.access.Geometry.Geometry, specs.declared.access.GroupReply.GroupReply, specs.declared.access.Mode.Mode, specs.declared.core_reply.CoreReply.CoreReply, specs.declared.limits.TheConstants.{LAST, MAX_LIVE}}
unfoldable pub use Rattle.iso_model.specs.Step.{begin_step, switch_step}
pub use Rattle.iso_shared.{proofs.Ends.ends_so, proofs.Follows.{follows_all, last_longer}, proofs.Groupings.group_history, proofs.Growing.grows_all, proofs.Trace.{after_snoc, legal_append, legal_snoc, loose_is}, specs.Groups.answered, specs.Legal.{AreLoose, Fits, IsGroup, IsLegal, LegalFrom, MayHaveMade, MayRefuse}, specs.Standing.{ShowsSince, whole, with_lost}, specs.States.{Start, State, after, after_all, after_fault, after_refusal, commits_made, group_answers, is_live, live_of, lost_commits, member_numbers, members_of, opened, replies_of, state_at, tx_of, txs_of}, specs.declared.entry.Call.Call, specs.declared.entry.Cause.Cause, specs.declared.entry.Entry.Entry, specs.declared.entry.Member.Member, specs.declared.entry.MemberEnd.MemberEnd}
pub use Rattle.store_laws.{proofs.TwoStores.both_commits, specs.Both.{AreMixed, BothInOrder, IsByBoth, IsOfBoth, firsts}, specs.Calls.{Get, Got, KeyCall, Put, StoreAnswer, WasPut}, specs.Parts.{answers_in, calls_in, run}}
pub use Rattle.store_model.specs.HashRegion.{Pairs}
pub use Rattle.store_scripts.{proofs.Blocks.{hash_blocks, tree_blocks}, proofs.Members.array_extends, specs.Stores.{image_hash, image_tree}}
pub use Rattle.iso_image.{proofs.ImageLaws.image_opens, specs.Refusal.{Opened, recovered}}
pub use Rattle.store_scripts.{proofs.Listed.stores_answer_at, proofs.Since.live_is, specs.EntriesInOrder.{AreCallsInOrderAt, CommitsAreByCalls, StoresAreWell, commit_at, commits_as, world_at}}
pub use Rattle.accounts.specs.{Lists.{AreOfAccounts, IsOfAccountsAt, KeepsSumAt, KeepsSumIn, KeepsSumSince, OpensWithSum, commits_by}, Sums.{Accounts, HasFirst, KeepsSum, amount, amount_in, sum_of, total}, Transactions.{CommitsAccounts, IsOfAccounts, IsOpening, IsTransfer, opening_answers, opening_calls}}
