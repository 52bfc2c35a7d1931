-- The words that the proofs of this crate cite from elsewhere.
pub use Rattle.std.{proofs.Common.{Bool, Err, IfSome, IsTrue, List, None, Ok, Option, Result, Some, ap, append_assoc, arith, cond, false, get_or, if◌then◌else◌, inl, inr, length, length-append, map, nat_le, nat_lt, not, option_map, refl, replicate, rules, subst, sym, true, ℕ, [], ◌++◌, ◌+◌, ◌-◌, ◌<◌, ◌∙◌, ◌∷◌, ◌≡◌, ◌≢◌, ◌≤◌}, proofs.Math.ListN.get_or-append, proofs.Math.Seq.get_or-append_seam, proofs.lemmas.Bool.Decides.nat_tests, proofs.lemmas.List.{append-nil, ext_get_or, length-replicate, length_push, map-append}, proofs.lemmas.List.FromFn.{get_or-map-range_with_len, length-map-range_with_len}, specs.List.{AllByRecursion, range_with_len}, specs.Option.ForSome, specs.Prelude.is_some}
pub use Rattle.conflict_rule.specs.declared.decision.Checked.{Checked}
pub use Rattle.counts.specs.Count.{Rose}
pub use Rattle.iso_model.{proofs.Accesses.length-marked, proofs.Bounds.limits, proofs.Bytes.length-block_own, specs.Array.Array, specs.Effect.is_write, specs.Geometry.is_valid, specs.History.{History, all_own, array_at, last}, specs.Marks.marked, specs.Premises.block_at, specs.Step.{put_access, read_access, write_access}, specs.Worlds.Extends, specs.declared.access.Access.Access, specs.declared.access.Geometry.Geometry, specs.declared.access.Span.Span, specs.declared.core_error.CoreError.CoreError}
pub use Rattle.iso_shared.{proofs.Follows.{follows_prefix, up_to_same}, proofs.Mades.{ahead_on, own_on}, proofs.Trace.{legal_last, loose_is}, specs.Legal.IsLegal, specs.Ports.{IsSameTx, IsTxOf, MadeBoth, Made as PassMade, most_steps, port_view, tx_view}, specs.States.{Start, State, after, after_all, after_fault, after_refusal, after_sweep, opened, state_at}, specs.Told.{cause_of, post_cause, posting_of_tx}, specs.Turns.view, specs.declared.entry.Call.Call, specs.declared.entry.Call.TheVariants.{Recent as OfRecent}, specs.declared.entry.Cause.Cause, specs.declared.entry.Entry.Entry, specs.declared.entry.Entry.TheVariants.{Begin, Fetch, Recent, Refused}, specs.declared.shared.Port.Port, specs.declared.shared.Shared.Shared, specs.declared.tx.Tx.Tx}
pub use Rattle.store_model.specs.declared.stores.TxError.{TxError}
pub use Rattle.turn_lock.{proofs.Prefixes.{prefix_length, prefix_self, prefix_trans}, proofs.Rising.{below_more, below_snoc, rises_snoc, times_above, times_append}, specs.Lists.{AllBelow, hit, times}, specs.Pass.IsAlike, specs.Views.{given_part, kept_part}, specs.declared.view.View.View}
pub use Rattle.tx_blocks.specs.{Runs.Passed, Tx.{Device, IsArrayOf, IsFree, IsLater, IsRefused, IsTx, access_refusal, with_accesses}}
pub use Rattle.tx_table.specs.Work.{Doing, span_at}
pub use mathlib.Core.List.{IsPrefix}
pub use Rattle.handle_pass.specs.{Accesses.{HasAdded, HasMarked, HasRead, HasWritten, IsReadCause, IsWriteCause, Shows, access_answer, accesses_of, mark_answer, tx_on, with_access}, Calls.{EndsWith, left_by}, Handles.{Released, TookOver}, Held.{HandleState, IsReleased, held_state}, Inside.{IsSession, checked_of, mine_of, own_in, own_of, state_of, units_of}, Logs.{AreNext, Log, Moves, MovesThrough, count_with, entries_at}, Looks.{Looked, Marked, Unlooked, Wrote, down_in, failed_in, failures_in}, Sessions.{IsPortAt, Made, Own, Rested, SessionState, count, device_of}, Splits.{Joined, Split, port_units}, Visits.{Failed, HasBegin, HasItsBegin, IsVisit, KeepsOwn, Seen, Visited, base_in, base_of, begin_array, blocks_read, fetches, number_in, refusals, seen_by, shaped, with_list}, declared.session.Session.TheInside.Inside}
