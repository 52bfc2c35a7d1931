-- The words that the proofs of this crate cite from elsewhere.
pub use Rattle.std.{proofs.Common.{List, None, Ok, Option, Some, ap, arith, false, inl, inr, length, map, refl, subst, sym, true, ℕ, [], ◌++◌, ◌+◌, ◌<◌, ◌∙◌, ◌∷◌, ◌≡◌, ◌≤◌, ◌⊎◌}, specs.List.AllByRecursion, specs.Prelude.{is_some, vec_capacity}, specs.Vec.Iter.{into_iter_items, into_iter_len}}
pub use Rattle.iso_model.specs.{declared.access.GroupReply.GroupReply, declared.core_error.CoreError.CoreError}
pub use Rattle.iso_shared.specs.{Groups.{ArePaired, IsBack, answered, made_in, units_of}, Legal.IsLegal, Ports.{IsPort, MadeAll, MadeBoth, number_of, port_view, tx_view}, States.Start, Told.{cause_of, members_in}, declared.entry.Entry.Entry, declared.shared.Shared.Shared, declared.tx.Tx.Tx}
pub use Rattle.turn_lock.{proofs.Prefixes.{prefix_self, prefix_trans}, specs.Lists.{hit, times, total}, specs.declared.view.View.View}
pub use Rattle.handle_pass.{proofs.Logs.{next_on, next_prefix, next_same, through_next}, specs.Logs.{AreNext, MovesThrough, Next}, specs.Sessions.SessionState}
pub use mathlib.Core.List.{IsPrefix}
pub use Rattle.group_commit.specs.Groups.{AreMembers, AreTxs, HasEnded, HasMade, KnowsAll, aborts_after, aborts_of, count_all, found_in, group_of, marks_of, refused_by, spread, units_all}
