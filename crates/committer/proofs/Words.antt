-- The words that the proofs of this crate cite from elsewhere.
pub use Rattle.std.{proofs.Common.{List, None, Option, Some, ap, arith, inl, inr, length, map, refl, subst, sym, ℕ, [], ◌++◌, ◌∙◌, ◌∷◌, ◌≡◌, ◌≢◌, ◌⊎◌, ⊎_elim}, specs.List.AllByRecursion}
pub use Rattle.iso_model.specs.declared.core_error.CoreError.{CoreError}
pub use Rattle.iso_shared.specs.{Groups.{ArePaired, IsBack, units_of}, Legal.IsLegal, Ports.{IsPort, number_of, port_view, tx_view}, States.Start, Told.{cause_of, members_in}, declared.entry.Entry.Entry, declared.shared.Shared.Shared, declared.tx.Tx.Tx}
pub use Rattle.turn_lock.{proofs.Prefixes.{prefix_self, prefix_trans}, specs.Lists.times, specs.declared.view.View.View}
pub use Rattle.handle_pass.specs.Sessions.{SessionState}
pub use mathlib.Core.List.{IsPrefix}
