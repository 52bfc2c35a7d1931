-- The words that the proofs of this crate cite from elsewhere.
pub use Rattle.std.{proofs.Common.{Bool, IsSome, List, None, Option, Some, ap, append_assoc, arith, cond, eq-eqb, false, get_or, inl, inr, is_some, length, length-append, nat_lt, not, refl, replicate, rules, set, subst, suc, sym, true, zero, ℕ, [], ⊎_elim, ◌%◌, ◌++◌, ◌+◌, ◌-◌, ◌<◌, ◌==◌, ◌^◌, ◌||◌, ◌∙◌, ◌∷◌, ◌≡◌, ◌≢◌, ◌≤◌, ◌⊎◌}, proofs.lemmas.Bool.Decides.nat_tests, proofs.lemmas.List.append-nil, specs.List.AllByRecursion, specs.Prelude.{filter, option_to_list}}
pub use Rattle.atomic_table.{proofs.Lists.{at_set, at_snoc, exchanged, set_again, set_else}, specs.Table.{Act, Allows, Final, Joins, Seen, Splits, State, Valid, carried_after, gives, keeps, opening, put_back, rest, step, stepped, takes}}
pub use mathlib.Core.{List.IsPrefix, Logic.dite, Option.{none, some, some-injective, some-ne-none}}
pub use native.Mathlib.Decide.{dec_le, dec_lt, ℕ_discrete}
pub use lib.ListN.{get_elem?}
pub use lib.Seq.{set-get_or}
pub use prog.Atomic.{either}
pub use Rattle.turn_lock.specs.{Lists.{AllBelow, AreDistinct, RisesFrom, count_up, hit, insert_rising, longer, merge, places, times, total}, Lock.turn_number, Numbers.{AreFree, AreHeld, AreOut, IsOut, held_after, is_among, is_out, out_from, out_next, without}, Pass.IsSamePass, Steps.{IsAtRest, IsAtTurn, IsPlaced, Sat, Settled, Turned, advanced, drew, looked, settled, stayed, ticket_of}, Ticket.{Dealt, Fair, Knows, Once, Rests, Whole, drawn_by, held_by, placed_by, ticket_at, tickets_at, turning, turns_at}, Views.{both, fresh, gave, given_part, kept_part, spent, turns, waits}, declared.view.Stage.Stage, declared.view.Stage.TheVariants.{Idle, Turns, Waits}, declared.view.TheConstants.LAST, declared.view.View.View}
