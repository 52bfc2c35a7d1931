-- The words that the proofs of this crate cite from elsewhere.
pub use Rattle.std.{proofs.Common.{Bool, IsTrue, List, None, Option, Some, ap, arith, drop, false, get_or, inl, inr, leb, length, length-append, ltb, map, max, nat_le, nat_lt, ne_eqb, refl, rules, set, subst, suc, sym, take, true, zero, ℕ, [], ◌&&◌, ◌++◌, ◌+◌, ◌-◌, ◌<◌, ◌==◌, ◌||◌, ◌∙◌, ◌∷◌, ◌≡◌, ◌≢◌, ◌≤◌}, proofs.Math.Bool.{and-false, and_comm, or-false, or_assoc, or_comm}, proofs.lemmas.Bool.{and_left, and_right, cases_eq, cases_lt, le-leb, lt-leb, ltb-false, ltb-true}, proofs.lemmas.Bool.Decides.nat_tests, proofs.lemmas.List.get_or_read, proofs.lemmas.List.Folds.list_any-append, proofs.lemmas.List.Sorted.{IsPartitionPoint-from_clause, IsPartitionedBy-ltb}, specs.Bool.OnFalse, specs.List.{last_or, list_any}, specs.Option.IfSome}
pub use Rattle.iso_model.specs.{Array.in_span, declared.access.Span.Span}
pub use Rattle.byte_marks.specs.{Marks.{AreApartFrom, AreRuns, AreRunsFrom, has, in_extent, next_free, span_of}, Touched.{RisesFrom, entry_has, touches}, declared.extent.Extent.Extent}
