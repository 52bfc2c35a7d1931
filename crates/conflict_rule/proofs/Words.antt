-- The words that the proofs of this crate cite from elsewhere.
pub use Rattle.std.{proofs.Common.{Bool, List, None, Option, Some, ap, arith, cond, drop, false, get_or, inl, inr, is_ok, leb, length, nat_lt, ne_eqb, option_map, refl, rules, subst, suc, sym, take, true, zero, ℕ, [], ◌&&◌, ◌++◌, ◌+◌, ◌-◌, ◌<◌, ◌==◌, ◌||◌, ◌∙◌, ◌∷◌, ◌≡◌, ◌≢◌, ◌≤◌}, proofs.lemmas.Bool.{and_parts, and_right, both_ways, cases_eq, cases_lt, le-ltb, leb-false, leb-true, lt-ltb}, proofs.lemmas.Bool.Decides.nat_tests, proofs.lemmas.Grind.common_steps, proofs.lemmas.List.{drop-append-le, drop-drop, drop-take, drop_all, get_or_default, length-drop, take_all}, proofs.lemmas.List.Sorted.{IsPartitionPoint-from_clause, IsPartitionedBy-leb}, specs.List.Sorted.IsPartitionPoint, proofs.Math.Seq.take-append_seam, specs.List.AllByRecursion}
pub use Rattle.byte_marks.specs.{Touched.{AreTouched, touches}, declared.extent.Extent.Extent}
pub use Rattle.iso_model.{proofs.Clashes.no_clash, proofs.Written.covers_where, specs.Array.{covered, in_span}, specs.Conflict.{clash_from, clashes, first_after, first_byte, first_from, guarded}, specs.Effect.{covers, has_write, is_write, or_else}, specs.History.History, specs.Premises.{AreAccesses, IsSpan}, specs.declared.access.Access.Access, specs.declared.access.Clash.Clash, specs.declared.access.Commit.Commit, specs.declared.access.Geometry.Geometry, specs.declared.access.Kind.Kind, specs.declared.access.Kind.TheVariants.{Read, Write}, specs.declared.access.Mode.Mode, specs.declared.access.Mode.TheVariants.{Serial, Snapshot}, specs.declared.access.Span.Span}
unfoldable pub use Rattle.iso_model.specs.Conflict.{clash}
pub use Rattle.conflict_rule.specs.{Decision.{AreApart, AreNotes, AreNotesAfter, Bytes, IsFirstMeet, IsLeastMeeting, guarded_bytes, up_to}, Notes.{Held, Note, RisesFrom, above, note_of}}
