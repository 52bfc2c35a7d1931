-- The words that the proofs of this crate cite from elsewhere.
pub use Rattle.std.{proofs.Common.{Bool, Err, IsFalse, IsTrue, List, None, Ok, Option, Result, Some, ap, arith, bytes_eq, cond, drop, false, flat_map, get_or, get_or-set_other, get_or-set_same, inl, inr, is_ok, is_some, length, length-append, length-drop, length-set, ltb, map, nat_eq, nat_le, nat_lt, ne_eqb, refl, replicate, rules, set, slice_get, slice_index, subst, suc, sym, take, true, vec_capacity, vec_len, zero, ℕ, [], ◌&&◌, ◌++◌, ◌+◌, ◌-◌, ◌<◌, ◌==◌, ◌||◌, ◌∙◌, ◌∷◌, ◌≡◌, ◌≢◌, ◌≤◌, ◌⊎◌}, proofs.Math.Bool.{or-false, or-true}, proofs.Math.Nat.min-eq_left, proofs.lemmas.Bool.{and_parts, both_ways, cases_eq, cases_lt, eqb-true, ltb-false, ltb-true, or_parts}, proofs.lemmas.Grind.common_steps, proofs.lemmas.List.{drop-append-le, get_or-drop, get_or_default, length-map, length-replicate, length_push, map_push, take-append-drop, take-append-le, take-map, take_all}, proofs.lemmas.List.Elements.All-append, proofs.lemmas.List.Folds.{list_any-append, list_any_more}, proofs.lemmas.List.Sorted.{All-permutation, IsPartitionPoint-from_clause, IsPartitionedBy-ltb, list_any-IsPermutation}, specs.List.Sorted.IsPartitionPoint, proofs.lemmas.Slice.Eq.bytes_eq-Decides, specs.List.{All, AllByRecursion, list_any, range_with_len}, specs.Map.{lookup, remove_entry}, specs.Option.{IfSome, option_map}}
pub use Rattle.byte_marks.specs.{Marks.has, Touched.{AreTouched, touches}, declared.extent.Extent.Extent}
pub use Rattle.indexmap.proofs.CallerLemmas.{insert_entry-new}
pub use Rattle.iso_model.{proofs.Growth.all_push, proofs.Labels.key_tells, specs.Array.{Array, covered, in_span}, specs.Effect.{block_runs, covers, effect_at, effects_from, has_write, is_write, or_else, own, runs_from, same_kind}, specs.Labels.{is_label, key_of}, specs.Marks.{is_outside, mark_fault, marked, marks_fault}, specs.Premises.{AreBytes, HasBytes, IsAccess, IsSpan, block_at}, specs.World.{floor_of, least_begin}, specs.declared.access.Access.Access, specs.declared.access.Geometry.Geometry, specs.declared.access.Kind.Kind, specs.declared.access.Kind.TheVariants.{Read, Write}, specs.declared.access.MarkError.MarkError, specs.declared.access.MarkError.TheVariants.TooManyMarks, specs.declared.access.Mode.TheVariants.Serial, specs.declared.access.Run.Run, specs.declared.access.Span.Span}
unfoldable pub use Rattle.iso_model.specs.Effect.{runs}
pub use Rattle.merge_write.{proofs.Effects.{no_effects, written_effects}, proofs.Growth.{effects_kept, effects_shown}, specs.Patch.{laid, written}}
pub use Rattle.tx_table.specs.{Live.{AreBefore, AreInOrder, BeginFrom, at_work}, Patches.{AreBlankFrom, AreEffects, HasOneMore, HasTheSame, HavePatches, Held, RisesFrom, has_patch, patch_at}, Rack.IsKeyed, Slots.{AreSlots, entries_of}, Touching.{ArePlacesTouched, IsFolded, IsTouched}, Work.{AreWithin, Doing, IsRow, access_of, span_at}, declared.live.Begun.Begun, declared.rows.Row.Row}
