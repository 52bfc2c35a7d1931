-- The words that the proofs of this crate cite from elsewhere.
pub use Rattle.std.{proofs.Common.{Bool, List, None, Option, Some, add-one, ap, arith, cond, drop, false, get_or, inl, inr, length, map, min, nat_le, nat_lt, not, refl, rules, subst, suc, sum_by, sym, take, true, zero, ℕ, [], ◌&&◌, ◌*◌, ◌++◌, ◌+◌, ◌-◌, ◌/◌, ◌<◌, ◌==◌, ◌^◌, ◌||◌, ◌∙◌, ◌∷◌, ◌≡◌, ◌≢◌, ◌≤◌, ◌⊎◌}, proofs.Math.Bool.{and-false, or-false, or-true}, proofs.Math.ListN.{length-set, set}, proofs.Math.Nat.{mul-le-mul_left, pow-succ'}, proofs.Math.Seq.{drop-append_seam, take-append_seam}, proofs.lemmas.Bool.{and_parts, cases_eq, cases_lt, eq-eqb, eqb-true, le-leb, le-ltb, leb-false, leb-true, lt-leb, ltb-false, ltb-true, ne_eqb, or_right}, proofs.lemmas.Bool.Decides.nat_tests, proofs.lemmas.List.{append_assoc, drop-drop, drop-set, drop-set-lt, drop_more, get_or-drop, get_or-set_other, get_or-set_same, get_or-take, get_or_append_left, get_or_default, get_or_push, length-append, length-drop, length-map, length-take-le, length_push, take-append-drop, take-set, take_more_set, with_items_is}, proofs.lemmas.List.Elements.filter-append, proofs.lemmas.List.Folds.{drop_split, list_any-append, list_any_at}, proofs.lemmas.List.FromFn.{get_or-range_with_len, length-range_with_len}, proofs.lemmas.List.Sorted.{IsPartitionPoint-from_clause, IsPartitionedBy-leb, IsPartitionedBy-ltb}, proofs.lemmas.List.Sums.{sum_by-append, sum_by-cons, sum_by-set}, proofs.lemmas.Map.Made.length-le_from_is_member, proofs.lemmas.Slice.drop-append-drop, specs.Cmp.IsEquivalence, specs.List.{AllByRecursion, count_by, filter, list_any, range_with_len, slice_range}, specs.List.Sorted.{IsNonDecreasingBy, IsPartitionPoint}, specs.Option.{is_some, option_map}}
unfoldable pub use Rattle.std.specs.List.{IsDistinct}
pub use Rattle.iso_model.{proofs.Bytes.touches_where_effect, proofs.Lookups.value_runs, proofs.Maximal.are_runs, proofs.Unique.{head_is, tail_are}, specs.Array.in_span, specs.Effect.{or_else, record_length, runs, touches}, specs.Image.{AreRuns, IsRun, written}, specs.Premises.value_in, specs.Versions.{is_written, kept_from}, specs.declared.access.Commit.Commit, specs.declared.access.Geometry.Geometry, specs.declared.access.Kind.TheVariants.Write, specs.declared.access.Run.Run}
pub use Rattle.mv_index.specs.{Masks.is_seen, Moves.{AreSplit, moved, moved_to}, Pieces.{ArePieces, ArePlaced, Follow, IsRow, IsStart, back_of, backs, begun, ended, front_of, fronts, laid}, Placed.{IsIndexOf, placed, version_of, versions_of}, Ranges.AreShowing, Shown.{AllLie, Lies, ShowTheSame, byte_in, byte_of, newest_with, place_in, place_of}, Versions.{AreAtMost, AreWithin, BlockVersions, IsHidden, Rise, block_of, count_of, has, hides, in_bytes, no_version, no_versions, number_at, room_of, shown_since, still_shows, upto, versions_in}, Weights.{bytes_above, part_bytes_above}, declared.version.Version.Version}
