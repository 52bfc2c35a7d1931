-- The words that the proofs of this crate cite from elsewhere.
pub use Rattle.std.{proofs.Common.{Bool, Err, IfErr, IfOk, IsTrue, List, None, Ok, Option, Result, Some, ap, arith, codes, cond, drop, false, flat_map, get_or, inl, inr, length, min, nat_eq, nat_le, nat_lt, not, refl, replicate, subst, suc, sym, take, true, zero, ℕ, [], ◌&&◌, ◌*◌, ◌++◌, ◌+◌, ◌-◌, ◌<◌, ◌==◌, ◌^◌, ◌||◌, ◌∙◌, ◌∷◌, ◌≡◌, ◌≢◌, ◌≤◌}, proofs.Math.Nat.mul-le-mul_right, proofs.Math.Seq.{drop-cons, take-add}, proofs.lemmas.Bool.{and_from, and_parts, eq-eqb, eqb-false, eqb-true, le-leb, le-ltb, leb-true, lt-ltb, ltb-false, ltb-true, ne_eqb, not-false, or_cases, or_right}, proofs.lemmas.Grind.flat_map-append, proofs.lemmas.Iterator.Adapters.position_from-zero, proofs.lemmas.List.{append-nil, append_assoc, drop-append-le, drop-take, drop_at, get_or-take, get_or_append_left, length-append, length-drop, length-take, length-take-le, take-append-drop, take-append-le, take-take, take_all, take_at}, proofs.lemmas.List.Concat.flat_map-cons, proofs.lemmas.List.Sums.sum_by-cons, proofs.lemmas.Nat.{be_bytes_2, be_bytes_4, be_bytes_8, from_be_bytes-to_be_bytes_2, from_be_bytes-to_be_bytes_4, from_be_bytes-to_be_bytes_8}, specs.Cmp.Lexicographic.pointwise, specs.Int.{from_be_bytes, to_be_bytes, w16, w32, w64}, specs.List.{AllByRecursion, list_all, list_any, position, position_from, starts_with}, specs.Option.is_some}
pub use Rattle.iso_model.{proofs.Bounds.{limits, tests_passed}, proofs.ByteLists.{bytes_drop, bytes_take}, proofs.Growth.all_push, specs.Effect.{or_else, record_length}, specs.Geometry.{is_block_size, is_region}, specs.Image.{AreRuns, ComesAfter, IsRun, body_length, mode_byte, part}, specs.Premises.{AreBytes, Limits}, specs.declared.access.Geometry.Geometry, specs.declared.access.Mode.Mode, specs.declared.access.Mode.TheVariants.{Serial, Snapshot}, specs.declared.access.Run.Run, specs.declared.limits.TheConstants.LAST}
unfoldable pub use Rattle.iso_model.specs.{Geometry.is_valid, Image.{half_header, spell, superblock}}
pub use Rattle.iso_format.specs.{Reading.{are_zero, geometry_of, has_regions, mode_of, number_at, unless_wrong, wrong_field}, Records.{BeginsWith, HasParts, IsSmall, Recorded, body_of, follows, head_fault, is_kind, lies_in, number_fault, part_end, part_fault, part_size, record_window, recorded, run_of, runs_of}, Spelled.{HoldsParts, Spelled, parts_behind, spelled}, Writing.{LieInAnImage, head}, declared.format_error.FormatError.FormatError, declared.format_error.FormatError.TheVariants.{Count, Kind, Length, NotZero, Number, Order, Range, Short}, declared.superblock.SuperError.SuperError, declared.superblock.SuperError.TheVariants.NotIsotope}
unfoldable pub use Rattle.iso_format.specs.{Reading.{half_of, super_of}, Records.{fault_of, parts_fault}}
