-- The words that the proofs of refusals cite from elsewhere.
pub use Rattle.std.{proofs.Common.{Bool, Err, IsTrue, List, None, Ok, Option, Result, Some, ap, append_assoc, arith, cond, drop, false, get_or, inl, inr, length, nat_le, nat_lt, option_map, refl, subst, suc, sym, true, zero, ℕ, ◌&&◌, ◌+◌, ◌-◌, ◌<◌, ◌==◌, ◌^◌, ◌||◌, ◌∙◌, ◌≡◌, ◌≢◌, ◌≤◌}, proofs.Math.Seq.drop-cons, proofs.lemmas.Bool.{and_from, and_parts, eq-eqb, eqb-false, eqb-true, le-ltb, ltb-false, ne_eqb, or_cases}, proofs.lemmas.List.{drop_at, get_or-drop, get_or-take, length-append, length-drop, length-take, length-take-le}, proofs.lemmas.Nat.from_be_bytes-to_be_bytes_4, proofs.lemmas.Option.same_Some, specs.Int.w32, specs.List.AllByRecursion, specs.Prelude.{codes, map, replicate, slice_index_or, take, [], ◌++◌, ◌∷◌}}
pub use Rattle.iso_format.{proofs.HalfLaws.{all_clean, half_again, half_spelled}, proofs.PartLaws.{neither, unless}, proofs.Parts.{body_bound, length-spell}, proofs.RecordLaws.{read_is, record_again}, proofs.SuperLaws.{IsSpelled, super_again, super_spelled}, specs.Reading.{first_not_zero, number_at, unclean_place}, specs.Records.{BeginsWith, Recorded, is_kind, recorded}, specs.declared.format_error.FormatError.FormatError, specs.declared.half.HalfHeader.HalfHeader, specs.declared.superblock.SuperError.SuperError}
unfoldable pub use Rattle.iso_format.specs.{Reading.{half_of, super_of}, Records.{fault_of, parts_fault}}
pub use Rattle.iso_model.{proofs.Bounds.limits, proofs.ByteLists.{bytes_drop, bytes_take}, specs.Effect.or_else, specs.Geometry.{base_place, half_size, header_place, image_size, log_place, same_mode}, specs.History.{History, last}, specs.Image.{IsImage, IsLog, IsRecord, Written, blocks_of, body_length, chosen_half, commits_of, current_half, generation_at, is_open_at, kind_of, records}, specs.Premises.AreBytes, specs.declared.access.Geometry.Geometry, specs.declared.access.Mode.Mode, specs.declared.access.Mode.TheVariants.{Serial, Snapshot}, specs.declared.access.Run.Run, specs.declared.limits.TheConstants.LAST}
unfoldable pub use Rattle.iso_model.specs.{Array.put, Geometry.is_valid, Image.{half_header, spell, superblock}}
pub use Rattle.iso_image.specs.{Refusal.{Opened, body_refusal, damaged, first_number, half_refusal, header_at, header_refusal, log_at, log_refusal, mode_of_kind, number_refusal, opened_half, opened_super, record_bytes, recovered, told_by, told_first, unless_refused, with_form}, declared.open_error.OpenError.OpenError, declared.open_error.OpenError.TheVariants.{BadGeometry, Damaged, NoHalf, NotIsotope, UnknownForm, WrongSize}}
unfoldable pub use Rattle.iso_image.specs.Refusal.{opened, refusal}
