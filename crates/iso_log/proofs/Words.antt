-- The words that the proofs of this crate cite from elsewhere.
pub use Rattle.std.{proofs.Common.{Bool, Err, IsErrOf, List, None, Ok, Option, Result, Some, ap, append_assoc, arith, cond, drop, false, get_or, inl, inr, length, length-append, length-drop, min, nat_le, nat_lt, not, refl, rules, subst, suc, sym, take, true, zero, ℕ, [], ◌&&◌, ◌*◌, ◌++◌, ◌+◌, ◌-◌, ◌<◌, ◌==◌, ◌^◌, ◌||◌, ◌∙◌, ◌∷◌, ◌≡◌, ◌≤◌, ◌⊎◌}, proofs.Math.Seq.paste, proofs.lemmas.List.{drop-drop, drop-take, drop_at, get_or-drop, get_or-take, length-take, length-take-le, nil_from_length, places, take-take, take_rest, with_items_is}, proofs.lemmas.List.Edits.take-paste, proofs.lemmas.Nat.from_be_bytes-to_be_bytes_4, proofs.lemmas.Option.same_Some, proofs.lemmas.Result.on_ok_weaker, specs.Int.{from_be_bytes, to_be_bytes, w32, w64}, specs.List.slice_range, specs.Option.IfSome}
pub use Rattle.commit_gate.specs.Gate.{HasBody, IsClosed}
pub use Rattle.iso_disk.{proofs.Bytes.torn_same, proofs.Images.{length-contents, length-image}, proofs.Moments.{at_end, joined, joined_unwritten, started, weakened}, specs.Disk.{DiskState, IsLawful, LeavesOnly, TornFrom, spliced}}
pub use Rattle.iso_format.{proofs.PartLaws.good, proofs.Parts.length-spell, proofs.Windows.{fault_front, short_body, short_head, window_front}, specs.Faults.{offset_of, test_number}, specs.Reading.number_at, specs.Records.{BeginsWith, Recorded, body_of, follows, head_fault, is_kind, lies_in, number_fault, part_end, part_fault, part_size, record_window, recorded}, specs.declared.format_error.FormatError.FormatError, specs.declared.format_error.FormatError.TheVariants.{Count, Kind, Length, NotZero, Number, Order, Range, Short}}
unfoldable pub use Rattle.iso_format.specs.Records.{fault_of, parts_fault}
pub use Rattle.iso_image.{proofs.Adds.{added, adding}, proofs.Appends.{appending_body, appending_gate}, proofs.LogLaws.{form_1, kind_again}, proofs.Logs.{log_gate, log_step, log_whole, records-append, take-plus}, specs.Changes.Appending, specs.Half.{Half, HasLog, IsHeld, MayFollow, last_told, told_bytes, with_records}, specs.Refusal.{damaged, told_first}, specs.declared.open_error.OpenError.OpenError}
pub use Rattle.iso_model.specs.{Effect.or_else, Image.{Written, body_length, kind_of, records}, Premises.AreBytes, declared.access.Geometry.Geometry, declared.access.Run.Run}
unfoldable pub use Rattle.iso_model.specs.Image.{spell}
pub use Rattle.iso_log.specs.{Extent.{Extent, extent_of, next_place}, Log.{AppendedTo, AppendingFrom, HasTold, IsNext}, Scan.{IsDamaged, IsFound, IsNextRecord, IsTaken, IsTestBefore, StandAt}, declared.log_error.LogError.LogError, declared.log_error.LogError.TheVariants.{Damaged, Disk, LogFull, Memory}}
