-- The words that the proofs of this crate cite from elsewhere.
pub use Rattle.std.{proofs.Common.{Bool, Err, IfErr, IfOk, IsErrOf, IsTrue, List, None, Ok, Option, Result, Some, ap, append_assoc, arith, codes, cond, drop, eq-eqb, false, get_or, inl, inr, length, length-append, length-drop, map, nat_lt, ne_eqb, not, option_map, refl, replicate, subst, suc, sym, take, take-append-drop, true, zero, ℕ, [], ◌&&◌, ◌*◌, ◌++◌, ◌+◌, ◌-◌, ◌<◌, ◌==◌, ◌^◌, ◌||◌, ◌∙◌, ◌∷◌, ◌≡◌, ◌≤◌, ◌⊎◌}, proofs.Math.Path.transport, proofs.lemmas.Bool.{cases_eq, eqb-true, le-ltb, lt-ltb}, proofs.lemmas.List.{append-nil, drop-append-le, drop-drop, drop-replicate, drop-take, drop_all, drop_at, drop_more, get_or-drop, get_or-replicate, get_or-take, length-replicate, length-take, length_push, replicate-append-replicate, take-append-le, take-replicate, take-take, take_at}, proofs.lemmas.List.Quantifiers.position-Some, proofs.lemmas.Option.{none-some, same_Some}, proofs.lemmas.Result.on_ok_weaker, specs.Int.{from_be_bytes, to_be_bytes, w32, w64}, specs.List.{AllByRecursion, position_from}, specs.Option.ForSome}
pub use Rattle.commit_gate.specs.Gate.{IsClosed, IsOpen}
pub use Rattle.counts.specs.Count.{Rose}
pub use Rattle.iso_core.{specs.Core.StandsFor, specs.Standing.up, specs.declared.core_itself.Core.Core, specs.declared.opening.Opened.Opened}
pub use Rattle.iso_disk.{proofs.Bytes.{get_or-torn, torn_whole}, proofs.Images.{length-contents, length-image}, proofs.Moments.{at_end, goes_on, goes_on_still, joined, joined_unwritten, started, starts_unwritten, stays_settled, weakened}, specs.Disk.{DiskState, Elapses, IsLawful, IsSettled, LeavesOnly, Splices, Torn, TornFrom, WritesNothing, spliced}}
pub use Rattle.iso_format.{proofs.Parts.length-spell, proofs.Windows.window_front, specs.Reading.{first_not_zero, geometry_of, unclean_place, unless_wrong, wrong_field}, specs.Records.{Recorded, fault_of, record_window}, specs.Spelled.Spelled, specs.declared.superblock.SuperError.SuperError}
unfoldable pub use Rattle.iso_format.specs.Reading.{half_of, super_of}
pub use Rattle.iso_image.{proofs.Frames.log_inside, proofs.HeaderLaws.{super_form, unrefused_header, valid_form}, proofs.ImageLaws.image_opens, proofs.Logs.{has_log, records-append, take-plus}, proofs.ScanLaws.{failed, passed}, specs.Half.{Half, HasLog, IsHeld, MayFollow, half_of_world, in_form}, specs.Refusal.{body_refusal, damaged, half_refusal, header_at, header_refusal, log_at, log_refusal, number_refusal, record_bytes, told_first}, specs.declared.open_error.OpenError.OpenError, specs.declared.open_error.OpenError.TheVariants.{BadGeometry, Damaged, Disk, Memory, NoHalf, NotIsotope, UnknownForm, WrongSize}, specs.declared.places.HalfPlace.HalfPlace}
pub use Rattle.iso_log.{proofs.Counts.window_is, proofs.Finds.taken_is, proofs.Pieces.stand_front, specs.Extent.{Extent, extent_of, next_place}, specs.Scan.{IsDamaged, IsFirst, IsTaken, IsTestBefore, StandAt}, specs.declared.log_error.LogError.LogError}
pub use Rattle.iso_model.{proofs.Bounds.limits, proofs.ByteLists.{bytes_append, bytes_cons, bytes_front, no_bytes, replicate_bytes}, proofs.FreshWorlds.empty_world_is, proofs.Growth.all_push, proofs.OneHistory.image_tells_one, proofs.Opened.{opened_is, told_again}, specs.Array.{Array, zeros}, specs.Effect.or_else, specs.Geometry.{base_place, half_size, header_place, image_size, is_valid, log_place}, specs.History.{History, all_own, last}, specs.Image.{IsImage, IsRecord, Shows, Written, blocks_of, chosen_half, commits_of, current_half, generation_at, is_open_at, kind_of, mode_byte, records, spell, written}, specs.Premises.AreBytes, specs.World.{World, empty_history, fresh}, specs.Worlds.IsWorld, specs.declared.access.Geometry.Geometry, specs.declared.access.Mode.Mode, specs.declared.access.Mode.TheVariants.{Serial, Snapshot}, specs.declared.limits.TheConstants.LAST}
unfoldable pub use Rattle.iso_model.specs.Image.{half_header, superblock}
unfoldable pub use Rattle.iso_image.specs.Refusal.{refusal}
pub use Rattle.mv_index.specs.{Placed.IsIndexOf, Versions.{BlockVersions, versions_in}}
pub use Rattle.version_read.{proofs.Following.index_more, proofs.Taking.may_take, specs.Parts.{HasTaken, MayTake, part_of}}
pub use Rattle.iso_recover.specs.{Cause.{BlamesDisk, IsTest, opening}, Front.{HasFront, IsFront, IsFrontOf, IsSaid, chosen_by, front_said, halves_refusal, header_of, super_refusal}, Made.{HoldsNothing, IsUnmade, IsUnmadeOrEmpty, fronted, new_image, staged, whole_image}, Opened.{HasReopened, IsNew, IsOpened, opened_of}, Scanned.{BeginsLog, HasRead, IsDamagedBy, read_bytes}, Shape.IsShaped, declared.front.Front.Front}
