-- The words that the proofs of this crate cite from elsewhere.
pub use Rattle.std.{proofs.Common.{Bool, IsTrue, List, Some, ap, append_assoc, arith, cond, drop, eq-eqb, false, get_or, inl, inr, le-ltb, length, length-append, length-drop, lt-ltb, map, nat_lt, ne_eqb, refl, replicate, subst, suc, sym, take, take-append-drop, true, zero, ℕ, [], ◌*◌, ◌++◌, ◌+◌, ◌-◌, ◌<◌, ◌==◌, ◌∙◌, ◌∷◌, ◌≡◌, ◌≤◌, ◌⊎◌}, proofs.lemmas.Bool.cases_eq, proofs.lemmas.List.{drop-append-le, drop-drop, drop-map, drop-replicate, drop-take, drop_at, drop_more, get_or-drop, get_or-replicate, get_or-take, get_or_at, length-replicate, length-take, length-take-le, map-append, take-append-le, take-replicate, take-take, take_at}, proofs.lemmas.Nat.from_be_bytes-to_be_bytes_8, specs.Int.{from_be_bytes, to_be_bytes, w64}, specs.List.AllByRecursion}
pub use Rattle.commit_gate.specs.Gate.{IsClosed, IsOpen}
pub use Rattle.iso_disk.{proofs.Bytes.{drop-torn, get_or-spliced, get_or-torn, slice-torn, spliced_torn, take-drop-spliced, take-torn, torn_same, torn_twice, torn_whole, torn_wider}, specs.Disk.{Torn, spliced}}
pub use Rattle.iso_model.{proofs.Bounds.limits, proofs.Held.held_shows, proofs.OneHistory.image_tells_one, proofs.Opened.{length-records, sum_by-map, told_again}, specs.Effect.record_length, specs.Geometry.{base_place, half_size, header_place, image_size, is_valid, log_place}, specs.History.{History, all_own, array_at, last}, specs.Image.{IsImage, IsLog, IsRecord, Shows, Written, blocks_of, chosen_half, commits_of, current_half, generation_at, held, is_open_at, kind_of, recorded, records, spell, written}, specs.Premises.IsHistory, specs.Step.after_commit, specs.World.{Live, World, empty_history, fresh, used}, specs.declared.access.Commit.Commit, specs.declared.access.Geometry.Geometry, specs.declared.limits.TheConstants.LAST}
unfoldable pub use Rattle.iso_model.specs.{Effect.runs, Image.{half_header, superblock}}
pub use Rattle.iso_image.specs.{Changes.{Appending, InHalf, InLog, MaySwitch}, Half.{AreOne, Half, HasLog, IsFilled, IsHeld, MayFollow, empty_image, half_of, half_of_world, history_of, in_form, last_told, next_gate, told_bytes, with_records}}
