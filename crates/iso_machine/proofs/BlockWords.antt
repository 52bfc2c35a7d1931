-- The words that the proofs of a transaction as stores see it cite from elsewhere.
pub use Rattle.std.{proofs.Common.{Bool, Err, List, None, Ok, OnOk, Option, Result, Some, ap, arith, false, inl, length, map, option_map, refl, subst, sym, unwrap_or, ℕ, [], ◌*◌, ◌++◌, ◌+◌, ◌<◌, ◌∙◌, ◌∷◌, ◌≡◌, ◌≤◌}, proofs.lemmas.List.{ext_get_or, length_push}, proofs.lemmas.List.FromFn.{get_or-map-range_with_len, length-map-range_with_len}, specs.List.range_with_len, specs.Option.ForSome, specs.Prelude.{IsSome, slice_index}}
pub use Rattle.counts.specs.Count.{Rose, one_more}
pub use Rattle.iso_core.{proofs.Fetches.block_is, specs.Calls.{IsTx, IsWorkOf}, specs.Core.{StandsFor, disk_of}, specs.Kept.IsOf, specs.Standing.up, specs.declared.core_itself.Core.Core, specs.declared.kept.Kept.Kept}
pub use Rattle.iso_disk.{proofs.Moments.{joined_unwritten, starts_unwritten, starts_unwritten}, specs.Disk.{DiskState, IsLawful, WritesNothing}}
pub use Rattle.iso_image.specs.Half.{IsHeld, half_of_world}
pub use Rattle.iso_model.{proofs.Accesses.length-marked, proofs.Bounds.limits, proofs.Recorded.array_shape, specs.Array.Array, specs.Effect.own, specs.Geometry.base_place, specs.History.array_at, specs.Marks.{mark_fault, marked}, specs.Premises.{HasShape, block_at}, specs.Step.read_access, specs.World.{Live, World}, specs.declared.access.Access.Access, specs.declared.access.Geometry.Geometry, specs.declared.access.MarkError.MarkError}
pub use Rattle.mv_index.specs.{Shown.byte_in, Versions.{upto, versions_in}, declared.version.Version.Version}
pub use Rattle.tx_blocks.specs.Tx.{IsTx as AreLimits, IsArrayOf}
pub use Rattle.tx_table.specs.Work.{Doing, span_at}
pub use Rattle.version_read.specs.Blocks.{IsOver}
pub use Rattle.iso_machine.specs.{Guests.{Counts, IsGuest, IsSameWork, Seen, tx_of}, ShownArrays.{array_in, array_told, over_bytes}}
