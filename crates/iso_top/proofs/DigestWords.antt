-- The words that the proofs of the digest cite from elsewhere.
pub use Rattle.std.{proofs.Common.{Bool, Err, List, Ok, Option, Result, Some, ap, append-nil, append_assoc, arith, false, inl, inr, length, nat_le, not, refl, subst, suc, sym, take, true, zero, ℕ, [], ◌&&◌, ◌++◌, ◌+◌, ◌<◌, ◌==◌, ◌∙◌, ◌∷◌, ◌≡◌, ◌≢◌, ◌≤◌}, proofs.lemmas.Bool.{cond-false, eq-eqb, le-ltb}, proofs.lemmas.List.take_all, specs.Option.ForSome, specs.Prelude.{IfOk, OnOk}}
pub use Rattle.iso_core.specs.{Calls.{IsAmong, IsTx, Refuses, refusal_of}, Core.{StandsFor, disk_of}, Standing.up, declared.core_itself.Core.Core}
pub use Rattle.iso_disk.{proofs.Moments.joined_unwritten, specs.Disk.{DiskState, WritesNothing}}
pub use Rattle.iso_model.{proofs.Recorded.array_shape, specs.Array.Array, specs.Geometry.same_mode, specs.History.{array_at, last}, specs.Premises.block_at, specs.Step.{after_begin, after_leaving}, specs.World.{Live, World, unattached, without}, specs.declared.access.Geometry.Geometry, specs.declared.access.Mode.Mode, specs.declared.access.Mode.TheVariants.{Serial, Snapshot}, specs.declared.core_error.CoreError.CoreError, specs.declared.core_reply.CoreReply.CoreReply, specs.declared.limits.TheConstants.{LAST, MAX_LIVE}}
unfoldable pub use Rattle.iso_model.specs.Step.{begin_step}
pub use Rattle.script_model.specs.Bench.{array_bytes}
pub use Rattle.sha2.specs.{Hashers.Holds256, Sha256.sha256, declared.Sha256.Sha256}
