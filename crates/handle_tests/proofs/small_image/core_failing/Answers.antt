use Rattle.std.proofs.Common.{subst, IfOk}
use Rattle.iso_core.specs.{Core.StandsFor, Standing.up, declared.core_itself.Core.Core}
use Rattle.iso_memdisk.{specs.{MemDisk.state_of, declared.disk.MemDisk.MemDisk}, proofs.Blank.still_starts}
use Rattle.iso_model.specs.{declared.access.Geometry.Geometry, World.{empty_history, fresh}}

pub core_on-requires-clause-blank : Rattle.handle_tests.proofs.small_image.core_failing.Goals.core_on-requires-clause-blank
core_on-requires-clause-blank c = still_starts c.in_ok-disk.disk c.fuse.new.self _ c.fuse.ensures.untouched c.in_ok-disk.ensures

pub returns : Rattle.handle_tests.proofs.small_image.core_failing.Goals.returns
returns c = subst (λ (g : Geometry). IfOk c.core_on.result (λ (core : Core MemDisk). StandsFor state_of core (fresh g 1 (empty_history g)) up)) c.with_long_logs-geometry.ensures.same c.core_on.ensures.stands
