use Rattle.std.proofs.Common.{replicate, subst}
use Rattle.iso_core.specs.{Core.{StandsFor, disk_of}, Standing.up}
use Rattle.iso_memdisk.{specs.{Laws.lawful, MemDisk.{Starts, state_of}, declared.disk.MemDisk.MemDisk}, proofs.Blank.still_starts}
use Rattle.iso_model.specs.{declared.access.Geometry.Geometry, Geometry.image_size, World.{empty_history, fresh}}
use Rattle.iso_shared.proofs.TestStarts.{may_start, ok_has}

pub core_on-requires-clause-blank : Rattle.shared_tests.proofs.steps.core_failing.Goals.core_on-requires-clause-blank
core_on-requires-clause-blank c =
    let zeros = replicate (image_size c.with_long_logs-geometry.result) 0 in
    let made = ok_has (λ (d : MemDisk). Starts d zeros) c.blank.result c.in_ok-disk.disk c.in_ok-disk.ensures.value c.blank.ensures in
    still_starts c.in_ok-disk.disk c.fail_kind.new.self zeros c.fail_kind.ensures.untouched made

pub returns-in-Ok : Rattle.shared_tests.proofs.steps.core_failing.Goals.returns-in-Ok
returns-in-Ok c =
    let core = c.in-Ok.core in
    may_start state_of core (lawful (disk_of core)) (subst (λ (g : Geometry). StandsFor state_of core (fresh g 1 (empty_history g)) up) c.with_long_logs-geometry.ensures.same c.in-Ok.ensures.stands)
