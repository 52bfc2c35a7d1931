use Rattle.iso_memdisk.proofs.Blank.{still_starts}

pub core_on-requires-clause-blank : Rattle.handle_tests.proofs.hall.played.Goals.core_on-requires-clause-blank
core_on-requires-clause-blank g c = still_starts c.in-Ok.disk c.fuse.new.self _ c.fuse.ensures.untouched c.in-Ok.ensures
