use Rattle.iso_memdisk.specs.MemDisk.{state_of}
use Rattle.recover_tests.proofs.Puts.{IsScanned}

abbrev pub invariant-loop : Rattle.recover_tests.proofs.log_tests.count_told.Given.invariant-loop
invariant-loop l = IsScanned l.log l.ahead (state_of l.disk)
