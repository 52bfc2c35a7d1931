use Rattle.std.proofs.Common.{◌≡◌, ◌≤◌}
use Rattle.iso_memdisk.specs.MemDisk.{state_of}
use Rattle.recover_tests.specs.Ready.{IsReady}
use Rattle.test_cores.specs.Small.{small}

abbrev pub invariant-loop-number : Rattle.recover_tests.proofs.log_tests.thousand_in.Given.invariant-loop-number
invariant-loop-number l = record {
  ready : IsReady small l.log (state_of l.disk);
  last : l.log.last ≡ l.number;
  size : 30017 ≤ (state_of l.disk).size;
}
