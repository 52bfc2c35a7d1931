use Rattle.std.proofs.Common.{ap, arith}
use Rattle.tx_blocks.specs.Tx.{Tx}

pub returns : Rattle.desk_tests.proofs.file_tests.blank.Goals.returns
returns c = record { size = ap (λ (t : Tx). t.size) c.new.ensures; count = omega (arith, ap (λ (t : Tx). t.blocks) c.new.ensures, c.in_ok-bytes.ensures.len, c.in_ok-bytes.bytes.ok.0) }
