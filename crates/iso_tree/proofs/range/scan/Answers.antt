use Rattle.iso_tree.proofs.{Words.{arith}, Scanning.{bad_keys, scan_any, scan_ended}}

pub returns-then-not-are_keys-clause-ended : Rattle.iso_tree.proofs.range.scan.Goals.returns-then-not-are_keys-clause-ended
returns-then-not-are_keys-clause-ended g c = grind (arith, bad_keys)

pub returns-clause-local : Rattle.iso_tree.proofs.range.scan.Goals.returns-clause-local
returns-clause-local g c = grind (arith, scan_any)

pub returns-clause-ended : Rattle.iso_tree.proofs.range.scan.Goals.returns-clause-ended
returns-clause-ended g c = grind (arith, scan_ended)
