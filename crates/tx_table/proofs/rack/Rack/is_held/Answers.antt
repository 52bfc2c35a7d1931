-- The test by key is the test by text.
use Rattle.std.proofs.Common.{arith, rules}
use Rattle.tx_table.proofs.Keys.{held_is}

pub returns : Rattle.tx_table.proofs.rack.Rack.is_held.Goals.returns
returns g c = search (rules, arith, held_is)
