use Rattle.std.proofs.Common.{arith}
use Rattle.iso_core.proofs.{Numbers.{log_last, log_used}, Stats.{live_is, versions_are}}

pub returns : Rattle.iso_core.proofs.core_itself.Core.stat.Goals.returns
returns g c W standing stands = grind (arith, log_last, log_used, live_is, versions_are)
