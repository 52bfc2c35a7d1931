-- A block that has a patch keeps it.
use Rattle.tx_table.proofs.Words.{◌∙◌, refl, sym}

pub returns-then-holds : Rattle.tx_table.proofs.patches.Patches.hold.Goals.returns-then-holds
returns-then-holds c = record { size = refl; held = sym c.holds.ensures ∙ c.if-holds.true; kept = λ b held. held; values = λ b. refl }
