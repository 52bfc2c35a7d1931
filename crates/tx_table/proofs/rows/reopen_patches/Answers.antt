-- With no row there is no effect.
use Rattle.tx_table.proofs.Words.{◌∙◌, sym, no_effects}

pub returns-clause-effects : Rattle.tx_table.proofs.rows.reopen_patches.Goals.returns-clause-effects
returns-clause-effects c accesses before = record { each = λ b. c.clear.ensures.values b ∙ sym (no_effects b 0 c.args.patches.now.size) }
