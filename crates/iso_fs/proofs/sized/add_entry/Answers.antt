use Rattle.iso_fs.proofs.{Words.{◌∙◌, ◌+◌, ◌*◌, length, laid_at}, Sizing.laid_entry}

pub returns : Rattle.iso_fs.proofs.sized.add_entry.Goals.returns
returns c = λ bytes es is old. c.lay.ensures ∙ (λ k. laid_at (64 + 4 * c.args.i) (c.to_be_bytes.ensures k) (old k)) ∙ laid_entry (length c.args.into.now) bytes es c.args.number c.args.i is c.requires
