use Rattle.iso_fs.proofs.{Words.{◌∙◌, ap, ℕ, List, length, set, laid_at}, NewFile.laid_empty, Sizing.laid_size}

pub returns : Rattle.iso_fs.proofs.sized.start_file.Goals.returns
returns c = c.lay.ensures ∙ (λ i. laid_at 4 (c.to_be_bytes.ensures i) ((ap (λ (l : List ℕ). set l 0 3) c.clear.ensures ∙ laid_empty _ c.requires) i)) ∙ laid_size (length c.args.into.now) c.args.bytes
