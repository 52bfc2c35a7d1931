use Rattle.iso_tree.proofs.Words.{◌∙◌, sym}

pub word_before-requires-clause-differ : Rattle.iso_tree.proofs.keys.is_before.Goals.word_before-requires-clause-differ
word_before-requires-clause-differ c = λ same. c.if-word_at.true (c.word_at.ensures ∙ same ∙ sym c.word_at-then-y-ge4.ensures)
