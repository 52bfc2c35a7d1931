use Rattle.std.proofs.Common.{◌≡◌, ◌++◌, drop}
use Rattle.isotope_c.specs.Told.{pairs_text}
use Rattle.isotope_c.proofs.told.text_of.Given as goal

abbrev pub invariant-loop-key : goal.invariant-loop-key
invariant-loop-key l = l.text.items ++ pairs_text (drop l.key-index l.pairs) ≡ pairs_text l.pairs
