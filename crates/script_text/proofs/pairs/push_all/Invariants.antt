use Rattle.script_text.proofs.Words.{◌≡◌, ◌++◌, take, flat_map, pair_text}

abbrev pub invariant-loop-pair : Rattle.script_text.proofs.pairs.push_all.Given.invariant-loop-pair
invariant-loop-pair l = l.out.items ≡ l.initial.out.items ++ flat_map pair_text (take l.pair-index l.pairs)
