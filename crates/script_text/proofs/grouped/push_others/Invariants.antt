use Rattle.script_text.proofs.Words.{◌≡◌, ◌++◌, codes, take, flat_map, label_text}

abbrev pub invariant-loop-answer : Rattle.script_text.proofs.grouped.push_others.Given.invariant-loop-answer
invariant-loop-answer l = l.out.items ≡ l.initial.out.items ++ flat_map (λ a. codes "; " ++ label_text a) (take l.answer-index l.answers)
