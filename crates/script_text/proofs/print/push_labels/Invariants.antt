use Rattle.script_text.proofs.Words.{◌≡◌, ◌∷◌, ◌++◌, take, flat_map}

abbrev pub invariant-loop-label : Rattle.script_text.proofs.print.push_labels.Given.invariant-loop-label
invariant-loop-label l = l.out.items ≡ l.initial.out.items ++ flat_map (λ label. 32 ∷ label) (take l.label-index l.labels)
