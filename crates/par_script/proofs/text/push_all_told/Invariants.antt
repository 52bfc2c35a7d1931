use Rattle.par_script.proofs.Words.{◌≡◌, ◌++◌, flat_map, take, concat, told_lines}

abbrev pub invariant-loop-part : Rattle.par_script.proofs.text.push_all_told.Given.invariant-loop-part
invariant-loop-part l = l.out.items ≡ l.initial.out.items ++ concat (flat_map told_lines (take l.part-index l.parts))
