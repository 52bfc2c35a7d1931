use Rattle.script_text.proofs.{Words.{◌≡◌, ◌∙◌, length, arith, nat_tests}, WordCuts.none_of}

pub returns-clause-words : Rattle.script_text.proofs.word.next_word.Goals.returns-clause-words
returns-clause-words c =
    let none : length c.loop-rest.rest.now ≡ 0 = grind (arith, nat_tests) in
    c.loop-rest.invariant.0 ∙ none_of c.loop-rest.rest.now none
