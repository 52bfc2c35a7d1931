use Rattle.script_text.proofs.Words.{◌≡◌, ◌+◌, ℕ, true, List, ◌++◌, take, drop, refl, sym, ◌∙◌, ap, arith, list_all, drop-take, take-append-drop, take-take, list_all-append, is_no_space}

-- the bytes up to a place and those after it
both : (text : List ℕ) (n m : ℕ) → list_all is_no_space (take n text) ≡ true → list_all is_no_space (take m (drop n text)) ≡ true
    → list_all is_no_space (take (n + m) text) ≡ true
both text n m front back =
    let parts : take n text ++ take m (drop n text) ≡ take (n + m) text =
    ap (λ xs. xs ++ take m (drop n text)) (sym (take-take n (n + m) text (omega arith))) ∙ ap (λ xs. take n (take (n + m) text) ++ xs) (sym (drop-take n m text))
    ∙ take-append-drop n (take (n + m) text) in
    ap (list_all is_no_space) (sym parts) ∙ list_all-append is_no_space (take n text) (take m (drop n text)) ∙ rw (front, back) refl

pub bytes-preserved : Rattle.script_text.proofs.word.begun_length.Goals.bytes-preserved
bytes-preserved c = (omega arith, both c.args.text.now c.bytes.at 16 c.bytes.invariant.1 (c.have_no_space.ensures c.if-not-have_no_space.false))
