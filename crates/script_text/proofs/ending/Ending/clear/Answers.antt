use Rattle.script_text.proofs.Words.{List, ℕ, ap, arith, drop_all, WithFront}

pub returns : Rattle.script_text.proofs.ending.Ending.clear.Goals.returns
returns c =
    let of_text : List ℕ → WithFront = λ text. record { text = text; room = 192 } in
    ap of_text (drop_all 192 c.self.inside.bytes (omega arith))
