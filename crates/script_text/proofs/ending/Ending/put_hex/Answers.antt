use Rattle.script_text.proofs.{Words.{◌∙◌, ◌++◌, ℕ, List, ap, arith, drop, hex_text, WithFront}, Fronts.from_part}

pub returns-clause-text : Rattle.script_text.proofs.ending.Ending.put_hex.Goals.returns-clause-text
returns-clause-text c =
    let room = ap (λ (w : WithFront). w.room) c.self.view_is in
    let text = ap (λ (w : WithFront). w.text) c.self.view_is in
    from_part _ _ c.self.inside.start c.self.inside.bytes c.write_hex.new.room (omega (arith, c.self.invariant)) (omega arith)
    ∙ ap (λ (digits : List ℕ). digits ++ drop c.self.inside.start c.self.inside.bytes) c.write_hex.ensures
    ∙ ap (λ (rest : List ℕ). hex_text c.args.bytes.now ++ rest) text
