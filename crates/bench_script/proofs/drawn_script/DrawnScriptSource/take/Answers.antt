use Rattle.bench_script.proofs.{Words.{◌∙◌, sym, ap, min, take, drop, length, Some, List, ℕ, bench_text, DrawnState}, Pieces.{given_front, gives_to_end}}

pub returns-clause-bytes : Rattle.bench_script.proofs.drawn_script.DrawnScriptSource.take.Goals.returns-clause-bytes
returns-clause-bytes c =
    let at = c.fill.new.at in
    let given = c.give-given.result in
    let rest = bench_text c.fill.new.rounds c.fill.new.generator in
    let front = given_front at given c.fill.new.round c.give-given.new.into rest (c.give-given.ensures.bytes ∙ ap (λ (text : List ℕ). take given (drop at text)) c.text.ensures) in
    ap (λ (left : List ℕ). Some left) (ap (λ (s : DrawnState). s.left) (sym c.self.view_is) ∙ sym c.fill.ensures.text ∙ sym front)

pub returns-clause-end : Rattle.bench_script.proofs.drawn_script.DrawnScriptSource.take.Goals.returns-clause-end
returns-clause-end c room =
    let at = c.fill.new.at in
    let all = ap (λ (s : DrawnState). s.left) c.self.view_is in
    gives_to_end at c.give-given.result c.fill.new.round c.give-given.new.into c.args.self.now.left (bench_text c.fill.new.rounds c.fill.new.generator) c.fill.ensures.inside
    (c.give-given.ensures.count ∙ ap (λ (text : List ℕ). min (length (drop at text)) (length c.give-given.new.into)) c.text.ensures) room
    (λ end. sym all ∙ c.fill.ensures.some end) (c.fill.ensures.text ∙ all)
