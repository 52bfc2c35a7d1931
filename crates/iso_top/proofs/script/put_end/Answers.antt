use Rattle.iso_top.proofs.Words.{◌∙◌, sym, subst, ℕ, List, RunEnd, PrintedEnd, Printed}

pub returns-in-BadLine : Rattle.iso_top.proofs.script.put_end.Goals.returns-in-BadLine
returns-in-BadLine g c =
    let old = g.K.Sink.state c.args.output.now in
    let new = g.K.Sink.state c.put_last.new.output in
    subst (λ (e : RunEnd). PrintedEnd e old new) (sym c.in-BadLine.is)
    (subst (λ (text : List ℕ). Printed old new text) (c.as_slice.ensures.value ∙ c.bad_line.ensures) c.put_last.ensures)
