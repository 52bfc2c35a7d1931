use Rattle.script_text.proofs.{Words.{arith, sym, ◌∙◌}, LineLemmas.parse-said, SaidLines.said_printable}

pub returns-in-Ok : Rattle.script_text.proofs.line.parse_line_into.Goals.returns-in-Ok
returns-in-Ok c =
    let printable = said_printable c.args.text.now c.say.new.into c.in-Ok.ensures in
    sym (parse-said c.args.text.now (omega arith) (sym c.is_skipped.ensures ∙ c.if-is_skipped.false) printable) ∙ c.in-Ok.ensures
