use Rattle.script_runner.proofs.{ScriptWords.{◌<◌, ℕ, List, length, ap, sym, subst, ◌∙◌, arith, MAX_INPUT, script, IsWhyOf}, Reading.no_lines}

pub returns-in-Ok-parse_lines-clause-lines : Rattle.script_runner.proofs.read.read_script.Goals.returns-in-Ok-parse_lines-clause-lines
returns-in-Ok-parse_lines-clause-lines g c =
    let same = c.as_slice.ensures.value in
    let whole : length c.in-Ok.bytes.items < MAX_INPUT = omega (arith, ap length same, c.in-Ok-parse_lines.ensures.whole) in
    let met = c.in-Ok.ensures.ended (omega (arith, c.in-Ok.bytes.ok.0)) in
    record {
      bytes = c.in-Ok.bytes.items;
      took = c.in-Ok.ensures.bytes;
      ended = met;
      lines_are = ap script (sym same) ∙ c.in-Ok-parse_lines.ensures.lines;
      passed = c.in-Ok.ensures.passed;
    }

pub returns-clause-why : Rattle.script_runner.proofs.read.read_script.Goals.returns-clause-why
returns-clause-why g c =
    let same = c.as_slice.ensures.value in
    no_lines (g.S.Source.state c.args.input.now) (g.S.Source.state c.take_all.new.source) c.in-Ok.bytes.items c.in-Ok.ensures.bytes (omega (arith, c.in-Ok.bytes.ok.0, c.in-Ok.ensures.limit))
    (λ few. c.in-Ok.ensures.ended (omega (arith, c.in-Ok.bytes.ok.0))) c.in-Ok.ensures.passed c.in-Err.error
    (subst (λ (xs : List ℕ). IsWhyOf (script xs) c.in-Err.error) same c.in-Err.ensures.bad)
