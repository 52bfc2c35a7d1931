use Rattle.std.proofs.{Common.{◌≡◌, ◌+◌, ◌++◌, [], ◌∷◌, take, ap, sym, ◌∙◌, arith}, lemmas.List.take_more}
use Rattle.par_runner.proofs.Goings.{went_more}

pub loop-number-preserved : Rattle.par_runner.proofs.run.run_lines.Goals.loop-number-preserved
loop-number-preserved g c =
    let more : take (c.loop-number.number-index + 1) c.args.lines.now ≡ take c.loop-number.number-index c.args.lines.now ++ c.loop-number-item.result ∷ []
    = take_more c.args.lines.now c.loop-number.number-index c.loop-number-item.result c.loop-number-test.true ∙ ap (λ v. take c.loop-number.number-index c.args.lines.now ++ v ∷ []) (sym c.loop-number-item.is)
    in record {
      done = omega arith;
      fit = c.step-flow.ensures.fits;
      went = went_more g.C.Client.steps _ _ _ c.args.lines.now c.loop-number.number-index c.loop-number-item.result c.step-flow.result c.loop-number.invariant.went more c.in-Go.is c.step-flow.ensures.steps;
    }
