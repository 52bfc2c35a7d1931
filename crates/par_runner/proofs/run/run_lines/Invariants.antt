use Rattle.std.proofs.Common.{◌≡◌, take}
use Rattle.par_runner.specs.Runs.{Went}

abbrev pub invariant-loop-number : Rattle.par_runner.proofs.run.run_lines.Given.invariant-loop-number
invariant-loop-number g l = record {
  done : l.done ≡ l.number-index;
  fit : g.C.Client.fits l.client;
  went : Went g.C.Client.steps l.initial.client (take l.number-index l.lines) l.client;
}
