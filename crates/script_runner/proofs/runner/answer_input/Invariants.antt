use Rattle.script_runner.proofs.Words.{◌≡◌, ◌+◌, ◌≤◌, ℕ, List, length, vec_len, MAX_INPUT, MAX_LINE, World, Gave, Reads}

abbrev pub invariant-loop-left : Rattle.script_runner.proofs.runner.answer_input.Given.invariant-loop-left
invariant-loop-left g l = record {
  bytes : List ℕ;
  gave : Gave (g.S.Source.state l.fn.input) (g.S.Source.state l.input) bytes;
  count : length bytes + l.left ≡ MAX_INPUT;
  room : vec_len l.piece ≡ 65536;
  number : l.progress.number ≤ length bytes + 1;
  held : length l.progress.held.items ≤ MAX_LINE;
  stands : (W : World) × g.M.ScriptMachine.stands l.machine W;
  reads : (W : World) → g.M.ScriptMachine.stands l.fn.machine W
      → Reads (g.M.ScriptMachine.stands l.machine) (g.M.ScriptMachine.disk l.fn.machine) (g.M.ScriptMachine.disk l.machine) (g.K.Sink.state l.fn.output) (g.K.Sink.state l.output) W bytes l.progress.number l.progress.held.items;
}

abbrev pub decreases-loop-left : Rattle.script_runner.proofs.runner.answer_input.Given.decreases-loop-left
decreases-loop-left g l = l.left
