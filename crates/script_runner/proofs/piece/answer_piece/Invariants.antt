use Rattle.script_runner.proofs.Words.{◌≡◌, ◌+◌, ◌≤◌, ◌++◌, ℕ, List, length, SinkState, World, Reads}

abbrev pub invariant-loop-line : Rattle.script_runner.proofs.piece.answer_piece.Given.invariant-loop-line
invariant-loop-line g l = record {
  taken : List ℕ;
  split : l.fn.piece ≡ taken ++ l.rest;
  stands : (W : World) × g.M.ScriptMachine.stands l.machine W;
  count : l.progress.number + length l.rest ≤ l.fn.progress.number + length l.fn.piece;
  reads : (W : World) (m : g.row.M.Denot) (k : SinkState) (bytes : List ℕ)
      → Reads (g.M.ScriptMachine.stands l.fn.machine) (g.M.ScriptMachine.disk m) (g.M.ScriptMachine.disk l.fn.machine) k (g.K.Sink.state l.fn.output) W bytes l.fn.progress.number l.fn.progress.held.items
      → Reads (g.M.ScriptMachine.stands l.machine) (g.M.ScriptMachine.disk m) (g.M.ScriptMachine.disk l.machine) k (g.K.Sink.state l.output) W (bytes ++ taken) l.progress.number l.progress.held.items;
}

abbrev pub decreases-loop-line : Rattle.script_runner.proofs.piece.answer_piece.Given.decreases-loop-line
decreases-loop-line g l = length l.rest
