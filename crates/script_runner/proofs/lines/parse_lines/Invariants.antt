use Rattle.script_runner.proofs.{ScriptWords.{◌+◌, ◌≤◌, length}, WholeScripts.AreFirst}

abbrev pub invariant-loop-line : Rattle.script_runner.proofs.lines.parse_lines.Given.invariant-loop-line
invariant-loop-line l = record {
  count : l.number + length l.rest ≤ length l.bytes + 1;
  first : AreFirst l.bytes l.rest l.number l.lines.items;
}

abbrev pub decreases-loop-line : Rattle.script_runner.proofs.lines.parse_lines.Given.decreases-loop-line
decreases-loop-line l = length l.rest
