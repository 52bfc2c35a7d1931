use Rattle.par_lines.proofs.Words.{◌≡◌, ◌++◌, ℕ, IfSome, length, reverse, slice_get, lines_of}
use Rattle.par_lines.proofs.deal.by_client.Given as goal

abbrev pub invariant-loop-line : goal.invariant-loop-line
invariant-loop-line l = record {
  all : length l.lists.items ≡ 256;
  own : (client : ℕ) → IfSome (slice_get l.lists.items client) (λ own. lines_of client l.initial.lines.items ≡ lines_of client l.lines.items ++ reverse own.items);
}

abbrev pub decreases-loop-line : goal.decreases-loop-line
decreases-loop-line l = length l.lines.items
