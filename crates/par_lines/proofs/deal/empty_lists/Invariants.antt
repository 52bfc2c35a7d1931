use Rattle.par_lines.proofs.Words.{◌≡◌, [], All, length}
use Rattle.par_lines.proofs.deal.empty_lists.Given as goal

abbrev pub invariant-loop : goal.invariant-loop
invariant-loop l = record {
  all : length l.lists.items ≡ l.counter;
  empty : All (λ own. own.items ≡ []) l.lists.items;
}
