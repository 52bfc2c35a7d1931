use Rattle.par_lines.proofs.Words.{◌≡◌, ◌-◌, ◌≤◌, ℕ, IfSome, length, map, reverse, All, filter, range_with_len, slice_get, has_line, lines_of}

abbrev pub invariant-loop-client : Rattle.par_lines.proofs.deal.deal.Given.invariant-loop-client
invariant-loop-client l = record {
  all : length l.lists.items ≡ 256;
  own : (c : ℕ) → IfSome (slice_get l.lists.items c) (λ own. l.client ≤ c → reverse own.items ≡ lines_of c l.fn.lines.items);
  clients : map (λ a. a.0) l.dealt.items ≡ filter (has_line l.fn.lines.items) (range_with_len 1 (l.client - 1));
  few : length l.dealt.items ≤ l.client - 1;
  lines : All (λ a. a.1.items ≡ lines_of a.0 l.fn.lines.items) l.dealt.items;
}
