-- The rows so far, each at its place.
use Rattle.tx_table.proofs.Words.{◌≡◌, ℕ, ◌-◌, ◌<◌, Bool, length, get_or, take, drop, All, list_any, Row}

abbrev pub invariant-loop-at : Rattle.tx_table.proofs.fold.by_block.Given.invariant-loop-at
invariant-loop-at l = record {
  inside : All (λ (e : ℕ × ℕ). e.1 < length l.rows) l.order.items;
  all : (d : Row) → (test : Row → Bool) → list_any (λ (e : ℕ × ℕ). test (get_or l.rows e.1 d)) l.order.items ≡ list_any test (take (l.at - l.from) (drop l.from l.rows));
}
