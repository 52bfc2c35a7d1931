-- The first slots are cleared.
use Rattle.tx_table.proofs.Words.{◌≡◌, ℕ, ◌<◌, ◌≤◌, [], None, length, get_or, replicate}

abbrev pub invariant-loop-slot : Rattle.tx_table.proofs.patches.clear_slots.Given.invariant-loop-slot
invariant-loop-slot l = record {
  len : length l.slots.items ≡ length l.initial.slots.items;
  cleared : (k : ℕ) → k < l.slot → get_or l.slots.items k [] ≡ replicate (length (get_or l.initial.slots.items k [])) None;
  kept : (k : ℕ) → l.slot ≤ k → get_or l.slots.items k [] ≡ get_or l.initial.slots.items k [];
}
