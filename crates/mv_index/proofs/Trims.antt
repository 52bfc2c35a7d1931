-- Rows that are trimmed or moved one by one, and how many of their versions are dropped.
use Rattle.mv_index.proofs.Words.{rules, ◌≡◌, ℕ, ◌+◌, ◌<◌, ◌≤◌, List, length, arith, set, sum_by-set, Version, BlockVersions, block_of, count_of, room_of, versions_in}

-- The rows before i have what f gives of their versions, and the others are as they were.
pub record AreTrimmed (f : List Version → List Version) (whole rows : List BlockVersions) (dropped i : ℕ) : Type 0 where
  pub size : length rows ≡ length whole
  pub done : (b : ℕ) → b < i → versions_in rows b ≡ f (versions_in whole b)
  pub rest : (b : ℕ) → i ≤ b → block_of rows b ≡ block_of whole b
  pub room : (b : ℕ) → room_of whole b ≤ room_of rows b
  pub count : dropped + count_of rows ≡ count_of whole

pub trimmed_more : (f : List Version → List Version) (whole rows : List BlockVersions) (dropped i more : ℕ) (row : BlockVersions) → AreTrimmed f whole rows dropped i → i < length rows
    → more + length row.versions ≡ length (versions_in rows i) → row.versions ≡ f (versions_in rows i) → room_of rows i ≤ row.room
    → AreTrimmed f whole (set rows i row) (dropped + more) (i + 1)
trimmed_more f whole rows dropped i more row was inside fewer kept roomy = search (rules, arith, set, sum_by-set)
