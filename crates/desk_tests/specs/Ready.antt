-- What the tests keep of a transaction.
use Rattle.std.specs.Prelude.{◌≡◌, ℕ}
use Rattle.tx_blocks.specs.Tx.{Tx}

-- `blocks` blocks of 256 bytes
pub record IsReady (blocks : ℕ) (t : Tx) : Type 0 where
  pub size : t.size ≡ 256
  pub count : t.blocks ≡ blocks
