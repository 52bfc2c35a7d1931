-- The transaction in a handle, and what contracts see of it.
use Rattle.std.specs.Prelude.{◌≡◌, ℕ, List}
use Rattle.iso_shared.specs.{declared.entry.Entry.Entry, declared.tx.Tx.Tx, Ports.{IsTxOf, check_of, doing_of, number_of, tx_view}, States.Start, Told.posting_of_tx, Turns.HasNoTurn}
use Rattle.handle_pass.specs.Sessions.{DeviceId, Own}

-- A handle: the device, the transaction and up to which commit it was compared ahead of its end, what it knows of the list, and the
-- places of its entries.
pub record HandleState : Type 0 where
  pub device : DeviceId
  pub own : Own
  pub checked : ℕ
  pub seen : List Entry
  pub mine : List ℕ

module _ {D O : Type 0} where
  abbrev pub held_state : Tx D O → HandleState
  held_state t = record {
    device = t.pass.table_id;
    own = posting_of_tx (number_of t) (doing_of t);
    checked = (check_of t).upto;
    seen = (tx_view t).seen;
    mine = (tx_view t).mine;
  }

  -- a transaction between two calls, with one unit, as a session releases it
  pub record IsReleased (A : Start) (t : Tx D O) : Type 0 where
    pub rest : HasNoTurn t.pass
    pub tx : IsTxOf A t
    pub one : (tx_view t).units ≡ 1
