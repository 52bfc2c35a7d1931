-- The fields of a session between two calls, and what contracts see of them.
use Rattle.std.specs.Prelude.{◌≡◌, ℕ, ◌+◌, List, ◌++◌, Option, Some, None, IfSome}
use mathlib.Core.List.{IsPrefix}
use Rattle.iso_shared.specs.{declared.entry.Entry.Entry, declared.tx.Tx.Tx, Ports.{IsPort, IsTx, check_of, doing_of, first_geometry, number_of, port_view, tx_view}, States.Start, Told.posting_of_tx}
use Rattle.turn_lock.specs.declared.view.View.{View}
use Rattle.handle_pass.specs.{declared.session.Session.TheInside.Inside, Sessions.{Own, SessionState, device_of}}

module _ {D O : Type 0} where
  abbrev pub own_in : Tx D O → Own
  own_in t = posting_of_tx (number_of t) (doing_of t)

  abbrev pub own_of : Option (Tx D O) → Option Own
  own_of None = None
  own_of (Some t) = Some (own_in t)

  -- the places of the port's and of the transaction's entries
  abbrev pub mine_of : View Entry → Option (Tx D O) → List ℕ
  mine_of v None = v.mine
  mine_of v (Some t) = v.mine ++ (tx_view t).mine

  abbrev pub units_of : View Entry → Option (Tx D O) → ℕ
  units_of v None = v.units
  units_of v (Some t) = v.units + (tx_view t).units

  -- up to which commit the transaction was compared ahead of its end
  abbrev pub checked_of : Option (Tx D O) → ℕ
  checked_of None = 0
  checked_of (Some t) = (check_of t).upto

  abbrev pub state_of : Inside D O → SessionState
  state_of s = record {
    device = device_of s.shared.now;
    own = own_of s.tx;
    checked = checked_of s.tx;
    seen = (port_view s.port).seen;
    mine = mine_of (port_view s.port) s.tx;
    units = units_of (port_view s.port) s.tx;
  }

  -- Port and transaction are of the device, and the port knows what the transaction does, and has all units but one of the
  -- transaction.
  pub record IsSession (A : Start) (s : Inside D O) : Type 0 where
    pub image : first_geometry s.shared.now ≡ A.world.geometry
    pub port : IsPort s.shared.now s.port
    pub tx : IfSome s.tx (λ t. IsTx s.shared.now A t × IsPrefix (tx_view t).seen (port_view s.port).seen)
    pub one : IfSome s.tx (λ t. (tx_view t).units ≡ 1)
