-- A port that is split off a session, and one that is joined into it.
use Rattle.std.specs.Prelude.{◌≡◌, ℕ, ◌+◌, ◌-◌, cond, is_some}
use mathlib.Core.List.{IsPrefix}
use Rattle.iso_shared.specs.{declared.shared.Port.Port, Ports.port_view}
use Rattle.turn_lock.specs.Lists.{times}
use Rattle.handle_pass.specs.Sessions.{SessionState, count, IsPortAt, KeepsTx}

-- the units of the session's port: all but the one of its transaction
abbrev pub port_units : SessionState → ℕ
port_units s = s.units - cond (is_some s.own) 1 0

module _ {D O : Type 0} where
  -- the session gave 32 of its units to a new port, which knows what the session does and has no place; all else stayed
  pub record Split (s : SessionState) (q : Port D O) (t : SessionState) : Type 0 where
    pub port : IsPortAt s.device q
    pub given : (port_view q).units ≡ 32
    pub less : t.units + 32 ≡ s.units
    pub none : (p : ℕ) → times p (port_view q).mine ≡ 0
    pub told : (port_view q).seen ≡ s.seen
    pub known : t.seen ≡ s.seen
    pub places : (p : ℕ) → count t p ≡ count s p
    pub tx : KeepsTx s t
    pub of : t.device ≡ s.device

  -- the session got the units and the places of a port, and knows what both knew; its transaction stayed
  pub record Joined (s : SessionState) (q : Port D O) (t : SessionState) : Type 0 where
    pub more : t.units ≡ s.units + (port_view q).units
    pub told : IsPrefix (port_view q).seen t.seen
    pub known : IsPrefix s.seen t.seen
    pub places : (p : ℕ) → count t p ≡ count s p + times p (port_view q).mine
    pub tx : KeepsTx s t
    pub of : t.device ≡ s.device
