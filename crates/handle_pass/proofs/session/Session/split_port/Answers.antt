use Rattle.handle_pass.proofs.{Words.{subst, sym, ◌<◌, ℕ, arith, SessionState, port_units, view}, Handing.{left_units, split_off}}

pub port-requires-clause-units : Rattle.handle_pass.proofs.session.Session.split_port.Goals.port-requires-clause-units
port-requires-clause-units g c =
    let s = c.self.inside in
    let some = subst (λ (x : SessionState). 32 < port_units x) (sym c.self.view_is) c.requires.units in
    (omega arith, subst (λ (n : ℕ). 32 < n) (left_units (view s.port.pass) s.tx c.self.invariant.one) some)

pub returns : Rattle.handle_pass.proofs.session.Session.split_port.Goals.returns
returns g c =
    let s = c.self.inside in
    let more = subst (λ (x : SessionState). 32 < port_units x) (sym c.self.view_is) c.requires.units in
    let some = subst (λ (n : ℕ). 32 < n) (left_units (view s.port.pass) s.tx c.self.invariant.one) more in
    rw (← c.self.view_is) (record { did = split_off s c.port.new.from c.port.result c.port.ensures.new.0 some c.port.ensures.from.1 c.port.ensures.new.1 })
