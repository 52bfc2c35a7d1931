use Rattle.half_switch.proofs.Words.{ℕ, subst, on_ok_weaker, Torn, weakened, at_end, IsOpen, switched, switching}

pub returns-clause-held : Rattle.half_switch.proofs.gates.open_half.Goals.returns-clause-held
returns-clause-held g c h form x y place ready = weakened c.open_gate.ensures.moments (λ d from.
    let is = ready from.old from.was in
    switching h form x y from.old d is.may is.held is.filled (subst (λ (k : ℕ). Torn k 1 from.old d) place from.torn))

pub returns-clause-opened : Rattle.half_switch.proofs.gates.open_half.Goals.returns-clause-opened
returns-clause-opened g c h form x y place ready = on_ok_weaker c.open_gate.result (λ opened d image.
    let from = at_end (g.met.D.Disk.lawful c.open_gate.new.disk) c.open_gate.ensures.moments d image in
    let is = ready from.old from.was in
    switched h form x y from.old d is.may is.held is.filled (subst (λ (k : ℕ). Torn k 1 from.old d) place from.torn)
    (subst (λ (k : ℕ). IsOpen k d) place (opened d image)))
    c.open_gate.ensures.open
