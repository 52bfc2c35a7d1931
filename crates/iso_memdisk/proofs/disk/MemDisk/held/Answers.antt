use Rattle.iso_memdisk.proofs.{Words.{Vec, ℕ, Option, length, sym, ◌∙◌, ap, Global, held}, Calls.length-written}

pub returns-in-Some-clause-length : Rattle.iso_memdisk.proofs.disk.MemDisk.held.Goals.returns-in-Some-clause-length
returns-in-Some-clause-length c =
    let d = c.args.self.now in
    let is = ap (λ (o : Option (Vec ℕ Global)). held o d.first.items) c.in-Some.is in
    ap length (c.deref.ensures.value ∙ sym is ∙ d.holds) ∙ length-written d.history.items d.first.items d.writes_fit
