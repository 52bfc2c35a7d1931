use Rattle.script_text.proofs.Words.{arith, ap, length-decimal-le, WithFront}

pub write_digits-self-inside-requires : Rattle.script_text.proofs.ending.Ending.put_number.Goals.write_digits-self-inside-requires
write_digits-self-inside-requires c =
    let short = length-decimal-le 20 c.args.number (omega arith) (omega arith) (omega arith) in
    let room = ap (λ (w : WithFront). w.room) c.self.view_is in
    (omega arith, omega (arith, c.self.invariant))

pub returns-clause-room : Rattle.script_text.proofs.ending.Ending.put_number.Goals.returns-clause-room
returns-clause-room c =
    let room = ap (λ (w : WithFront). w.room) c.self.view_is in
    omega (arith, c.write_digits-self-inside.ensures.start)

pub returns-clause-most : Rattle.script_text.proofs.ending.Ending.put_number.Goals.returns-clause-most
returns-clause-most c =
    let short = length-decimal-le 20 c.args.number (omega arith) (omega arith) (omega arith) in
    let room = ap (λ (w : WithFront). w.room) c.self.view_is in
    omega (arith, c.write_digits-self-inside.ensures.start)
