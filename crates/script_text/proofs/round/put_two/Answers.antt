use Rattle.script_text.proofs.Words.{arith, length-decimal-le}

pub put_number-requires-2 : Rattle.script_text.proofs.round.put_two.Goals.put_number-requires-2
put_number-requires-2 c =
    let short = length-decimal-le 2 c.from.result (omega arith) (omega (arith, c.from.ensures)) (omega (arith, c.from.ensures)) in
    omega arith

pub returns-clause-room : Rattle.script_text.proofs.round.put_two.Goals.returns-clause-room
returns-clause-room c =
    let short = length-decimal-le 2 c.from.result (omega arith) (omega (arith, c.from.ensures)) (omega (arith, c.from.ensures)) in
    let also = length-decimal-le 2 c.from-2.result (omega arith) (omega (arith, c.from-2.ensures)) (omega (arith, c.from-2.ensures)) in
    omega (arith, c.put_number.ensures.room, c.put.ensures.room, c.put_number-2.ensures.room)
