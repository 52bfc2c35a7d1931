use Rattle.device_desk.proofs.Tables.{distinct_in, place_here}

pub place_of-requires : Rattle.device_desk.proofs.table.Table.place_at.Goals.place_of-requires
place_of-requires g c = distinct_in c.requires.1 c.deref.result.now c.deref.ensures.value

pub returns-clause-within : Rattle.device_desk.proofs.table.Table.place_at.Goals.returns-clause-within
returns-clause-within g c = (place_here c.requires.1 c.args.number c.deref.result.now c.place_of.result c.deref.ensures.value c.place_of.ensures).0

pub returns-clause-here : Rattle.device_desk.proofs.table.Table.place_at.Goals.returns-clause-here
returns-clause-here g c W of = (place_here of c.args.number c.deref.result.now c.place_of.result c.deref.ensures.value c.place_of.ensures).1
