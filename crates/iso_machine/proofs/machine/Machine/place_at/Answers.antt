use Rattle.iso_machine.proofs.{Words.arith, Machines.{known, nobody_at, place_here}}

pub index_at_client-requires-clause-distinct : Rattle.iso_machine.proofs.machine.Machine.place_at.Goals.index_at_client-requires-clause-distinct
index_at_client-requires-clause-distinct g c = (known c.requires.1 c.deref.result.now c.deref.ensures.value).distinct

pub index_at_client-requires-clause-nobody : Rattle.iso_machine.proofs.machine.Machine.place_at.Goals.index_at_client-requires-clause-nobody
index_at_client-requires-clause-nobody g c = nobody_at c.requires.1 c.deref.result.now c.args.client c.at_client.result c.deref.ensures.value (omega (arith, c.ranges.client.fits)) c.at_client.ensures

pub returns-clause-within : Rattle.iso_machine.proofs.machine.Machine.place_at.Goals.returns-clause-within
returns-clause-within g c = (place_here c.requires.1 c.args.client c.deref.result.now c.index_at_client.result c.deref.ensures.value c.index_at_client.ensures).0

pub returns-clause-here : Rattle.iso_machine.proofs.machine.Machine.place_at.Goals.returns-clause-here
returns-clause-here g c W of = (place_here of c.args.client c.deref.result.now c.index_at_client.result c.deref.ensures.value c.index_at_client.ensures).1
