use Rattle.iso_shared.proofs.{Words.{ap, shown}, Stamping.rests_shown}

pub returns-in-Ok-clause-ok : Rattle.iso_shared.proofs.turns.Turns.new.Goals.returns-in-Ok-clause-ok
returns-in-Ok-clause-ok g c = let ok = c.in-Ok.ensures.ok in ((ok.0, rests_shown c.in-Ok.pass ok.1), ap shown ok.2)
