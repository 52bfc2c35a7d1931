use Rattle.iso_shared.proofs.{Words.{rules}, Standings.ended_none}

pub returns-in-Ok-clause-ok : Rattle.iso_shared.proofs.shared.Shared.new.Goals.returns-in-Ok-clause-ok
returns-in-Ok-clause-ok g c = (search rules, search rules, c.geometry-geometry.ensures g.O.Origin.start.world _ c.requires.start.0.world)

pub new-requires : Rattle.iso_shared.proofs.shared.Shared.new.Goals.new-requires
new-requires g c = record {
  start = c.requires.start.1;
  legal = tt;
  core = c.requires.start.0;
  rack = search rules;
  works = search rules;
  came = c.requires.came;
  lawful = g.met.D.Disk.lawful;
  ended = ended_none g.D.Disk.state g.O.Origin.disk _ g.O.Origin.start;
}
