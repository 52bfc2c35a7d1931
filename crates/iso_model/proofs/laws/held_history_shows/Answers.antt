use Rattle.iso_model.proofs.Held.{held_array, held_shows, held_whole, shows_longer}

pub returns-clause-arrays : Rattle.iso_model.proofs.laws.held_history_shows.Goals.returns-clause-arrays
returns-clause-arrays _ = held_array

pub returns-clause-shows : Rattle.iso_model.proofs.laws.held_history_shows.Goals.returns-clause-shows
returns-clause-shows _ = held_shows

pub returns-clause-longer : Rattle.iso_model.proofs.laws.held_history_shows.Goals.returns-clause-longer
returns-clause-longer _ = shows_longer

pub returns-clause-whole : Rattle.iso_model.proofs.laws.held_history_shows.Goals.returns-clause-whole
returns-clause-whole _ = held_whole
