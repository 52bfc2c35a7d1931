use Rattle.iso_model.proofs.Kept.{written_found, written_there, kept_shows, shows_kept, untrimmed}

pub returns-clause-written : Rattle.iso_model.proofs.step_laws.versions_are_what_still_shows.Goals.returns-clause-written
returns-clause-written _ = λ trim k commits b p. (written_found trim k commits b p, written_there trim k commits b p)

pub returns-clause-all : Rattle.iso_model.proofs.step_laws.versions_are_what_still_shows.Goals.returns-clause-all
returns-clause-all _ = untrimmed

pub returns-clause-kept : Rattle.iso_model.proofs.step_laws.versions_are_what_still_shows.Goals.returns-clause-kept
returns-clause-kept _ = λ trim n later run. (kept_shows trim n later run, shows_kept trim n later run)
