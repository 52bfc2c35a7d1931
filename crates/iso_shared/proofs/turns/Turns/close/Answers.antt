use Rattle.iso_shared.proofs.{Words.{ap, sym, ◌∙◌, places}, Stamping.{entries_many, rests_raw}}

pub returns-clause-all : Rattle.iso_shared.proofs.turns.Turns.close.Goals.returns-clause-all
returns-clause-all g c = c.close.ensures.all ∙ ap places (sym (entries_many _))

pub close-requires-clause-free : Rattle.iso_shared.proofs.turns.Turns.close.Goals.close-requires-clause-free
close-requires-clause-free g c = rests_raw c.args.pass c.requires.pass.1
