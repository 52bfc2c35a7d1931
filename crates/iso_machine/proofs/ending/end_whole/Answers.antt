use Rattle.iso_machine.proofs.{Words.{◌∙◌, up}, Endings.nothing_ahead}

pub end-requires : Rattle.iso_machine.proofs.ending.end_whole.Goals.end-requires
end-requires g c =
    let (W, t, of, tx, work) = c.requires.stands in
    (W, up, t, of, tx, work, nothing_ahead W t c.begun_at.result of.kept_of.world tx.among (c.begun_at.ensures ∙ work.begin))

pub returns-clause-ended : Rattle.iso_machine.proofs.ending.end_whole.Goals.returns-clause-ended
returns-clause-ended g c W t of tx work =
    c.end.ensures.ended W t of tx work (nothing_ahead W t c.begun_at.result of.kept_of.world tx.among (c.begun_at.ensures ∙ work.begin))

pub returns-clause-refused : Rattle.iso_machine.proofs.ending.end_whole.Goals.returns-clause-refused
returns-clause-refused g c W t of tx work =
    c.end.ensures.refused W t of tx work (nothing_ahead W t c.begun_at.result of.kept_of.world tx.among (c.begun_at.ensures ∙ work.begin))

pub returns-clause-moments : Rattle.iso_machine.proofs.ending.end_whole.Goals.returns-clause-moments
returns-clause-moments g c W t of tx work =
    c.end.ensures.moments W t of tx work (nothing_ahead W t c.begun_at.result of.kept_of.world tx.among (c.begun_at.ensures ∙ work.begin))
