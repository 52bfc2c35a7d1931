-- The pieces that meet the range are some of those that show.

pub returns-clause-within : Rattle.mv_index.proofs.index.MvIndex.showing_in.Goals.returns-clause-within
returns-clause-within c size area lie = c.meeting.ensures.within size area (c.showing.ensures.within size area lie)
