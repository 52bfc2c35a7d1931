use Rattle.iso_log.proofs.Words.{take, ap, subst, ◌∙◌, AreBytes}

pub returns-clause-values : Rattle.iso_log.proofs.ahead.ReadAhead.view_front.Goals.returns-clause-values
returns-clause-values c = subst AreBytes (c.split_at.ensures.front ∙ ap (take c.args.size) c.as_slice.ensures) c.view_record.ensures.values
