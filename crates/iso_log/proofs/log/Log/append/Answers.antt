use Rattle.iso_log.proofs.Words.{[], ◌∷◌}

pub returns-clause-all_or_none : Rattle.iso_log.proofs.log.Log.append.Goals.returns-clause-all_or_none
returns-clause-all_or_none g c geometry first told w has next = c.append_group.ensures.all_or_none geometry first told (w ∷ []) has next

pub returns-clause-held_moments : Rattle.iso_log.proofs.log.Log.append.Goals.returns-clause-held_moments
returns-clause-held_moments g c geometry x w is next held = c.append_group.ensures.held_moments geometry x (w ∷ []) is next held

pub returns-clause-grown : Rattle.iso_log.proofs.log.Log.append.Goals.returns-clause-grown
returns-clause-grown g c = let (geometry, w, next) = c.requires.next in c.append_group.ensures.grown geometry (w ∷ []) next
