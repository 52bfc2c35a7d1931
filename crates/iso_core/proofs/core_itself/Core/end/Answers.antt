use Rattle.iso_core.proofs.core_itself.Core.end.Goals as goal

pub returns-clause-ended : goal.returns-clause-ended
returns-clause-ended g c W t of here is_work is = (c.end_tx.ensures.ends (record { world = W; t = t; of = of; here = here; is_work = is_work; is = is })).ended

pub returns-clause-refused : goal.returns-clause-refused
returns-clause-refused g c W t of here is_work is = (c.end_tx.ensures.ends (record { world = W; t = t; of = of; here = here; is_work = is_work; is = is })).refused

pub returns-clause-moments : goal.returns-clause-moments
returns-clause-moments g c W t of here is_work is = (c.end_tx.ensures.ends (record { world = W; t = t; of = of; here = here; is_work = is_work; is = is })).moments

pub returns-clause-lost : goal.returns-clause-lost
returns-clause-lost g c W t of here is_work is = (c.end_tx.ensures.ends (record { world = W; t = t; of = of; here = here; is_work = is_work; is = is })).lost

pub returns-clause-last : goal.returns-clause-last
returns-clause-last g c = c.end_tx.ensures.rest.disk.last

pub returns-clause-unwritten : goal.returns-clause-unwritten
returns-clause-unwritten g c = c.end_tx.ensures.rest.disk.unwritten

pub returns-clause-told : goal.returns-clause-told
returns-clause-told g c = c.end_tx.ensures.rest.disk.told

pub returns-clause-cause : goal.returns-clause-cause
returns-clause-cause g c = c.end_tx.ensures.rest.disk.cause

pub returns-clause-steps : goal.returns-clause-steps
returns-clause-steps g c W t of here is = c.end_tx.ensures.steps (record { world = W; t = t; of = of.kept_of; here = here }) is
