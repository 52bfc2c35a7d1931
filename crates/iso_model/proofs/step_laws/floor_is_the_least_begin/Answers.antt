use Rattle.iso_model.proofs.{Words.{ap, List, last, Live, floor_of}, Floors.{floor_below, floor_met}}

pub returns-clause-below : Rattle.iso_model.proofs.step_laws.floor_is_the_least_begin.Goals.returns-clause-below
returns-clause-below _ = λ W. floor_below (last W.history) W.live

pub returns-clause-met : Rattle.iso_model.proofs.step_laws.floor_is_the_least_begin.Goals.returns-clause-met
returns-clause-met _ = λ W some. floor_met (last W.history) W.live some

pub returns-clause-none : Rattle.iso_model.proofs.step_laws.floor_is_the_least_begin.Goals.returns-clause-none
returns-clause-none _ = λ W none. ap (λ (live : List Live). floor_of (last W.history) live) none
