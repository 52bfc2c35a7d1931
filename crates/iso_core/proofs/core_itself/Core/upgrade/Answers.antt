use Rattle.iso_core.proofs.{Plans.second_form, Standings.up_of}
use Rattle.iso_core.proofs.core_itself.Core.upgrade.Goals as goal

pub switch_half-requires : goal.switch_half-requires
switch_half-requires g c =
    let (W, standing, of) = c.requires in
    record { world = W; of = up_of (g.D.Disk.state c.args.self.now.disk) c.args.self.now.kept W standing of c.if-self.false; fits = second_form W of.kept_of.world }

pub returns-clause-switched : goal.returns-clause-switched
returns-clause-switched g c W of = (c.switch_half.ensures.switched (record { world = W; of = of; fits = second_form W of.kept_of.world })).switched

pub returns-clause-refused : goal.returns-clause-refused
returns-clause-refused g c W answer of = (c.switch_half.ensures.switched (record { world = W; of = of; fits = second_form W of.kept_of.world })).refused answer

pub returns-clause-same : goal.returns-clause-same
returns-clause-same g c W of = (c.switch_half.ensures.switched (record { world = W; of = of; fits = second_form W of.kept_of.world })).same

pub returns-clause-lost : goal.returns-clause-lost
returns-clause-lost g c W of = (c.switch_half.ensures.switched (record { world = W; of = of; fits = second_form W of.kept_of.world })).lost

pub returns-clause-moments : goal.returns-clause-moments
returns-clause-moments g c W of = (c.switch_half.ensures.switched (record { world = W; of = of; fits = second_form W of.kept_of.world })).moments

pub returns-clause-form : goal.returns-clause-form
returns-clause-form g c W of = (c.switch_half.ensures.switched (record { world = W; of = of; fits = second_form W of.kept_of.world })).form_is

pub returns-clause-unworn : goal.returns-clause-unworn
returns-clause-unworn g c W answer of = (c.switch_half.ensures.switched (record { world = W; of = of; fits = second_form W of.kept_of.world })).unworn answer

pub returns-clause-last : goal.returns-clause-last
returns-clause-last g c = c.switch_half.ensures.disk.last

pub returns-clause-worn : goal.returns-clause-worn
returns-clause-worn g c = c.switch_half.ensures.disk.worn

pub returns-clause-told : goal.returns-clause-told
returns-clause-told g c = c.switch_half.ensures.disk.told

pub returns-clause-still_told : goal.returns-clause-still_told
returns-clause-still_told g c = c.switch_half.ensures.disk.still_told

pub returns-clause-cause : goal.returns-clause-cause
returns-clause-cause g c = c.switch_half.ensures.disk.cause
