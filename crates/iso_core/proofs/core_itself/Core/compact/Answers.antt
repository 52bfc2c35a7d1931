use Rattle.iso_core.proofs.{Words.{inl, inr, ap, subst, ℕ, weakened, Geometry, World, AreOf, Switches, up}, Plans.own_form, Standings.up_of, core_itself.Core.compact.Goals.After-switch_half}
use Rattle.iso_core.proofs.core_itself.Core.compact.Goals as goal

pub switch_half-requires : goal.switch_half-requires
switch_half-requires g c =
    let (W, standing, of) = c.requires in
    let is = up_of (g.D.Disk.state c.args.self.now.disk) c.args.self.now.kept W standing of c.if-self.false in
    record { world = W; of = is; fits = own_form W c.args.self.now.kept.geometry.form of.kept_of.world (ap (λ (h : Geometry). h.form) of.kept_of.keeps.geometry) }

-- the form is the image's own
own : (g : Rattle.iso_core.proofs.core_itself.Core.compact.Given.Over) (c : After-switch_half g) (W : World) → AreOf (g.D.Disk.state c.args.self.now.disk) c.args.self.now.kept W up
    → Switches W W.geometry.form (g.D.Disk.state c.args.self.now.disk) (g.D.Disk.state c.switch_half.new.disk) c.switch_half.new.kept c.switch_half.result
own g c W of =
    let same = ap (λ (h : Geometry). h.form) of.kept_of.keeps.geometry in
    subst (λ (n : ℕ). Switches W n (g.D.Disk.state c.args.self.now.disk) (g.D.Disk.state c.switch_half.new.disk) c.switch_half.new.kept c.switch_half.result) same
    (c.switch_half.ensures.switched (record { world = W; of = of; fits = own_form W c.args.self.now.kept.geometry.form of.kept_of.world same }))

pub returns-clause-switched : goal.returns-clause-switched
returns-clause-switched g c W of = (own g (goal.at.returns-clause-switched g c).After-switch_half W of).switched

pub returns-clause-refused : goal.returns-clause-refused
returns-clause-refused g c W answer of = (own g (goal.at.returns-clause-refused g c).After-switch_half W of).refused answer

pub returns-clause-same : goal.returns-clause-same
returns-clause-same g c W of = (own g (goal.at.returns-clause-same g c).After-switch_half W of).same

pub returns-clause-lost : goal.returns-clause-lost
returns-clause-lost g c W of = (own g (goal.at.returns-clause-lost g c).After-switch_half W of).lost

pub returns-clause-moments : goal.returns-clause-moments
returns-clause-moments g c W of = (own g (goal.at.returns-clause-moments g c).After-switch_half W of).moments

pub returns-clause-unworn : goal.returns-clause-unworn
returns-clause-unworn g c W answer of = (own g (goal.at.returns-clause-unworn g c).After-switch_half W of).unworn answer

pub returns-clause-form : goal.returns-clause-form
returns-clause-form g c W of =
    weakened (own g (goal.at.returns-clause-form g c).After-switch_half W of).form_is (λ image form. elim form [
      | inl mine ↦ mine
      | inr mine ↦ mine
    ])

pub returns-clause-last : goal.returns-clause-last
returns-clause-last g c = c.switch_half.ensures.disk.last

pub returns-clause-worn : goal.returns-clause-worn
returns-clause-worn g c = c.switch_half.ensures.disk.worn

pub returns-clause-told : goal.returns-clause-told
returns-clause-told g c = c.switch_half.ensures.disk.told

pub returns-clause-still_told : goal.returns-clause-still_told
returns-clause-still_told g c = c.switch_half.ensures.disk.still_told

pub returns-clause-cause : goal.returns-clause-cause
returns-clause-cause g c = c.switch_half.ensures.disk.cause
