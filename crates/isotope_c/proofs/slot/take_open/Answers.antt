use Rattle.std.proofs.Common.{subst, Option, IsSome}
use Rattle.isotope_c.specs.{declared.instance.Instance.Instance, Instances.desk_in}
use Rattle.isotope_c.proofs.slot.take_open.Goals as goal

pub returns-clause-open : goal.returns-clause-open
returns-clause-open c = subst (λ (i : Option Instance). IsSome (desk_in i)) c.take.ensures.there c.requires
