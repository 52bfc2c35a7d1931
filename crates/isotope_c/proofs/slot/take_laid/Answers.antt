use Rattle.std.proofs.Common.{subst, Option, IsSome}
use Rattle.isotope_c.specs.{declared.instance.Instance.Instance, Instances.laid_in}
use Rattle.isotope_c.proofs.slot.take_laid.Goals as goal

pub returns-clause-laid : goal.returns-clause-laid
returns-clause-laid c = subst (λ (i : Option Instance). IsSome (laid_in i)) c.take.ensures.there c.requires
