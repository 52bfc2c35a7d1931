use Rattle.iso_format.proofs.{Words.{arith}, PartLaws.{first_part, first_run}}

pub invariant_of-self : Rattle.iso_format.proofs.record_view.PartIterIterator.next.Goals.invariant_of-self
invariant_of-self c = grind (arith, first_part)

pub returns-clause-steps : Rattle.iso_format.proofs.record_view.PartIterIterator.next.Goals.returns-clause-steps
returns-clause-steps c = grind (arith, first_run)

pub returns-clause-goes : Rattle.iso_format.proofs.record_view.PartIterIterator.next.Goals.returns-clause-goes
returns-clause-goes c = grind (arith, returns-clause-steps)
