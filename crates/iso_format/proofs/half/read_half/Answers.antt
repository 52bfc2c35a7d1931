use Rattle.iso_format.proofs.{Words.{ap, ◌∙◌, arith, half_of}, HalfLaws.{half_again, half_spelled}}

pub returns-clause-spelled : Rattle.iso_format.proofs.half.read_half.Goals.returns-clause-spelled
returns-clause-spelled c = grind (arith, half_spelled)

pub returns-clause-only : Rattle.iso_format.proofs.half.read_half.Goals.returns-clause-only
returns-clause-only c = λ gate form generation base g b e. c.half_of.ensures ∙ ap half_of e ∙ half_again gate form generation base g b
