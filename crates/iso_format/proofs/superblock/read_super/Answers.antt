use Rattle.iso_format.proofs.{Words.{ap, ◌∙◌, arith, super_of}, SuperLaws.{super_again, ok_spelled}}

pub returns-clause-spelled : Rattle.iso_format.proofs.superblock.read_super.Goals.returns-clause-spelled
returns-clause-spelled c = grind (arith, ok_spelled)

pub returns-clause-only : Rattle.iso_format.proofs.superblock.read_super.Goals.returns-clause-only
returns-clause-only c = λ g valid e. c.super_of.ensures ∙ ap super_of e ∙ super_again g valid
