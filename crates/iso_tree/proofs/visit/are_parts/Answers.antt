use Rattle.iso_tree.proofs.{Words.{arith, ap, list_all, is_part_at}, Visiting.{parts_first, parts_last, parts_step}}

pub loop-i-init : Rattle.iso_tree.proofs.visit.are_parts.Goals.loop-i-init
loop-i-init c = ap (list_all (is_part_at c.args.area c.args.level)) (parts_first c.args.values.now c.args.many)

pub loop-i-preserved : Rattle.iso_tree.proofs.visit.are_parts.Goals.loop-i-preserved
loop-i-preserved c = grind (arith, parts_step)

pub returns-then-not-is_part_at : Rattle.iso_tree.proofs.visit.are_parts.Goals.returns-then-not-is_part_at
returns-then-not-is_part_at c = grind (arith, parts_step)

pub returns : Rattle.iso_tree.proofs.visit.are_parts.Goals.returns
returns c = grind (arith, parts_last)
