use Rattle.mirror_disk.proofs.{Words.arith, Naming.named_text}
use Rattle.mirror_disk.proofs.name.lay_name.Goals as goal
use Rattle.std.proofs.{Common.{rules}, lemmas.Grind.{common_steps}}

pub unreachable-requires : goal.unreachable-requires
unreachable-requires c = c.in-Err.ensures.cases.0 (named_text _ c.args.name.now c.args.digit (first_of (search rules, grind (arith, common_steps))) c.requires.digit c.utf8.name)
