-- The part holds the four bytes, and nothing else changes.
use Rattle.merge_write.proofs.Chosen.{part_laid}

pub returns : Rattle.merge_write.proofs.copy.copy_four.Goals.returns
returns c = part_laid c.args.at 4 c.args.bytes.now c.args.into.now c.requires.bytes c.requires.into
