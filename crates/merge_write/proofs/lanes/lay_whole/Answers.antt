-- The part holds the 64 bytes, and nothing else changes.
use Rattle.merge_write.proofs.Chosen.{part_laid}

pub returns : Rattle.merge_write.proofs.lanes.lay_whole.Goals.returns
returns c = part_laid c.args.at 64 c.args.values.now c.args.into.now c.requires.values c.requires.into
