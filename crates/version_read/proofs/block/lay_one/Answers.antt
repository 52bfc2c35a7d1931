-- The bytes of one version are read where they are in the range.
use Rattle.version_read.proofs.{Words.{arith, sym, subst, length-contents, [], ◌∷◌, IsLaidIn}, Layings.{laid_none, laid_one}}

pub returns-then-first-last-clause-bytes : Rattle.version_read.proofs.block.lay_one.Goals.returns-then-first-last-clause-bytes
returns-then-first-last-clause-bytes g c = grind (arith, laid_none)

pub returns-clause-bytes : Rattle.version_read.proofs.block.lay_one.Goals.returns-clause-bytes
returns-clause-bytes g c = λ d is.
    subst (IsLaidIn c.args.from c.args.to d (c.args.version.now ∷ []) c.args.into.now) (sym (c.in_ok-read_part.ensures.bytes d is))
    (laid_one c.args.from c.args.to d c.args.version.now c.args.into.now c.max-first.result c.min-last.result c.max-first.ensures c.min-last.ensures
    (g.D.Disk.state c.args.disk.now).size c.requires.range c.requires.version (length-contents (g.met.D.Disk.lawful c.args.disk.now) d is) c.if-first-last.false)
