use Rattle.iso_machine.proofs.{Words.{◌<◌, ◌∙◌, Access, List, ap, arith, block_at, disk_of, own, up}, Ranges.{shown_range, when_told}}
use Rattle.device_desk.proofs.peek.peek_into.Goals as goal

-- the range as it stood at the begin, and the own writes over it
pub returns-in-Ok-clause-shown : goal.returns-in-Ok-clause-shown
returns-in-Ok-clause-shown g c W t of here work told =
    let (V, u, was, there, its, are, below) = c.requires.stands in
    let inside : c.args.block < W.geometry.blocks = omega (arith, below, its.blocks, work.blocks) in
    shown_range W of.kept_of.world t c.args.block inside c.args.off c.args.len c.fetch_range.new.into c.lay_own.new.into
    (omega (arith, c.requires.fits, c.fetch_range.auto.into)) (c.fetch_range.auto.into ∙ c.requires.bytes ∙ work.size)
    (when_told (g.D.Disk.state (disk_of c.args.core.now)).contents (c.in-Ok.ensures.range W t of here) told)
    (λ A at. c.lay_own.ensures A at ∙ (λ i. block_at (own A (c.deref.ensures i).accesses) c.args.block) ∙ ap (λ (l : List Access). block_at (own A l) c.args.block) work.accesses)

pub returns-in-Ok-clause-same : goal.returns-in-Ok-clause-same
returns-in-Ok-clause-same g c W of = c.fetch_range.ensures.same W up of

pub returns-in-Err-clause-same : goal.returns-in-Err-clause-same
returns-in-Err-clause-same g c W of = c.fetch_range.ensures.same W up of
