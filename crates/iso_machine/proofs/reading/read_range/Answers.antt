-- The range as it stood at the begin, and the own writes over it.
use Rattle.iso_machine.proofs.{Words.{◌∙◌, ap, arith, Err, List, Access, block_at, own, up}, Ranges.{shown_range, when_told}}
use Rattle.iso_machine.proofs.reading.read_range.Goals as goal

pub returns-in-Ok : goal.returns-in-Ok
returns-in-Ok g c = record {
  shown = λ W t of here work told.
      shown_range W of.kept_of.world t c.args.block (omega (arith, c.requires.range.inside, work.blocks)) c.args.off c.args.len c.fetch_range.new.into c.get.new.into
      (omega (arith, c.requires.range.fits, c.fetch_range.auto.into)) (c.fetch_range.auto.into ∙ c.requires.range.bytes ∙ work.size)
      (when_told (g.D.Disk.state c.args.core.now.disk).contents (c.in-Ok.ensures.range W t of here) told)
      (λ A there. c.get.ensures.shown A there ∙ ap (λ (l : List Access). block_at (own A l) c.args.block) work.accesses);
  work = c.get.ensures.work;
  kept = tt;
  same = λ W of. c.fetch_range.ensures.same W up of;
  long = c.get.auto.into ∙ c.fetch_range.auto.into;
  unwritten = c.fetch_range.ensures.unwritten;
  cause = record { later = c.fetch_range.ensures.cause.later; failed = λ e. absurd cc; passed = c.in-Ok.ensures.cause.passed };
}

pub returns-in-Err : goal.returns-in-Err
returns-in-Err g c =
    let (W, t, of, here, work) = c.requires.stands in
    record {
      shown = λ W t of here work. tt;
      work = tt;
      kept = cc;
      same = λ W of. c.fetch_range.ensures.same W up of;
      long = c.fetch_range.auto.into;
      unwritten = c.fetch_range.ensures.unwritten;
      cause = record {
        later = c.fetch_range.ensures.cause.later;
        failed = λ e. c.fetch_range.ensures.cause.failed (c.in-Err.is ∙ ap Err (c.in-Err.ensures.disk W of));
        passed = tt;
      };
    }
