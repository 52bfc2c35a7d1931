use Rattle.mirror_disk.proofs.{Words.{sym, ◌∙◌}, Called.side_kept, Done.by_done}

pub returns : Rattle.mirror_disk.proofs.sides.read_side.Goals.returns
returns g c = record {
  called = side_kept c.read.result (g.met.D.Disk.lawful c.args.side.now) c.is_ok.ensures.value c.read.ensures.crash c.read.ensures.contents c.read.ensures.cause;
  contents = c.read.ensures.contents;
  bytes = λ is. by_done c.read.result (sym c.is_ok.ensures.value ∙ is) c.read.ensures.bytes;
}
