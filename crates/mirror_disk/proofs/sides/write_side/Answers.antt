use Rattle.mirror_disk.proofs.{Words.{◌+◌, length, sym, ◌∙◌, torn_from_old, called}, Asked.told_of, Done.{rose_of, written_of}}

pub returns : Rattle.mirror_disk.proofs.sides.write_side.Goals.returns
returns g c =
    let law = g.met.D.Disk.lawful c.args.side.now in
    let bytes = c.args.bytes.now in
    record {
      crash = called law c.write.ensures.crash (λ x now. torn_from_old (64 + c.args.at) (length bytes) x now) (λ x t. t);
      torn = told_of _ _ (64 + c.args.at) bytes law c.requires c.write.result c.write.ensures.written c.write.ensures.failed;
      did = λ yes. written_of _ (g.D.Disk.state c.write.new.self) c.args.at bytes law c.requires c.write.result c.write.ensures.written (sym c.is_ok.ensures.value ∙ yes);
      later = c.write.ensures.cause.later;
      failed = λ no. rose_of c.write.result (sym c.is_ok.ensures.value ∙ no) c.write.ensures.cause;
    }
