use Rattle.par_lines.proofs.{Words.{subst, sym, ◌∙◌, Ok, Fill, Answered}, Writing.{right_fill, wants, wrong_fill}}

pub returns-then-bytes-ne1 : Rattle.par_lines.proofs.accesses.fill.Goals.returns-then-bytes-ne1
returns-then-bytes-ne1 g c =
    record {
      did = subst (λ r. Answered g.O.Origin.start c.args.session.now (Fill c.args.block c.args.bytes.now) (Ok r) c.args.session.now) (sym c.wrong_bytes.ensures)
          (wrong_fill g.O.Origin.start c.args.block c.args.bytes.now c.args.image.now.geometry c.args.session.now c.args.image.now.same c.if-bytes-ne1.true);
    }

pub returns-in-Ok : Rattle.par_lines.proofs.accesses.fill.Goals.returns-in-Ok
returns-in-Ok g c =
    record {
      did = subst (λ r. Answered g.O.Origin.start c.args.session.now (Fill c.args.block c.args.bytes.now) r c.write_block.new.self) (sym c.accessed.ensures)
          (right_fill g.O.Origin.start c.args.block c.args.bytes.now c.args.image.now.geometry c.args.session.now c.write_block.new.self c.as_slice.result.now c.write_block.result c.args.image.now.same c.if-bytes-ne1.false
          (c.as_slice.ensures.value ∙ c.in-Ok.ensures) c.write_block.ensures.cause c.write_block.ensures.did);
    }

pub returns-in-Err : Rattle.par_lines.proofs.accesses.fill.Goals.returns-in-Err
returns-in-Err g c = record { did = wants g.O.Origin.start c.args.block c.args.bytes.now c.args.session.now (Fill c.args.block c.args.bytes.now) }
