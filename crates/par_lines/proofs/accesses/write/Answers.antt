use Rattle.par_lines.proofs.{Words.{sym, subst, Ok, Write, Answered}, Writing.{right_write, wrong_write}}

pub returns-then-bytes-geometry : Rattle.par_lines.proofs.accesses.write.Goals.returns-then-bytes-geometry
returns-then-bytes-geometry g c =
    record {
      did = subst (λ r. Answered g.O.Origin.start c.args.session.now (Write c.args.block c.args.bytes.now) (Ok r) c.args.session.now) (sym c.wrong_bytes.ensures)
          (wrong_write g.O.Origin.start c.args.block c.args.bytes.now c.args.image.now.geometry c.args.session.now c.args.image.now.same c.if-bytes-geometry.true);
    }

pub returns : Rattle.par_lines.proofs.accesses.write.Goals.returns
returns g c =
    record {
      did = subst (λ r. Answered g.O.Origin.start c.args.session.now (Write c.args.block c.args.bytes.now) r c.write_block.new.self) (sym c.accessed.ensures)
          (right_write g.O.Origin.start c.args.block c.args.bytes.now c.args.image.now.geometry c.args.session.now c.write_block.new.self c.write_block.result c.args.image.now.same c.if-bytes-geometry.false c.write_block.ensures.cause c.write_block.ensures.did);
    }
