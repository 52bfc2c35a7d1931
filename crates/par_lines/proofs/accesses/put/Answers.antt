use Rattle.par_lines.proofs.{Words.{subst, sym, Ok, Put, Answered}, Putting.{right_put, wrong_put}}

pub returns-then-is_outside : Rattle.par_lines.proofs.accesses.put.Goals.returns-then-is_outside
returns-then-is_outside g c =
    record {
      did = subst (λ r. Answered g.O.Origin.start c.args.session.now (Put c.args.block c.args.off c.args.bytes.now) (Ok r) c.args.session.now) (sym c.wrong_bytes.ensures)
          (wrong_put g.O.Origin.start c.args.block c.args.off c.args.bytes.now c.args.image.now.geometry c.args.session.now c.args.image.now.same (sym c.if-is_outside.ensures));
    }

pub returns : Rattle.par_lines.proofs.accesses.put.Goals.returns
returns g c =
    record {
      did = subst (λ r. Answered g.O.Origin.start c.args.session.now (Put c.args.block c.args.off c.args.bytes.now) r c.put.new.self) (sym c.accessed.ensures)
          (right_put g.O.Origin.start c.args.block c.args.off c.args.bytes.now c.args.image.now.geometry c.args.session.now c.put.new.self c.put.result c.args.image.now.same (sym c.if-is_outside.ensures) c.put.ensures.cause c.put.ensures.did);
    }
