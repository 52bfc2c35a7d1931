use Rattle.par_lines.proofs.{Words.{[], subst, sym, Read, Answered}, Fetching.read_line, Writing.wants}

pub returns-in-Ok : Rattle.par_lines.proofs.reads.read.Goals.returns-in-Ok
returns-in-Ok g c =
    record {
      did = subst (λ r. Answered g.O.Origin.start c.args.session.now (Read c.args.block) r c.read_into-answer.new.session) (sym c.shown.ensures)
          (read_line g.O.Origin.start c.args.block c.args.session.now c.read_into-answer.new.session c.read_into-answer.new.bytes.items c.read_into-answer.result c.read_into-answer.ensures.cause c.read_into-answer.ensures.did);
    }

pub returns-in-Err : Rattle.par_lines.proofs.reads.read.Goals.returns-in-Err
returns-in-Err g c = record { did = wants g.O.Origin.start c.args.block [] c.args.session.now (Read c.args.block) }
