use Rattle.std.proofs.Common.{◌∙◌, sym, ap, ◌*◌, arith}
use Rattle.plain_tx.proofs.Causes.{Keeps, kept}

pub invariant_of-self : Rattle.plain_tx.proofs.plain_tx.PlainTxTxBlocks.mark_accessed.Goals.invariant_of-self
invariant_of-self c =
    let t = c.args.self.now in
    let keeps : Keeps t.work c.mark.new.self = kept t.work c.mark.new.self c.args.off c.args.len c.mark.result c.mark.ensures.ok c.mark.ensures.err in
    record {
      small = t.small;
      least = omega (arith, keeps.size, t.least);
      most = omega (arith, keeps.size, t.most);
      same = keeps.many ∙ t.same;
      whole = t.whole ∙ sym (ap (λ n. t.count * n) keeps.size);
      few = omega (arith, keeps.count, t.few);
    }
