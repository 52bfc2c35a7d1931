use Rattle.accounts.proofs.{Words.{◌<◌, subst, sym, ℕ}, Adding.{bytes_apart, taken}}

pub returns : Rattle.accounts.proofs.moving.take_amount.Goals.returns
returns g c =
    let from = c.args.transfer.now.from in
    let to = c.args.transfer.now.to in
    record {
      taken = taken c.args.place.region from to c.args.transfer.now.amount c.in_ok-had.had c.in_ok-other.other c.in-Some.more (g.T.TxBlocks.state c.args.tx.now) (g.T.TxBlocks.state c.amount_at.new.tx) (g.T.TxBlocks.state c.amount_at-2.new.tx)
          (g.T.TxBlocks.state c.set_amount.new.tx) (bytes_apart from to c.eq.result c.eq.ensures c.if-eq.false) c.if-had-transfer.false c.in-Some.ensures.1 (subst (λ (k : ℕ). k < 18446744073709551616) (sym c.in-Some.ensures.1) c.in-Some.ensures.0)
          c.in_ok-had.ensures.got c.in_ok-other.ensures.got c.in_ok-set_amount.ensures.put;
    }
