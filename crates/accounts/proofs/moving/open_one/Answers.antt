use Rattle.accounts.proofs.{Words.{to_be_bytes, w64}, Adding.opened_one}

pub returns : Rattle.accounts.proofs.moving.open_one.Goals.returns
returns g c =
    let t = g.T.TxBlocks.state c.args.tx.now in
    let u = g.T.TxBlocks.state c.is_free.new.tx in
    let v = g.T.TxBlocks.state c.set_amount.new.tx in
    record {
      opened = opened_one c.args.place.region t u v c.args.account.now.name (to_be_bytes w64 c.args.account.now.amount) c.in_ok-is_free.ensures.got c.in_ok-set_amount.ensures.put;
    }
