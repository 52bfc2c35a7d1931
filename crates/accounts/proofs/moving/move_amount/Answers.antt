use Rattle.accounts.proofs.{Words.{refl, Put, WasPut, IsPut, IsTaken, IsTransfer, to_be_bytes, w64}, Adding.{completed, does_one, does_then}}

pub returns : Rattle.accounts.proofs.moving.move_amount.Goals.returns
returns g c =
    let t = g.T.TxBlocks.state c.args.tx.now in
    let u = g.T.TxBlocks.state c.take_amount.new.tx in
    let v = g.T.TxBlocks.state c.set_amount.new.tx in
    let region = c.args.place.region in
    let from = c.args.transfer.now.from in
    let to = c.args.transfer.now.to in
    let n = c.args.transfer.now.amount in
    let more = c.in_ok-more.more in
    let value = to_be_bytes w64 more in
    record {
      moved = does_then region t u v (IsTaken from to n more) (IsPut to value) (IsTransfer from to n) (completed from to n more) c.in_ok-more.ensures.taken
          (does_one region u v (Put to value) WasPut (IsPut to value) (record { calls_are = refl; answers_are = refl }) c.in_ok-set_amount.ensures.put);
    }
