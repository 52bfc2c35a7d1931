use Rattle.accounts.proofs.{Words.{[], ◌∷◌, List, subst, ℕ, Put, WasPut, AddsIn}, Adding.put_in}

pub returns-in-Ok : Rattle.accounts.proofs.amounts.set_amount.Goals.returns-in-Ok
returns-in-Ok g c =
    let t = g.T.TxBlocks.state c.args.tx.now in
    let u = g.T.TxBlocks.state c.put.new.tx in
    let region = c.args.place.region in
    record {
      put = subst (λ (v : List ℕ). AddsIn region t u (Put c.args.name.now v ∷ []) (WasPut ∷ [])) c.to_be_bytes.ensures
          (put_in region c.args.name.now c.to_be_bytes.result t u c.in-Ok.field-0 c.requires.store.0 c.in-Ok.ensures.ended c.in-Ok.ensures.local);
    }
