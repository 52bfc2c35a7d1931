use Rattle.accounts.proofs.{Words.{[], ◌∷◌, List, Option, subst, ℕ, Get, Got, AddsIn}, Adding.got_in}

pub returns-in-Ok-None : Rattle.accounts.proofs.amounts.is_free.Goals.returns-in-Ok-None
returns-in-Ok-None g c =
    let t = g.T.TxBlocks.state c.args.tx.now in
    let u = g.T.TxBlocks.state c.get.new.tx in
    let region = c.args.place.region in
    record {
      got = subst (λ (r : Option (List ℕ)). AddsIn region t u (Get c.args.name.now ∷ []) (Got r ∷ [])) c.in-Ok-None.field-0-is
          (got_in region c.args.name.now t u c.in-Ok-None.field-0 c.requires.store.0 c.in-Ok-None.ensures.ended c.in-Ok-None.ensures.local);
    }
