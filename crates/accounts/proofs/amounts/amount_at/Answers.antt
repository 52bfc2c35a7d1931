use Rattle.accounts.proofs.{Words.{◌≡◌, [], ◌∷◌, List, Option, subst, ℕ, Get, Got, amount, AddsIn}, Adding.got_in}

pub returns-in-Some : Rattle.accounts.proofs.amounts.amount_at.Goals.returns-in-Some
returns-in-Some g c =
    let t = g.T.TxBlocks.state c.args.tx.now in
    let u = g.T.TxBlocks.state c.get.new.tx in
    let region = c.args.place.region in
    record {
      got = record {
        value = c.in-Ok-Some.value;
        is = subst (λ (v : List ℕ). amount v ≡ c.in-Some.n) c.as_slice.ensures c.in-Some.ensures.0;
        small = c.in-Some.ensures.1;
        got = subst (λ (r : Option (List ℕ)). AddsIn region t u (Get c.args.name.now ∷ []) (Got r ∷ [])) c.in-Ok-Some.field-0-is
            (got_in region c.args.name.now t u c.in-Ok-Some.field-0 c.requires.store.0 c.in-Ok-Some.ensures.ended c.in-Ok-Some.ensures.local);
      };
    }
