use Rattle.accounts.proofs.{Words.{◌≡◌, arith, length, List, [], ◌∷◌, subst, sym, Region, Tx, DoesIn, IsOpening, opening_of, to_be_bytes, w64, Account}, Adding.{opened_more, opened_none}}

none_opened : (region : Region) (t : Tx) (accounts : List Account) → length accounts ≡ 0 → DoesIn region t t (IsOpening (opening_of accounts))
none_opened region t [] none = opened_none region t
none_opened region t (a ∷ rest) none = absurd (omega (arith, none))

pub returns-in-None : Rattle.accounts.proofs.moving.+open_all.Goals.returns-in-None
returns-in-None g k c =
    let t = g.T.TxBlocks.state c.args.tx.now in
    record { opened = none_opened c.args.place.region t c.args.accounts.now c.in-None.ensures.cases }

pub returns-in_ok-open_all-in-Some : Rattle.accounts.proofs.moving.+open_all.Goals.returns-in_ok-open_all-in-Some
returns-in_ok-open_all-in-Some g k c =
    let t = g.T.TxBlocks.state c.args.tx.now in
    let u = g.T.TxBlocks.state c.open_one.new.tx in
    let v = g.T.TxBlocks.state c.open_all.new.tx in
    let region = c.args.place.region in
    let first : Account = c.in-Some.first.now in
    let rest : List Account = c.in-Some.rest.now in
    record {
      opened = subst (λ (xs : List Account). DoesIn region t v (IsOpening (opening_of xs))) (sym c.in-Some.ensures.cases.0)
          (opened_more region t u v (first.name, to_be_bytes w64 first.amount) (opening_of rest) c.in_ok-open_one-in-Some.ensures.opened c.in_ok-open_all-in-Some.ensures.opened);
    }
