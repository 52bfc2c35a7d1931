use Rattle.accounts.proofs.{Words.{IsOfAccounts, opening_of}, Giving.{gives_no_whole, gives_none, gives_nothing, gives_whole}}

pub returns-in-Ok-release_tx : Rattle.accounts.proofs.sessions.give.Goals.returns-in-Ok-release_tx
returns-in-Ok-release_tx g c = record {
  given = gives_whole (opening_of c.args.accounts.now) g.O.Origin.start c.args.session.now c.fill.new.session c.release_tx.new.self c.fill.ensures.stays c.in-Ok-release_tx.handle c.into_tx.result c.in-Ok-release_tx.ensures.did c.in-Ok.ensures.filled
      c.into_tx.ensures.tx c.into_tx.ensures.is;
}

pub returns-in-Err-release_tx : Rattle.accounts.proofs.sessions.give.Goals.returns-in-Err-release_tx
returns-in-Err-release_tx g c =
    let accounts = opening_of c.args.accounts.now in
    let did = c.in-Err-release_tx.ensures.did in
    record {
      given = gives_no_whole accounts g.O.Origin.start 1 c.args.session.now c.release_tx.new.self
          (gives_nothing accounts g.O.Origin.start c.args.session.now c.fill.new.session c.release_tx.new.self c.fill.ensures.stays (IsOfAccounts accounts) did.0 did.1 c.in-Ok.ensures.filled);
    }

pub returns-in-Err : Rattle.accounts.proofs.sessions.give.Goals.returns-in-Err
returns-in-Err g c =
    let accounts = opening_of c.args.accounts.now in
    record { given = gives_no_whole accounts g.O.Origin.start 1 c.args.session.now c.fill.new.session (gives_none accounts g.O.Origin.start 1 c.args.session.now c.fill.new.session c.in-Err.ensures.kept c.fill.ensures.stays) }
