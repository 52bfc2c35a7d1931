use Rattle.accounts.proofs.{Words.{IsTakenFor, opening_of}, Giving.{gives_none, gives_nothing, gives_taken}}

pub returns-in-Ok-release_tx : Rattle.accounts.proofs.sessions.give_half.Goals.returns-in-Ok-release_tx
returns-in-Ok-release_tx g c = record {
  given = gives_taken (opening_of c.args.accounts.now) g.O.Origin.start c.args.session.now c.fill.new.session c.release_tx.new.self c.fill.ensures.stays
      (record { handle = c.in-Ok-release_tx.handle; to = c.args.transfer.now.to; more = c.in-Ok.more }) c.in-Ok-release_tx.ensures.did c.in-Ok.ensures.filled;
}

pub returns-in-Err-release_tx : Rattle.accounts.proofs.sessions.give_half.Goals.returns-in-Err-release_tx
returns-in-Err-release_tx g c =
    let did = c.in-Err-release_tx.ensures.did in
    record {
      given = gives_nothing (opening_of c.args.accounts.now) g.O.Origin.start c.args.session.now c.fill.new.session c.release_tx.new.self c.fill.ensures.stays (IsTakenFor c.args.transfer.now.to c.in-Ok.more) did.0 did.1 c.in-Ok.ensures.filled;
    }

pub returns-in-Err : Rattle.accounts.proofs.sessions.give_half.Goals.returns-in-Err
returns-in-Err g c = record { given = gives_none (opening_of c.args.accounts.now) g.O.Origin.start 1 c.args.session.now c.fill.new.session c.in-Err.ensures.kept c.fill.ensures.stays }
