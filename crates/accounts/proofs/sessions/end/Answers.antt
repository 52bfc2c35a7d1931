use Rattle.accounts.proofs.{Words.{Err, opening_of}, Keeping.{aborted, ended, over, stays_on}}

pub returns-in-Ok : Rattle.accounts.proofs.sessions.end.Goals.returns-in-Ok
returns-in-Ok g c =
    let did = c.in-Ok.ensures.did in
    record { session = over (opening_of c.args.accounts.now) g.O.Origin.start c.args.session.now c.end_now.new.session did.0 c.in-Ok.reply did.1 c.requires.ready c.requires.session }

pub returns-in-Err : Rattle.accounts.proofs.sessions.end.Goals.returns-in-Err
returns-in-Err g c =
    let A = g.O.Origin.start in
    let accounts = opening_of c.args.accounts.now in
    let s = c.args.session.now in
    let t = c.end_now.new.session in
    let did = c.in-Err.ensures.did in
    let end = ended accounts A s t 0 did.0 (Err c.in-Err.error) did.1 c.requires.ready c.requires.session in
    record { session = stays_on accounts A s t c.abort_tx.new.self end.1 (aborted accounts A t c.abort_tx.new.self c.abort_tx.result c.abort_tx.ensures.did end.0) }
