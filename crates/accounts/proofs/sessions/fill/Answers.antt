use Rattle.accounts.proofs.{Words.{Some, Serial, calls_of, opening_of}, Filling.{fills, may_call}, Keeping.{aborted, begun, unbegun, visited}}

pub returns-in-Err-clause-kept : Rattle.accounts.proofs.sessions.fill.Goals.returns-in-Err-clause-kept
returns-in-Err-clause-kept g c =
    (unbegun (opening_of c.args.accounts.now) g.O.Origin.start c.args.session.now c.begin_tx.new.self (Some Serial) c.in-Err.error c.in-Err.ensures.did c.requires.session.0).0

pub on_blocks-requires-clause-fits : Rattle.accounts.proofs.sessions.fill.Goals.on_blocks-requires-clause-fits
on_blocks-requires-clause-fits g c = may_call (opening_of c.args.accounts.now) g.O.Origin.start c.args.region c.requires.session.2 c.begin_tx.new.self

pub returns-in-Ok-clause-filled : Rattle.accounts.proofs.sessions.fill.Goals.returns-in-Ok-clause-filled
returns-in-Ok-clause-filled g c =
    let A = g.O.Origin.start in
    let accounts = opening_of c.args.accounts.now in
    let r = c.args.session.now in
    let s = c.begin_tx.new.self in
    let t = c.on_blocks.new.session in
    let did = c.in-Ok.ensures.did in
    let first = begun accounts A r s (Some Serial) c.in_default.field-0 c.in_default.ensures.did c.requires.session.0.covers in
    record {
      covers = (visited accounts A s t did.refused did.visited first.0).0;
      filled = fills accounts A c.args.region c.requires.session.2 r s t c.in_default.field-0 (calls_of accounts c.args.step c.in-Ok.answer) c.in_default.ensures.did did;
    }

pub returns-in-Err-on_blocks-clause-kept : Rattle.accounts.proofs.sessions.fill.Goals.returns-in-Err-on_blocks-clause-kept
returns-in-Err-on_blocks-clause-kept g c =
    let A = g.O.Origin.start in
    let accounts = opening_of c.args.accounts.now in
    let s = c.begin_tx.new.self in
    let t = c.on_blocks.new.session in
    let did = c.on_blocks.ensures.did in
    let first = begun accounts A c.args.session.now s (Some Serial) c.in_default.field-0 c.in_default.ensures.did c.requires.session.0.covers in
    (aborted accounts A t c.abort_tx.new.self c.abort_tx.result c.abort_tx.ensures.did (visited accounts A s t did.refused did.visited first.0).0).0
