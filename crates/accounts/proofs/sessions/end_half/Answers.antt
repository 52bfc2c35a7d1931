use Rattle.accounts.proofs.{Words.{List, Ok, subst, ℕ, area_of, IsTakenFor, to_be_bytes, w64, HashPuts, HasCalled, opening_of}, Filling.{completes, may_put}, Keeping.{aborted, took_in, took_over, visited}}
use Rattle.accounts.proofs.sessions.end_half.Goals as goal

pub hash_put-requires-clause-area : goal.hash_put-requires-clause-area
hash_put-requires-clause-area g c = (may_put g.O.Origin.start c.args.region c.requires.store).0

pub hash_put-requires-clause-fits : goal.hash_put-requires-clause-fits
hash_put-requires-clause-fits g c = (may_put g.O.Origin.start c.args.region c.requires.store).1

pub end-requires-clause-session : goal.end-requires-clause-session
end-requires-clause-session g c =
    let A = g.O.Origin.start in
    let accounts = opening_of c.args.accounts.now in
    let to = c.args.half.to in
    let more = c.args.half.more in
    let s = c.args.session.now in
    let t = c.takeover_tx.new.self in
    let u = c.hash_put.new.session in
    let took = c.in_default.ensures.did in
    let held = took_over accounts A (IsTakenFor to more) s t c.args.half.handle c.in_default.field-0 took c.requires.session c.requires.half.1 in
    let did : HasCalled A t u (λ x y before now. HashPuts (area_of x c.args.region) to (to_be_bytes w64 more) (Ok tt) x y before now) =
    subst (λ (v : List ℕ). HasCalled A t u (λ x y before now. HashPuts (area_of x c.args.region) to v (Ok tt) x y before now)) c.to_be_bytes.ensures c.in-Ok.ensures.did in
    record {
      covers = (visited accounts A t u did.refused did.visited held.covers).0;
      filled = completes accounts A c.args.region c.requires.store t u to more c.args.half.handle.own took.is did held;
    }

pub returns-in-Ok : goal.returns-in-Ok
returns-in-Ok g c =
    let A = g.O.Origin.start in
    let accounts = opening_of c.args.accounts.now in
    let t = c.takeover_tx.new.self in
    let u = c.hash_put.new.session in
    let did = c.hash_put.ensures.did in
    let took = c.in_default.ensures.did in
    let held = took_over accounts A (IsTakenFor c.args.half.to c.args.half.more) c.args.session.now t c.args.half.handle c.in_default.field-0 took c.requires.session c.requires.half.1 in
    record { session = took_in accounts A c.args.session.now t u c.end.new.session c.args.half.handle c.in_default.field-0 took (visited accounts A t u did.refused did.visited held.covers).1 c.end.ensures.session }

pub returns-in-Err-hash_put : goal.returns-in-Err-hash_put
returns-in-Err-hash_put g c =
    let A = g.O.Origin.start in
    let accounts = opening_of c.args.accounts.now in
    let t = c.takeover_tx.new.self in
    let u = c.hash_put.new.session in
    let did = c.hash_put.ensures.did in
    let took = c.in_default.ensures.did in
    let held = took_over accounts A (IsTakenFor c.args.half.to c.args.half.more) c.args.session.now t c.args.half.handle c.in_default.field-0 took c.requires.session c.requires.half.1 in
    let put = visited accounts A t u did.refused did.visited held.covers in
    record {
      session = took_in accounts A c.args.session.now t u c.abort_tx.new.self c.args.half.handle c.in_default.field-0 took put.1
          (aborted accounts A u c.abort_tx.new.self c.abort_tx.result c.abort_tx.ensures.did put.0);
    }
