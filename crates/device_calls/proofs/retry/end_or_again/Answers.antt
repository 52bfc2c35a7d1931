use Rattle.device_calls.proofs.Words.{Ok, subst, ℕ, HasEnded, EndReply}

pub returns-in-Ok-begin_tx : Rattle.device_calls.proofs.retry.end_or_again.Goals.returns-in-Ok-begin_tx
returns-in-Ok-begin_tx g c =
    let did = subst (λ (r : EndReply). (taken : ℕ) × HasEnded g.O.Origin.start c.args.session.now 0 (Ok r) c.end_now.new.session taken) c.in-Ok-Conflict.field-0-is c.in-Ok-Conflict.ensures.did in
    record { did = record { between = c.end_now.new.session; clash = c.in-Ok-Conflict.field-0-0; taken = did.0; ended = did.1; begun = c.in-Ok-begin_tx.ensures.did } }

pub returns-in-Err-begin_tx : Rattle.device_calls.proofs.retry.end_or_again.Goals.returns-in-Err-begin_tx
returns-in-Err-begin_tx g c =
    let did = subst (λ (r : EndReply). (taken : ℕ) × HasEnded g.O.Origin.start c.args.session.now 0 (Ok r) c.end_now.new.session taken) c.in-Ok-Conflict.field-0-is c.in-Ok-Conflict.ensures.did in
    record { did = record { between = c.end_now.new.session; clash = c.in-Ok-Conflict.field-0-0; taken = did.0; ended = did.1; begun = c.in-Err-begin_tx.ensures.did } }
