use Rattle.std.proofs.Common.{[], ◌∷◌, ◌++◌, ◌+◌, ℕ, ap, ◌∙◌}
use Rattle.iso_model.specs.Image.{spell}
use Rattle.iso_format.specs.Spelled.{Spelled}
use Rattle.iso_log.specs.Log.{IsNext}
use Rattle.test_cores.specs.Small.{small}
use Rattle.recover_tests.{specs.Records.put, proofs.Puts.{one, one_next, still_ready}, proofs.log_tests.append_one.Goals.{After-with_closed_gate}}

-- the buffer has the record
next : (c : After-with_closed_gate) → IsNext c.args.log.now small (one ∷ []) c.with_closed_gate.result.now
next c =
    one_next c.args.log.now c.with_closed_gate.result.now c.requires.below
    (c.with_closed_gate.ensures ∙ ap (λ (b : Spelled). b.records ++ 0 ∷ []) c.in_default-push_put.ensures
    ∙ ap (λ (b : Spelled). (b.records ++ spell 1 1 (c.last.result + 1) put) ++ 0 ∷ []) c.in-Ok.ensures
    ∙ ap (λ (n : ℕ). spell 1 1 (n + 1) put ++ 0 ∷ []) c.last.ensures)

pub append-requires-clause-next : Rattle.recover_tests.proofs.log_tests.append_one.Goals.append-requires-clause-next
append-requires-clause-next c = (small, one, next (Rattle.recover_tests.proofs.log_tests.append_one.Goals.at.append-requires-clause-next c).After-with_closed_gate)

pub returns-clause-ready : Rattle.recover_tests.proofs.log_tests.append_one.Goals.returns-clause-ready
returns-clause-ready c =
    let ready = c.requires.ready in
    still_ready c.append.result c.args.log.now c.append.new.self _ _ ready.first _ _ _ c.append.ensures.moments ready
    (c.append.ensures.all small ready.first ready.told one ready.has (next (Rattle.recover_tests.proofs.log_tests.append_one.Goals.at.returns-clause-ready c).After-with_closed_gate)) c.append.ensures.grown
