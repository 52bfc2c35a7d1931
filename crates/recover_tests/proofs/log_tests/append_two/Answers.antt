use Rattle.std.proofs.{Common.{[], ◌∷◌, ◌++◌, ◌+◌, ap, ◌∙◌}, lemmas.Result.on_ok_weaker}
use Rattle.iso_model.specs.Image.{spell}
use Rattle.iso_format.specs.Spelled.{Spelled}
use Rattle.iso_log.specs.{Extent.Extent, Log.IsNext}
use Rattle.test_cores.specs.Small.{small}
use Rattle.recover_tests.{specs.Records.put, proofs.Puts.{one, two_next, still_ready}, proofs.log_tests.append_two.Goals.{After-with_closed_gate}}
use Rattle.recover_tests.proofs.log_tests.append_two.Goals as goal

-- the buffer has the two records
next : (c : After-with_closed_gate) → IsNext c.args.log.now small (one ∷ one ∷ []) c.with_closed_gate.result.now
next c =
    two_next c.args.log.now c.with_closed_gate.result.now c.requires.below
    (c.with_closed_gate.ensures ∙ ap (λ (b : Spelled). b.records ++ 0 ∷ []) c.in_default-push_put-2.ensures
    ∙ ap (λ (b : Spelled). (b.records ++ spell 1 1 (c.last-2.result + 2) put) ++ 0 ∷ []) c.in_default-push_put.ensures
    ∙ ap (λ (b : Spelled). ((b.records ++ spell 1 1 (c.last.result + 1) put) ++ spell 1 1 (c.last-2.result + 2) put) ++ 0 ∷ []) c.in-Ok.ensures
    ∙ (λ i. (spell 1 1 (c.last.ensures i + 1) put ++ spell 1 1 (c.last-2.ensures i + 2) put) ++ 0 ∷ []))

pub append_group-requires-clause-next : goal.append_group-requires-clause-next
append_group-requires-clause-next c = (small, one ∷ one ∷ [], next (goal.at.append_group-requires-clause-next c).After-with_closed_gate)

pub returns-clause-ready : goal.returns-clause-ready
returns-clause-ready c =
    let has = next (goal.at.returns-clause-ready c).After-with_closed_gate in
    let ready = c.requires.ready in
    still_ready c.append_group.result c.args.log.now c.append_group.new.self _ _ ready.first _ _ _ c.append_group.ensures.moments ready
    (c.append_group.ensures.all small ready.first ready.told (one ∷ one ∷ []) ready.has has) (c.append_group.ensures.grown small (one ∷ one ∷ []) has)

pub returns-clause-last : goal.returns-clause-last
returns-clause-last c =
    on_ok_weaker c.append_group.result (λ grown. ap (λ (e : Extent). e.last) grown)
    (c.append_group.ensures.grown small (one ∷ one ∷ []) (next (goal.at.returns-clause-last c).After-with_closed_gate))
