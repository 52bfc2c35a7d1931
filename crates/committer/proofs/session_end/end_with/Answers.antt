use Rattle.committer.proofs.{Words.{inr, subst, sym, ◌∙◌}, Rejoined.{answered_in, kept_in, lost_in, rejoined, told_of}}
use Rattle.handle_pass.specs.{Inside.own_in, Sessions.IsPortAt}
use Rattle.committer.proofs.session_end.end_with.Goals as goal

pub join_port-requires : goal.join_port-requires
join_port-requires g c =
    let u = c.hand_out-tx.result in
    let told = told_of g.O.Origin.start c.args.shared.now u c.in-Ended.ended c.in-Ended.ensures.outcome in
    let same = c.hand_out-tx.ensures.out.stays.of ∙ c.requires.device.1 in
    record { port = subst (λ (d : _). IsPortAt d c.in-Ended.ended.port) (sym same) told.0 }

pub join_port-requires-in-Lost : goal.join_port-requires-in-Lost
join_port-requires-in-Lost g c =
    let u = c.hand_out-tx.result in
    let lost = c.in-Lost.ensures.outcome in
    let same = c.hand_out-tx.ensures.out.stays.of ∙ c.requires.device.1 in
    record { port = subst (λ (d : _). IsPortAt d c.in-Lost.port) (sym same) lost.port.port }

pub take_back-requires-clause-device : goal.take_back-requires-clause-device
take_back-requires-clause-device g c = c.hand_out-tx.ensures.out.stays.of ∙ c.requires.device.1

pub take_back-requires-clause-none : goal.take_back-requires-clause-none
take_back-requires-clause-none g c = c.hand_out-tx.ensures.out.left

pub take_back-requires-clause-tx : goal.take_back-requires-clause-tx
take_back-requires-clause-tx g c = c.in-Refused.ensures.outcome.tx

pub returns-in-Ended-clause-did : goal.returns-in-Ended-clause-did
returns-in-Ended-clause-did g c =
    let A = g.O.Origin.start in
    let s = c.args.session.now in
    let m = c.hand_out-tx.new.session in
    let t = c.join_port.new.self in
    let u = c.hand_out-tx.result in
    let out = c.hand_out-tx.ensures.out in
    let q = c.in-Ended.ended.port in
    let told = told_of A c.args.shared.now u c.in-Ended.ended c.in-Ended.ensures.outcome in
    let j = c.join_port.ensures.did in
    let back = rejoined A c.args.shared.now s m u out t q told.1 told.2 j in
    inr (own_in u, out.was, back.0, back.1, back.2, told.3, told.4, answered_in A c.args.shared.now s m u out t q told.3 j told.5)

pub returns-in-Refused-clause-did : goal.returns-in-Refused-clause-did
returns-in-Refused-clause-did g c =
    let u = c.hand_out-tx.result in
    let over = c.take_back.ensures in inr (
      own_in u,
      kept_in g.O.Origin.start c.args.shared.now c.args.session.now c.hand_out-tx.new.session u c.hand_out-tx.ensures.out c.take_back.new.session c.in-Refused.error c.in-Refused.tx over.0
          c.in-Refused.ensures.outcome over.1,
    )

pub returns-in-Lost-clause-did : goal.returns-in-Lost-clause-did
returns-in-Lost-clause-did g c =
    let u = c.hand_out-tx.result in inr (
      own_in u,
      lost_in g.O.Origin.start c.args.shared.now c.args.session.now c.hand_out-tx.new.session u c.hand_out-tx.ensures.out c.join_port-in-Lost.new.self c.in-Lost.port
          c.in-Lost.ensures.outcome c.join_port-in-Lost.ensures.did,
    )
