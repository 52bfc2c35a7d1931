use Rattle.par_lines.proofs.{Words.{ap, arith, subst, sym, ◌∙◌, Ok, HasLooked}, Awaiting.{answers_in_tx, found, never_found, not_now}}

pub returns-then-is_some : Rattle.par_lines.proofs.labels.await_label.Goals.returns-then-is_some
returns-then-is_some g c = record { did = answers_in_tx g.O.Origin.start c.args.session.now c.args.label.now c.mode.result c.mode.ensures (sym c.is_some.ensures ∙ c.if-is_some.true) }

pub returns-in-Ok-Some : Rattle.par_lines.proofs.labels.await_label.Goals.returns-in-Ok-Some
returns-in-Ok-Some g c =
    record {
      did = found g.O.Origin.start c.args.session.now c.loop-round.session c.look_tx.new.self c.args.label.now c.loop-round.round c.in-Ok-Some.at c.loop-round-test.true c.loop-round.invariant.looking
          (subst (λ r. HasLooked g.O.Origin.start c.loop-round.session c.args.label.now r c.look_tx.new.self) (c.in-Ok-Some.is ∙ ap (λ v. Ok v) c.in-Ok-Some.field-0-is) c.look_tx.ensures.did);
    }

pub loop-round-preserved : Rattle.par_lines.proofs.labels.await_label.Goals.loop-round-preserved
loop-round-preserved g c = record {
  looking = not_now g.O.Origin.start c.args.session.now c.loop-round.session c.look_tx.new.self c.args.label.now c.loop-round.round c.loop-round.invariant.looking
      (subst (λ r. HasLooked g.O.Origin.start c.loop-round.session c.args.label.now r c.look_tx.new.self) (c.in-Ok-None.is ∙ ap (λ v. Ok v) c.in-Ok-None.field-0-is) c.look_tx.ensures.did);
}

pub returns : Rattle.par_lines.proofs.labels.await_label.Goals.returns
returns g c =
    record { did = never_found g.O.Origin.start c.args.session.now c.loop-round.session c.args.label.now c.loop-round.round (omega (arith, c.loop-round-test.false, c.loop-round.auto.round-end)) c.loop-round.invariant.looking }
