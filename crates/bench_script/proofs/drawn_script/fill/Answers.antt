use Rattle.bench_script.proofs.{Words.{ap, length, arith}, Pieces.{next_round, no_round}, drawn_script.fill.Goals.{else-at-text-via-then-at-text+else-rounds-gt0, else-at-text-via-else-at-text}}

pub returns-then-rounds-gt0-clause-text : Rattle.bench_script.proofs.drawn_script.fill.Goals.returns-then-rounds-gt0-clause-text
returns-then-rounds-gt0-clause-text c =
    next_round c.args.rounds.now c.args.at.now c.args.generator.now c.draw.new.generator c.args.round.now c.draw.new.self
    (omega (arith, c.if-at-text.true, ap length c.text.ensures)) (omega (arith, c.if-rounds-gt0.true)) c.draw.ensures.text c.draw.ensures.state

pub returns-else-at-text-clause-some : Rattle.bench_script.proofs.drawn_script.fill.Goals.returns-else-at-text-clause-some
returns-else-at-text-clause-some c all = elim c.else-at-text.branch [
  | else-at-text-via-then-at-text+else-rounds-gt0 w ↦ no_round c.args.rounds.now c.args.at.now c.args.generator.now c.args.round.now all (omega (arith, w.if-rounds-gt0))
  | else-at-text-via-else-at-text w ↦ absurd (omega (arith, w.if-at-text, all, ap length c.text.ensures))
]
