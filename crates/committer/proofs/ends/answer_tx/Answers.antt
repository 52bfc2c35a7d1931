use Rattle.committer.proofs.Words.{Option, Shared, subst, sym}
use Rattle.std.specs.Prelude.{IfSome}
use Rattle.committer.specs.Outcomes.{IsOutcome}
use Rattle.committer.proofs.ends.answer_tx.Goals as goal

pub respond-requires : goal.respond-requires
respond-requires g c =
    let a = c.requires.answers in
    (a.0, a.1, subst (λ (o : Option (Shared _ _)). IfSome o (λ d. IsOutcome d g.O.Origin.start a.0 c.args.outcome)) (sym c.requires.device) a.2)
