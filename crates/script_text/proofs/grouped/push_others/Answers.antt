use Rattle.script_text.proofs.{Words.{◌++◌, arith, common_steps, rules, codes, flat_map, take, label_text}, Extending.{always, on_err}}

pub returns-in_err-push_other : Rattle.script_text.proofs.grouped.push_others.Goals.returns-in_err-push_other
returns-in_err-push_other c = record {
  ok = first_of (search rules, grind (arith, common_steps));
  err = on_err c.from_residual.result c.args.out.now.items c.loop-answer.out.items c.push_other.new.out.items (flat_map (λ a. codes "; " ++ label_text a) (take c.loop-answer.answer-index c.args.answers.now)) c.loop-answer.invariant
      (always c.from_residual.result c.in_err-push_other.ensures.err);
}
