use Rattle.script_text.proofs.{Words.{arith, common_steps, rules, flat_map, take, pair_text}, Extending.{always, on_err}}

pub returns-in_err-push_pair : Rattle.script_text.proofs.pairs.push_all.Goals.returns-in_err-push_pair
returns-in_err-push_pair c = record {
  ok = first_of (search rules, grind (arith, common_steps));
  err = on_err c.from_residual.result c.args.out.now.items c.loop-pair.out.items c.push_pair.new.out.items (flat_map pair_text (take c.loop-pair.pair-index c.args.pairs.now)) c.loop-pair.invariant
      (always c.from_residual.result c.in_err-push_pair.ensures.err);
}
