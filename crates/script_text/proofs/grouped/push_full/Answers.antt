use Rattle.script_text.proofs.{Words.{arith, common_steps, rules, codes, decimal}, Extending.on_two}

pub returns : Rattle.script_text.proofs.grouped.push_full.Goals.returns
returns c = record {
  ok = on_two c.push_numbered-2.result c.args.out.now.items c.push_numbered.new.out.items c.push_numbered-2.new.out.items (codes "log full need ") (decimal c.args.need) (codes " free ") (decimal c.args.free)
      c.in_ok-push_numbered.ensures.ok c.push_numbered-2.ensures.ok;
  err = first_of (search rules, grind (arith, common_steps));
}
