use Rattle.par_lines.proofs.Words.{[], inr, refl, Err, moves_none}
use Rattle.script_model.specs.declared.stop.Stop.TheVariants as stop

pub returns-in-Err-clause-steps : Rattle.par_lines.proofs.client.ParClientClient.step.Goals.returns-in-Err-clause-steps
returns-in-Err-clause-steps g c = record {
  answer = Err stop.Memory;
  made = record { entries = []; moves = moves_none c.args.self.now.session; did = inr (refl, refl, refl); of = refl };
  tells = (c.reserve.ensures.items, refl);
}
