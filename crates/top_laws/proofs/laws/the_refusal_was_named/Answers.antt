use Rattle.top_laws.proofs.Statuses.{refusal_named}

pub returns : Rattle.top_laws.proofs.laws.the_refusal_was_named.Goals.returns
returns g c = λ task name image old new input_old input_new output_old output_new. refusal_named g.I.Disk.state name old new input_old input_new output_old output_new task image
