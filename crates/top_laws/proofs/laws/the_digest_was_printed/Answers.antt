use Rattle.top_laws.proofs.Plainly.{digest_prints}

pub returns : Rattle.top_laws.proofs.laws.the_digest_was_printed.Goals.returns
returns g c = λ name image old new input_old input_new output_old output_new. digest_prints g.I.Disk.state name old new input_old input_new output_old output_new image
