use Rattle.top_laws.proofs.Failures.{recover_cut, recover_failed, recover_unwritten, recover_wanted}

pub returns-clause-disk : Rattle.top_laws.proofs.laws.the_digest_was_not_printed.Goals.returns-clause-disk
returns-clause-disk g c = λ name old new input_old input_new output_old output_new. recover_failed g.I.Disk.state name old new input_old input_new output_old output_new

pub returns-clause-cut : Rattle.top_laws.proofs.laws.the_digest_was_not_printed.Goals.returns-clause-cut
returns-clause-cut g c = λ name image old new input_old input_new output_old output_new. recover_cut g.I.Disk.state name old new input_old input_new output_old output_new image

pub returns-clause-memory : Rattle.top_laws.proofs.laws.the_digest_was_not_printed.Goals.returns-clause-memory
returns-clause-memory g c = λ name old new input_old input_new output_old output_new. recover_wanted g.I.Disk.state name old new input_old input_new output_old output_new

pub returns-clause-unwritten : Rattle.top_laws.proofs.laws.the_digest_was_not_printed.Goals.returns-clause-unwritten
returns-clause-unwritten g c = λ name image status old new input_old input_new output_old output_new. recover_unwritten g.I.Disk.state name old new input_old input_new output_old output_new image status
