use Rattle.top_laws.proofs.Failures.{bench_cut, bench_failed, bench_unread, bench_wanted}

pub returns-clause-disk : Rattle.top_laws.proofs.laws.the_counts_were_not_printed.Goals.returns-clause-disk
returns-clause-disk g c = λ seed count name old new input_old input_new output_old output_new. bench_failed g.I.Disk.state name old new input_old input_new output_old output_new seed count

pub returns-clause-cut : Rattle.top_laws.proofs.laws.the_counts_were_not_printed.Goals.returns-clause-cut
returns-clause-cut g c = λ seed count name old new input_old input_new output_old output_new. bench_cut g.I.Disk.state name old new input_old input_new output_old output_new seed count

pub returns-clause-memory : Rattle.top_laws.proofs.laws.the_counts_were_not_printed.Goals.returns-clause-memory
returns-clause-memory g c = λ seed count name old new input_old input_new output_old output_new. bench_wanted g.I.Disk.state name old new input_old input_new output_old output_new seed count

pub returns-clause-unread : Rattle.top_laws.proofs.laws.the_counts_were_not_printed.Goals.returns-clause-unread
returns-clause-unread g c = λ seed count status name old new input_old input_new output_old output_new. bench_unread g.I.Disk.state name old new input_old input_new output_old output_new seed count status
