use Rattle.bench_script.proofs.OneALine.{same_counts}

pub returns-clause-commits : Rattle.bench_script.proofs.laws.shown_bytes_are_not_counted.Goals.returns-clause-commits
returns-clause-commits c xs ys same = (same_counts xs ys same).0

pub returns-clause-conflicts : Rattle.bench_script.proofs.laws.shown_bytes_are_not_counted.Goals.returns-clause-conflicts
returns-clause-conflicts c xs ys same = (same_counts xs ys same).1
