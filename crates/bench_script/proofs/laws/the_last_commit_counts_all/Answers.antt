use Rattle.bench_script.proofs.LastCommits.{bench_counted}

pub returns : Rattle.bench_script.proofs.laws.the_last_commit_counts_all.Goals.returns
returns c = bench_counted
