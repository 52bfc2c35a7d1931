use Rattle.command_line.proofs.Made.{bench_is_made}

pub returns : Rattle.command_line.proofs.laws.every_bench_is_made.Goals.returns
returns c = bench_is_made
