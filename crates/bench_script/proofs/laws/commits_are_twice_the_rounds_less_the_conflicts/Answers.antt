use Rattle.bench_script.proofs.{Words.{answers_to, bench_text, bench_world, script}, RoundReplies.{bench_answered, both_are}}

pub returns : Rattle.bench_script.proofs.laws.commits_are_twice_the_rounds_less_the_conflicts.Goals.returns
returns c seed count few = both_are count seed 0 (answers_to bench_world (script (bench_text count seed)).lines) (bench_answered seed count few)
