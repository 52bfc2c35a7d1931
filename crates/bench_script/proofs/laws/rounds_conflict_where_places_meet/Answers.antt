use Rattle.bench_script.proofs.{Words.{answers_to, bench_text, bench_world, script}, RoundReplies.{bench_answered, conflicts_are}}

pub returns-clause-replies : Rattle.bench_script.proofs.laws.rounds_conflict_where_places_meet.Goals.returns-clause-replies
returns-clause-replies c = bench_answered

pub returns-clause-conflicts : Rattle.bench_script.proofs.laws.rounds_conflict_where_places_meet.Goals.returns-clause-conflicts
returns-clause-conflicts c seed count few = conflicts_are count seed 0 (answers_to bench_world (script (bench_text count seed)).lines) (bench_answered seed count few)
