use Rattle.bench_script.proofs.OneALine.{one_a_line, text_of_answers}

pub returns-clause-many : Rattle.bench_script.proofs.laws.replies_are_one_a_line.Goals.returns-clause-many
returns-clause-many c = one_a_line

pub returns-clause-text : Rattle.bench_script.proofs.laws.replies_are_one_a_line.Goals.returns-clause-text
returns-clause-text c = text_of_answers
