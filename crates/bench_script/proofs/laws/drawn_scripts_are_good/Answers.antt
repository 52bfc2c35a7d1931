use Rattle.bench_script.proofs.{Words.{ap, Script}, GoodLines.{scripts_are, scripts_are_plain}}

pub returns-clause-good : Rattle.bench_script.proofs.laws.drawn_scripts_are_good.Goals.returns-clause-good
returns-clause-good c = λ seed count few. ap (λ (s : Script). s.bad) (scripts_are seed count few)

pub returns-clause-plain : Rattle.bench_script.proofs.laws.drawn_scripts_are_good.Goals.returns-clause-plain
returns-clause-plain c = scripts_are_plain
