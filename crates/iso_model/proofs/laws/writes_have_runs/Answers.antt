use Rattle.iso_model.proofs.{Words.{◌≡◌, ◌<◌, ℕ, zero, suc, refl, arith}, Written.{write_where_runs, runs_where_write}}

pub returns-clause-some : Rattle.iso_model.proofs.laws.writes_have_runs.Goals.returns-clause-some
returns-clause-some c = λ g accesses size all. (runs_where_write g accesses size all, write_where_runs g accesses)

no_runs : (n : ℕ) → (0 < n → ⊥) → n ≡ 0
no_runs zero none = refl
no_runs (suc n) none = absurd (none (omega arith))

pub returns-clause-none : Rattle.iso_model.proofs.laws.writes_have_runs.Goals.returns-clause-none
returns-clause-none c = grind (arith, no_runs, write_where_runs, runs_where_write)
