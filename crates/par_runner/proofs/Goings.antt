-- Steps in a row.
use Rattle.std.proofs.Common.{◌≡◌, ℕ, ◌+◌, List, [], ◌∷◌, ◌++◌, take, refl, sym, subst}
use Rattle.script_model.specs.declared.script.Line.{Line}
use Rattle.par_runner.specs.{declared.job.Flow.Flow, declared.job.Flow.TheVariants.Go, Runs.Went}

module _ {C : Type 0} (steps : C → ℕ → Line → Flow → C → Type 0) where
  pub went_snoc : (c m d : C) (ls : List (ℕ × Line)) (l : ℕ × Line) → Went steps c ls m → steps m l.0 l.1 Go d → Went steps c (ls ++ l ∷ []) d
  went_snoc c m d [] l went step = (d, subst (λ v. steps v l.0 l.1 Go d) went step, refl)
  went_snoc c m d (x ∷ ls) l went step = (went.0, went.1, went_snoc went.0 m d ls l went.2 step)

  pub went_more : (c m d : C) (ls : List (ℕ × Line)) (i : ℕ) (l : ℕ × Line) (flow : Flow) → Went steps c (take i ls) m → take (i + 1) ls ≡ take i ls ++ l ∷ [] → flow ≡ Go → steps m l.0 l.1 flow d → Went steps c (take (i + 1) ls) d
  went_more c m d ls i l flow went more go step =
      subst (λ v. Went steps c v d) (sym more) (went_snoc c m d (take i ls) l went (subst (λ v. steps m l.0 l.1 v d) go step))
