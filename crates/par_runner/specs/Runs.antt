-- What a job's steps made of its client.
use Rattle.std.specs.Prelude.{◌≡◌, ◌⊎◌, ℕ, ◌+◌, List, [], ◌∷◌, Some, length, take, slice_get}
use Rattle.script_model.specs.declared.script.Line.{Line}
use Rattle.par_runner.specs.{declared.job.Flow.Flow, declared.job.Flow.TheVariants.{Go, Halt}, declared.job.Job.Job}

module _ {C : Type 0} (steps : C → ℕ → Line → Flow → C → Type 0) where
  -- each of these lines was a step, in this order, and went on
  abbrev pub Went : C → List (ℕ × Line) → C → Type 0
  Went c [] d = d ≡ c
  Went c (l ∷ lines) d = (m : C) × steps c l.0 l.1 Go m × Went m lines d

  -- the last step made was a halt
  pub record Halted (c : C) (lines : List (ℕ × Line)) (done : ℕ) (d : C) : Type 0 where
    pub before : C
    pub number : ℕ
    pub line : ℕ × Line
    pub went : Went c (take number lines) before
    pub line_is : slice_get lines number ≡ Some line
    pub halt : steps before line.0 line.1 Halt d
    pub done_is : done ≡ number + 1

  -- the first `done` lines were steps, in order: all of them, or those up to the first halt
  abbrev pub Ran : C → List (ℕ × Line) → (done : ℕ) → C → Type 0
  Ran c lines done d = ((done ≡ length lines) × Went c lines d) ⊎ Halted c lines done d

  -- the job after its lines were run
  pub record JobRan (j k : Job C) : Type 0 where
    pub id : k.id ≡ j.id
    pub lines : k.lines ≡ j.lines
    pub ran : Ran j.client j.lines.items k.done k.client
