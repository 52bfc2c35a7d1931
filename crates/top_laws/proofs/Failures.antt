-- What statuses 5, 7 and 8 say of `recover`, of `bench` and of `par` where no line of the clients was run, from the records of the promise.
use Rattle.top_laws.proofs.{Words.{◌≡◌, ◌⊎◌, inl, inr, ℕ, List, Some, ◌∙◌, ap, subst, Recover, Bench, Par, DiskState, SinceBind, SinkState, SourceState, World, OpenError, ScriptError, RunEnd, bench_output, recover_output, HasMet, HasRunClients, HasRunNone, PrintedBench, PrintedDigest, Printed, WasCut, OfItsWorld, TellsNamed, disk_fault_text, error_text, memory_text, script_error_status}, Plainly.some_named, Statuses.{eight_unbegun, five_unbegun, given_stays, none_written, seven_is_begun}}
use Rattle.script_runner.specs.declared.run_end.RunEnd.TheVariants as end
use Rattle.script_runner.specs.declared.lines.ScriptError.TheVariants as lines

module _ {D : Type 0} (state : D → DiskState) (name : List ℕ) (old new : D) (input_old input_new : SourceState) (output_old output_new : SinkState) where
  -- ---- recover

  pub recover_failed : HasMet state Recover name 5 old new input_old input_new output_old output_new → Printed output_old output_new disk_fault_text
  recover_failed (inl (e, is, not)) = subst (λ (f : OpenError). Printed output_old output_new (error_text f)) (five_unbegun e is) not.printed
  recover_failed (inr r) = by r.printed
    where
      by : PrintedDigest 5 (TellsNamed name (state old)) r.world.history output_old output_new → Printed output_old output_new disk_fault_text
      by (inl (text, told, inl (is, whole))) = cc is
      by (inl (text, told, inr (is, cut))) = cc is
      by (inr (inl (is, put))) = put
      by (inr (inr (is, put))) = cc is

  pub recover_wanted : HasMet state Recover name 8 old new input_old input_new output_old output_new → Printed output_old output_new memory_text
  recover_wanted (inl (e, is, not)) = subst (λ (f : OpenError). Printed output_old output_new (error_text f)) (eight_unbegun e is) not.printed
  recover_wanted (inr r) = by r.printed
    where
      by : PrintedDigest 8 (TellsNamed name (state old)) r.world.history output_old output_new → Printed output_old output_new memory_text
      by (inl (text, told, inl (is, whole))) = cc is
      by (inl (text, told, inr (is, cut))) = cc is
      by (inr (inl (is, put))) = cc is
      by (inr (inr (is, put))) = put

  pub recover_cut : (image : List ℕ) → HasMet state Recover name 7 old new input_old input_new output_old output_new → (state old).named name ≡ Some image
      → OfItsWorld image (λ W. WasCut output_old output_new (recover_output W.history))
  recover_cut image (inl (e, is, not)) named = absurd (seven_is_begun e is)
  recover_cut image (inr r) named =
      record { geometry = r.opens.geometry; generation = r.opens.generation; history = r.opens.history; holds = r.opens.told.image image named; is = put r.printed }
    where
      put : PrintedDigest 7 (TellsNamed name (state old)) r.world.history output_old output_new → WasCut output_old output_new (recover_output r.opens.history)
      put (inl (text, told, inl (is, whole))) = cc is
      put (inl (text, told, inr (is, cut))) =
          subst (WasCut output_old output_new) (told (some_named ((state old).named name) image named) ∙ ap recover_output (ap (λ (W : World). W.history) r.opens.world_is)) cut
      put (inr (inl (is, text))) = cc is
      put (inr (inr (is, text))) = cc is

  pub recover_unwritten : (image : List ℕ) (status : ℕ) → HasMet state Recover name status old new input_old input_new output_old output_new → (state old).named name ≡ Some image
      → (input_new ≡ input_old) × SinceBind (state new) (λ c. c ≡ image)
  recover_unwritten image status (inl (e, is, not)) named = (not.unread, given_stays state name old new input_old input_new output_old output_new e image not named)
  recover_unwritten image status (inr r) named = (r.unread, λ moment is c left. r.unwritten moment is c left image named)

  -- ---- bench

  pub bench_failed : (seed count : ℕ) → HasMet state (Bench seed count) name 5 old new input_old input_new output_old output_new → Printed output_old output_new disk_fault_text
  bench_failed seed count (inl (e, is, not)) = subst (λ (f : OpenError). Printed output_old output_new (error_text f)) (five_unbegun e is) not.printed
  bench_failed seed count (inr b) = by b.end b.printed
    where
      by : (e : RunEnd) → PrintedBench seed count 5 e (TellsNamed name (state old)) output_old output_new → Printed output_old output_new disk_fault_text
      by end.Done (text, told, inl (is, whole)) = cc is
      by end.Done (text, told, inr (is, cut)) = cc is
      by (end.BadLine bad) never = absurd never
      by end.Disk (is, put) = put
      by end.Input never = absurd never
      by end.Output (is, put) = cc is
      by end.Memory (is, put) = cc is

  pub bench_wanted : (seed count : ℕ) → HasMet state (Bench seed count) name 8 old new input_old input_new output_old output_new → Printed output_old output_new memory_text
  bench_wanted seed count (inl (e, is, not)) = subst (λ (f : OpenError). Printed output_old output_new (error_text f)) (eight_unbegun e is) not.printed
  bench_wanted seed count (inr b) = by b.end b.printed
    where
      by : (e : RunEnd) → PrintedBench seed count 8 e (TellsNamed name (state old)) output_old output_new → Printed output_old output_new memory_text
      by end.Done (text, told, inl (is, whole)) = cc is
      by end.Done (text, told, inr (is, cut)) = cc is
      by (end.BadLine bad) never = absurd never
      by end.Disk (is, put) = cc is
      by end.Input never = absurd never
      by end.Output (is, put) = put
      by end.Memory (is, put) = put

  pub bench_cut : (seed count : ℕ) → HasMet state (Bench seed count) name 7 old new input_old input_new output_old output_new → TellsNamed name (state old)
      → WasCut output_old output_new (bench_output seed count)
  bench_cut seed count (inl (e, is, not)) tells = absurd (seven_is_begun e is)
  bench_cut seed count (inr b) tells = by b.end b.printed
    where
      by : (e : RunEnd) → PrintedBench seed count 7 e (TellsNamed name (state old)) output_old output_new → WasCut output_old output_new (bench_output seed count)
      by end.Done (text, told, inl (is, whole)) = cc is
      by end.Done (text, told, inr (is, cut)) = subst (WasCut output_old output_new) (told tells) cut
      by (end.BadLine bad) never = absurd never
      by end.Disk (is, put) = cc is
      by end.Input never = absurd never
      by end.Output (is, put) = cc is
      by end.Memory (is, put) = cc is

  pub bench_unread : (seed count status : ℕ) → HasMet state (Bench seed count) name status old new input_old input_new output_old output_new → input_new ≡ input_old
  bench_unread seed count status (inl (e, is, not)) = not.unread
  bench_unread seed count status (inr b) = b.unread

  -- ---- par, where no line of the clients was run

  pub unrun_failed : (image : List ℕ) → HasMet state Par name 5 old new input_old input_new output_old output_new → (state old).named name ≡ Some image
      → (Printed output_old output_new disk_fault_text × SinceBind (state new) (λ c. c ≡ image)) ⊎ HasRunClients state name 5 old new input_old input_new output_old output_new
  unrun_failed image (inl (e, is, not)) named =
      inl (subst (λ (f : OpenError). Printed output_old output_new (error_text f)) (five_unbegun e is) not.printed, given_stays state name old new input_old input_new output_old output_new e image not named)
  unrun_failed image (inr (inl (e, is, r))) named = absurd (never e is)
    where
      never : (f : ScriptError) → 5 ≡ script_error_status f → ⊥
      never lines.Input is = cc is
      never f is = cc is
  unrun_failed image (inr (inr r)) named = inr r

  pub unrun_wanted : (image : List ℕ) → HasMet state Par name 8 old new input_old input_new output_old output_new → (state old).named name ≡ Some image
      → (Printed output_old output_new memory_text × SinceBind (state new) (λ c. c ≡ image)) ⊎ HasRunClients state name 8 old new input_old input_new output_old output_new
  unrun_wanted image (inl (e, is, not)) named =
      inl (subst (λ (f : OpenError). Printed output_old output_new (error_text f)) (eight_unbegun e is) not.printed, given_stays state name old new input_old input_new output_old output_new e image not named)
  unrun_wanted image (inr (inl (e, is, r))) named = inl (by e is r)
    where
      by : (f : ScriptError) → 8 ≡ script_error_status f → HasRunNone name f (state old) (state new) input_old input_new output_old output_new
          → Printed output_old output_new memory_text × SinceBind (state new) (λ c. c ≡ image)
      by lines.Memory is r = (r.printed, none_written state name old new input_old input_new output_old output_new r image named)
      by f is r = cc is
  unrun_wanted image (inr (inr r)) named = inr r
