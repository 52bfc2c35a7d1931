-- What the status of a call on an image has for its cause.
use Rattle.iso_top.proofs.Words.{◌≡◌, ◌≢◌, ◌⊎◌, inl, inr, ⊎_elim, ℕ, List, Option, Some, None, IfSome, refl, sym, ap, subst, ForSome, Task, New, Run, Par, Recover, Bench, made_geometry, Rose, DiskState, SinkState, SourceState, Geometry, BadLine, Line, bench_output, bench_world, recover_output, Script, script, OpenError, refusal, start_at, Part, RunEnd, AreLinesOf, HasRun, HasAnswered, HasBenched, HasMet, HasNotBegun, HasRecovered, IsAccepted, IsGoodInput, IsStatus, PrintedBench, PrintedDigest, PrintedResult, ScriptError, HasRunClients, HasRunNone, PrintedClients, WereRun, SinkFailed, TellsNamed, end_status, error_status, script_error_status}
use Rattle.iso_image.specs.declared.open_error.OpenError.TheVariants as error
use Rattle.script_runner.specs.declared.run_end.RunEnd.TheVariants as end
use Rattle.script_runner.specs.declared.lines.ScriptError.TheVariants as lines

-- what a status tells of the counts
pub record HasCauses (status : ℕ) (disk_old disk_new : DiskState) (input_old input_new : SourceState) (output_old output_new : SinkState) : Type 0 where
  pub known : IsStatus status
  pub words : status ≢ 2
  pub disk : status ≡ 5 → Rose disk_old.faults disk_new.faults
  pub input : status ≡ 6 → Rose input_old.faults input_new.faults
  pub output : status ≡ 7 → SinkFailed output_old output_new

-- a status that blames nothing
quiet : (n : ℕ) (disk_old disk_new : DiskState) (input_old input_new : SourceState) (output_old output_new : SinkState)
    → (n ≡ 0) ⊎ (n ≡ 3) ⊎ (n ≡ 4) ⊎ (n ≡ 8) → HasCauses n disk_old disk_new input_old input_new output_old output_new
quiet n disk_old disk_new input_old input_new output_old output_new (inl e) = record {
  known = inl e;
  words = λ x. cc (e, x);
  disk = λ x. absurd (cc (e, x));
  input = λ x. absurd (cc (e, x));
  output = λ x. absurd (cc (e, x));
}
quiet n disk_old disk_new input_old input_new output_old output_new (inr (inl e)) = record {
  known = inr (inr (inl e));
  words = λ x. cc (e, x);
  disk = λ x. absurd (cc (e, x));
  input = λ x. absurd (cc (e, x));
  output = λ x. absurd (cc (e, x));
}
quiet n disk_old disk_new input_old input_new output_old output_new (inr (inr (inl e))) = record {
  known = inr (inr (inr (inl e)));
  words = λ x. cc (e, x);
  disk = λ x. absurd (cc (e, x));
  input = λ x. absurd (cc (e, x));
  output = λ x. absurd (cc (e, x));
}
quiet n disk_old disk_new input_old input_new output_old output_new (inr (inr (inr e))) = record {
  known = inr (inr (inr (inr (inr (inr (inr e))))));
  words = λ x. cc (e, x);
  disk = λ x. absurd (cc (e, x));
  input = λ x. absurd (cc (e, x));
  output = λ x. absurd (cc (e, x));
}

by_disk : (n : ℕ) (disk_old disk_new : DiskState) (input_old input_new : SourceState) (output_old output_new : SinkState)
    → n ≡ 5 → Rose disk_old.faults disk_new.faults → HasCauses n disk_old disk_new input_old input_new output_old output_new
by_disk n disk_old disk_new input_old input_new output_old output_new e rose = record {
  known = inr (inr (inr (inr (inl e))));
  words = λ x. cc (e, x);
  disk = λ x. rose;
  input = λ x. absurd (cc (e, x));
  output = λ x. absurd (cc (e, x));
}

by_input : (n : ℕ) (disk_old disk_new : DiskState) (input_old input_new : SourceState) (output_old output_new : SinkState)
    → n ≡ 6 → Rose input_old.faults input_new.faults → HasCauses n disk_old disk_new input_old input_new output_old output_new
by_input n disk_old disk_new input_old input_new output_old output_new e rose = record {
  known = inr (inr (inr (inr (inr (inl e)))));
  words = λ x. cc (e, x);
  disk = λ x. absurd (cc (e, x));
  input = λ x. rose;
  output = λ x. absurd (cc (e, x));
}

by_output : (n : ℕ) (disk_old disk_new : DiskState) (input_old input_new : SourceState) (output_old output_new : SinkState)
    → n ≡ 7 → SinkFailed output_old output_new → HasCauses n disk_old disk_new input_old input_new output_old output_new
by_output n disk_old disk_new input_old input_new output_old output_new e failed = record {
  known = inr (inr (inr (inr (inr (inr (inl e))))));
  words = λ x. cc (e, x);
  disk = λ x. absurd (cc (e, x));
  input = λ x. absurd (cc (e, x));
  output = λ x. failed;
}

module _ {D : Type 0} (state : D → DiskState) (name : List ℕ) (status : ℕ) (disk_old disk_new : D) (input_old input_new : SourceState) (output_old output_new : SinkState) where
  abbrev Caused : Type 0
  Caused = HasCauses status (state disk_old) (state disk_new) input_old input_new output_old output_new

  unbegun : (made : Option Geometry) (e : OpenError) → status ≡ error_status e → HasNotBegun made name e (state disk_old) (state disk_new) input_old input_new output_old output_new → Caused
  unbegun made error.NotIsotope is not = quiet status (state disk_old) (state disk_new) input_old input_new output_old output_new (inr (inr (inl is)))
  unbegun made (error.BadGeometry field) is not = quiet status (state disk_old) (state disk_new) input_old input_new output_old output_new (inr (inr (inl is)))
  unbegun made (error.WrongSize want have) is not = quiet status (state disk_old) (state disk_new) input_old input_new output_old output_new (inr (inr (inl is)))
  unbegun made error.NoHalf is not = quiet status (state disk_old) (state disk_new) input_old input_new output_old output_new (inr (inr (inl is)))
  unbegun made (error.Damaged at cause) is not = quiet status (state disk_old) (state disk_new) input_old input_new output_old output_new (inr (inr (inl is)))
  unbegun made (error.UnknownForm form) is not = quiet status (state disk_old) (state disk_new) input_old input_new output_old output_new (inr (inr (inl is)))
  unbegun made error.Disk is not = by_disk status (state disk_old) (state disk_new) input_old input_new output_old output_new is (not.cause.failed refl)
  unbegun made error.Memory is not = quiet status (state disk_old) (state disk_new) input_old input_new output_old output_new (inr (inr (inr is)))

  -- a run's count of faults rose in the whole call
  rose_since : (start : ℕ) → start ≡ (state disk_old).faults → Rose start (state disk_new).faults → Rose (state disk_old).faults (state disk_new).faults
  rose_since start same rose = subst (λ (n : ℕ). Rose n (state disk_new).faults) same rose

  answered : (made : Option Geometry) (e : RunEnd) → status ≡ end_status e → HasAnswered state made name e disk_old disk_new input_old input_new output_old output_new → Caused
  answered made end.Done is a = quiet status (state disk_old) (state disk_new) input_old input_new output_old output_new (inl is)
  answered made (end.BadLine bad) is a = quiet status (state disk_old) (state disk_new) input_old input_new output_old output_new (inr (inl is))
  answered made end.Disk is a = by_disk status (state disk_old) (state disk_new) input_old input_new output_old output_new is (rose_since (state a.start).faults a.begun.faults a.run.answered.disk)
  answered made end.Input is a = by_input status (state disk_old) (state disk_new) input_old input_new output_old output_new is a.run.input
  answered made end.Output is a =
      by_output status (state disk_old) (state disk_new) input_old input_new output_old output_new is
      (subst (λ (k : SinkState). SinkFailed output_old k) (sym a.last) (⊎_elim (λ failed. inl failed.0) (λ refused. inr refused.0) a.run.answered.output))
  answered made end.Memory is a = quiet status (state disk_old) (state disk_new) input_old input_new output_old output_new (inr (inr (inr is)))

  resulted : (tells : Type 0) (defined : List ℕ) → PrintedResult status tells defined output_old output_new → Caused
  resulted tells defined (text, told, inl (is, whole)) = quiet status (state disk_old) (state disk_new) input_old input_new output_old output_new (inl is)
  resulted tells defined (text, told, inr (is, cut)) = by_output status (state disk_old) (state disk_new) input_old input_new output_old output_new is cut.failed

  recovered : HasRecovered name status (state disk_old) (state disk_new) input_old input_new output_old output_new → Caused
  recovered r = go r.printed
    where
      go : PrintedDigest status (TellsNamed name (state disk_old)) r.world.history output_old output_new → Caused
      go (inl result) = resulted (TellsNamed name (state disk_old)) (recover_output r.world.history) result
      go (inr (inl (is, text))) = by_disk status (state disk_old) (state disk_new) input_old input_new output_old output_new is (r.failed is)
      go (inr (inr (is, text))) = quiet status (state disk_old) (state disk_new) input_old input_new output_old output_new (inr (inr (inr is)))

  benched : (seed count : ℕ) → HasBenched state name seed count status disk_old disk_new input_old input_new output_old output_new → Caused
  benched seed count b = go b.end b.run b.printed
    where
      go : (e : RunEnd) → HasRun (λ V. Unit {0}) (state b.start) (state disk_new) b.drawn b.rest b.empty b.held bench_world e
          → PrintedBench seed count status e (TellsNamed name (state disk_old)) output_old output_new → Caused
      go end.Done run result = resulted (TellsNamed name (state disk_old)) (bench_output seed count) result
      go (end.BadLine bad) run never = absurd never
      go end.Disk run (is, text) = by_disk status (state disk_old) (state disk_new) input_old input_new output_old output_new is (rose_since (state b.start).faults b.begun.faults run.answered.disk)
      go end.Input run never = absurd never
      go end.Output run (is, text) = quiet status (state disk_old) (state disk_new) input_old input_new output_old output_new (inr (inr (inr is)))
      go end.Memory run (is, text) = quiet status (state disk_old) (state disk_new) input_old input_new output_old output_new (inr (inr (inr is)))

  ran_none : (e : ScriptError) → status ≡ script_error_status e → HasRunNone name e (state disk_old) (state disk_new) input_old input_new output_old output_new → Caused
  ran_none (lines.BadLine bad) is r = quiet status (state disk_old) (state disk_new) input_old input_new output_old output_new (inr (inl is))
  ran_none lines.Input is r = by_input status (state disk_old) (state disk_new) input_old input_new output_old output_new is r.why
  ran_none lines.Memory is r = quiet status (state disk_old) (state disk_new) input_old input_new output_old output_new (inr (inr (inr is)))

  ran_clients : HasRunClients state name status disk_old disk_new input_old input_new output_old output_new → Caused
  ran_clients r = go r.ran
    where
      put : (parts : List Part) → PrintedClients status parts output_old output_new → Caused
      put parts (text, inl (is, none, output, whole)) = quiet status (state disk_old) (state disk_new) input_old input_new output_old output_new (inl is)
      put parts (text, inr (inl (is, none, output, cut))) = by_output status (state disk_old) (state disk_new) input_old input_new output_old output_new is cut.failed
      put parts (text, inr (inr (inl (is, stop, output, printed)))) = by_disk status (state disk_old) (state disk_new) input_old input_new output_old output_new is (r.failed is)
      put parts (text, inr (inr (inr (is, whole, printed)))) = quiet status (state disk_old) (state disk_new) input_old input_new output_old output_new (inr (inr (inr is)))

      go : WereRun (start_at r.world (state r.start)) r.lines r.entries status output_old output_new → Caused
      go (inl (parts, told, printed)) = put parts printed
      go (inr (none, is, printed)) = quiet status (state disk_old) (state disk_new) input_old input_new output_old output_new (inr (inr (inr is)))

  -- nothing to blame
  module _ (disk_stands : ¬ Rose (state disk_old).faults (state disk_new).faults) (input_stands : ¬ Rose input_old.faults input_new.faults) (output_stands : ¬ SinkFailed output_old output_new) where
    abbrev Ends : Type 0
    Ends = (status ≡ 0) ⊎ (status ≡ 8)

    refused_not : (made : Option Geometry) (e : OpenError) → IsAccepted made ((state disk_old).named name) → (made ≡ None) × ForSome ((state disk_old).named name) (λ c. refusal c ≡ Some e) → ⊥
    refused_not (Some g) e accepted (none, fails) = cc (none)
    refused_not None e (c, is, passes) (none, fails) = cc (fails c is, passes)

    begun_all : (made : Option Geometry) (e : OpenError) → status ≡ error_status e → IsAccepted made ((state disk_old).named name)
        → HasNotBegun made name e (state disk_old) (state disk_new) input_old input_new output_old output_new → Ends
    begun_all made error.NotIsotope is accepted not = absurd (refused_not made _ accepted (not.refused tt))
    begun_all made (error.BadGeometry field) is accepted not = absurd (refused_not made _ accepted (not.refused tt))
    begun_all made (error.WrongSize want have) is accepted not = absurd (refused_not made _ accepted (not.refused tt))
    begun_all made error.NoHalf is accepted not = absurd (refused_not made _ accepted (not.refused tt))
    begun_all made (error.Damaged at cause) is accepted not = absurd (refused_not made _ accepted (not.refused tt))
    begun_all made (error.UnknownForm form) is accepted not = absurd (refused_not made _ accepted (not.refused tt))
    begun_all made error.Disk is accepted not = absurd (disk_stands (not.cause.failed refl))
    begun_all made error.Memory is accepted not = inr is

    bad_not : (bad : BadLine) (all : List ℕ) (rest : Option (List ℕ)) (done next : List (ℕ × Line)) → rest ≡ Some all → (script all).bad ≡ None
        → IfSome rest (λ text. AreLinesOf (end.BadLine bad) (script text) done next) → ⊥
    bad_not bad all rest done next is good told =
        let lines : AreLinesOf (end.BadLine bad) (script all) done next =
        subst (λ (o : Option (List ℕ)). IfSome o (λ text. AreLinesOf (end.BadLine bad) (script text) done next)) is told in
        cc (good, ap (λ (S : Script). S.bad) lines.0)

    answered_all : (made : Option Geometry) (e : RunEnd) → status ≡ end_status e → (all : List ℕ) × (input_old.rest ≡ Some all) × ((script all).bad ≡ None)
        → HasAnswered state made name e disk_old disk_new input_old input_new output_old output_new → Ends
    answered_all made end.Done is good a = inl is
    answered_all made (end.BadLine bad) is (all, rest, good) a = absurd (bad_not bad all input_old.rest a.run.done a.run.next rest good a.run.told)
    answered_all made end.Disk is good a = absurd (disk_stands (rose_since (state a.start).faults a.begun.faults a.run.answered.disk))
    answered_all made end.Input is good a = absurd (input_stands a.run.input)
    answered_all made end.Output is good a =
        absurd (output_stands (subst (λ (k : SinkState). SinkFailed output_old k) (sym a.last) (⊎_elim (λ failed. inl failed.0) (λ refused. inr refused.0) a.run.answered.output)))
    answered_all made end.Memory is good a = inr is

    resulted_all : (tells : Type 0) (defined : List ℕ) → PrintedResult status tells defined output_old output_new → Ends
    resulted_all tells defined (text, told, inl (is, whole)) = inl is
    resulted_all tells defined (text, told, inr (is, cut)) = absurd (output_stands cut.failed)

    recovered_all : HasRecovered name status (state disk_old) (state disk_new) input_old input_new output_old output_new → Ends
    recovered_all r = go r.printed
      where
        go : PrintedDigest status (TellsNamed name (state disk_old)) r.world.history output_old output_new → Ends
        go (inl result) = resulted_all (TellsNamed name (state disk_old)) (recover_output r.world.history) result
        go (inr (inl (is, text))) = absurd (disk_stands (r.failed is))
        go (inr (inr (is, text))) = inr is

    benched_all : (seed count : ℕ) → HasBenched state name seed count status disk_old disk_new input_old input_new output_old output_new → Ends
    benched_all seed count b = go b.end b.run b.printed
      where
        go : (e : RunEnd) → HasRun (λ V. Unit {0}) (state b.start) (state disk_new) b.drawn b.rest b.empty b.held bench_world e
            → PrintedBench seed count status e (TellsNamed name (state disk_old)) output_old output_new → Ends
        go end.Done run result = resulted_all (TellsNamed name (state disk_old)) (bench_output seed count) result
        go (end.BadLine bad) run never = absurd never
        go end.Disk run (is, text) = absurd (disk_stands (rose_since (state b.start).faults b.begun.faults run.answered.disk))
        go end.Input run never = absurd never
        go end.Output run (is, text) = inr is
        go end.Memory run (is, text) = inr is

    ran_none_all : (e : ScriptError) → status ≡ script_error_status e → (all : List ℕ) × (input_old.rest ≡ Some all) × ((script all).bad ≡ None)
        → HasRunNone name e (state disk_old) (state disk_new) input_old input_new output_old output_new → Ends
    ran_none_all (lines.BadLine bad) is (all, rest, good) r =
        let told : (script all).bad ≡ Some bad = subst (λ (o : Option (List ℕ)). IfSome o (λ text. (script text).bad ≡ Some bad)) rest r.why.told in
        absurd (cc (good, told))
    ran_none_all lines.Input is good r = absurd (input_stands r.why)
    ran_none_all lines.Memory is good r = inr is

    ran_clients_all : HasRunClients state name status disk_old disk_new input_old input_new output_old output_new → Ends
    ran_clients_all r = go r.ran
      where
        put : (parts : List Part) → PrintedClients status parts output_old output_new → Ends
        put parts (text, inl (is, none, output, whole)) = inl is
        put parts (text, inr (inl (is, none, output, cut))) = absurd (output_stands cut.failed)
        put parts (text, inr (inr (inl (is, stop, output, printed)))) = absurd (disk_stands (r.failed is))
        put parts (text, inr (inr (inr (is, whole, printed)))) = inr is

        go : WereRun (start_at r.world (state r.start)) r.lines r.entries status output_old output_new → Ends
        go (inl (parts, told, printed)) = put parts printed
        go (inr (none, is, printed)) = inr is

    pub met_all : (task : Task) → IsAccepted (made_geometry task) ((state disk_old).named name) → IsGoodInput task input_old.rest
        → HasMet state task name status disk_old disk_new input_old input_new output_old output_new → Ends
    met_all task accepted good (inl (e, is, not)) = begun_all (made_geometry task) e is accepted not
    met_all (New g) accepted good (inr (e, is, a)) = answered_all (Some g) e is good a
    met_all Run accepted good (inr (e, is, a)) = answered_all None e is good a
    met_all Par accepted good (inr (inl (e, is, r))) = ran_none_all e is good r
    met_all Par accepted good (inr (inr r)) = ran_clients_all r
    met_all Recover accepted good (inr r) = recovered_all r
    met_all (Bench seed count) accepted good (inr b) = benched_all seed count b
