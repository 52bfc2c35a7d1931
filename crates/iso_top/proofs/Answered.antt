-- A script that was answered from the world that a call begins with.
use Rattle.iso_top.proofs.{Words.{ℕ, List, ◌++◌, Option, DiskState, SinkState, SourceState, Geometry, Core, disk_of, RunEnd, HasRun, HasCore, HasAnswered, HasBegun, PrintedEnd, files_answer, stores_answer}, Beginnings.begun}

module _ {D : Type 0} (state : D → DiskState) (made : Option Geometry) (name : List ℕ) (disk new : D) (core : Core D) (has : HasCore state made name disk core)
    (input_old input_new : SourceState) (output_old replied : SinkState) (e : RunEnd)
    (run : HasRun (λ V. Unit {0}) (state (disk_of core)) (state new) input_old input_new output_old replied has.world e) where
  pub has_begun : HasBegun made name (state disk) (state (disk_of core)) (state new) has.world run.answered.final
  has_begun = begun state made name disk new core has run.answered.final run.answered.final_is.leads run.answered.moments

  pub answered : (output_new : SinkState) → PrintedEnd e replied output_new → HasAnswered state made name e disk new input_old input_new output_old output_new
  answered output_new last = record { world = has.world; start = disk_of core; replied = replied; run = run; begun = has_begun; stores = stores_answer has.world (run.done ++ run.next) run.answered.good; files = files_answer has.world (run.done ++ run.next) run.answered.good; last = last }
