-- What a run of clients over a core has come to.
use Rattle.std.specs.Prelude.{◌≡◌, ◌⊎◌, ℕ, List, ◌++◌}
use Rattle.iso_core.specs.{declared.core_itself.Core.Core, Core.disk_of}
use Rattle.iso_disk.specs.Disk.{DiskState}
use Rattle.iso_io.specs.Sink.{SinkState}
use Rattle.script_model.specs.declared.script.Line.{Line}
use Rattle.iso_model.specs.World.{World}
use Rattle.iso_shared.specs.{declared.entry.Entry.Entry, Legal.IsLegal, Ports.IsIsolatedAt, Standing.{Came, HaveEnded, Holds, start_at}, States.{Start, state_at}}
use Rattle.par_lines.specs.{declared.par.ParEnd.ParEnd, Ends.HasEnded}
use Rattle.iso_top.specs.{declared.opened.Opened.Opened, Founded.BeginsWith, Prints.{Printed, WasCut, WroteWhole}, Texts.{disk_fault_text, memory_text}}

-- The run has ended so, by this list of entries, which the core stood for at the end.
pub record HasClosed {D : Type 0} (state : D → DiskState) (A : Start) (first : DiskState) (lines : List (ℕ × Line)) (end : ParEnd) (image : D) : Type 0 where
  pub entries : List Entry
  pub ended : HasEnded A lines end entries
  pub legal : IsLegal A entries
  pub isolated : IsIsolatedAt A entries
  pub core : Core D
  pub holds : Holds state core (state_at A entries)
  pub image_is : image ≡ disk_of core
  pub came : Came A first (state image) entries
  pub moments : List ℕ
  pub turns : HaveEnded state A first (state image) entries moments

-- what was put of a run that ended with this status and this text
pub record PutOf (ended : ℕ) (text : List ℕ) (status : ℕ) (old new : SinkState) : Type 0 where
  pub done : ended ≡ 0 → ((status ≡ 0) × WroteWhole old new text) ⊎ ((status ≡ 7) × WasCut old new text)
  pub disk : ended ≡ 5 → (status ≡ 5) × Printed old new (text ++ disk_fault_text)
  pub memory : ended ≡ 8 → (status ≡ 8) × Printed old new (text ++ memory_text)

-- A run from a world that the core represents was put; or memory was wanting for the device, and the disk is as it was.
abbrev pub HasRunLines : {D : Type 0} → (state : D → DiskState) → Opened D → List (ℕ × Line) → (status : ℕ) → (image : D) → SinkState → SinkState → Type 0
HasRunLines {D} state opened lines status image old new =
    ((W : World) × (end : ParEnd) × BeginsWith state opened W × HasClosed state (start_at W (state (disk_of opened.core))) (state (disk_of opened.core)) lines end image × PutOf end.status end.text status old new)
    ⊎ ((status ≡ 8) × (image ≡ disk_of opened.core) × Printed old new memory_text)
