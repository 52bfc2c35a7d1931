-- How clients that run concurrently end.
use Rattle.std.specs.{Prelude.{◌≡◌, ◌⊎◌, ℕ, List, [], Option, Some, None, Bool, true, false, cond}, List.list_any}
use Rattle.script_model.specs.{declared.script.Line.Line, declared.stop.Stop.Stop}
use Rattle.iso_shared.specs.{declared.entry.Entry.Entry, States.Start}
use Rattle.script_model.specs.declared.stop.Stop.TheVariants as stop
use Rattle.par_script.specs.{Output.{IsFront, IsOutput}, Told.Told, declared.part.Part.Part}
use Rattle.par_lines.specs.declared.par.ParEnd.{ParEnd}

-- whether a client stopped for want of memory
abbrev pub wants : Option Stop → Bool
wants None = false
wants (Some stop.Memory) = true
wants (Some stop.Down) = false
wants (Some stop.Disk) = false

abbrev pub stopped : Option Stop → Bool
stopped None = false
stopped (Some why) = true

-- 8 where a client wanted memory, else 5 where the disk stopped one, else 0
abbrev pub status_of : List Part → ℕ
status_of parts = cond (list_any (λ p. wants p.stop) parts) 8 (cond (list_any (λ p. stopped p.stop) parts) 5 0)

-- with the whole text, or without memory for it with first lines of it and 8
abbrev pub Ends : List Part → ParEnd → Type 0
Ends parts e = ((e.status ≡ status_of parts) × IsOutput parts e.text) ⊎ ((e.status ≡ 8) × IsFront parts e.text)

-- the clients were run, or memory was wanting before the first line
abbrev pub HasEnded : Start → List (ℕ × Line) → ParEnd → (seen : List Entry) → Type 0
HasEnded A lines e seen = ((parts : List Part) × Told A lines parts seen × Ends parts e) ⊎ ((e.status ≡ 8) × (e.text ≡ []) × (seen ≡ []))
