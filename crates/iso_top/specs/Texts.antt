-- The last lines that the program prints.
use Rattle.std.specs.Prelude.{ℕ, List, [], ◌∷◌, ◌++◌, codes, decimal, flat_map}
use Rattle.script_model.specs.{declared.script.BadLine.BadLine, Text.hex_text}
use Rattle.iso_image.specs.declared.open_error.OpenError.{OpenError}
use Rattle.iso_image.specs.declared.open_error.OpenError.TheVariants as error
use Rattle.script_runner.specs.{declared.lines.ScriptError.ScriptError, declared.run_end.RunEnd.RunEnd}
use Rattle.script_runner.specs.declared.run_end.RunEnd.TheVariants as end
use Rattle.script_runner.specs.declared.lines.ScriptError.TheVariants as script

-- a text and its line feed
abbrev pub line : List ℕ → List ℕ
line text = text ++ 10 ∷ []

-- what is written where the words are outside the grammar
abbrev pub usage_text : List ℕ
usage_text =
    flat_map line (codes "! usage"
    ∷ codes "new IMAGE [--block-size B] [--blocks N] [--log L] [--mode serial|snapshot] [--hash H] [--tree T]"
    ∷ codes "run IMAGE" ∷ codes "par IMAGE" ∷ codes "recover IMAGE" ∷ codes "bench IMAGE SEED COUNT" ∷ [])

abbrev pub bad_line_text : BadLine → List ℕ
bad_line_text bad = line (codes "! bad line " ++ decimal bad.line ++ codes " cause " ++ decimal bad.cause)

abbrev pub disk_fault_text : List ℕ
disk_fault_text = line (codes "! disk fault")

abbrev pub input_fault_text : List ℕ
input_fault_text = line (codes "! input fault")

abbrev pub memory_text : List ℕ
memory_text = line (codes "! memory")

-- the line that says why no script was begun on an image
abbrev pub error_text : OpenError → List ℕ
error_text error.NotIsotope = line (codes "! not an Isotope image")
error_text (error.BadGeometry field) = line (codes "! bad geometry field " ++ decimal field)
error_text (error.WrongSize want have) = line (codes "! wrong size want " ++ decimal want ++ codes " have " ++ decimal have)
error_text error.NoHalf = line (codes "! no open half")
error_text (error.Damaged at cause) = line (codes "! damaged at " ++ decimal at ++ codes " cause " ++ decimal cause)
error_text (error.UnknownForm form) = line (codes "! unknown form " ++ decimal form)
error_text error.Disk = disk_fault_text
error_text error.Memory = memory_text

-- the status that goes with it
abbrev pub error_status : OpenError → ℕ
error_status error.Disk = 5
error_status error.Memory = 8
error_status e = 4

-- the status that goes with the end of a run
abbrev pub end_status : RunEnd → ℕ
end_status end.Done = 0
end_status (end.BadLine bad) = 3
end_status end.Disk = 5
end_status end.Input = 6
end_status end.Output = 7
end_status end.Memory = 8

-- the line that says why a run ended: none where all was done, and none to a sink that failed
abbrev pub end_text : RunEnd → List ℕ
end_text end.Done = []
end_text (end.BadLine bad) = bad_line_text bad
end_text end.Disk = disk_fault_text
end_text end.Input = input_fault_text
end_text end.Output = []
end_text end.Memory = memory_text

-- the line that says why no line of a script was run, once the image was opened
abbrev pub script_error_text : ScriptError → List ℕ
script_error_text (script.BadLine bad) = bad_line_text bad
script_error_text script.Input = input_fault_text
script_error_text script.Memory = memory_text

-- the status that goes with it
abbrev pub script_error_status : ScriptError → ℕ
script_error_status (script.BadLine bad) = 3
script_error_status script.Input = 6
script_error_status script.Memory = 8

-- the line of `recover`, with a last number, a base number and a digest
abbrev pub recover_text : (last base : ℕ) → (digest : List ℕ) → List ℕ
recover_text last base digest = codes "last " ++ decimal last ++ codes " base " ++ decimal base ++ codes " sha256 " ++ hex_text digest ++ 10 ∷ []

-- the line of `bench`, with its counts and a digest
abbrev pub bench_text_of : (rounds commits conflicts : ℕ) → (digest : List ℕ) → List ℕ
bench_text_of rounds commits conflicts digest =
    codes "rounds " ++ decimal rounds ++ codes " commits " ++ decimal commits ++ codes " conflicts " ++ decimal conflicts ++ codes " sha256 " ++ hex_text digest ++ 10 ∷ []
