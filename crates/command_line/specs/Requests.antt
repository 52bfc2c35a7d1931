-- What the words ask for.
use Rattle.std.specs.Prelude.{◌≡◌, ℕ, ◌<◌, ◌≤◌, ◌^◌, IsTrue, if◌then◌else◌, List, Option, Some, None, option_and_then, option_map, codes, bytes_eq}
use Rattle.clap.specs.Words.{Row, Text, first_of}
use Rattle.iso_model.specs.{declared.access.Geometry.Geometry, declared.access.Mode.Mode, Geometry.is_valid}
use Rattle.script_model.specs.{Bench.bench_geometry, Text.words_of}
use Rattle.command_line.specs.{declared.task.Task.Task, declared.task.Task.TheVariants.{New, Run, Par, Recover, Bench}, Grammar.rows_found, Values.{count_of, long_number_of, mode_or_serial, number_or}}

-- an image of the first form
abbrev pub geometry_with : (block blocks log : ℕ) → Mode → (hash tree : ℕ) → Geometry
geometry_with block blocks log mode hash tree = record { block = block; blocks = blocks; log = log; mode = mode; hash = hash; tree = tree; form = 1 }

-- a geometry, where it keeps its limits
abbrev pub if_valid : Geometry → Option Geometry
if_valid g = if is_valid g then Some g else None

-- The geometry of a new image, with what is not given by default. None where a value is not in the grammar.
unfoldable pub geometry_of : List Row → Option Geometry
geometry_of rows =
    option_and_then (λ block. option_and_then (λ blocks. option_and_then (λ log. option_and_then (λ mode. option_and_then (λ hash. option_and_then (λ tree.
    if_valid (geometry_with block blocks log mode hash tree))
    (number_or 0 (first_of (codes "tree") rows)))
    (number_or 0 (first_of (codes "hash") rows)))
    (mode_or_serial (first_of (codes "mode") rows)))
    (number_or 4194304 (first_of (codes "log") rows)))
    (number_or 1024 (first_of (codes "blocks") rows)))
    (number_or 4096 (first_of (codes "block-size") rows))

-- a bench with its seed and its number of rounds
abbrev pub bench_of : List Row → Option Task
bench_of rows =
    option_and_then (λ seed. option_and_then (λ count. Some (Bench seed count))
    (option_and_then count_of (first_of (codes "COUNT") rows)))
    (option_and_then long_number_of (first_of (codes "SEED") rows))

-- The task of a command. None where a value is not in the grammar.
unfoldable pub task_of : (command : Text) → List Row → Option Task
task_of command rows =
    if bytes_eq command (codes "new") then option_map New (geometry_of rows)
    else if bytes_eq command (codes "run") then Some Run
    else if bytes_eq command (codes "par") then Some Par
    else if bytes_eq command (codes "recover") then Some Recover
    else if bytes_eq command (codes "bench") then bench_of rows
    else None

-- the image's name, and the task
abbrev pub for_image : Text → Task → Text × Task
for_image image task = (image, task)

abbrev pub request_behind : (command : Text) → List Row → Option (Text × Task)
request_behind command rows = option_and_then (λ image. option_map (for_image image) (task_of command rows)) (first_of (codes "IMAGE") rows)

-- The image's name and the task that the words ask for, the program's name first. They are in the grammar where there is one:
-- where clap takes them and the values are spelled and bounded as they have to be.
unfoldable pub request_of : List Text → Option (Text × Task)
request_of words = option_and_then (λ found. request_behind found.0 found.1) (rows_found words)

-- a line whose words ask for this task on the image of this name, and one whose words are outside the grammar
abbrev pub Asks : (line image : Text) → Task → Type 0
Asks line image task = request_of (words_of line) ≡ Some (image, task)

abbrev pub IsOutside : (line : Text) → Type 0
IsOutside line = request_of (words_of line) ≡ None

-- the geometry of the image that a task makes, where it makes one
abbrev pub made_geometry : Task → Option Geometry
made_geometry (New g) = Some g
made_geometry Run = None
made_geometry Par = None
made_geometry Recover = None
made_geometry (Bench seed count) = Some bench_geometry

-- a geometry that words may ask for: within its limits, and of the first form
abbrev pub IsOpenGeometry : Geometry → Type 0
IsOpenGeometry g = IsTrue (is_valid g) × (g.form ≡ 1)

-- what a task that the words ask for keeps
abbrev pub KeepsLimits : Task → Type 0
KeepsLimits (New g) = IsOpenGeometry g
KeepsLimits Run = Unit {0}
KeepsLimits Par = Unit {0}
KeepsLimits Recover = Unit {0}
KeepsLimits (Bench seed count) = (seed < 2 ^ 64) × (count ≤ 100000)
