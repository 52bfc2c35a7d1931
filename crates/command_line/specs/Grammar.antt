-- The grammar of the words, as clap defines it.
use Rattle.std.specs.{Prelude.{true, List, [], ◌∷◌, Option, Some, None, String, fold, map, string_bytes, codes}, declared.alloc.Global.Global}
use Rattle.clap.specs.{Words.{App, Kinds, Row, Rule, Shape, Text, fault_of, new_app, new_rule, subcommand_of, with_rule, with_subcommand}, declared.builder.action.ArgAction.TheVariants.Set}

-- the texts of the words
abbrev pub texts : List (String Global) → List Text
texts words = map string_bytes words

-- an option with one value
abbrev pub valued_rule : Text → Rule
valued_rule name = record (new_rule name) { long = Some name; action = Some Set }

-- a word that has to stand
abbrev pub placed_rule : Text → Rule
placed_rule name = record (new_rule name) { required = true; action = Some Set }

-- a command without help and version
abbrev pub bare : Shape → Shape
bare s = record s { disable_help_flag = true; disable_version_flag = true; disable_help_subcommand = true }

abbrev pub bare_app : Text → App
bare_app name = record (new_app name) { top = bare (new_app name).top }

-- a command on an image
abbrev pub image_app : Text → App
image_app name = with_rule (bare_app name) (placed_rule (codes "IMAGE"))

-- the options of a new image
abbrev pub new_options : List Text
new_options = codes "block-size" ∷ codes "blocks" ∷ codes "log" ∷ codes "mode" ∷ codes "hash" ∷ codes "tree" ∷ []

-- the command that makes an image and answers a script
abbrev pub new_image_app : App
new_image_app = fold (λ a name. with_rule a (valued_rule name)) (image_app (codes "new")) new_options

-- the command that makes an image and answers a script that is drawn
abbrev pub bench_app : App
bench_app = with_rule (with_rule (image_app (codes "bench")) (placed_rule (codes "SEED"))) (placed_rule (codes "COUNT"))

-- the commands
abbrev pub commands : List App
commands = new_image_app ∷ image_app (codes "run") ∷ image_app (codes "par") ∷ image_app (codes "recover") ∷ bench_app ∷ []

-- a command that has to be followed by one of its subcommands
abbrev pub with_required : App → App
with_required a = record a { top = record a.top { subcommand_required = true } }

-- the program's command
abbrev pub isotope_app : App
isotope_app = fold (λ a command. with_subcommand a command.top) (with_required (bare_app (codes "isotope"))) commands

-- what is found, unless clap refuses the words
abbrev pub unless_refused : Kinds → Option (Text × List Row) → Option (Text × List Row)
unless_refused [] rows = rows
unless_refused (kind ∷ kinds) rows = None

-- The command that the words name, and what clap finds after it. None where clap refuses the words.
unfoldable pub rows_found : List Text → Option (Text × List Row)
rows_found words = unless_refused (fault_of isotope_app words) (subcommand_of isotope_app words)
