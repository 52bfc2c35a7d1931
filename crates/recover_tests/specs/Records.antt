-- The record of the tests.
use Rattle.std.specs.Prelude.{List, [], ◌∷◌}
use Rattle.iso_model.specs.declared.access.Run.{Run}

abbrev pub put : List Run
put = record { block = 2; off = 5; bytes = 171 ∷ 205 ∷ [] } ∷ []
