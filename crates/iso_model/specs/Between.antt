-- What an image shows before a step or after it, and in the course of many.
use Rattle.std.specs.Prelude.{◌⊎◌, ℕ, ◌≤◌, List}
use Rattle.iso_model.specs.{History.last, Image.Shows, World.World}

-- the image shows the history of the world at its last commit
abbrev pub ShowsLast : World → List ℕ → Type 0
ShowsLast W bytes = Shows bytes W.geometry W.history (last W.history)

-- the image shows the history of the one world or that of the other
abbrev pub ShowsEither : (W V : World) → List ℕ → Type 0
ShowsEither W V bytes = ShowsLast W bytes ⊎ ShowsLast V bytes

-- the image shows the history of V at a commit from the last one of W on
pub record ShowsBetween (W V : World) (bytes : List ℕ) : Type 0 where
  pub at : ℕ
  pub from : last W.history ≤ at
  pub to : at ≤ last V.history
  pub shows : Shows bytes V.geometry V.history at
