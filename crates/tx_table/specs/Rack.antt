-- How a `Rack` keeps its items.
use Rattle.std.specs.Prelude.{◌≡◌, ℕ, List, IsTrue}
use Rattle.iso_model.specs.Labels.{is_label, key_of}

-- the entry is under the key of its label
pub record IsKeyed {T : Type 0} (entry : ℕ × (List ℕ × T)) : Type 0 where
  pub key : entry.0 ≡ key_of entry.1.0
  pub label : IsTrue (is_label entry.1.0)
