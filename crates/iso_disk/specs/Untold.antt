-- The state of a disk that tells nothing of its bytes, as a real file.
use Rattle.std.specs.{Prelude.{ℕ, List, Option, None}, Option.option_map}
use Rattle.iso_disk.specs.Disk.{DiskState, IsLawful}

-- no contents, no images and one moment, so that each claim on bytes or crashes holds of it by itself
abbrev pub untold : (size faults binds : ℕ) → Option (List ℕ) → DiskState
untold size faults binds name = record {
  size = size;
  contents = None;
  now = λ _. ⊥;
  clock = 0;
  left = λ _ _. ⊥;
  faults = faults;
  bound = option_map (λ n. (0, n)) name;
  binds = binds;
  named = λ _. None;
}

pub untold_is_lawful : (size faults binds : ℕ) (name : Option (List ℕ)) → IsLawful (untold size faults binds name)
untold_is_lawful size faults binds name = record {
  reads_as_image = λ c told. cc told;
  counts_now = λ t c le image. image;
  only_now = λ c image. image;
  counts_later = λ t u c le image. image;
  image_size = λ t c image. absurd image;
  told_bytes = λ c told. cc told;
}
