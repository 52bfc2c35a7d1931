-- How far the digest of replies has come in their text.
use Rattle.std.specs.Prelude.{◌≡◌, ℕ, List, ◌++◌, length}
use Rattle.sha2.specs.{Hashers.Holds256, declared.Sha256.Sha256}

-- a hasher holds a text but for its last bytes, which wait
pub record IsFed (hasher : Sha256) (text waiting : List ℕ) (size : ℕ) : Type 0 where
  pub sized : size ≡ length text
  pub front : List ℕ
  pub parts : text ≡ front ++ waiting
  pub holds : Holds256 hasher front
