-- The blocks of an array, one after the other, as a core reads them.
use Rattle.iso_top.proofs.DigestWords.{◌≡◌, ◌∙◌, sym, ap, ℕ, zero, suc, ◌+◌, ◌<◌, ◌≤◌, List, [], ◌∷◌, ◌++◌, length, take, append-nil, append_assoc, Option, arith, ForSome, take_all, Core, StandsFor, up, DiskState, Array, array_bytes, array_at, block_at, World, Live, array_shape, Sha256, Holds256}

-- the first blocks and one more
one_more : (A : Array) (n : ℕ) → n < length A → array_bytes (take n A) ++ block_at A n ≡ array_bytes (take (n + 1) A)
one_more [] n inside = absurd (omega (arith, inside))
one_more (block ∷ A) zero inside = sym (append-nil block)
one_more (block ∷ A) (suc n) inside =
    let count : suc (n + 1) ≡ suc n + 1 = omega arith in
    append_assoc block (array_bytes (take n A)) (block_at A n) ∙ ap (λ (rest : List ℕ). block ++ rest) (one_more A n (omega (arith, inside)))
    ∙ ap (λ (blocks : ℕ). array_bytes (take blocks (block ∷ A))) count

-- the hasher holds the first blocks of what the transaction is shown, where the disk tells its bytes
pub record HoldsFirst (contents : Option (List ℕ)) (W : World) (t : Live) (n : ℕ) (hasher : Sha256) : Type 0 where
  pub message : List ℕ
  pub holds : Holds256 hasher message
  pub is : ForSome contents (λ _. message ≡ array_bytes (take n (array_at W.history t.begin)))

-- and one block more
pub more_held : (contents : Option (List ℕ)) (W : World) (t : Live) (n : ℕ) (hasher next : Sha256) (block : List ℕ) → n < length (array_at W.history t.begin)
    → ForSome contents (λ _. block ≡ block_at (array_at W.history t.begin) n) → ((m : List ℕ) → Holds256 hasher m → Holds256 next (m ++ block))
    → HoldsFirst contents W t n hasher → HoldsFirst contents W t (n + 1) next
more_held contents W t n hasher next block inside shown feeds was = record {
  message = was.message ++ block;
  holds = feeds was.message was.holds;
  is = λ bytes told. (λ i. was.is bytes told i ++ shown bytes told i) ∙ one_more (array_at W.history t.begin) n inside;
}

-- the whole array, once all blocks are held
pub all_held : (contents : Option (List ℕ)) (W : World) (t : Live) (n : ℕ) (hasher : Sha256) → length (array_at W.history t.begin) ≤ n → (held : HoldsFirst contents W t n hasher)
    → ForSome contents (λ _. held.message ≡ array_bytes (array_at W.history t.begin))
all_held contents W t n hasher most held bytes told = held.is bytes told ∙ ap array_bytes (take_all n (array_at W.history t.begin) most)

-- how many blocks the array has
pub block_count : {D : Type 0} (state : D → DiskState) (core : Core D) (W : World) (t : Live) → StandsFor state core W up → length (array_at W.history t.begin) ≡ W.geometry.blocks
block_count state core W t of = (array_shape W.geometry W.history t.begin of.kept_of.world.history).blocks
