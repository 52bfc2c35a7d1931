-- Bytes that are laid into a block.
use Rattle.store_model.proofs.Words.{◌≡◌, ℕ, ◌+◌, ◌-◌, ◌<◌, ◌≤◌, List, [], ◌∷◌, ◌++◌, length, take, drop, replicate, arith, length-append, AllByRecursion, to_be_bytes, w32, length-take-le, length-drop, length-replicate, laid_at, part_of, AreBytes, bytes_append, bytes_cons, bytes_drop, bytes_take, no_bytes, replicate_bytes, ◌∙◌, block_with}

pub length-laid_at : (at : ℕ) (bytes block : List ℕ) → at + length bytes ≤ length block → length (laid_at at bytes block) ≡ length block
length-laid_at at bytes block fits =
    omega (arith, length-append (take at block) (bytes ++ drop (at + length bytes) block), length-append bytes (drop (at + length bytes) block), length-take-le at block (omega arith), length-drop (at + length bytes) block)

pub laid_bytes : (at : ℕ) (bytes block : List ℕ) → AreBytes bytes → AreBytes block → AreBytes (laid_at at bytes block)
laid_bytes at bytes block new old =
    bytes_append (take at block) (bytes ++ drop (at + length bytes) block) (bytes_take at block old)
    (bytes_append bytes (drop (at + length bytes) block) new (bytes_drop (at + length bytes) block old))

-- bytes laid into zeros
pub length-block_with : (size at : ℕ) (bytes : List ℕ) → at + length bytes ≤ size → length (block_with size at bytes) ≡ size
length-block_with size at bytes fits = length-laid_at at bytes (replicate size 0) (omega (arith, fits, length-replicate {A = ℕ} size 0)) ∙ length-replicate size 0

pub block_with_bytes : (size at : ℕ) (bytes : List ℕ) → AreBytes bytes → AreBytes (block_with size at bytes)
block_with_bytes size at bytes values = laid_bytes at bytes (replicate size 0) values (replicate_bytes size 0 (omega arith))

-- the part that spells a text
pub length-part : (room : ℕ) (text : List ℕ) → length text ≤ room → length (part_of room text) ≡ room + 1
length-part room text fits = omega (arith, length-append text (replicate {A = ℕ} (room - length text) 0), length-replicate {A = ℕ} (room - length text) 0)

pub part_bytes : (room : ℕ) (text : List ℕ) → length text < 256 → AreBytes text → AreBytes (part_of room text)
part_bytes room text few bytes = grind (arith, bytes_cons, bytes_append, replicate_bytes)

all_small : (bytes : List ℕ) → AllByRecursion (λ b. b < 256) bytes → AreBytes bytes
all_small [] all = no_bytes
all_small (x ∷ bytes) all = bytes_cons x bytes all.0 (all_small bytes all.1)

pub word_bytes : (n : ℕ) → AreBytes (to_be_bytes w32 n)
word_bytes n = all_small (to_be_bytes w32 n) (omega arith, (omega arith, (omega arith, (omega arith, tt))))
