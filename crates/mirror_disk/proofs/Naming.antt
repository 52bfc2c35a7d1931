-- The name of a side is text.
use Rattle.mirror_disk.proofs.Words.{◌≡◌, ◌<◌, ◌+◌, ℕ, zero, suc, List, ◌++◌, ◌∷◌, [], length, take, subst, sym, lit<, IsAscii, IsUtf8, IsUtf8-append, IsUtf8-from_ascii}

one_ascii : (digit : ℕ) → digit < 128 → IsAscii (digit ∷ [])
one_ascii digit less zero = less
one_ascii digit less (suc i) = lit< tt

-- a buffer that begins with a name and a digit begins with text
pub named_text : (buffer name : List ℕ) (digit : ℕ) → take (length name + 1) buffer ≡ name ++ digit ∷ [] → digit < 128 → IsUtf8 name → IsUtf8 (take (length name + 1) buffer)
named_text buffer name digit laid less text = subst IsUtf8 (sym laid) (IsUtf8-append name (digit ∷ []) text (IsUtf8-from_ascii (digit ∷ []) (one_ascii digit less)))
