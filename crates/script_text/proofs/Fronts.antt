-- What is from a place on, once a part that begins there was written.
use Rattle.script_text.proofs.Words.{◌≡◌, ◌∙◌, ap, ℕ, ◌+◌, ◌≤◌, List, ◌++◌, length, take, drop, drop_at, length-take-le, drop-drop, put_mid}

pub from_part : (a k end : ℕ) (xs ys : List ℕ) → a ≤ length xs → a + k ≡ end → drop a (put_mid a k xs ys) ≡ ys ++ drop end xs
from_part a k end xs ys within e =
    drop_at (take a xs) _ a (length-take-le a xs within) ∙ ap (λ rest. ys ++ rest) (drop-drop k a xs ∙ ap (λ n. drop n xs) e)
