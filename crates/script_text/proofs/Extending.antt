-- Texts that grow.
use Rattle.script_text.proofs.Words.{◌≡◌, ◌∙◌, ap, ℕ, List, ◌++◌, append_assoc, Result, Ok, Err, OnErr, OnOk, Extends}

-- what extends a text that extends another extends that one
pub on_err : {T E : Type 0} (r : Result T E) (old mid new first : List ℕ) → mid ≡ old ++ first → OnErr r (Extends mid new) → OnErr r (Extends old new)
on_err (Ok x) old mid new first is extends = tt
on_err (Err e) old mid new first is extends =
    record { rest = first ++ extends.rest; is = extends.is ∙ ap (λ (text : List ℕ). text ++ extends.rest) is ∙ append_assoc old first extends.rest }

pub always : {T E P : Type 0} (r : Result T E) → P → OnErr r P
always (Ok x) p = tt
always (Err e) p = p

-- two texts, one after the other, where the second could be added
pub on_two : {T E : Type 0} (r : Result T E) (old mid new a m b n : List ℕ) → mid ≡ old ++ (a ++ m) → OnOk r (new ≡ mid ++ (b ++ n)) → OnOk r (new ≡ old ++ (a ++ m ++ b ++ n))
on_two (Ok x) old mid new a m b n first second = second ∙ ap (λ (text : List ℕ). text ++ (b ++ n)) first ∙ simp append_assoc
on_two (Err e) old mid new a m b n first second = tt
