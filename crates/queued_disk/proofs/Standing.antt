-- What holds of the tape and the bytes, with one more call.
use Rattle.std.proofs.Common.{Bool, true, false, if◌then◌else◌, ◌≡◌, ◌≤◌, ◌+◌, ℕ, List, [], ◌∷◌, ◌++◌, length, Vec, sym, ◌∙◌, ap, subst, append_assoc}
use Rattle.std.specs.declared.alloc.Global.{Global}
use Rattle.iso_disk.specs.Disk.{spliced}
use Rattle.iso_memdisk.{proofs.Calls.{AllFit-push, AllFit-sync, written-append}, specs.{declared.record.Call.Call, declared.record.Call.TheVariants.{Write, Sync}, Record.{AllFit, written}}}

-- what holds of both outcomes holds of the one that came
pub either_way : (P : List Call → Type 0) (b : Bool) (xs ys : List Call) → P xs → P ys → P (if b then xs else ys)
either_way P true xs ys first second = first
either_way P false xs ys first second = second

module _ (before tape : List Call) where
  pub fits_sync : (n : ℕ) → AllFit n (before ++ tape) → AllFit n (before ++ (tape ++ Sync ∷ []))
  fits_sync n fit = subst (AllFit n) (append_assoc before tape (Sync ∷ [])) (AllFit-sync n (before ++ tape) fit)

  pub holds_sync : (first bytes : List ℕ) → bytes ≡ written (before ++ tape) first → bytes ≡ written (before ++ (tape ++ Sync ∷ [])) first
  holds_sync first bytes holds = holds ∙ sym (written-append (before ++ tape) (Sync ∷ []) first) ∙ ap (λ (l : List Call). written l first) (append_assoc before tape (Sync ∷ []))

  pub fits_write : (n at : ℕ) (put : Vec ℕ Global) → AllFit n (before ++ tape) → at + length put.items ≤ n → AllFit n (before ++ (tape ++ Write at put ∷ []))
  fits_write n at put fit lies = subst (AllFit n) (append_assoc before tape (Write at put ∷ [])) (AllFit-push n (before ++ tape) at put fit lies)

  pub holds_write : (first bytes new : List ℕ) (at : ℕ) (put : Vec ℕ Global) → bytes ≡ written (before ++ tape) first → new ≡ spliced bytes at put.items → new ≡ written (before ++ (tape ++ Write at put ∷ [])) first
  holds_write first bytes new at put holds is =
      is ∙ ap (λ (b : List ℕ). spliced b at put.items) holds ∙ sym (written-append (before ++ tape) (Write at put ∷ []) first) ∙ ap (λ (l : List Call). written l first) (append_assoc before tape (Write at put ∷ []))
