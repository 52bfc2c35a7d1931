-- A crash after all calls: those up to the last sync were done, and those after it may be torn.
use Rattle.iso_memdisk.proofs.{Words.{◌≡◌, ℕ, List, length, take, drop, refl, sym, ◌∙◌, ap, subst, take-append-drop, Call, written, images_after, AllFit, TornBy, written-image}, Calls.{written-append, images_after-join, torn_image}}

module _ (calls : List Call) (stable : ℕ) (first mid last : List ℕ) (replayed : mid ≡ written (take stable calls) first) where
  pub crash_image : AllFit (length first) (take stable calls) → TornBy (drop stable calls) mid last → images_after calls first (λ c. c ≡ first) last
  crash_image fit torn =
      let only = λ (c : List ℕ). c ≡ first in
      let at_sync : images_after (take stable calls) first only mid = subst (images_after (take stable calls) first only) (sym replayed) (written-image (take stable calls) first only fit refl) in
      let whole = images_after-join (take stable calls) (drop stable calls) first only last (torn_image (drop stable calls) mid last (written (take stable calls) first) (images_after (take stable calls) first only) torn at_sync) in
      subst (λ (l : List Call). images_after l first only last) (take-append-drop stable calls) whole

  pub crash_written : last ≡ written (drop stable calls) mid → last ≡ written calls first
  crash_written is =
      is ∙ ap (written (drop stable calls)) replayed ∙ sym (written-append (take stable calls) (drop stable calls) first) ∙ ap (λ (l : List Call). written l first) (take-append-drop stable calls)
