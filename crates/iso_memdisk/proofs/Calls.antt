-- What one more call comes to.
use Rattle.iso_memdisk.proofs.Words.{Bool, true, false, if◌then◌else◌, ◌≡◌, ◌≤◌, ◌+◌, ℕ, zero, suc, List, [], ◌∷◌, ◌++◌, length, refl, sym, ◌∙◌, subst, same_Some, Global, spliced, TornFrom, length-spliced, Call, Write, Sync, written, images_after, AllFit, TornBy}
use Rattle.std.specs.Prelude.{Vec}

pub written-append : (r s : List Call) (bytes : List ℕ) → written (r ++ s) bytes ≡ written s (written r bytes)
written-append [] s bytes = refl
written-append (Write at new ∷ r) s bytes = written-append r s (spliced bytes at new.items)
written-append (Sync ∷ r) s bytes = written-append r s bytes

-- calls that lie in the bytes leave their number
pub length-written : (calls : List Call) (bytes : List ℕ) → AllFit (length bytes) calls → length (written calls bytes) ≡ length bytes
length-written [] bytes fit = refl
length-written (Write at new ∷ calls) bytes fit =
    let same = length-spliced bytes at new.items (fit 0 at new refl) in
    length-written calls (spliced bytes at new.items) (λ k a v is. subst (λ (n : ℕ). a + length v.items ≤ n) (sym same) (fit (suc k) a v is)) ∙ same
length-written (Sync ∷ calls) bytes fit = length-written calls bytes (λ k a v is. fit (suc k) a v is)

-- first the one calls, then the others
pub images_after-append : (r s : List Call) (bytes : List ℕ) (images : List ℕ → Type 0) (c : List ℕ) → images_after (r ++ s) bytes images c → images_after s (written r bytes) (images_after r bytes images) c
images_after-append [] s bytes images c image = image
images_after-append (Write at new ∷ r) s bytes images c image = images_after-append r s (spliced bytes at new.items) (TornFrom at (length new.items) images) c image
images_after-append (Sync ∷ r) s bytes images c image = images_after-append r s bytes (λ c. c ≡ bytes) c image

pub images_after-join : (r s : List Call) (bytes : List ℕ) (images : List ℕ → Type 0) (c : List ℕ) → images_after s (written r bytes) (images_after r bytes images) c → images_after (r ++ s) bytes images c
images_after-join [] s bytes images c image = image
images_after-join (Write at new ∷ r) s bytes images c image = images_after-join r s (spliced bytes at new.items) (TornFrom at (length new.items) images) c image
images_after-join (Sync ∷ r) s bytes images c image = images_after-join r s bytes (λ c. c ≡ bytes) c image

-- what torn writes make of an image is an image after them
pub torn_image : (calls : List Call) (old new bytes : List ℕ) (images : List ℕ → Type 0) → TornBy calls old new → images old → images_after calls bytes images new
torn_image [] old new bytes images is image = subst images (sym is) image
torn_image (Write at b ∷ calls) old new bytes images (mid, torn, rest) image =
    torn_image calls mid new (spliced bytes at b.items) (TornFrom at (length b.items) images) rest (record { old = old; was = image; torn = torn })
torn_image (Sync ∷ calls) old new bytes images none image = absurd none

-- a write lies in n bytes
abbrev FitsIn : ℕ → Call → Type 0
FitsIn n (Write at new) = at + length new.items ≤ n
FitsIn n Sync = Unit {0}

-- one more write that lies in the bytes
pub AllFit-push : (n : ℕ) (calls : List Call) (at : ℕ) (new : Vec ℕ Global) → AllFit n calls → at + length new.items ≤ n → AllFit n (calls ++ Write at new ∷ [])
AllFit-push n [] at new fit lies zero a v is = subst (FitsIn n) (same_Some (Write at new) (Write a v) is) lies
AllFit-push n [] at new fit lies (suc k) a v is = absurd (cc is)
AllFit-push n (call ∷ calls) at new fit lies zero a v is = fit zero a v is
AllFit-push n (call ∷ calls) at new fit lies (suc k) a v is = AllFit-push n calls at new (λ j b w got. fit (suc j) b w got) lies k a v is

-- one more sync
pub AllFit-sync : (n : ℕ) (calls : List Call) → AllFit n calls → AllFit n (calls ++ Sync ∷ [])
AllFit-sync n [] fit zero a v is = absurd (cc is)
AllFit-sync n [] fit (suc k) a v is = absurd (cc is)
AllFit-sync n (call ∷ calls) fit zero a v is = fit zero a v is
AllFit-sync n (call ∷ calls) fit (suc k) a v is = AllFit-sync n calls (λ j b w got. fit (suc j) b w got) k a v is

-- what holds of both outcomes holds of the one that came
pub AllFit-if : (n : ℕ) (b : Bool) (xs ys : List Call) → AllFit n xs → AllFit n ys → AllFit n (if b then xs else ys)
AllFit-if n true xs ys first second = first
AllFit-if n false xs ys first second = second

pub written-if : (b : Bool) (xs ys : List Call) (bytes goal : List ℕ) → goal ≡ written xs bytes → goal ≡ written ys bytes → goal ≡ written (if b then xs else ys) bytes
written-if true xs ys bytes goal first second = first
written-if false xs ys bytes goal first second = second
