-- Lemmas about recorded calls, which the laws of a disk cite: the bytes that they wrote may be left by a crash, and the length stays.
use Rattle.std.{specs.Prelude.{◌≡◌, ◌≤◌, ◌+◌, ℕ, zero, suc, List, [], ◌∷◌, length, take, refl}, proofs.Common.{ap, subst, sym, ◌∙◌}, proofs.lemmas.Option.none-some}
use Rattle.iso_disk.{specs.Disk.{spliced, TornFrom}, proofs.Bytes.{length-spliced, spliced_torn}}
use Rattle.iso_memdisk.specs.{declared.record.Call.Call, declared.record.Call.TheVariants.{Write, Sync}, Record.{written, images_after, AllFit}}

-- the bytes after the calls are one of the images that a crash may leave
pub written-image : (calls : List Call) (bytes : List ℕ) (images : List ℕ → Type 0) → AllFit (length bytes) calls → images bytes → images_after calls bytes images (written calls bytes)
written-image [] bytes images fit here = here
written-image (Write at new ∷ calls) bytes images fit here =
    let lies = fit 0 at new refl in
    let same = length-spliced bytes at new.items lies in
    written-image calls (spliced bytes at new.items) (TornFrom at (length new.items) images) (λ k a v is. subst (λ (n : ℕ). a + length v.items ≤ n) (sym same) (fit (suc k) a v is)) (record { old = bytes; was = here; torn = spliced_torn bytes at new.items lies })
written-image (Sync ∷ calls) bytes images fit here = written-image calls bytes (λ c. c ≡ bytes) (λ k a v is. fit (suc k) a v is) refl

-- the images keep the length
pub length-images_after : (calls : List Call) (bytes : List ℕ) (images : List ℕ → Type 0) → AllFit (length bytes) calls → ((c : List ℕ) → images c → length c ≡ length bytes) → (c : List ℕ) → images_after calls bytes images c → length c ≡ length bytes
length-images_after [] bytes images fit here c image = here c image
length-images_after (Write at new ∷ calls) bytes images fit here c image =
    let same = length-spliced bytes at new.items (fit 0 at new refl) in
    length-images_after calls (spliced bytes at new.items) (TornFrom at (length new.items) images) (λ k a v is. subst (λ (n : ℕ). a + length v.items ≤ n) (sym same) (fit (suc k) a v is)) (λ d t. t.torn.size ∙ here t.old t.was ∙ sym same) c image ∙ same
length-images_after (Sync ∷ calls) bytes images fit here c image =
    length-images_after calls bytes (λ c. c ≡ bytes) (λ k a v is. fit (suc k) a v is) (λ d is. ap length is) c image

-- the first calls lie in the bytes too
pub AllFit-take : (n m : ℕ) (calls : List Call) → AllFit n calls → AllFit n (take m calls)
AllFit-take n zero calls fit k a v is = absurd (none-some (Write a v) is)
AllFit-take n (suc m) [] fit k a v is = absurd (none-some (Write a v) is)
AllFit-take n (suc m) (call ∷ calls) fit zero a v is = fit zero a v is
AllFit-take n (suc m) (call ∷ calls) fit (suc k) a v is = AllFit-take n m calls (λ j b w got. fit (suc j) b w got) k a v is
