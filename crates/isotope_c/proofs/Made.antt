-- A disk of bytes on which nothing was called, and how an image of them is refused.
use Rattle.std.proofs.Common.{◌≡◌, ◌∙◌, ap, pos, arith, List, [], ℕ, Some}
use Rattle.iso_image.specs.declared.open_error.OpenError.{OpenError}
use Rattle.iso_image.specs.declared.open_error.OpenError.TheVariants as image
use Rattle.iso_memdisk.specs.{declared.record.Call.Call, Record.written}
use Rattle.iso_recover.specs.Cause.{IsTest}
use Rattle.queued_disk.specs.{declared.queued.QueuedDisk.QueuedDisk, Queued.{calls_of, file_of, file_with, given, handed_on, state_of}}
use Rattle.isotope_c.specs.Codes.{code_of_open}

-- it tells these bytes
pub tells : (d : QueuedDisk) (bytes : List ℕ) → given d ≡ bytes → calls_of d ≡ [] → (state_of d).contents ≡ Some bytes
tells d bytes same none = ap (λ (calls : List Call). Some (written calls (given d))) none ∙ ap Some same

-- and its file has them
pub named : (d : QueuedDisk) {bytes : List ℕ} → handed_on d ≡ [] → given d ≡ bytes → file_of d ≡ file_with bytes []
named d none same = λ i. file_with (same i) (none i)

-- an error that is no test of the image has no status of a refusal
pub no_refusal : (e : OpenError) → (IsTest e → ⊥) → (code_of_open e ≡ pos 26 → ⊥) × (code_of_open e ≡ pos 35 → ⊥)
no_refusal image.Disk sound = (λ is. grind arith, λ is. grind arith)
no_refusal image.Memory sound = (λ is. grind arith, λ is. grind arith)
no_refusal e sound = absurd (sound tt)

-- no error has the status of an image that is open
pub never_done : (e : OpenError) → code_of_open e ≡ pos 0 → ⊥
never_done image.NotIsotope is = grind arith
never_done (image.BadGeometry field) is = grind arith
never_done (image.WrongSize want have) is = grind arith
never_done image.NoHalf is = grind arith
never_done (image.Damaged at cause) is = grind arith
never_done (image.UnknownForm form) is = grind arith
never_done image.Disk is = grind arith
never_done image.Memory is = grind arith
