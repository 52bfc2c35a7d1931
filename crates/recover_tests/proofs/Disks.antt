-- The disk of the tests.
use Rattle.std.proofs.Common.{◌≡◌, List, Some, sym, ◌∙◌, ap, subst, ℕ}
use Rattle.iso_disk.specs.Disk.{IsSettled}
use Rattle.iso_memdisk.{specs.{MemDisk.{IsUntouched, Starts, state_of}, Record.{images_after, written}, declared.disk.MemDisk.MemDisk, declared.record.Call.Call}, proofs.Blank.still_starts}

-- a disk that was just made is settled
starts_settled : (d : MemDisk) (bytes : List ℕ) → Starts d bytes → IsSettled (state_of d)
starts_settled d bytes starts c image =
    let is : c ≡ d.first.items = subst (λ (calls : List Call). images_after calls d.first.items (λ (l : List ℕ). l ≡ d.first.items) c) starts.history image in
    ap Some (ap (λ (calls : List Call). written calls d.first.items) starts.history ∙ sym is)

-- so is one whose calls are to fail
pub failing_settled : (d e : MemDisk) (bytes : List ℕ) → Starts d bytes → IsUntouched d e → IsSettled (state_of e)
failing_settled d e bytes starts same = starts_settled e bytes (still_starts d e bytes same starts)
