-- The calls since a disk was made or bound: what a read gives after them, what a crash may leave, what is stable.
use Rattle.std.specs.{Prelude.{◌≡◌, ◌≤◌, ℕ, ◌+◌, List, [], ◌∷◌, length, Some, Vec, slice_get}, declared.alloc.Global.Global}
use Rattle.iso_memdisk.specs.{declared.record.Call.Call, declared.record.Call.TheVariants.{Write, Sync}}
use Rattle.iso_disk.specs.Disk.{spliced, Torn, TornFrom}

-- the bytes that a read gives after these calls
abbrev pub written : List Call → List ℕ → List ℕ
written [] bytes = bytes
written (Write at new ∷ calls) bytes = written calls (spliced bytes at new.items)
written (Sync ∷ calls) bytes = written calls bytes

-- the bytes as of the last sync, where these were stable at first
abbrev pub synced : List Call → List ℕ → List ℕ → List ℕ
synced [] bytes stable = stable
synced (Write at new ∷ calls) bytes stable = synced calls (spliced bytes at new.items) stable
synced (Sync ∷ calls) bytes stable = synced calls bytes bytes

-- the images that a crash may leave after these calls, where it may have left those at first
abbrev pub images_after : List Call → List ℕ → (List ℕ → Type 0) → List ℕ → Type 0
images_after [] bytes images = images
images_after (Write at new ∷ calls) bytes images = images_after calls (spliced bytes at new.items) (TornFrom at (length new.items) images)
images_after (Sync ∷ calls) bytes images = images_after calls bytes (λ c. c ≡ bytes)

-- each write lies in n bytes
abbrev pub AllFit : ℕ → List Call → Type 0
AllFit n calls = (k at : ℕ) (new : Vec ℕ Global) → slice_get calls k ≡ Some (Write at new) → at + length new.items ≤ n

-- none of them is a sync
abbrev pub NoSync : List Call → Type 0
NoSync calls = (k : ℕ) → slice_get calls k ≡ Some Sync → ⊥

-- one image becomes another by writes that may each have left any bytes in its range
abbrev pub TornBy : List Call → List ℕ → List ℕ → Type 0
TornBy [] old new = new ≡ old
TornBy (Write at bytes ∷ calls) old new = (mid : List ℕ) × Torn at (length bytes.items) old mid × TornBy calls mid new
TornBy (Sync ∷ calls) old new = ⊥
