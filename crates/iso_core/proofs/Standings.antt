-- A core whose images stay, while what it keeps in memory changes.
use Rattle.iso_core.proofs.Words.{arith, ◌≡◌, ◌∙◌, Becomes, ℕ, ◌+◌, IsIndexOf, NotesSince, Begun, IsWorld, at_work, bare, map, half_of_world, log_place, List, false, Result, Ok, Err, IfOk, DiskState, IsLawful, WritesNothing, at_end, stays, stays_settled, World, Live, Kept, AreImages, AreOf, IsOf, Standing, up, down}

pub if_ok : {A E : Type 0} {P Q : A → Type 0} (result : Result A E) → ((x : A) → P x → Q x) → IfOk result P → IfOk result Q
if_ok (Ok x) more is = more x is
if_ok (Err e) more is = is

-- the images do not hang on the transactions and the trim number
images_stay : (standing : Standing) (d : DiskState) (half : ℕ) (W : World) (live : List Live) (next trim : ℕ)
    → AreImages standing d half W → AreImages standing d half (record W { live = live; next = next; trim = trim })
images_stay up d half W live next trim images = record { settled = images.settled; each = images.each }
images_stay (down lost) d half W live next trim images = images

pub stands_on : (d : DiskState) (kept new : Kept) (W : World) (standing : Standing) (live : List Live) (next trim : ℕ) → AreOf d kept W standing
    → new.half ≡ kept.half → new.down ≡ kept.down → IsOf new (record W { live = live; next = next; trim = trim })
    → AreOf d new (record W { live = live; next = next; trim = trim }) standing
stands_on d kept new W standing live next trim of half down_is is = grind (arith, images_stay)

pub stands_as : (d : DiskState) (kept new : Kept) (W : World) (standing : Standing) (live : List Live) (next trim : ℕ) → AreOf d kept W standing
    → Becomes kept new (record W { live = live; next = next; trim = trim }) → AreOf d new (record W { live = live; next = next; trim = trim }) standing
stands_as d kept new W standing live next trim of is = stands_on d kept new W standing live next trim of is.half is.down is.of

-- one change after another
pub becomes_then : {old mid new : Kept} {V U : World} → Becomes old mid V → Becomes mid new U → Becomes old new U
becomes_then first second = record { of = second.of; half = second.half ∙ first.half; down = second.down ∙ first.down }

-- while nothing is written the core is as before
pub stands_still : (old new : DiskState) (kept : Kept) (W : World) (standing : Standing) → IsLawful new → AreOf old kept W standing → WritesNothing old new → AreOf new kept W standing
stands_still old new kept W standing laws of still = record {
  kept_of = of.kept_of;
  is_down = of.is_down;
  size = still.moments.same_size ∙ of.size;
  images = go standing of.images;
}
  where
    go : (s : Standing) → AreImages s old kept.half W → AreImages s new kept.half W
    go up images = record { settled = stays_settled laws still images.settled; each = at_end laws (stays still images.each) }
    go (down lost) images = at_end laws (stays still images)

-- so while its disk is bound anew
pub stands_bound : (old new : DiskState) (kept : Kept) (W : World) (standing : Standing) → IsLawful new → AreOf old kept W standing → WritesNothing old (record new { bound = old.bound }) → AreOf new kept W standing
stands_bound old new kept W standing laws of still = record { kept_of = is.kept_of; is_down = is.is_down; size = is.size; images = go standing is.images }
  where
    as_bound : IsLawful (record new { bound = old.bound })
    as_bound = record { reads_as_image = laws.reads_as_image; counts_now = laws.counts_now; only_now = laws.only_now; counts_later = laws.counts_later; image_size = laws.image_size; told_bytes = laws.told_bytes }

    is : AreOf (record new { bound = old.bound }) kept W standing
    is = stands_still old (record new { bound = old.bound }) kept W standing as_bound of still

    go : (s : Standing) → AreImages s (record new { bound = old.bound }) kept.half W → AreImages s new kept.half W
    go up images = record { settled = images.settled; each = images.each }
    go (down lost) images = images

-- a core that is not down is up
pub up_of : (d : DiskState) (kept : Kept) (W : World) (standing : Standing) → AreOf d kept W standing → kept.down ≡ false → AreOf d kept W up
up_of d kept W up of is = of
up_of d kept W (down lost) of is = cc (of.is_down, is)

-- what is kept with another index and other notes, and with whatever a world does not tell
pub kept_with : (kept other : Kept) (W : World) → IsOf kept W → IsIndexOf W.geometry (W.base + 1) (log_place W.geometry kept.half) W.trim (half_of_world W kept.half).told other.index → NotesSince W other.notes
    → IsOf (record kept { index = other.index; notes = other.notes; buffer = other.buffer; parts = other.parts; down = other.down }) W
kept_with kept other W of index notes = grind arith

-- what is kept where others are live, and the next number is another
pub kept_live : (kept : Kept) (W : World) (entered : List (ℕ × Begun)) (number next : ℕ) (live : List Live) → IsOf kept W → IsWorld (record W { live = live; next = next })
    → NotesSince (record W { live = live; next = next }) kept.notes → number ≡ next → map at_work entered ≡ map bare live → IsOf (record kept { live = entered; next = number }) (record W { live = live; next = next })
kept_live kept W entered number next live of is notes next_is live_is = grind arith
