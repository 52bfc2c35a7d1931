-- What a disk tells after a run of calls that writes in one range alone.
use Rattle.half_switch.proofs.Words.{◌≡◌, ◌≤◌, ◌+◌, ◌-◌, ℕ, List, length, take, drop, Result, Ok, Err, OnErr, Option, Some, None, refl, ◌∙◌, arith, DiskState, IsLawful, IsSettled, LeavesOnly, Splices, TellsTorn, TornFrom, WritesNothing, weakened, torn_same, torn_twice, torn_wider, length-contents, tells_spliced, HalfPlace, IsPut}

pub on_err : {T E P : Type 0} (r : Result T E) → P → OnErr r P
on_err (Ok x) p = tt
on_err (Err e) p = p

-- a run that leaves the contents
pub tells_same : (from len : ℕ) (old new : DiskState) → new.contents ≡ old.contents → TellsTorn from len old new
tells_same from len old new same = record { told = λ c is. (c, same ∙ is, torn_same from len c); untold = λ is. same ∙ is }

-- at each moment of a run that writes nothing, an image is one from before it
pub inside_still : {old new : DiskState} (from len : ℕ) → WritesNothing old new → LeavesOnly old new (TornFrom from len old.now)
inside_still from len still = weakened still.moments (λ c image. record { old = c; was = image; torn = torn_same from len c })

-- one run more, in a part of the range
pub tells_more : (from len at n : ℕ) → from ≤ at → at + n ≤ from + len → (old mid new : DiskState) → TellsTorn from len old mid → TellsTorn at n mid new → TellsTorn from len old new
tells_more from len at n starts ends old mid new first second = search (arith, torn_twice, torn_wider)

-- one write more that is done
pub tells_written : (from len at : ℕ) (bytes : List ℕ) → from ≤ at → at + length bytes ≤ from + len → (old mid new : DiskState) → IsLawful mid → at + length bytes ≤ mid.size
    → TellsTorn from len old mid → Splices at bytes mid new → TellsTorn from len old new
tells_written from len at bytes starts ends old mid new laws fits first written =
    tells_more from len at (length bytes) starts ends old mid new first
    (tells_spliced mid new at bytes written (λ c told. let size = length-contents laws c told in omega (arith, size, fits)))

-- one call more that leaves the contents
pub tells_still : (from len : ℕ) (old mid new : DiskState) → TellsTorn from len old mid → new.contents ≡ mid.contents → TellsTorn from len old new
tells_still from len old mid new first same = grind arith

-- what the disk reads as after three writes and a sync
pub put_whole : (to : HalfPlace) (header base log : List ℕ) (old one two three new : DiskState) → Splices to.base base old one → Splices (to.header + 1) (take (length header - 1) (drop 1 header)) one two → Splices to.log log two three
    → new.contents ≡ three.contents → IsSettled new → (c : List ℕ) → new.now c → IsPut to header base log old.contents c
put_whole to header base log old one two three new first second third same settled c image = of_told old.contents refl
  where
    of_told : (o : Option (List ℕ)) → old.contents ≡ o → IsPut to header base log old.contents c
    of_told (Some d) is = record {
      old = d;
      was = is;
      is = cc (settled c image, same, third, second, first, is);
    }
    of_told None is = absurd (cc (settled c image, same, third, second, first, is))
