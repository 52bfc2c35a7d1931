-- The state of a mirror by its fields.
use Rattle.std.{specs.Prelude.{◌≡◌, ◌≢◌, ◌⊎◌, ℕ, ◌<◌, ◌^◌, false, List, Option, None, Result, OnOk, OnErr}, proofs.Common.{arith, lit<}}
use Rattle.counts.specs.Count.{Rose, faults_after}
use Rattle.iso_disk.specs.{Disk.{DiskState, IsLawful}, declared.disk.Disk.Ghosts, Untold.{untold, untold_is_lawful}}
use Rattle.mirror_disk.specs.{declared.slot.Slot.Slot, declared.used.Used.Used, declared.used.Used.TheVariants.{Plain, Both, OnlyFirst, OnlySecond, Broken, Unbound}, Failing.{AllFailed, CannotLeave, LeavesFailed}, Laws.lawful, declared.mirror.Mirror.Mirror, Pairs.named_by, Standing.{Stands, sides_in, state_in}}

abbrev pub state_of : {A B : Type 0} {g : Ghosts A} {h : Ghosts B} → Mirror A B g h → DiskState
state_of {g = g} {h = h} m = state_in m.marks.used (g.state m.first) (h.state m.second) m.past m.faults m.binds

-- Of a call that takes a mirror from `old` to `new`: each side in use has failed in it, or one has that cannot be left out, and which one
-- is left out.
abbrev pub HasAllFailed : {A B : Type 0} {g : Ghosts A} {h : Ghosts B} → Mirror A B g h → Mirror A B g h → Type 0
HasAllFailed {g = g} {h = h} old new = AllFailed old.marks.used (g.state old.first).faults (g.state new.first).faults (h.state old.second).faults (h.state new.second).faults

abbrev pub CannotBeLeft : {A B : Type 0} {g : Ghosts A} {h : Ghosts B} → Mirror A B g h → Mirror A B g h → Type 0
CannotBeLeft {g = g} {h = h} old new = CannotLeave old.marks.used old.marks.epoch (g.state old.first).faults (g.state new.first).faults (h.state old.second).faults (h.state new.second).faults

abbrev pub LeavesFailedOut : {A B : Type 0} {g : Ghosts A} {h : Ghosts B} → Mirror A B g h → Mirror A B g h → Type 0
LeavesFailedOut {g = g} {h = h} old new = LeavesFailed old.marks.used new.marks.used (g.state old.first).faults (g.state new.first).faults (h.state old.second).faults (h.state new.second).faults

-- What every call on a mirror leaves: where it is done a side is in use, one that is not in use is not called, and each fault is counted once.
pub record HasCalled {T E A B : Type 0} {g : Ghosts A} {h : Ghosts B} (old new : Mirror A B g h) (result : Result T E) : Type 0 where
  pub unbound : OnOk result (old.marks.used ≢ Unbound)
  pub goes_on : OnOk result (new.marks.used ≢ Broken)
  pub first_idle : (sides_in old.marks.used).0 ≡ false → new.first ≡ old.first
  pub second_idle : (sides_in old.marks.used).1 ≡ false → new.second ≡ old.second
  pub exact : (state_of new).faults ≡ faults_after (state_of old).faults result

-- a read: it asks the second side only where the first one failed, and fails where each side in use has
pub record HasRead {T E A B : Type 0} {g : Ghosts A} {h : Ghosts B} (old new : Mirror A B g h) (result : Result T E) : Type 0 where
  pub called : HasCalled old new result
  pub same : new.marks ≡ old.marks
  pub second_last : old.marks.used ≡ Both → Rose (g.state old.first).faults (g.state new.first).faults ⊎ (new.second ≡ old.second)
  pub counted : OnErr result (HasAllFailed old new)

-- a write or a sync: a side that fails is left out, or the mirror breaks
pub record HasChanged {T E A B : Type 0} {g : Ghosts A} {h : Ghosts B} (old new : Mirror A B g h) (result : Result T E) : Type 0 where
  pub called : HasCalled old new result
  pub breaks : OnErr result (old.marks.used ≡ Both → new.marks.used ≡ Broken)
  pub same : new.marks ≡ record old.marks { used = new.marks.used }
  pub left : LeavesFailedOut old new
  pub counted : OnErr result (HasAllFailed old new ⊎ CannotBeLeft old new)

size_in : (used : Used) (a b : DiskState) (past : List (ℕ × ℕ)) (faults binds : ℕ) → a.size < 2 ^ 64 → (state_in used a b past faults binds).size < 2 ^ 64
size_in Plain a b past faults binds fits = fits
size_in Both a b past faults binds fits = omega (arith, fits)
size_in OnlyFirst a b past faults binds fits = omega (arith, fits)
size_in OnlySecond a b past faults binds fits = omega (arith, fits)
size_in Broken a b past faults binds fits = omega (arith, fits)
size_in Unbound a b past faults binds fits = lit< tt

plain_lawful : (a : DiskState) (faults binds : ℕ) (named : List ℕ → Option (List ℕ)) → IsLawful a → IsLawful (record a { faults = faults; binds = binds; named = named })
plain_lawful a faults binds named laws = record { reads_as_image = laws.reads_as_image; counts_now = laws.counts_now; only_now = laws.only_now; counts_later = laws.counts_later; image_size = laws.image_size; told_bytes = laws.told_bytes }

lawful_in : (used : Used) (a b : DiskState) (past : List (ℕ × ℕ)) (e faults binds : ℕ) (one two : Slot) → Stands a b used past e one two → IsLawful a → IsLawful b → IsLawful (state_in used a b past faults binds)
lawful_in Plain a b past e faults binds one two stands first second = plain_lawful a faults binds (named_by a b) first
lawful_in Both a b past e faults binds one two stands first second = let pair = stands.pair ((λ is. cc is), (λ is. cc is)) in lawful past faults binds first second pair.sizes pair.rising
lawful_in OnlyFirst a b past e faults binds one two stands first second = let pair = stands.pair ((λ is. cc is), (λ is. cc is)) in lawful past faults binds first second pair.sizes pair.rising
lawful_in OnlySecond a b past e faults binds one two stands first second = let pair = stands.pair ((λ is. cc is), (λ is. cc is)) in lawful past faults binds first second pair.sizes pair.rising
lawful_in Broken a b past e faults binds one two stands first second = let pair = stands.pair ((λ is. cc is), (λ is. cc is)) in lawful past faults binds first second pair.sizes pair.rising
lawful_in Unbound a b past e faults binds one two stands first second = plain_lawful (untold 0 faults binds None) faults binds (named_by a b) (untold_is_lawful 0 faults binds None)

-- the laws of the trait
pub mirror_size : {A B : Type 0} {g : Ghosts A} {h : Ghosts B} → ((a : A) → (g.state a).size < 2 ^ 64) → (m : Mirror A B g h) → (state_of m).size < 2 ^ 64
mirror_size {g = g} {h = h} fits m = size_in m.marks.used (g.state m.first) (h.state m.second) m.past m.faults m.binds (fits m.first)

pub mirror_lawful : {A B : Type 0} {g : Ghosts A} {h : Ghosts B} → ((a : A) → IsLawful (g.state a)) → ((b : B) → IsLawful (h.state b)) → (m : Mirror A B g h) → IsLawful (state_of m)
mirror_lawful {g = g} {h = h} one two m = lawful_in m.marks.used (g.state m.first) (h.state m.second) m.past m.marks.epoch m.faults m.binds m.marks.first_slot m.marks.second_slot m.stands (one m.first) (two m.second)
