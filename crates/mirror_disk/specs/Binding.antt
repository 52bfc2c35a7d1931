-- Why a mirror is not bound under a name of two sides, and what an Ok and a refusal have seen of the two names.
use Rattle.std.specs.{Prelude.{◌≡◌, ◌≢◌, ◌⊎◌, ◌-◌, ◌^◌, ◌<◌, ◌≤◌, ℕ, ◌+◌, Bool, true, false, List, [], Option, Some, None, Result, IfNone, IfOk, IfSome, IsSome, IsSomeAnd, OnOk, OnErr, length, replicate}, Option.ForSome}
use Rattle.iso_disk.specs.Disk.{DiskState, IsSettled, Splices}
use Rattle.counts.specs.Count.{HasCause, Rose}
use Rattle.mirror_disk.specs.{declared.marks.Marks.Marks, declared.used.Used.Used, declared.used.Used.TheVariants.{Both, Broken, OnlyFirst, OnlySecond, Plain, Unbound}, Adopting.{AdoptRefuses, AreAdopted, WasBound}, Header.blank_header, Pairs.{chosen_told, first_name, mirrored, names_mirror, second_name}, Standing.IsPair}

-- the name has no room for a byte more, or the size none for a header
abbrev pub IsTooLarge : List ℕ → Option ℕ → Type 0
IsTooLarge name want = (4095 < length name) ⊎ IsSomeAnd want (λ w. 2 ^ 64 - 65 < w)

-- A mirror that is to be made: both names were seen to be free, or each side is as it was. What is seen is said by the sides.
abbrev pub MakesOnFreeNames : {A B : Type 0} → (A → List ℕ → Bool → Type 0) → (B → List ℕ → Bool → Type 0) → Option ℕ → (old new : A) → (old' new' : B) → List ℕ → Type 0
MakesOnFreeNames first second want old new old' new' name =
    IfSome want (λ w. (first old (first_name name) true × second old' (second_name name) true) ⊎ ((new ≡ old) × (new' ≡ old')))

-- a mirror is to be made, and one of its names was not seen to be free
abbrev pub IsTaken : {A B : Type 0} → (A → List ℕ → Bool → Type 0) → (B → List ℕ → Bool → Type 0) → Option ℕ → A → B → List ℕ → Type 0
IsTaken first second want old old' name = IsSome want × (first old (first_name name) false ⊎ second old' (second_name name) false)

-- one of the two sides has failed
abbrev pub EitherFailed : {A B : Type 0} → (A → DiskState) → (B → DiskState) → (old new : A × B) → Type 0
EitherFailed first second old new = Rose (first old.0).faults (first new.0).faults ⊎ Rose (second old.1).faults (second new.1).faults

-- two sides that were bound to their names under that of a mirror are not taken for one
abbrev pub RefusesBound : {A B : Type 0} → (A → DiskState) → (B → DiskState) → (old : A × B) → List ℕ → Type 0
RefusesBound {A = A} {B = B} first second old name = (x : A) × (y : B) × WasBound (first old.0) (first x) (first_name name) × WasBound (second old.1) (second y) (second_name name) × AdoptRefuses (first x) (second y)

-- why a name of a mirror is not bound though no side failed, with a size or with none: what is seen of the two names is said by the sides
abbrev pub RefusesName : {A B : Type 0} → (A → DiskState) → (B → DiskState) → (A → List ℕ → Bool → Type 0) → (B → List ℕ → Bool → Type 0) → Option ℕ → (old : A × B) → List ℕ → Type 0
RefusesName first second sees sees' want old name =
    (IsTooLarge name want ⊎ IsTaken sees sees' want old.0 old.1 name) ⊎ ((want ≡ None) × RefusesBound first second old name)

-- and why it is not bound at all
abbrev pub BindFails : {A B : Type 0} → (A → DiskState) → (B → DiskState) → (A → List ℕ → Bool → Type 0) → (B → List ℕ → Bool → Type 0) → Option ℕ → (old new : A × B) → List ℕ → Type 0
BindFails first second sees sees' want old new name = EitherFailed first second old new ⊎ RefusesName first second sees sees' want old name

-- what a bind makes of a disk, or of a mirror: zeros with a size, and what had the name with none; nothing is bound where it fails
pub record BindsTo {T E : Type 0} (old new : DiskState) (name : List ℕ) (want : Option ℕ) (result : Result T E) : Type 0 where
  pub size : OnOk result (IfSome want (λ w. new.size ≡ w))
  pub blank : OnOk result (IfSome want (λ w. ForSome new.contents (λ c. c ≡ replicate w 0)))
  pub blank_after_crash : OnOk result (IfSome want (λ w. (c : List ℕ) → new.now c → c ≡ replicate w 0))
  pub existing : OnOk result (IfNone want (ForSome (old.named name) (λ c. new.contents ≡ Some c)))
  pub settled : OnOk result (IfNone want (IsSettled new))
  pub told : OnOk result (IsSome (old.named name) → IsSome new.contents)
  pub bound : OnOk result (new.bound ≡ Some (new.clock, name))
  pub unbound : OnErr result (new.bound ≡ None)

-- What a bind of a mirror makes of its sides, and which of them are in use then.
pub record BindsSides {T E A B : Type 0} (first : A → DiskState) (second : B → DiskState) (sees : A → List ℕ → Bool → Type 0) (sees' : B → List ℕ → Bool → Type 0) (want : Option ℕ) (old new : A × B) (name : List ℕ) (used : Used) (result : Result T E) : Type 0 where
  pub plain : names_mirror name ≡ false → used ≡ Plain
  pub alone : names_mirror name ≡ false → new.1 ≡ old.1
  pub goes_on : OnOk result (names_mirror name ≡ true → IsPair used × (used ≢ Broken))
  pub released : OnErr result (names_mirror name ≡ true → used ≡ Unbound)
  pub left_first : OnOk result (names_mirror name ≡ true → used ≡ OnlySecond → Rose (first old.0).faults (first new.0).faults)
  pub left_second : OnOk result (names_mirror name ≡ true → used ≡ OnlyFirst → Rose (second old.1).faults (second new.1).faults)
  pub made : OnOk result (names_mirror name ≡ true → IfSome want (λ w. used ≡ Both))
  pub made_free : names_mirror name ≡ true → MakesOnFreeNames sees sees' want old.0 new.0 old.1 new.1 name
  pub first_fails : OnErr result (names_mirror name ≡ false → Rose (first old.0).faults (first new.0).faults)
  pub fails : OnErr result (names_mirror name ≡ true → BindFails first second sees sees' want old new name)

-- What becomes of two sides that are bound to be a mirror: with a size both are in use and tell zeros, with none they tell what is chosen
-- of what both names had. Where that fails a side did, or they are refused for such a cause.
pub record BecomePair {E A B : Type 0} (first : A → DiskState) (second : B → DiskState) (old new : A × B) (name : List ℕ) (want : Option ℕ) (Refused : Type 0) (result : Result Marks E) : Type 0 where
  pub adopted : IfOk result (AreAdopted (first old.0) (second old.1) (first new.0) (second new.1))
  pub bound : OnOk result ((t : ℕ) × ((first new.0).bound ≡ Some (t, first_name name)))
  pub later : ((first old.0).faults ≤ (first new.0).faults) × ((second old.1).faults ≤ (second new.1).faults)
  pub made : IfOk result (λ m. IfSome want (λ w. m.used ≡ Both))
  pub size : OnOk result (IfSome want (λ w. (first new.0).size ≡ w + 64))
  pub blank : OnOk result (IfSome want (λ w. ForSome (chosen_told (first new.0).contents (second new.1).contents) (λ c. c ≡ replicate w 0)))
  pub blank_after_crash : OnOk result (IfSome want (λ w. (c : List ℕ) → (mirrored (first new.0) (second new.1) [] 0 0).now c → c ≡ replicate w 0))
  pub existing : OnOk result (IfNone want (ForSome (chosen_told ((first old.0).named (first_name name)) ((second old.1).named (second_name name))) (λ c. chosen_told (first new.0).contents (second new.1).contents ≡ Some c)))
  pub told : OnOk result (IsSome (chosen_told ((first old.0).named (first_name name)) ((second old.1).named (second_name name))) → IsSome (chosen_told (first new.0).contents (second new.1).contents))
  pub cause : OnErr result (EitherFailed first second old new ⊎ Refused)

-- what a side is once it has the header of a blank one, which is stable
pub record LaysHeader {T E : Type 0} (old new : DiskState) (result : Result T E) : Type 0 where
  pub size : new.size ≡ old.size
  pub bound : new.bound ≡ old.bound
  pub written : OnOk result (Splices 0 blank_header old new)
  pub settled : OnOk result (IsSettled new)
  pub cause : HasCause old.faults new.faults result

-- a name with room for a byte more, and that byte, which is ASCII
pub record HasRoomFor (name : List ℕ) (byte : ℕ) : Type 0 where
  pub short : length name ≤ 4095
  pub digit : byte < 128
