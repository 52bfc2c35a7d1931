-- What a call begins with, once an image is bound, and made or opened.
use Rattle.iso_top.proofs.Words.{◌≡◌, inl, inr, ⊎_elim, ℕ, List, Option, Some, None, IsTrue, refl, sym, ◌∙◌, subst, arith, ◌⊎◌, same_Some, ForSome, DiskState, IsLawful, IsSettled, LeavesOnly, StaysTold, WritesNothing, joined, since_bind, still_bound, weakened, told_same, half_shows, Geometry, is_valid, World, empty_history, fresh, IsWorld, LeadsTo, empty_world_is, Core, StandsFor, disk_of, up, shows, IsBlamed, IsTest, IsUnmadeOrEmpty, HasOpened, OpenError, refusal, ShowsBetween, between_on, shows_last, HasCore, HasNoCore, HasBegun, GoesOnTelling, IsUntouched, MayBeUnmade, WasBoundOnce}

-- the world of a new image
abbrev new_world : Geometry → World
new_world g = fresh g 1 (empty_history g)

-- an image of a format that nothing was committed to shows the empty history
empty_shows : (g : Geometry) → IsTrue (is_valid g) → (c : List ℕ) → IsUnmadeOrEmpty g c → MayBeUnmade (Some g) c ⊎ ShowsBetween (new_world g) (new_world g) c
empty_shows g valid c (inl unmade) = inl unmade
empty_shows g valid c (inr held) =
    let sound : IsWorld (new_world g) = empty_world_is g 1 valid (omega arith) in
    inr (shows_last (new_world g) c (half_shows g g.form 0 1 0 (empty_history g) c sound.history (omega arith) (omega arith) held))

module _ {D : Type 0} (state : D → DiskState) (lawful : (d : D) → IsLawful (state d)) (name : List ℕ) (image bound : D)
    (binds : (state bound).bound ≡ Some ((state bound).clock, name)) (once : WasBoundOnce (state image) (state bound)) (told : GoesOnTelling name (state image) (state bound)) (faults : (state bound).faults ≡ (state image).faults) where
  pub made_core : (g : Geometry) (core : Core D) → IsTrue (is_valid g) → StandsFor state core (new_world g) up
      → LeavesOnly (state bound) (state (disk_of core)) (IsUnmadeOrEmpty g) → StaysTold (state bound) (state (disk_of core)) → (state (disk_of core)).faults ≡ (state bound).faults
      → HasCore state (Some g) name image core
  made_core g core valid stands moments keeps same = record {
    world = new_world g;
    stands = stands;
    idle = refl;
    next = omega arith;
    starts = refl;
    told = λ some. keeps (told some);
    faults = same ∙ faults;
    bound = bound;
    binds = binds;
    once = once;
    untouched = moments;
    moments = weakened moments (empty_shows g valid);
  }

  pub made_not : (g : Geometry) (e : OpenError) (new : D) → (IsTest e → ⊥) → LeavesOnly (state bound) (state new) (IsUnmadeOrEmpty g) → IsBlamed (state bound).faults (state new).faults e
      → HasNoCore (Some g) name e (state image) (state new)
  made_not g e new never moments blamed = record {
    unbegun = inr (still_bound name moments ((state bound).clock, binds), since_bind name binds moments);
    once = moments.same_binds ∙ once;
    refused = λ test. absurd (never test);
    cause = subst (λ (n : ℕ). IsBlamed n (state new).faults e) faults blamed;
  }

  -- over an image as given, which is stable now
  module _ (settled : IsSettled (state bound)) (existing : ForSome ((state image).named name) (λ c. (state bound).contents ≡ Some c)) where
    as_given : (c : List ℕ) → (state bound).now c → IsUntouched None ((state image).named name) c
    as_given c image_now given is = same_Some c given (sym (settled c image_now) ∙ existing given is)

    pub opened_core : (core : Core D) → HasOpened state core (state bound).contents → WritesNothing (state bound) (state (disk_of core))
        → (state (disk_of core)).faults ≡ (state bound).faults → HasCore state None name image core
    opened_core core has still same =
        let W : World = fresh has.geometry has.generation has.history in
        let between : (c : List ℕ) → (state bound).now c → ShowsBetween W W c =
        λ c here. shows_last W c (shows state core W has.stands c ((lawful (disk_of core)).reads_as_image c (still.same_contents ∙ settled c here))) in
        record {
          world = W;
          stands = has.stands;
          idle = refl;
          next = omega arith;
          starts = record {
            geometry = has.geometry;
            generation = has.generation;
            history = has.history;
            told = record { image = λ c is. has.told.image c (existing c is); opens = λ c is. has.told.opens c (existing c is) };
            world_is = refl;
          };
          told = λ some. told_same (state bound) (state (disk_of core)) still.same_contents (told some);
          faults = same ∙ faults;
          bound = bound;
          binds = binds;
          once = once;
          untouched = weakened still.moments as_given;
          moments = weakened still.moments (λ c here. inr (between c here));
        }

    pub opened_not : (e : OpenError) (new : D) → (IsTest e → ForSome (state bound).contents (λ c. refusal c ≡ Some e)) → WritesNothing (state bound) (state new)
        → IsBlamed (state bound).faults (state new).faults e → HasNoCore None name e (state image) (state new)
    opened_not e new refuses still blamed = record {
      once = still.moments.same_binds ∙ once;
      unbegun = inr (still_bound name still.moments ((state bound).clock, binds), since_bind name binds (weakened still.moments as_given));
      refused = λ test. (refl, λ c is. refuses test c (existing c is));
      cause = subst (λ (n : ℕ). IsBlamed n (state new).faults e) faults blamed;
    }

-- a run from the world that a call begins with
pub begun : {D : Type 0} (state : D → DiskState) (made : Option Geometry) (name : List ℕ) (disk new : D) (core : Core D) (has : HasCore state made name disk core) (V : World)
    → LeadsTo has.world V → LeavesOnly (state (disk_of core)) (state new) (ShowsBetween has.world V) → HasBegun made name (state disk) (state (disk_of core)) (state new) has.world V
begun state made name disk new core has V leads run =
    let W = has.world in
    let sound : IsWorld W = has.stands.kept_of.world in
    let before : LeavesOnly (state has.bound) (state (disk_of core)) (λ c. MayBeUnmade made c ⊎ ShowsBetween W V c) =
    weakened has.moments (λ c shown. ⊎_elim inl (λ b. inr (between_on W W V sound leads c b)) shown) in
    let whole : LeavesOnly (state has.bound) (state new) (λ c. MayBeUnmade made c ⊎ ShowsBetween W V c) = joined before (weakened run (λ c b. inr b)) in
    record {
      starts = has.starts;
      sound = sound;
      told = has.told;
      faults = has.faults;
      bound = still_bound name whole ((state has.bound).clock, has.binds);
      once = whole.same_binds ∙ has.once;
      since = since_bind name has.binds whole;
    }
