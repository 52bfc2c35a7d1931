-- What an image is opened to.
use Rattle.iso_recover.proofs.{Words.{◌≡◌, ◌⊎◌, inl, inr, ◌≤◌, ◌+◌, ◌-◌, ℕ, List, length, take, drop, map, Option, Some, None, Ok, IsErrOf, IsTrue, refl, sym, ◌∙◌, ap, arith, subst, AllByRecursion, ForSome, Geometry, LAST, Array, zeros, base_place, header_place, image_size, is_valid, log_place, History, all_own, IsRecord, Written, blocks_of, commits_of, half_header, written, empty_history, fresh, IsWorld, limits, empty_world_is, opened_is, told_again, DiskState, IsLawful, IsSettled, length-contents, Opened, Spelled, Half, HasLog, IsHeld, half_of_world, Extent, extent_of, OpenError, Disk, image_opens, Front, HasFront, IsFront, HoldsNothing, IsNew, IsOpened, opened_of, HasRead, read_bytes, IsIndexOf, BlockVersions}, Values.whole_bytes, Whole.whole_held}

-- the history over this base whose commits these records tell
abbrev pub told_history : Front → Array → List Written → History
told_history f B told = record { first = f.base + 1; base = B; commits = commits_of f.geometry (f.base + 1) told }

-- the half with them
abbrev pub told_half : Front → Array → List Written → Half
told_half f B told = record { at = f.half; generation = f.generation; base = f.base; array = B; told = told }

half_is : (f : Front) (B : Array) (told : List Written) → AllByRecursion (IsRecord f.geometry) told
    → half_of_world (fresh f.geometry f.generation (told_history f B told)) f.half ≡ told_half f B told
half_is f B told each =
    let base : f.base + 1 - 1 ≡ f.base = omega arith in
    let none : f.base + 1 - 1 + 1 - (f.base + 1) ≡ 0 = omega arith in
    let again : map (written f.geometry) (drop (f.base + 1 - 1 + 1 - (f.base + 1)) (commits_of f.geometry (f.base + 1) told)) ≡ told =
    ap (λ (k : ℕ). map (written f.geometry) (drop k (commits_of f.geometry (f.base + 1) told))) none ∙ told_again f.geometry (f.base + 1) told each in
    λ i. record {
      at = f.half;
      generation = f.generation;
      base = base i;
      array = all_own B (take (none i) (commits_of f.geometry (f.base + 1) told));
      told = again i;
    }

-- an image with this front and this log holds them
held_told : (f : Front) (size : ℕ) (told : List Written) (log : Extent) (index : List BlockVersions) (c : List ℕ) → IsFront f size → length c ≡ size → HasFront f c → HasRead f told log index
    → HasLog f.log f.geometry.log f.geometry (f.base + 1) told c
    → IsHeld f.geometry (told_half f (blocks_of f.geometry.block f.geometry.blocks (drop (base_place f.geometry f.half) c)) told) c
held_told f size told log index c is long front read has =
    let same : f.base ≡ f.base + 1 - 1 = omega arith in
    let base : f.base ≤ LAST = is.base in
    record {
      image = record {
        super = front.super;
        valid = is.valid;
        size = long ∙ is.size_is;
        half = f.half;
        current = front.current;
        header = subst (λ (n : ℕ). take 32 (drop (header_place f.geometry f.half) c) ≡ half_header 1 f.geometry.form f.generation n) same front.header;
        first = omega arith;
        generation_bound = is.generation;
        base_bound = omega arith;
        base = refl;
        told = told;
        each = read.each;
        last = omega (arith, read.numbers);
        commits = refl;
        log = subst (λ (p : ℕ). HasLog p f.geometry.log f.geometry (f.base + 1) told c) is.log has;
      };
      at_is = refl;
      told_is = refl;
    }

-- the base that the disk tells; where it tells nothing, zeros
abbrev pub base_of : Front → Option (List ℕ) → Array
base_of f (Some c) = blocks_of f.geometry.block f.geometry.blocks (drop (base_place f.geometry f.half) c)
base_of f None = zeros f.geometry.block f.geometry.blocks

-- what was read of a disk
pub record IsRead (f : Front) (told : List Written) (log : Extent) (index : List BlockVersions) (d : DiskState) : Type 0 where
  pub laws : IsLawful d
  pub front : IsFront f d.size
  pub read : HasRead f told log index
  pub told_front : ForSome d.contents (HasFront f)
  pub told_log : ForSome d.contents (HasLog f.log f.geometry.log f.geometry (f.base + 1) told)
  pub settled : IsSettled d

module _ (f : Front) (told : List Written) (log : Extent) (index : List BlockVersions) (d : DiskState) (r : IsRead f told log index d) where
  -- the images of now
  held_now : (c : List ℕ) → d.contents ≡ Some c → IsHeld f.geometry (told_half f (base_of f d.contents) told) c
  held_now c told_is =
      subst (λ (B : Array). IsHeld f.geometry (told_half f B told) c) (sym (ap (base_of f) told_is))
      (held_told f d.size told log index c r.front (length-contents r.laws c told_is) (r.told_front c told_is) r.read (r.told_log c told_is))

  world_by : (o : Option (List ℕ)) → d.contents ≡ o → IsWorld (fresh f.geometry f.generation (told_history f (base_of f o) told))
  world_by (Some c) told_is =
      let has : IsHeld f.geometry (told_half f (base_of f (Some c)) told) c = subst (λ (B : Array). IsHeld f.geometry (told_half f B told) c) (ap (base_of f) told_is) (held_now c told_is) in
      opened_is c f.geometry f.generation (told_history f (base_of f (Some c)) told) (r.laws.told_bytes c told_is) has.image
  world_by None told_is =
      let form : f.geometry.form ≤ 2 = (limits f.geometry r.front.valid).largest_form in
      let has = whole_held f.geometry f.generation f.base told (omega (arith, r.read.left)) r.front.valid r.front.generation r.read.numbers r.read.each in
      opened_is _ f.geometry f.generation (told_history f (base_of f None) told) (whole_bytes f.geometry f.generation f.base told (omega (arith, form)) r.read.values) has.image

  pub opens_to : (buffer : Spelled) → IsOpened (opened_of f log index buffer) (told_history f (base_of f d.contents) told) d
  opens_to buffer =
      let half = half_is f (base_of f d.contents) told r.read.each in
      let place : f.log ≡ log_place f.geometry f.half = r.front.log in
      let index_here : IsIndexOf f.geometry (f.base + 1) (log_place f.geometry f.half) f.base told index =
      subst (λ (p : ℕ). IsIndexOf f.geometry (f.base + 1) p f.base told index) place r.read.index_is in
      let log_here : log ≡ extent_of f.geometry (told_half f (base_of f d.contents) told) =
      r.read.log_is ∙ (λ i. record { place = place i; room = f.geometry.log; used = length (read_bytes f told); last = f.base + length told }) in
      record {
        to = record {
          world = world_by d.contents refl;
          base = refl;
          half = r.front.half;
          log = log_here ∙ ap (extent_of f.geometry) (sym half);
          index = subst (λ (l : List Written). IsIndexOf f.geometry (f.base + 1) (log_place f.geometry f.half) f.base l index) (sym (ap (λ (x : Half). x.told) half)) index_here;
        };
        size = r.front.size_is;
        holds = record {
          settled = r.settled;
          each = λ c image. subst (λ (x : Half). IsHeld f.geometry x c) (sym half) (held_now c (r.settled c image));
        };
        told = record {
          image = λ c told_is. (held_now c told_is).image;
          opens = λ c told_is. (image_opens c f.geometry f.generation (told_history f (base_of f d.contents) told) (held_now c told_is).image).opens;
        };
      }

-- after an answer that is Ok the disk did not fail
pub settled_ok : {T : Type 0} {P : Type 0} (x : T) → IsErrOf {T = T} {E = OpenError} (Ok x) Disk ⊎ P → P
settled_ok x (inl is) = absurd cc
settled_ok x (inr p) = p

-- ---- an image that was made

pub new_opens : (g : Geometry) (o : Opened) (d : DiskState) → IsTrue (is_valid g) → IsNew g o → d.size ≡ image_size g → IsSettled d → IsLawful d → ((c : List ℕ) → d.now c → HoldsNothing g c)
    → (o.geometry ≡ g) × (o.generation ≡ 1) × IsOpened o (empty_history g) d
new_opens g o d valid new size settled laws holds =
    subst (λ (x : Opened). (x.geometry ≡ g) × (x.generation ≡ 1) × IsOpened x (empty_history g) d) (sym new.is) (
      refl,
      refl,
      record {
        to = record {
          world = empty_world_is g 1 valid (omega arith);
          base = refl;
          half = omega arith;
          log = refl;
          index = record { blocks = new.blocks; each = λ b below. new.none b };
        };
        size = size;
        holds = record { settled = settled; each = holds };
        told = record {
          image = λ c told_is. (holds c (laws.reads_as_image c told_is)).image;
          opens = λ c told_is. (image_opens c g 1 (empty_history g) (holds c (laws.reads_as_image c told_is)).image).opens;
        };
      },
    )
