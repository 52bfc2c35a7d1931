-- The array that is read from a core's disk is that of its world.
use Rattle.iso_machine.proofs.BlockWords.{◌≡◌, ◌∙◌, sym, refl, subst, inl, ℕ, ◌+◌, ◌*◌, ◌<◌, ◌≤◌, List, [], length, map, Option, Some, None, option_map, unwrap_or, arith, IsSome, slice_index, range_with_len, ForSome, ext_get_or, get_or-map-range_with_len, length-map-range_with_len, DiskState, IsLawful, starts_unwritten, IsHeld, half_of_world, Geometry, Array, base_place, array_at, HasShape, block_at, World, Live, limits, array_shape, Version, byte_in, upto, versions_in, IsOver, Doing, IsArrayOf, Core, Kept, IsTx, IsWorkOf, StandsFor, disk_of, IsOf, up, block_is, IsGuest, tx_of, array_in, array_told, over_bytes}

length-over : (image : List ℕ) (base size : ℕ) (versions : List Version) → length (over_bytes image base size versions) ≡ size
length-over image base size versions = length-map-range_with_len (λ p. unwrap_or (byte_in image versions p) (slice_index image (base + p))) 0 size

is_over : (image : List ℕ) (base size : ℕ) (versions : List Version) → IsOver image base versions (over_bytes image base size versions)
is_over image base size versions p below =
    get_or-map-range_with_len (λ q. unwrap_or (byte_in image versions q) (slice_index image (base + q))) 0 size p p 0 (omega (arith, below, length-over image base size versions)) (omega arith)

pub array_is : (kept : Kept) (W : World) (of : IsOf kept W) (t : Live) (tx n : ℕ) (image : List ℕ) → IsTx W tx t → n ≡ t.begin → IsHeld W.geometry (half_of_world W kept.half) image
    → array_in kept n image ≡ array_at W.history t.begin
array_is kept W of t tx n image here begin held =
    subst (λ (g : Geometry). map (λ b. over_bytes image (base_place g kept.half + b * g.block) g.block (upto n (versions_in kept.index b))) (range_with_len 0 g.blocks) ≡ array_at W.history t.begin)
    (sym of.keeps.geometry) whole
  where
    g : Geometry
    g = W.geometry

    block : ℕ → List ℕ
    block b = over_bytes image (base_place g kept.half + b * g.block) g.block (upto n (versions_in kept.index b))

    shape : HasShape g (array_at W.history t.begin)
    shape = array_shape g W.history t.begin of.world.history

    count : length (map block (range_with_len 0 g.blocks)) ≡ g.blocks
    count = length-map-range_with_len block 0 g.blocks

    each : (b : ℕ) → b < g.blocks → block b ≡ block_at (array_at W.history t.begin) b
    each b below =
        block_is kept W of t tx b n (upto n (versions_in kept.index b)) image (block b) here begin held below
        (length-over image (base_place g kept.half + b * g.block) g.block (upto n (versions_in kept.index b))) (inl refl)
        (is_over image (base_place g kept.half + b * g.block) g.block (upto n (versions_in kept.index b)))

    whole : map block (range_with_len 0 g.blocks) ≡ array_at W.history t.begin
    whole = ext_get_or [] (map block (range_with_len 0 g.blocks)) (array_at W.history t.begin) (count ∙ sym shape.blocks)
        (λ b below. get_or-map-range_with_len block 0 g.blocks b b [] (omega (arith, count, below)) (omega arith) ∙ each b (omega (arith, count, below)))

told_from : {X : Type 0} (o : Option (List ℕ)) (f : List ℕ → X) → IsSome (option_map f o) → IsSome o
told_from None f some = absurd (cc some)
told_from (Some c) f some = refl

shown_from : {X : Type 0} (o : Option (List ℕ)) (f : List ℕ → X) (y : X) → ((c : List ℕ) → o ≡ Some c → f c ≡ y) → ForSome (option_map f o) (λ x. x ≡ y)
shown_from None f y each x is = cc
shown_from {X = X} (Some c) f y each x is = let same : f c ≡ x = cc in sym same ∙ each c refl

-- the array that the disk tells is that at the transaction's begin
pub array_shown : {D : Type 0} (state : D → DiskState) (core : Core D) (tx : ℕ) (doing : Doing) (W : World) (t : Live) → IsLawful (state (disk_of core)) → StandsFor state core W up → IsTx W tx t
    → IsWorkOf W t doing → ForSome (array_told state core doing.begin) (λ A. A ≡ array_at W.history t.begin)
array_shown state core tx doing W t laws of here work =
    shown_from (state (disk_of core)).contents (array_in core.kept doing.begin) (array_at W.history t.begin)
    (λ c told. array_is core.kept W of.kept_of t tx doing.begin c here work.begin (of.images.each c (laws.reads_as_image c told)))

-- A transaction that is live in the core's world is a guest of the core.
pub guest_begins : {D : Type 0} (state : D → DiskState) (core : Core D) (tx : ℕ) (doing : Doing) (W : World) (t : Live) → IsLawful (state (disk_of core)) → StandsFor state core W up → IsTx W tx t
    → IsWorkOf W t doing → length doing.accesses ≤ 4096
    → IsGuest state (λ V. StandsFor state core V up) (state (disk_of core)) doing (array_told state core doing.begin) core tx doing 0
guest_begins state core tx doing W t laws of here work few =
    let bounds = limits W.geometry of.kept_of.world.valid in
    let array = array_shown state core tx doing W t laws of here work in
    let shape = array_shape W.geometry W.history t.begin of.kept_of.world.history in
    record {
      world = W;
      live = t;
      was = of;
      here = here;
      size = work.size;
      blocks = work.blocks;
      stands = λ V stands. stands;
      unwritten = starts_unwritten laws;
      counts = record { later = omega arith; none = λ zero. refl; some = λ more. absurd (omega (arith, more)) };
      same = record { begin = refl; mode = refl; size = refl; blocks = refl };
      told = told_from (state (disk_of core)).contents (array_in core.kept doing.begin);
      shown = array;
      limits = record {
        least = omega (arith, work.size, bounds.least_block);
        most = omega (arith, work.size, bounds.largest_block);
        few = omega (arith, work.blocks, bounds.most_blocks);
        base = λ A told. subst (λ (B : Array). IsArrayOf (tx_of (array_told state core doing.begin) doing) B) (sym (array A told)) (record {
          blocks = shape.blocks ∙ sym work.blocks;
          bytes = λ b below. shape.bytes b (omega (arith, work.blocks, below)) ∙ sym work.size;
        });
        count = few;
      };
    }
