-- A block that is read by the versions of a core is the block at the transaction's begin.
use Rattle.iso_core.proofs.{Words.{◌≡◌, ◌∙◌, ◌⊎◌, inl, inr, ap, ℕ, ◌+◌, ◌*◌, ◌<◌, ◌≤◌, List, length, arith, subst, AllByRecursion, IsHeld, half_of_world, world_bytes, Array, base_place, image_size, array_at, records, block_at, World, Live, used, Version, Lies, ShowTheSame, ShowTheSameIn, upto, versions_in, IsOver, IsOverIn, Option, get_or, take, drop, refl, unwrap_or, length-whole_block, range_is_over, whole_block, whole_is_over, array_of, fetched, last_of, newest, all_lie, Kept, IsTx, IsOf}, Commits.held_records, Leaves.has_begun, Numbers.log_last}

module _ (kept : Kept) (W : World) (of : IsOf kept W) where
  -- the versions of a block lie in the image
  pub versions_lie : (b : ℕ) → AllByRecursion (Lies W.geometry.block (image_size W.geometry)) (versions_in kept.index b)
  versions_lie b =
      let x = half_of_world W kept.half in
      let taken : length (records W.geometry (W.base + 1) x.told) ≡ used W = world_bytes W kept.half in
      let room : used W + 1 ≤ W.geometry.log = of.world.room in
      all_lie W.geometry (W.base + 1) kept.half W.trim b x.told kept.index of.keeps.half (held_records W kept.half of.world) (omega (arith, taken, room)) of.keeps.index

  -- the block that is read so
  pub block_is : (t : Live) (tx b n : ℕ) (versions : List Version) (image block : List ℕ) → IsTx W tx t → n ≡ t.begin → IsHeld W.geometry (half_of_world W kept.half) image → b < W.geometry.blocks
      → length block ≡ W.geometry.block → (versions ≡ upto n (versions_in kept.index b)) ⊎ ((n ≡ kept.log.last) × ShowTheSame versions (versions_in kept.index b))
      → IsOver image (base_place W.geometry kept.half + b * W.geometry.block) versions block → block ≡ block_at (array_at W.history t.begin) b
  block_is t tx b n versions image block here begin held below long chosen over =
      let begun = has_begun W tx t of.world here in
      let trim : W.trim ≤ t.begin = begun.since in
      let from : W.base ≤ n = omega (arith, trim, of.world.base, begin) in
      let late : W.trim ≤ n = omega (arith, trim, begin) in
      elim chosen [
        | inl same ↦
            fetched W.geometry (half_of_world W kept.half) image held W.trim n b kept.index block of.keeps.index below long late (subst (λ (l : List Version). IsOver image (base_place W.geometry kept.half + b * W.geometry.block) l block) same over)
            ∙ ap (λ (A : Array). block_at A b) (array_of W.geometry kept.half W.generation W.base n W.history of.world.history of.world.since from)
            ∙ ap (λ (k : ℕ). block_at (array_at W.history k) b) begin
        | inr shows ↦
            newest W.geometry (half_of_world W kept.half) image held W.trim n b kept.index block of.keeps.index below long versions
            (last_of W.geometry kept.half W.generation W.base n W.history of.world.history of.world.since from (omega (arith, shows.0, log_last kept W of.world of.keeps))) shows.1 over
            ∙ ap (λ (A : Array). block_at A b) (array_of W.geometry kept.half W.generation W.base n W.history of.world.history of.world.since from)
            ∙ ap (λ (k : ℕ). block_at (array_at W.history k) b) begin
      ]

  -- bytes of it that are read so
  module _ (t : Live) (tx b n off len : ℕ) (versions : List Version) (image block : List ℕ) (here : IsTx W tx t) (begin : n ≡ t.begin) (held : IsHeld W.geometry (half_of_world W kept.half) image) (below : b < W.geometry.blocks)
      (fits : off + len ≤ W.geometry.block) (inside : off + len ≤ length block) (over : IsOverIn off (off + len) image (base_place W.geometry kept.half + b * W.geometry.block) versions block) where
    range_by : (shown : List Version) → (shown ≡ upto n (versions_in kept.index b)) ⊎ ((n ≡ kept.log.last) × ShowTheSame shown (versions_in kept.index b)) → ShowTheSameIn off (off + len) versions shown
        → take len (drop off block) ≡ take len (drop off (block_at (array_at W.history t.begin) b))
    range_by shown chosen same =
        let base : ℕ = base_place W.geometry kept.half + b * W.geometry.block in
        let size : ℕ = W.geometry.block in
        range_is_over image base size shown off len block fits inside (λ p from to. over p from to ∙ ap (λ (o : Option ℕ). unwrap_or o (get_or image (base + p) 0)) (same image p from to))
        ∙ ap (λ (l : List ℕ). take len (drop off l))
        (block_is t tx b n shown image (whole_block image base size shown) here begin held below (length-whole_block image base size shown) chosen (whole_is_over image base size shown))

    pub range_is : (versions ≡ upto n (versions_in kept.index b)) ⊎ ((n ≡ kept.log.last) × ShowTheSameIn off (off + len) versions (versions_in kept.index b))
        → take len (drop off block) ≡ take len (drop off (block_at (array_at W.history t.begin) b))
    range_is chosen = elim chosen [
      | inl same ↦ range_by versions (inl same) (λ c p from to. refl)
      | inr shows ↦ range_by (versions_in kept.index b) (inr (shows.0, λ c p. refl)) shows.1
    ]
