-- What is kept once the other half is the current one.
use Rattle.iso_core.proofs.{Words.{◌≡◌, ◌∙◌, sym, ap, ℕ, ◌+◌, ◌-◌, ◌*◌, ◌^◌, ◌<◌, ◌≤◌, List, length, drop, take, arith, subst, length-take-le, transport, take-append-drop, Half, half_of, half_of_world, in_form, told_bytes, log_inside, half_form, later_records, records_form, world_bytes, records-append, extent_of, image_size, log_place, last, Written, records, after_switch, World, floor, used, IsWorld, limits, floor_between, AreSplit, moved_to, IsIndexOf, all_at, AllLie, Lies, BlockVersions, no_version, versions_in, bytes_above, records_above, index_moved, index_split, Kept, IsOf}, Commits.held_records, Fetches.versions_lie, Numbers.{last_is, log_last, log_room}}
use Rattle.std.proofs.Common.{length-append}

module _ (kept : Kept) (W : World) (of : IsOf kept W) where
  -- the half, its records, and how many of them the floor leaves out
  abbrev pub here : Half
  here = half_of_world W kept.half

  abbrev pub left : ℕ
  left = floor W - W.base

  abbrev pub above_floor : ℕ
  above_floor = length (records W.geometry (floor W + 1) (drop left here.told))

  pub counts : (W.base ≤ floor W) × (floor W ≤ last W.history) × (W.base + length here.told ≡ last W.history) × (W.trim ≤ floor W)
  counts =
      let between = floor_between W of.world in
      let told = last_is W kept.half of.world in
      (omega (arith, of.world.base, between.0), between.1, told, between.0)

  pub weight : bytes_above (floor W) kept.index + 20 * (last W.history - floor W) ≡ above_floor
  weight =
      let (low, high, told, trim) = counts in
      let n : W.base + 1 + left ≡ floor W + 1 = omega (arith, low) in
      let m : W.base + 1 + left - 1 ≡ floor W = omega (arith, low) in
      let rest : length here.told - left ≡ last W.history - floor W = omega (arith, low, high, told) in
      let all = records_above W.geometry (W.base + 1) (log_place W.geometry kept.half) W.trim left here.told kept.index (held_records W kept.half of.world) of.keeps.index (omega (arith, trim, n)) in
      (λ i. bytes_above (sym m i) kept.index + 20 * sym rest i) ∙ all ∙ (λ i. length (records W.geometry (n i) (drop left here.told)))

  pub split_bytes : length (records W.geometry (W.base + 1) (take left here.told)) + above_floor ≡ used W
  split_bytes =
      let (low, high, told, trim) = counts in
      let fits : left ≤ length here.told = omega (arith, low, high, told) in
      let n : W.base + 1 + length (take left here.told) ≡ floor W + 1 = omega (arith, low, length-take-le left here.told fits) in
      let whole = ap (λ (l : List ℕ). length l) (records-append W.geometry (W.base + 1) (take left here.told) (drop left here.told))
      ∙ length-append (records W.geometry (W.base + 1) (take left here.told)) (records W.geometry (W.base + 1 + length (take left here.told)) (drop left here.told)) in
      let parts = ap (λ (l : List Written). length (records W.geometry (W.base + 1) l)) (take-append-drop left here.told) in
      omega (arith, whole, parts, ap (λ (k : ℕ). length (records W.geometry k (drop left here.told))) n, world_bytes W kept.half)

  -- the bytes above the floor, as they are counted
  pub weighs : (n to w : ℕ) → n ≡ kept.log.last → to ≡ floor W → w ≡ bytes_above to kept.index → w + 20 * (n - to) ≡ above_floor
  weighs n to w number to_is is =
      omega (arith, weight, is ∙ ap (λ (k : ℕ). bytes_above k kept.index) to_is, number, log_last kept W of.world of.keeps, to_is)

  -- and they are few
  pub small : (above_floor ≤ used W) × (used W + 1 ≤ W.geometry.log) × (W.geometry.log ≤ 67108864)
  small = (omega (arith, split_bytes), of.world.room, (limits W.geometry of.world.valid).largest_log)

  pub counted_small : (to : ℕ) → to ≡ floor W → bytes_above to kept.index < 2 ^ 64
  counted_small to to_is =
      let (few, room, most) = small in
      omega (arith, weight, ap (λ (k : ℕ). bytes_above k kept.index) to_is, few, room, most)

  -- the gate of the first record above the floor
  pub gate_is : (old_log bytes gate : ℕ) → old_log ≡ log_place W.geometry kept.half → bytes ≡ above_floor → gate ≡ old_log + used W - bytes
      → gate ≡ log_place W.geometry kept.half + length (records W.geometry (W.base + 1) (take left here.told))
  gate_is old_log bytes gate place is at = omega (arith, place, is, at, split_bytes)

  pub splits : (gate : ℕ) → gate ≡ log_place W.geometry kept.half + length (records W.geometry (W.base + 1) (take left here.told)) → (b : ℕ) → AreSplit gate (versions_in kept.index b)
  splits gate at b = subst (λ (n : ℕ). AreSplit n (versions_in kept.index b)) (sym at)
      (index_split W.geometry (W.base + 1) (log_place W.geometry kept.half) W.trim left here.told kept.index (held_records W kept.half of.world) of.keeps.index b)

  pub room_there : (new_log : ℕ) → new_log ≡ log_place W.geometry (1 - kept.half) → (block : ℕ) × (area : ℕ) × ((b : ℕ) → AllLie block area (versions_in kept.index b)) × (new_log + area < 2 ^ 64)
  room_there new_log place =
      let most = (limits W.geometry of.world.valid).image in (
        W.geometry.block,
        image_size W.geometry,
        (λ b. all_at (Lies W.geometry.block (image_size W.geometry)) no_version (versions_in kept.index b) (versions_lie kept W of b)),
        omega (arith, place, log_inside W.geometry (1 - kept.half) (omega arith), most),
      )

  pub places : (log_place W.geometry kept.half + W.geometry.log ≤ image_size W.geometry) × (image_size W.geometry ≤ 268435584)
  places = (log_inside W.geometry kept.half of.keeps.half, (limits W.geometry of.world.valid).image)

  -- what is kept is that of the world with its base at the floor
  module _ (form : ℕ) (next : IsWorld (after_switch W form)) (new_log bytes gate to_floor : ℕ) (index : List BlockVersions)
      (place : new_log ≡ log_place W.geometry (1 - kept.half)) (size : bytes ≡ above_floor) (to_is : to_floor ≡ floor W)
      (at : gate ≡ log_place W.geometry kept.half + length (records W.geometry (W.base + 1) (take left here.told)))
      (same : length index ≡ length kept.index) (moved : (b : ℕ) → versions_in index b ≡ moved_to gate new_log (versions_in kept.index b)) where
    there_is : half_of_world (after_switch W form) (1 - kept.half) ≡ half_of W.geometry (1 - kept.half) (W.generation + 1) (floor W) W.history
    there_is = half_form W.geometry form (1 - kept.half) (W.generation + 1) (floor W) W.history

    told_is : (half_of_world (after_switch W form) (1 - kept.half)).told ≡ drop left here.told
    told_is =
        let (low, high, told, trim) = counts in
        ap (λ (h : Half). h.told) there_is ∙ later_records W.geometry kept.half W.generation (W.generation + 1) W.base (floor W) W.history of.world.since low

    used_is : bytes ≡ length (told_bytes (after_switch W form).geometry (half_of_world (after_switch W form) (1 - kept.half)))
    used_is = size ∙ ap (λ (l : List ℕ). length l) (sym (records_form W.geometry form (floor W + 1) (drop left here.told)))
        ∙ (λ i. length (records (in_form form W.geometry) (floor W + 1) (sym told_is i)))

    log_is : record kept.log { place = new_log; used = bytes } ≡ extent_of (after_switch W form).geometry (half_of_world (after_switch W form) (1 - kept.half))
    log_is =
        let room = log_room kept W of.world of.keeps in
        let number = log_last kept W of.world of.keeps ∙ sym (last_is (after_switch W form) (1 - kept.half) next) in
        λ i. record { place = place i; room = room i; used = used_is i; last = number i }

    index_is : IsIndexOf (after_switch W form).geometry (floor W + 1) (log_place W.geometry (1 - kept.half)) (floor W) (half_of_world (after_switch W form) (1 - kept.half)).told index
    index_is =
        let (low, high, told, trim) = counts in
        let fits : left ≤ length here.told = omega (arith, low, high, told) in
        let n : W.base + 1 + left ≡ floor W + 1 = omega (arith, low) in
        let all = index_moved W.geometry (W.base + 1) (log_place W.geometry kept.half) W.trim left here.told kept.index (held_records W kept.half of.world) of.keeps.index
        new_log (floor W) index fits (omega (arith, trim, n)) (omega (arith, n)) same (λ b. moved b ∙ (λ i. moved_to (at i) new_log (versions_in kept.index b))) in
        let here_is = transport (λ i. IsIndexOf W.geometry (n i) (place i) (floor W) (sym told_is i) index) all in
        record { blocks = here_is.blocks; each = here_is.each }

    pub switches_so : IsOf (record kept {
      index = index;
      log = record kept.log { place = new_log; used = bytes };
      geometry = record kept.geometry { form = form };
      half = 1 - kept.half;
      generation = kept.generation + 1;
      base = to_floor;
      trim = to_floor;
    }) (after_switch W form)
    switches_so = record {
      world = next;
      keeps = record {
        geometry = λ i. record (of.keeps.geometry i) { form = form };
        half = omega (arith, of.keeps.half);
        generation = ap (λ (k : ℕ). k + 1) of.keeps.generation;
        base = to_is;
        trim = to_is;
        next = of.keeps.next;
        log = log_is;
        index = index_is;
        notes = record { from = of.keeps.notes.from; before = of.keeps.notes.before; notes = of.keeps.notes.notes };
        live = of.keeps.live;
      };
    }
