use Rattle.iso_tree.proofs.{Words.{◌≡◌, ◌∙◌, sym, refl, ap, subst, ℕ, suc, ◌+◌, ◌/◌, ◌≤◌, List, length, take, Ok, rules, arith, cell_count, keys_end, AreBlocks, Done, HasRun, Cell, key_in_row, node_bytes, root_cells, spelled, store_nodes, Err, climb, nodes_from, room_of, value_part}, Climbing.{IsFirst, full_some, grown_writes, halves_writes, node_long, node_usable, node_inside, others_inside, others_room, others_usable, rest_enough, followed_end, root_run}, Filling.key_fits, Rereading.path_room}
use Rattle.iso_tree.proofs.climb.+climb.Goals as goal

pub split_at-requires : goal.split_at-requires
split_at-requires g t c =
    (path_room c.args.way.now.area.size (length c.args.way.now.nodes.now) c.in-Some.block c.in-Some.count c.in-Some.path.now c.args.way.now.path.now c.in-Some.ensures.some c.args.way.now.room).0

pub place_in-place-requires-clause-node : goal.place_in-place-requires-clause-node
place_in-place-requires-clause-node g t c =
    let w = c.args.way.now in
    let f : IsFirst w c.in-Some.block c.in-Some.count c.in-Some.path.now c.split_at.result.0.now c.split_at.result.1.now = record { is = c.in-Some.ensures.some; node_is = c.split_at.ensures.front; others_are = c.split_at.ensures.back } in
    let u = node_usable w _ _ _ _ _ f in
    record { least = w.kind.least_size; long = node_long w _ _ _ _ _ f; parts = u.parts; few = omega (arith, u.count_is, u.few) }

pub place_in-place-requires-clause-some : goal.place_in-place-requires-clause-some
place_in-place-requires-clause-some g t c =
    let w = c.args.way.now in
    let f : IsFirst w c.in-Some.block c.in-Some.count c.in-Some.path.now c.split_at.result.0.now c.split_at.result.1.now = record { is = c.in-Some.ensures.some; node_is = c.split_at.ensures.front; others_are = c.split_at.ensures.back } in
    let u = node_usable w _ _ _ _ _ f in omega (arith, u.count_is, u.some)

pub invariant_of-growth : goal.invariant_of-growth
invariant_of-growth g t c =
    let w = c.args.way.now in
    let f : IsFirst w c.in-Some.block c.in-Some.count c.in-Some.path.now c.split_at.result.0.now c.split_at.result.1.now = record { is = c.in-Some.ensures.some; node_is = c.split_at.ensures.front; others_are = c.split_at.ensures.back } in
    record { kind = w.kind; long = node_long w _ _ _ _ _ f; parts = (node_usable w _ _ _ _ _ f).parts; few = (let u = node_usable w _ _ _ _ _ f in omega (arith, u.count_is, u.few)); inside = c.place_in-place.ensures.most }

pub store_grown-requires-clause-block : goal.store_grown-requires-clause-block
store_grown-requires-clause-block g t c =
    let w = c.args.way.now in
    let f : IsFirst w c.in-Some.block c.in-Some.count c.in-Some.path.now c.split_at.result.0.now c.split_at.result.1.now = record { is = c.in-Some.ensures.some; node_is = c.split_at.ensures.front; others_are = c.split_at.ensures.back } in
    node_inside w _ _ _ _ _ f

pub store_grown-requires-clause-writes : goal.store_grown-requires-clause-writes
store_grown-requires-clause-writes g t c =
    let w = c.args.way.now in
    let f : IsFirst w c.in-Some.block c.in-Some.count c.in-Some.path.now c.split_at.result.0.now c.split_at.result.1.now = record { is = c.in-Some.ensures.some; node_is = c.split_at.ensures.front; others_are = c.split_at.ensures.back } in
    let fits = ap length (grown_writes w _ _ _ _ _ f c.args.level c.args.entry.now c.args.below c.place_in-place.result (c.place_in-place.ensures.row (spelled c.args.entry.now)) (omega (arith, c.if-count-cell_count.true, c.cell_count.ensures))) in
    record { within = c.requires.writes.within; is_open = c.requires.writes.is_open; room = omega (arith, fits, c.requires.writes.room); into = c.requires.writes.into }

pub returns-then-count-cell_count : goal.returns-then-count-cell_count
returns-then-count-cell_count g t c =
    let w = c.args.way.now in
    let f : IsFirst w c.in-Some.block c.in-Some.count c.in-Some.path.now c.split_at.result.0.now c.split_at.result.1.now = record { is = c.in-Some.ensures.some; node_is = c.split_at.ensures.front; others_are = c.split_at.ensures.back } in
    let state = g.T.TxBlocks.state in
    record {
      run = subst (λ (ws : List (ℕ × ℕ × List Cell)). HasRun (store_nodes w.area ws (Done (Ok tt))) (state c.args.tx.now) (state c.store_grown.new.tx) c.store_grown.result) (sym (grown_writes w _ _ _ _ _ f c.args.level c.args.entry.now c.args.below c.place_in-place.result (c.place_in-place.ensures.row (spelled c.args.entry.now)) (omega (arith, c.if-count-cell_count.true, c.cell_count.ensures)))) c.store_grown.ensures.run;
      only = c.store_grown.ensures.only;
    }

pub returns-in_default-first_new-2 : goal.returns-in_default-first_new-2
returns-in_default-first_new-2 g t c =
    let w = c.args.way.now in
    let f : IsFirst w c.in-Some.block c.in-Some.count c.in-Some.path.now c.split_at.result.0.now c.split_at.result.1.now = record { is = c.in-Some.ensures.some; node_is = c.split_at.ensures.front; others_are = c.split_at.ensures.back } in
    absurd (full_some w _ _ _ _ _ f (omega (arith, c.if-count-cell_count.false, c.cell_count.ensures)) c.in_default-first_new-2.ensures.none)

pub store_halves-requires-clause-block : goal.store_halves-requires-clause-block
store_halves-requires-clause-block g t c =
    let w = c.args.way.now in
    let f : IsFirst w c.in-Some.block c.in-Some.count c.in-Some.path.now c.split_at.result.0.now c.split_at.result.1.now = record { is = c.in-Some.ensures.some; node_is = c.split_at.ensures.front; others_are = c.split_at.ensures.back } in
    node_inside w _ _ _ _ _ f

pub store_halves-requires-clause-new : goal.store_halves-requires-clause-new
store_halves-requires-clause-new g t c =
    (subst (AreBlocks c.args.way.now.area) c.in-Some-first_new-2.ensures.some c.args.way.now.blocks).0

pub store_halves-requires-clause-writes : goal.store_halves-requires-clause-writes
store_halves-requires-clause-writes g t c =
    let w = c.args.way.now in
    let f : IsFirst w c.in-Some.block c.in-Some.count c.in-Some.path.now c.split_at.result.0.now c.split_at.result.1.now = record { is = c.in-Some.ensures.some; node_is = c.split_at.ensures.front; others_are = c.split_at.ensures.back } in
    let fits = ap length (halves_writes w _ _ _ _ _ f c.args.level c.args.entry.now c.args.below c.place_in-place.result (c.place_in-place.ensures.row (spelled c.args.entry.now)) (omega (arith, c.if-count-cell_count.false, c.cell_count.ensures)) c.in-Some-first_new-2.new c.in-Some-first_new-2.news.now c.in-Some-first_new-2.ensures.some _ _ refl refl) in
    record { within = c.requires.writes.within; is_open = c.requires.writes.is_open; room = omega (arith, fits, c.requires.writes.room); into = c.requires.writes.into }

pub returns-in-Err : goal.returns-in-Err
returns-in-Err g t c =
    let w = c.args.way.now in
    let f : IsFirst w c.in-Some.block c.in-Some.count c.in-Some.path.now c.split_at.result.0.now c.split_at.result.1.now = record { is = c.in-Some.ensures.some; node_is = c.split_at.ensures.front; others_are = c.split_at.ensures.back } in
    record {
      run = subst (λ (ws : List (ℕ × ℕ × List Cell)). HasRun {X = Unit {0}} (store_nodes w.area ws (Done (Ok tt))) (g.T.TxBlocks.state c.args.tx.now) (g.T.TxBlocks.state c.store_halves.new.tx) (Err c.in-Err.e)) (sym (halves_writes w _ _ _ _ _ f c.args.level c.args.entry.now c.args.below c.place_in-place.result (c.place_in-place.ensures.row (spelled c.args.entry.now)) (omega (arith, c.if-count-cell_count.false, c.cell_count.ensures)) c.in-Some-first_new-2.new c.in-Some-first_new-2.news.now c.in-Some-first_new-2.ensures.some _ _ refl refl)) (c.in-Err.ensures.run _);
      only = c.in-Err.ensures.only;
    }

pub invariant_of-separator : goal.invariant_of-separator
invariant_of-separator g t c =
    let w = c.args.way.now in
    let f : IsFirst w c.in-Some.block c.in-Some.count c.in-Some.path.now c.split_at.result.0.now c.split_at.result.1.now = record { is = c.in-Some.ensures.some; node_is = c.split_at.ensures.front; others_are = c.split_at.ensures.back } in
    let new = spelled c.args.entry.now in
    let most : (c.cell_count-2.result + 1) / 2 ≤ cell_count w.area.size = let l = w.kind.least_size in omega (arith, c.cell_count-2.ensures) in
    record {
      short = omega (arith, ap length c.row_key.ensures, key_fits w.area.size c.split_at.result.0.now c.place_in-place.result new (node_usable w _ _ _ _ _ f).parts c.args.entry.now.short c.place_in-place.ensures.most ((c.cell_count-2.result + 1) / 2) most);
      fits = omega arith;
    }

pub invariant_of-above : goal.invariant_of-above
invariant_of-above g t c =
    let w = c.args.way.now in
    let f : IsFirst w c.in-Some.block c.in-Some.count c.in-Some.path.now c.split_at.result.0.now c.split_at.result.1.now = record { is = c.in-Some.ensures.some; node_is = c.split_at.ensures.front; others_are = c.split_at.ensures.back } in
    record {
      kind = w.kind;
      inside = others_inside w _ _ _ _ _ f;
      room = others_room w _ _ _ _ _ f;
      usable = others_usable w _ _ _ _ _ f;
      blocks = (subst (AreBlocks w.area) c.in-Some-first_new-2.ensures.some w.blocks).1;
      enough = rest_enough w _ _ _ _ _ f (omega (arith, c.if-count-cell_count.false, c.cell_count.ensures)) c.in-Some-first_new-2.new c.in-Some-first_new-2.news.now c.in-Some-first_new-2.ensures.some;
    }

pub climb-requires : goal.climb-requires
climb-requires g t c κs within =
    let w = c.args.way.now in
    let f : IsFirst w c.in-Some.block c.in-Some.count c.in-Some.path.now c.split_at.result.0.now c.split_at.result.1.now = record { is = c.in-Some.ensures.some; node_is = c.split_at.ensures.front; others_are = c.split_at.ensures.back } in
    let after = c.in_default-store_halves.ensures.after in
    let shorter : length w.path.now ≡ suc (length c.in-Some.path.now) = ap length c.in-Some.ensures.some in
    let writes = halves_writes w _ _ _ _ _ f c.args.level c.args.entry.now c.args.below c.place_in-place.result (c.place_in-place.ensures.row (spelled c.args.entry.now)) (omega (arith, c.if-count-cell_count.false, c.cell_count.ensures)) c.in-Some-first_new-2.new c.in-Some-first_new-2.news.now c.in-Some-first_new-2.ensures.some _ _ (c.row_key.ensures ∙ (λ i. key_in_row (take (keys_end w.area.size) c.split_at.result.0.now) c.place_in-place.result c.args.entry.now.key.now ((c.cell_count-2.ensures i + 1) / 2))) c.to_be_bytes-number.ensures in
    let fits : length (climb (cell_count w.area.size) w.key.now (c.args.level + 1) (c.row_key.result.now, value_part c.to_be_bytes-number.result) c.in-Some.block (nodes_from w.area.size c.split_at.result.1.now c.in-Some.path.now) c.in-Some-first_new-2.news.now).writes ≤ room_of (g.T.TxBlocks.state c.store_halves.new.tx) =
    omega (arith, ap length writes, c.requires.writes.room, after.room) in (
      omega (arith, shorter, c.decreases),
      (
        search rules,
        (
          record {
            within = record { area = w.kind; size = after.size ∙ c.requires.writes.within.size; fits = omega (arith, c.requires.writes.within.fits, after.blocks) };
            is_open = after.is_open ∙ c.requires.writes.is_open;
            room = fits;
            into = c.store_halves.auto.into ∙ c.requires.writes.into;
          },
          omega (arith, shorter, c.requires.level),
        ),
      ),
    )

pub returns : goal.returns
returns g t c =
    let w = c.args.way.now in
    let f : IsFirst w c.in-Some.block c.in-Some.count c.in-Some.path.now c.split_at.result.0.now c.split_at.result.1.now = record { is = c.in-Some.ensures.some; node_is = c.split_at.ensures.front; others_are = c.split_at.ensures.back } in
    let state = g.T.TxBlocks.state in
    let writes = halves_writes w _ _ _ _ _ f c.args.level c.args.entry.now c.args.below c.place_in-place.result (c.place_in-place.ensures.row (spelled c.args.entry.now)) (omega (arith, c.if-count-cell_count.false, c.cell_count.ensures)) c.in-Some-first_new-2.new c.in-Some-first_new-2.news.now c.in-Some-first_new-2.ensures.some _ _ (c.row_key.ensures ∙ (λ i. key_in_row (take (keys_end w.area.size) c.split_at.result.0.now) c.place_in-place.result c.args.entry.now.key.now ((c.cell_count-2.ensures i + 1) / 2))) c.to_be_bytes-number.ensures in
    record {
      run = subst (λ (ws : List (ℕ × ℕ × List Cell)). HasRun (store_nodes w.area ws (Done (Ok tt))) (state c.args.tx.now) (state c.climb.new.tx) c.climb.result) (sym writes) (c.in_default-store_halves.ensures.run _ (state c.climb.new.tx) c.climb.result c.climb.ensures.run);
      only = record { memory = c.climb.ensures.only.memory; device = c.climb.ensures.only.device ∙ c.in_default-store_halves.ensures.only.device };
    }

pub returns-in_default : goal.returns-in_default
returns-in_default g t c =
    let state = g.T.TxBlocks.state in
    let w = c.args.way.now in
    record {
      run = root_run w.area (cell_count w.area.size) w.key.now c.args.level (spelled c.args.entry.now) c.args.below c.in-Some-first_new.root w.path.now w.nodes.now w.news.now c.in-Some-first_new.field-0-1.now c.fill_root.new.into
          (state c.args.tx.now) (state c.store_next.new.tx) c.store_next.result (search rules) c.in-Some-first_new.ensures.some
          (c.fill_root.ensures ∙ ap (λ (n : ℕ). node_bytes n c.args.level (root_cells c.args.level c.args.below (spelled c.args.entry.now))) c.requires.writes.into) (followed_end _ (state c.args.tx.now) (state c.store_next.new.tx) c.store_next.result (c.store_next.ensures.run (Done (Ok tt))));
      only = c.store_next.ensures.only;
    }
