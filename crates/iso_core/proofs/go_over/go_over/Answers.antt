use Rattle.iso_core.proofs.{Words.{◌≡◌, ◌∙◌, sym, ◌+◌, ◌-◌, ◌*◌, ◌<◌, ◌≤◌, arith, subst, IsOf, after_switch, used}, Numbers.{log_room, log_used}, Switches.{above_floor, counted_small, gate_is, places, room_there, small, splits, switches_so, weighs}, go_over.go_over.Goals.After-bytes_above}
use Rattle.iso_log.specs.Extent.{Extent}
use Rattle.iso_core.proofs.go_over.go_over.Goals as goal

pub bytes_above-requires : goal.bytes_above-requires
bytes_above-requires c = counted_small c.args.kept.now c.requires.world c.requires.of c.args.floor c.requires.to_is

-- the bytes of the records above the floor
bytes_are : (c : After-bytes_above) → c.bytes_above.result + 20 * (c.last.result - c.args.floor) ≡ above_floor c.args.kept.now c.requires.world c.requires.of
bytes_are c = weighs c.args.kept.now c.requires.world c.requires.of c.last.result c.args.floor c.bytes_above.result c.last.ensures c.requires.to_is c.bytes_above.ensures

few : (c : After-bytes_above) → (c.bytes_above.result + 20 * (c.last.result - c.args.floor) ≤ used c.requires.world) × (c.bytes_above.result + 20 * (c.last.result - c.args.floor) < 67108864)
few c =
    let (fit, room, most) = small c.args.kept.now c.requires.world c.requires.of in
    (omega (arith, bytes_are c), omega (arith, bytes_are c))

pub overflow_mul-bytes : goal.overflow_mul-bytes
overflow_mul-bytes c = omega (arith, (few (goal.at.overflow_mul-bytes c).After-bytes_above).1)

pub overflow_add-bytes : goal.overflow_add-bytes
overflow_add-bytes c = omega (arith, (few (goal.at.overflow_add-bytes c).After-bytes_above).1)

pub overflow_cast-bytes : goal.overflow_cast-bytes
overflow_cast-bytes c = omega (arith, (few (goal.at.overflow_cast-bytes c).After-bytes_above).1)

pub overflow_add-gate : goal.overflow_add-gate
overflow_add-gate c =
    let m = c.requires in
    let (inside, size) = places c.args.kept.now m.world m.of in
    omega (arith, inside, size, m.old_place, c.used.ensures, c.from.ensures, log_used c.args.kept.now m.world m.of.world m.of.keeps, m.of.world.room)

pub overflow_sub-gate : goal.overflow_sub-gate
overflow_sub-gate c =
    let m = c.requires in
    omega (arith, (few (goal.at.overflow_sub-gate c).After-bytes_above).0, c.used.ensures, c.from.ensures, log_used c.args.kept.now m.world m.of.world m.of.keeps)

pub move_to-kept-requires-clause-split : goal.move_to-kept-requires-clause-split
move_to-kept-requires-clause-split c =
    let m = c.requires in
    let kept = c.args.kept.now in
    let taken = c.from.ensures ∙ c.used.ensures ∙ log_used kept m.world m.of.world m.of.keeps in
    let bytes = c.bytes_above.result + 20 * (c.last.result - c.args.floor) in
    splits kept m.world m.of (c.args.old_log + c.from.result - bytes)
    (gate_is kept m.world m.of c.args.old_log bytes _ m.old_place (bytes_are (goal.at.move_to-kept-requires-clause-split c).After-bytes_above) (λ i. c.args.old_log + taken i - bytes))

pub move_to-kept-requires-clause-room : goal.move_to-kept-requires-clause-room
move_to-kept-requires-clause-room c =
    let m = c.requires in
    room_there c.args.kept.now m.world m.of c.args.new_log m.new_place

pub go_to-requires : goal.go_to-requires
go_to-requires c =
    let m = c.requires in
    omega (arith, (few (goal.at.go_to-requires c).After-bytes_above).0, m.of.world.room, log_room c.args.kept.now m.world m.of.world m.of.keeps)

pub returns-clause-switched : goal.returns-clause-switched
returns-clause-switched c m =
    let kept = c.args.kept.now in
    let bytes = c.bytes_above.result + 20 * (c.last.result - c.args.floor) in
    let gate = c.args.old_log + c.from.result - bytes in
    let size = weighs kept m.world m.of c.last.result c.args.floor c.bytes_above.result c.last.ensures m.to_is c.bytes_above.ensures in
    let taken = c.from.ensures ∙ c.used.ensures ∙ log_used kept m.world m.of.world m.of.keeps in
    subst (λ (log : Extent). IsOf (record kept {
      index = c.move_to-kept.new.self;
      log = log;
      geometry = record kept.geometry { form = c.args.form };
      half = 1 - kept.half;
      generation = kept.generation + 1;
      base = c.args.floor;
      trim = c.args.floor;
    }) (after_switch m.world c.args.form)) (sym c.go_to.ensures)
    (switches_so kept m.world m.of c.args.form m.next c.args.new_log bytes gate c.args.floor c.move_to-kept.new.self m.new_place size m.to_is
    (gate_is kept m.world m.of c.args.old_log bytes gate m.old_place size (λ i. c.args.old_log + taken i - bytes)) c.move_to-kept.ensures.blocks c.move_to-kept.ensures.moved)
