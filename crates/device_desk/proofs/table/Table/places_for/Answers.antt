use Rattle.iso_machine.proofs.{Words.{◌<◌, AllByRecursion, arith, Core, Geometry, is_block_size, IsTrue, length, List, StandsFor, subst, sym, up, ℕ}, Begins.valid_block}
use Rattle.device_desk.specs.{declared.seat.Seat.Seat, Lent.StandAt}
use Rattle.device_desk.proofs.{Fitting.{stand_count, stand_same, stand_within}, Gathered.settled_same}
use Rattle.device_desk.proofs.table.Table.places_for.Goals as goal

pub all_fit-requires-clause-places : goal.all_fit-requires-clause-places
all_fit-requires-clause-places g c =
    let live = c.args.self.now.live.items in
    let stand = subst (λ (l : List Seat). StandAt l c.args.numbers.now c.in-Some.places.items) c.deref.ensures.value c.in-Some.ensures in
    subst (λ (l : List ℕ). AllByRecursion (λ i. i < length live) l) (sym c.deref-2.ensures.value) (stand_within c.args.numbers.now c.in-Some.places.items live stand)

pub returns-then-not-all_fit-clause-same : goal.returns-then-not-all_fit-clause-same
returns-then-not-all_fit-clause-same g c W of =
    settled_same of c.all_fit.ensures.live (subst (λ (k : Core g.row.D.Denot). StandsFor g.D.Disk.state k W up) (sym c.all_fit.ensures.core) of.core_of)

pub make_places-requires : goal.make_places-requires
make_places-requires g c =
    let (W, of) = c.requires in
    let stands = subst (λ (k : Core g.row.D.Denot). StandsFor g.D.Disk.state k W up) (sym c.all_fit.ensures.core) of.core_of in
    subst (λ (h : Geometry). IsTrue (is_block_size h.block)) (sym (c.geometry-geometry.ensures W up stands)) (valid_block W.geometry of.core_of.kept_of.world.valid)

pub returns-in-Err-clause-same : goal.returns-in-Err-clause-same
returns-in-Err-clause-same g c W of =
    settled_same of c.all_fit.ensures.live (subst (λ (k : Core g.row.D.Denot). StandsFor g.D.Disk.state k W up) (sym c.all_fit.ensures.core) of.core_of)

pub returns-clause-stand : goal.returns-clause-stand
returns-clause-stand g c =
    let stand = subst (λ (l : List Seat). StandAt l c.args.numbers.now c.in-Some.places.items) c.deref.ensures.value c.in-Some.ensures in
    stand_same c.args.numbers.now c.in-Some.places.items c.args.self.now.live.items c.all_fit.new.self.live.items c.all_fit.ensures.live stand

pub returns-clause-few : goal.returns-clause-few
returns-clause-few g c =
    let stand = subst (λ (l : List Seat). StandAt l c.args.numbers.now c.in-Some.places.items) c.deref.ensures.value c.in-Some.ensures in
    let count = stand_count c.args.numbers.now c.in-Some.places.items c.args.self.now.live.items stand in
    (omega (arith, count, c.if-numbers-lt2.false), omega (arith, count, c.if-numbers-gt-MAX_GROUP.false), omega (arith, count, c.in_default-make_places.ensures))

pub returns-clause-same : goal.returns-clause-same
returns-clause-same g c W of =
    settled_same of c.all_fit.ensures.live (subst (λ (k : Core g.row.D.Denot). StandsFor g.D.Disk.state k W up) (sym c.all_fit.ensures.core) of.core_of)
