use Rattle.iso_core.proofs.{Words.{◌≡◌, ◌∙◌, ◌⊎◌, inl, refl, sym, subst, ap, arith, Err, IsSettled, IsSome, ℕ, LeavesOnly, MayRefill, at_end, joined, weakened, Copies, Geometry, Half, HalfPlace, IsHeld, in_form, refilled, header_place, ◌<◌, AreHalves, end_inside, image_size}, refill.refill.Goals.{After-close_half, After-fill_half, After-open_half}}
use Rattle.counts.specs.Count.{Rose}
use Rattle.iso_core.proofs.refill.refill.Goals as goal

-- where the other half lies
inside : (g : Geometry) (from to : HalfPlace) (size : ℕ) → AreHalves g from to → size ≡ image_size g → to.header < size
inside g from to size are is = grind (arith, end_inside)

pub close_half-requires-clause-fits : goal.close_half-requires-clause-fits
close_half-requires-clause-fits g c = inside c.args.plan.now.geometry c.args.from.now c.args.to.now (g.D.Disk.state c.args.disk.now).size c.requires.places c.requires.size

pub fill_half-requires-clause-size : goal.fill_half-requires-clause-size
fill_half-requires-clause-size g c = c.close_half.ensures.moments.same_size ∙ c.requires.size

pub open_half-requires : goal.open_half-requires
open_half-requires g c = grind arith

-- the other half is closed, and then filled: each image holds the current one
closed : (g : Rattle.iso_core.proofs.refill.refill.Given.Over) (c : After-close_half g) (may : MayRefill c.args.from.now c.args.to.now c.args.plan.now (g.D.Disk.state c.args.disk.now))
    → LeavesOnly (g.D.Disk.state c.args.disk.now) (g.D.Disk.state c.close_half.new.disk) (IsHeld may.g may.x)
closed g c may = c.close_half.ensures.held may.g may.x may.other may.both (ap (λ (p : HalfPlace). p.header) may.there) may.each

filled : (g : Rattle.iso_core.proofs.refill.refill.Given.Over) (c : After-fill_half g) (h : Geometry) (x : Half) → Copies h x c.args.from.now c.args.plan.now → LeavesOnly (g.D.Disk.state c.args.disk.now) (g.D.Disk.state c.close_half.new.disk) (IsHeld h x)
    → LeavesOnly (g.D.Disk.state c.args.disk.now) (g.D.Disk.state c.fill_half.new.disk) (IsHeld h x)
filled g c h x copies first = joined first (c.fill_half.ensures.held h x copies.is_from (at_end (g.met.D.Disk.lawful c.close_half.new.disk) first))

pub returns-in-Err-clause-refilled : goal.returns-in-Err-clause-refilled
returns-in-Err-clause-refilled g c may = record {
  moments = weakened (closed g (goal.at.returns-in-Err-clause-refilled g c).After-close_half may) (λ image held. inl held);
  opened = tt;
  held = λ is. absurd cc;
}

pub returns-in-Err-Memory-clause-refilled : goal.returns-in-Err-Memory-clause-refilled
returns-in-Err-Memory-clause-refilled g c may =
    let s = goal.at.returns-in-Err-Memory-clause-refilled g c in
    let run = filled g s.After-fill_half may.g may.x may.copies (closed g s.After-close_half may) in
    record { moments = weakened run (λ image held. inl held); opened = tt; held = λ is. at_end (g.met.D.Disk.lawful c.fill_half.new.disk) run }

pub returns-in-Err-Disk-clause-refilled : goal.returns-in-Err-Disk-clause-refilled
returns-in-Err-Disk-clause-refilled g c may =
    let s = goal.at.returns-in-Err-Disk-clause-refilled g c in
    record {
      moments = weakened (filled g s.After-fill_half may.g may.x may.copies (closed g s.After-close_half may)) (λ image held. inl held);
      opened = tt;
      held = λ is. absurd cc;
    }

-- the new half is opened: each image holds it, or the current one
opened : (g : Rattle.iso_core.proofs.refill.refill.Given.Over) (c : After-open_half g) (may : MayRefill c.args.from.now c.args.to.now c.args.plan.now (g.D.Disk.state c.args.disk.now))
    → LeavesOnly (g.D.Disk.state c.args.disk.now) (g.D.Disk.state c.close_half.new.disk) (IsHeld may.g may.x) → LeavesOnly (g.D.Disk.state c.args.disk.now) (g.D.Disk.state c.fill_half.new.disk) (IsHeld may.g may.x)
    → LeavesOnly (g.D.Disk.state c.args.disk.now) (g.D.Disk.state c.open_half.new.disk) (λ i. IsHeld may.g may.x i ⊎ IsHeld (in_form c.args.plan.now.geometry.form may.g) (refilled may.g c.args.plan.now.generation c.args.plan.now.base may.x) i)
opened g c may first second =
    joined (weakened second (λ image held. inl held))
    (c.open_half.ensures.held may.g c.args.plan.now.geometry.form may.x (refilled may.g c.args.plan.now.generation c.args.plan.now.base may.x) (ap (λ (p : HalfPlace). p.header) may.there ∙ ap (header_place may.g) (omega (arith, may.both)))
    (c.in-Ok.ensures.ready may.g may.x may.copies (at_end (g.met.D.Disk.lawful c.close_half.new.disk) first)))

pub returns-in-Err-open_half-clause-refilled : goal.returns-in-Err-open_half-clause-refilled
returns-in-Err-open_half-clause-refilled g c may =
    let s = goal.at.returns-in-Err-open_half-clause-refilled g c in
    let first = closed g s.After-close_half may in
    record { moments = opened g s.After-open_half may first (filled g s.After-fill_half may.g may.x may.copies first); opened = tt; held = λ is. absurd cc }

pub returns-clause-refilled : goal.returns-clause-refilled
returns-clause-refilled g c may =
    let s = goal.at.returns-clause-refilled g c in
    let first = closed g s.After-close_half may in
    record {
      moments = opened g s.After-open_half may first (filled g s.After-fill_half may.g may.x may.copies first);
      opened = c.in_default-open_half.ensures.opened may.g c.args.plan.now.geometry.form may.x (refilled may.g c.args.plan.now.generation c.args.plan.now.base may.x) (ap (λ (p : HalfPlace). p.header) may.there ∙ ap (header_place may.g) (omega (arith, may.both)))
          (c.in-Ok.ensures.ready may.g may.x may.copies (at_end (g.met.D.Disk.lawful c.close_half.new.disk) first));
      held = λ is. absurd cc;
    }

pub returns-in-Err-clause-disk : goal.returns-in-Err-clause-disk
returns-in-Err-clause-disk g c = record {
  settled = tt;
  told = tt;
  still_told = λ is. absurd cc;
  closed = λ is. absurd cc;
  later = c.in-Err.ensures.cause.later;
  fault = λ is. c.in-Err.ensures.cause.failed refl;
  no_fault = tt;
  memory = λ is. absurd cc;
}

pub returns-in-Err-Memory-clause-disk : goal.returns-in-Err-Memory-clause-disk
returns-in-Err-Memory-clause-disk g c =
    let same = c.in-Err-Memory.ensures.memory (λ i. Err (c.in-Err-Memory.field-0-is i)) in
    let faults = ap (λ d. (g.D.Disk.state d).faults) same ∙ c.in_default.ensures.cause.passed in
    record {
      settled = tt;
      told = tt;
      still_told = λ is told. subst (λ d. IsSome (g.D.Disk.state d).contents) (sym same) (c.in_default.ensures.told told);
      closed = λ is. subst (λ d. IsSettled (g.D.Disk.state d)) (sym same) c.in_default.ensures.settled;
      later = omega (arith, faults);
      fault = λ is. absurd cc;
      no_fault = tt;
      memory = λ is. faults;
    }

pub returns-in-Err-Disk-clause-disk : goal.returns-in-Err-Disk-clause-disk
returns-in-Err-Disk-clause-disk g c =
    let before = c.in_default.ensures.cause.passed in
    record {
      settled = tt;
      told = tt;
      still_told = λ is. absurd cc;
      closed = λ is. absurd cc;
      later = omega (arith, c.fill_half.ensures.later, before);
      fault = λ is. subst (λ (n : ℕ). Rose n (g.D.Disk.state c.fill_half.new.disk).faults) before (c.in-Err-Disk.ensures.cause (λ i. Err (c.in-Err-Disk.field-0-is i)));
      no_fault = tt;
      memory = λ is. absurd cc;
    }

pub returns-in-Err-open_half-clause-disk : goal.returns-in-Err-open_half-clause-disk
returns-in-Err-open_half-clause-disk g c =
    let before = c.in-Ok.ensures.passed ∙ c.in_default.ensures.cause.passed in
    record {
      settled = tt;
      told = tt;
      still_told = λ is. absurd cc;
      closed = λ is. absurd cc;
      later = omega (arith, c.in-Err-open_half.ensures.cause.later, before);
      fault = λ is. subst (λ (n : ℕ). Rose n (g.D.Disk.state c.open_half.new.disk).faults) before (c.in-Err-open_half.ensures.cause.failed refl);
      no_fault = tt;
      memory = λ is. absurd cc;
    }

pub returns-clause-disk : goal.returns-clause-disk
returns-clause-disk g c =
    let faults = c.in_default-open_half.ensures.cause.passed ∙ c.in-Ok.ensures.passed ∙ c.in_default.ensures.cause.passed in
    record {
      settled = c.in_default-open_half.ensures.settled;
      told = λ told. c.in_default-open_half.ensures.told (c.in-Ok.ensures.told (c.in_default.ensures.told told));
      still_told = λ is. absurd cc;
      closed = λ is. absurd cc;
      later = omega (arith, faults);
      fault = λ is. absurd cc;
      no_fault = faults;
      memory = λ is. absurd cc;
    }
