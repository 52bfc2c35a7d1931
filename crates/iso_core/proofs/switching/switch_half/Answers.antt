use Rattle.iso_core.proofs.{Words.{DiskState, Geometry, in_form, image_size, refilled, ◌<◌, ◌≤◌, ◌≡◌, ◌≢◌, ◌∙◌, ◌⊎◌, inl, inr, sym, refl, ap, subst, ℕ, ◌+◌, ◌-◌, arith, true, Err, LeavesOnly, at_end, started, weakened, Copies, FillPlan, place_of, HalfPlace, IsHeld, half_of_world, LAST, log_place, after_switch, World, floor, floor_between, IsWorld, AreOf, up, ShowsLast, HasFormOr, IsForm, MayRefill, CoreReply}, Causes.blames_other, Committing.down_on, Moments.shows_world, Numbers.log_used, Plans.{both, copies, either_half, form_either, is_switched, is_worn, new_half, next_world, shows_both, valid_form}, Trims.floor_is, switching.switch_half.Goals.After-used}
use Rattle.iso_core.proofs.switching.switch_half.Goals as goal

pub returns-then-kept-ge-LAST-clause-switched : goal.returns-then-kept-ge-LAST-clause-switched
returns-then-kept-ge-LAST-clause-switched g c m = record {
  switched = tt;
  refused = λ answer. grind (arith, is_worn);
  same = λ other. m.of;
  lost = λ failed. absurd cc;
  unworn = λ answer failed. absurd cc;
  moments = started (g.met.D.Disk.lawful c.args.disk.now) (λ image now. shows_world m.world c.args.kept.now.half m.of.kept_of.world image (m.of.images.each image now));
  form_is = started (g.met.D.Disk.lawful c.args.disk.now) (λ image now. form_either c.args.kept.now m.world c.args.form m.of.kept_of m.fits image (inl (m.of.images.each image now)));
}

pub half_place-from-requires-clause-valid : goal.half_place-from-requires-clause-valid
half_place-from-requires-clause-valid g c = valid_form c.args.kept.now c.requires.world c.args.form c.requires.of.kept_of c.requires.fits c.if-kept-ge-LAST.false

pub half_place-from-requires-clause-half : goal.half_place-from-requires-clause-half
half_place-from-requires-clause-half g c = c.requires.of.kept_of.keeps.half

pub half_place-to-requires-clause-half : goal.half_place-to-requires-clause-half
half_place-to-requires-clause-half g c = omega arith

pub half_place-to-requires-clause-valid : goal.half_place-to-requires-clause-valid
half_place-to-requires-clause-valid g c = valid_form c.args.kept.now c.requires.world c.args.form c.requires.of.kept_of c.requires.fits c.if-kept-ge-LAST.false

-- what there is before the other half is filled
module _ (g : Rattle.iso_core.proofs.switching.switch_half.Given.Over) (c : After-used g) (W : World) (of : AreOf (g.D.Disk.state c.args.disk.now) c.args.kept.now W up) (fits : IsForm W c.args.form) where
  to : c.floor-floor.result ≡ floor W
  to = c.floor-floor.ensures ∙ floor_is c.args.kept.now W of.kept_of c.last.result c.last.ensures

  fresh : W.generation ≢ LAST
  fresh e = absurd (omega (arith, c.if-kept-ge-LAST.false, of.kept_of.keeps.generation, e))

  next : IsWorld (after_switch W c.args.form)
  next = next_world W c.args.form of.kept_of.world fits fresh

  other : c.args.kept.now.half + (1 - c.args.kept.now.half) ≡ 1
  other = both c.args.kept.now W c.args.form of.kept_of fits

  from_log : c.half_place-from.result.log ≡ log_place W.geometry c.args.kept.now.half
  from_log = ap (λ (p : HalfPlace). p.log) c.half_place-from.ensures ∙ (λ i. log_place (record (of.kept_of.keeps.geometry i) { form = c.args.form }) c.args.kept.now.half)

  there : c.half_place-to.result ≡ place_of W.geometry (1 - c.args.kept.now.half)
  there = c.half_place-to.ensures ∙ (λ i. place_of (record (of.kept_of.keeps.geometry i) { form = c.args.form }) (1 - c.args.kept.now.half))

  abbrev plan : FillPlan
  plan = record {
    geometry = record c.args.kept.now.geometry { form = c.args.form };
    generation = c.args.kept.now.generation + 1;
    old_base = c.args.kept.now.base;
    base = c.floor-floor.result;
    used = c.used.result;
  }

  copied : Copies W.geometry (half_of_world W c.args.kept.now.half) c.half_place-from.result plan
  copied = copies c.args.kept.now W c.args.form of.kept_of fits plan c.half_place-from.result refl refl c.if-kept-ge-LAST.false refl to c.used.ensures c.half_place-from.ensures

  sized : (g.D.Disk.state c.args.disk.now).size ≡ image_size plan.geometry
  sized = grind arith

  rises : plan.old_base ≤ plan.base
  rises = omega (arith, to, of.kept_of.keeps.base, (floor_between W of.kept_of.world).0)

  fits_log : plan.used < plan.geometry.log
  fits_log = omega (arith, c.used.ensures, log_used c.args.kept.now W of.kept_of.world of.kept_of.keeps, of.kept_of.world.room, ap (λ (h : Geometry). h.log) of.kept_of.keeps.geometry)

  abbrev may : MayRefill c.half_place-from.result c.half_place-to.result plan (g.D.Disk.state c.args.disk.now)
  may = record {
    valid = valid_form c.args.kept.now W c.args.form of.kept_of fits c.if-kept-ge-LAST.false;
    size = sized;
    places = record { half = c.args.kept.now.half; other = 1 - c.args.kept.now.half; both = other; from_is = c.half_place-from.ensures; to_is = c.half_place-to.ensures };
    base = rises;
    used = fits_log;
    settled = of.images.settled;
    g = W.geometry;
    x = half_of_world W c.args.kept.now.half;
    other = 1 - c.args.kept.now.half;
    both = other;
    there = there;
    copies = copied;
    each = of.images.each;
  }

  -- at each moment an image holds the half that was, or the new one
  module _ (new : DiskState) (run : LeavesOnly (g.D.Disk.state c.args.disk.now) new (λ image. IsHeld W.geometry (half_of_world W c.args.kept.now.half) image
      ⊎ IsHeld (in_form plan.geometry.form W.geometry) (refilled W.geometry plan.generation plan.base (half_of_world W c.args.kept.now.half)) image)) where
    either : LeavesOnly (g.D.Disk.state c.args.disk.now) new (λ image. IsHeld W.geometry (half_of_world W c.args.kept.now.half) image
        ⊎ IsHeld (after_switch W c.args.form).geometry (half_of_world (after_switch W c.args.form) (1 - c.args.kept.now.half)) image)
    either = weakened run (λ image held. either_half c.args.kept.now W c.args.form of.kept_of fits plan refl refl to image held)

    shown : LeavesOnly (g.D.Disk.state c.args.disk.now) new (ShowsLast W)
    shown = weakened either (λ image held. shows_both c.args.kept.now W c.args.form of.kept_of fits next image held)

    formed : LeavesOnly (g.D.Disk.state c.args.disk.now) new (HasFormOr W c.args.form)
    formed = weakened either (λ image held. form_either c.args.kept.now W c.args.form of.kept_of fits image held)

pub refill-requires : goal.refill-requires
refill-requires g c =
    let m = c.requires in
    may g (goal.at.refill-requires g c).After-used m.world m.of m.fits

pub go_over-requires : goal.go_over-requires
go_over-requires g c =
    let m = c.requires in
    let s = (goal.at.go_over-requires g c).After-used in
    record {
      world = m.world;
      of = m.of.kept_of;
      to_is = to g s m.world m.of m.fits;
      old_place = from_log g s m.world m.of m.fits;
      new_place = ap (λ (p : HalfPlace). p.log) (there g s m.world m.of m.fits);
      next = next g s m.world m.of m.fits;
    }

pub returns-in-Ok-clause-switched : goal.returns-in-Ok-clause-switched
returns-in-Ok-clause-switched g c m =
    let s = (goal.at.returns-in-Ok-clause-switched g c).After-used in
    let kept = c.args.kept.now in
    let is = to g s m.world m.of m.fits in
    record {
      switched = (
        is,
        (λ answer. is_switched m.world c.args.form answer (fresh g s m.world m.of m.fits)),
        record {
          kept_of = c.go_over.ensures.switched (record {
            world = m.world;
            of = m.of.kept_of;
            to_is = is;
            old_place = from_log g s m.world m.of m.fits;
            new_place = ap (λ (p : HalfPlace). p.log) (there g s m.world m.of m.fits);
            next = next g s m.world m.of m.fits;
          });
          is_down = c.go_over.ensures.down ∙ m.of.is_down;
          size = (either g s m.world m.of m.fits (g.D.Disk.state c.refill.new.disk) (c.refill.ensures.refilled (may g s m.world m.of m.fits)).moments).same_size ∙ m.of.size;
          images = record {
            settled = c.in-Ok.ensures.disk.settled;
            each = λ image now. subst (λ (n : ℕ). IsHeld (after_switch m.world c.args.form).geometry (half_of_world (after_switch m.world c.args.form) n) image) (sym c.go_over.ensures.half)
                (new_half kept m.world c.args.form m.of.kept_of m.fits (plan g s m.world m.of m.fits) refl refl is image
                ((c.in-Ok.ensures.refilled (may g s m.world m.of m.fits)).opened image now));
          };
        },
      );
      refused = λ answer. tt;
      same = tt;
      lost = λ failed. absurd cc;
      unworn = λ answer failed. absurd cc;
      moments = shown g s m.world m.of m.fits (g.D.Disk.state c.refill.new.disk) (c.refill.ensures.refilled (may g s m.world m.of m.fits)).moments;
      form_is = formed g s m.world m.of m.fits (g.D.Disk.state c.refill.new.disk) (c.refill.ensures.refilled (may g s m.world m.of m.fits)).moments;
    }

pub returns-in-Err-Memory-clause-switched : goal.returns-in-Err-Memory-clause-switched
returns-in-Err-Memory-clause-switched g c m =
    let s = (goal.at.returns-in-Err-Memory-clause-switched g c).After-used in
    record {
      switched = tt;
      refused = λ answer. inr (inl refl);
      same = λ other. record {
        kept_of = m.of.kept_of;
        is_down = m.of.is_down;
        size = (either g s m.world m.of m.fits (g.D.Disk.state c.refill.new.disk) (c.refill.ensures.refilled (may g s m.world m.of m.fits)).moments).same_size ∙ m.of.size;
        images = record {
          settled = c.in-Err-Memory.ensures.disk.closed (λ i. Err (c.in-Err-Memory.field-0-is i));
          each = (c.in-Err-Memory.ensures.refilled (may g s m.world m.of m.fits)).held (λ i. Err (c.in-Err-Memory.field-0-is i));
        };
      };
      lost = λ failed. absurd cc;
      unworn = λ answer failed. absurd cc;
      moments = shown g s m.world m.of m.fits (g.D.Disk.state c.refill.new.disk) (c.refill.ensures.refilled (may g s m.world m.of m.fits)).moments;
      form_is = formed g s m.world m.of m.fits (g.D.Disk.state c.refill.new.disk) (c.refill.ensures.refilled (may g s m.world m.of m.fits)).moments;
    }

pub returns-in-Err-Disk-clause-switched : goal.returns-in-Err-Disk-clause-switched
returns-in-Err-Disk-clause-switched g c m =
    let s = (goal.at.returns-in-Err-Disk-clause-switched g c).After-used in
    let run = shown g s m.world m.of m.fits (g.D.Disk.state c.refill.new.disk) (c.refill.ensures.refilled (may g s m.world m.of m.fits)).moments in
    record {
      switched = tt;
      refused = λ answer. inl refl;
      same = λ other. absurd (other refl);
      lost = λ failed. record {
        kept_of = down_on c.args.kept.now m.world true m.of.kept_of;
        is_down = refl;
        size = run.same_size ∙ m.of.size;
        images = λ image now. inl (at_end (g.met.D.Disk.lawful c.refill.new.disk) run image now);
      };
      unworn = λ answer failed. ap (λ (x : CoreReply × World). x.0) (is_switched m.world c.args.form answer (fresh g s m.world m.of m.fits));
      moments = run;
      form_is = formed g s m.world m.of m.fits (g.D.Disk.state c.refill.new.disk) (c.refill.ensures.refilled (may g s m.world m.of m.fits)).moments;
    }

pub returns-then-kept-ge-LAST-clause-disk : goal.returns-then-kept-ge-LAST-clause-disk
returns-then-kept-ge-LAST-clause-disk g c = record {
  last = λ at is. cc is;
  worn = λ other more. refl;
  told = tt;
  still_told = λ other told. told;
  cause = blames_other (g.D.Disk.state c.args.disk.now).faults _ (λ is. cc is);
}

pub returns-in-Ok-clause-disk : goal.returns-in-Ok-clause-disk
returns-in-Ok-clause-disk g c =
    let disk = c.in-Ok.ensures.disk in
    record {
      last = λ at is. cc is;
      worn = tt;
      told = disk.told;
      still_told = tt;
      cause = record { later = disk.later; failed = λ is. absurd cc; passed = disk.no_fault; other = tt };
    }

pub returns-in-Err-Memory-clause-disk : goal.returns-in-Err-Memory-clause-disk
returns-in-Err-Memory-clause-disk g c =
    let disk = c.in-Err-Memory.ensures.disk in
    record {
      last = λ at is. cc is;
      worn = λ other more. absurd (more refl);
      told = tt;
      still_told = λ other. disk.still_told (λ i. Err (c.in-Err-Memory.field-0-is i));
      cause = record { later = disk.later; failed = λ is. absurd cc; passed = tt; other = λ other. disk.memory (λ i. Err (c.in-Err-Memory.field-0-is i)) };
    }

pub returns-in-Err-Disk-clause-disk : goal.returns-in-Err-Disk-clause-disk
returns-in-Err-Disk-clause-disk g c =
    let disk = c.in-Err-Disk.ensures.disk in
    record {
      last = λ at is. cc is;
      worn = λ other. absurd (other refl);
      told = tt;
      still_told = λ other. absurd (other refl);
      cause = record { later = disk.later; failed = λ is. disk.fault (λ i. Err (c.in-Err-Disk.field-0-is i)); passed = tt; other = λ other. absurd (other refl) };
    }
