-- The plan of a switch is that of the world.
use Rattle.iso_core.proofs.{Words.{◌≡◌, ◌≢◌, ◌∙◌, ◌⊎◌, inl, inr, sym, refl, ap, ℕ, ◌+◌, ◌-◌, ◌<◌, ◌≤◌, List, IsTrue, arith, subst, eq-eqb, ne_eqb, transport, FillPlan, Copies, place_of, refilled, refilled_history, HalfPlace, Half, IsHeld, half_of_world, history_of, in_form, half_form, half_shows, world_bytes, Geometry, LAST, CoreReply, is_valid, after_switch, switch_step, World, floor, IsWorld, limits, floor_between, switch_leads, Kept, IsOf, ShowsLast, HasFormOr, IsForm}, Moments.shows_world, Numbers.{last_is, log_used}}
use Rattle.iso_model.specs.declared.core_reply.CoreReply.TheVariants as reply

-- how a switch goes
module _ (W : World) (form : ℕ) (answer : CoreReply) where
  pub is_worn : W.generation ≡ LAST → (switch_step W form answer).0 ≡ reply.Worn
  unfolding switch_step
  is_worn is = rw (eq-eqb W.generation LAST is) refl

  pub is_switched : W.generation ≢ LAST → switch_step W form answer ≡ (answer, after_switch W form)
  unfolding switch_step
  is_switched fresh = rw (ne_eqb W.generation LAST fresh) refl

pub next_world : (W : World) (form : ℕ) → IsWorld W → IsForm W form → W.generation ≢ LAST → IsWorld (after_switch W form)
next_world W form is fits fresh =
    subst (λ (x : CoreReply × World). IsWorld x.1) (is_switched W form reply.Done fresh) (switch_leads W form reply.Done is fits.rises fits.largest).world

module _ (kept : Kept) (W : World) (form : ℕ) (of : IsOf kept W) (fits : IsForm W form) where
  pub both : kept.half + (1 - kept.half) ≡ 1
  both = omega (arith, of.keeps.half)

  pub valid_form : kept.generation < LAST → IsTrue (is_valid (record kept.geometry { form = form }))
  valid_form low = grind (arith, next_world)

  -- the plan copies the half of the world
  pub copies : (plan : FillPlan) (from : HalfPlace) → plan.geometry ≡ record kept.geometry { form = form } → plan.generation ≡ kept.generation + 1 → kept.generation < LAST
      → plan.old_base ≡ kept.base → plan.base ≡ floor W → plan.used ≡ kept.log.used → from ≡ place_of plan.geometry kept.half → Copies W.geometry (half_of_world W kept.half) from plan
  copies plan from geometry generation fresh old_base base used_is from_is =
      let same : plan.geometry ≡ in_form form W.geometry = geometry ∙ (λ i. record (of.keeps.geometry i) { form = form }) in
      let form_is : plan.geometry.form ≡ form = ap (λ (h : Geometry). h.form) same in
      record {
        is_from = record {
          geometry = same ∙ (λ i. in_form (sym form_is i) W.geometry);
          place = from_is ∙ (λ i. place_of (same i) kept.half);
        };
        form = λ one. omega (arith, one, form_is, fits.rises, (limits W.geometry of.world.valid).least_form);
        old_base = old_base ∙ of.keeps.base;
        until = omega (arith, base, (floor_between W of.world).1, last_is W kept.half of.world);
        used = used_is ∙ log_used kept W of.world of.keeps ∙ sym (world_bytes W kept.half);
        later = omega (arith, generation, of.keeps.generation);
        generation = omega (arith, generation, fresh);
      }

  -- the new half is that of the world with its base at the floor
  pub new_half : (plan : FillPlan) → plan.geometry ≡ record kept.geometry { form = form } → plan.generation ≡ kept.generation + 1 → plan.base ≡ floor W → (c : List ℕ)
      → IsHeld (in_form plan.geometry.form W.geometry) (refilled W.geometry plan.generation plan.base (half_of_world W kept.half)) c
      → IsHeld (after_switch W form).geometry (half_of_world (after_switch W form) (1 - kept.half)) c
  new_half plan geometry generation base c held =
      let form_is : plan.geometry.form ≡ form = ap (λ (h : Geometry). h.form) geometry in
      let low : W.base ≤ floor W = omega (arith, of.world.base, (floor_between W of.world).0) in
      let next : plan.generation ≡ W.generation + 1 = generation ∙ ap (λ (n : ℕ). n + 1) of.keeps.generation in
      let half_is : refilled W.geometry plan.generation plan.base (half_of_world W kept.half) ≡ half_of_world (after_switch W form) (1 - kept.half) =
      (λ i. refilled W.geometry (next i) (base i) (half_of_world W kept.half))
      ∙ refilled_history W.geometry kept.half W.generation (W.generation + 1) W.base (floor W) W.history of.world.history of.world.since low
      ∙ sym (half_form W.geometry form (1 - kept.half) (W.generation + 1) (floor W) W.history) in
      transport (λ i. IsHeld (in_form (form_is i) W.geometry) (half_is i) c) held

  pub either_half : (plan : FillPlan) → plan.geometry ≡ record kept.geometry { form = form } → plan.generation ≡ kept.generation + 1 → plan.base ≡ floor W → (c : List ℕ)
      → IsHeld W.geometry (half_of_world W kept.half) c ⊎ IsHeld (in_form plan.geometry.form W.geometry) (refilled W.geometry plan.generation plan.base (half_of_world W kept.half)) c
      → IsHeld W.geometry (half_of_world W kept.half) c ⊎ IsHeld (after_switch W form).geometry (half_of_world (after_switch W form) (1 - kept.half)) c
  either_half plan geometry generation base c (inl before) = inl before
  either_half plan geometry generation base c (inr after) = inr (new_half plan geometry generation base c after)

  -- and shows the same history
  pub shows_both : IsWorld (after_switch W form) → (c : List ℕ) → IsHeld W.geometry (half_of_world W kept.half) c ⊎ IsHeld (after_switch W form).geometry (half_of_world (after_switch W form) (1 - kept.half)) c → ShowsLast W c
  shows_both next c (inl before) = shows_world W kept.half of.world c before
  shows_both next c (inr after) =
      let low : W.base ≤ floor W = omega (arith, of.world.base, (floor_between W of.world).0) in
      half_shows W.geometry form (1 - kept.half) (W.generation + 1) (floor W) W.history c of.world.history (omega (arith, of.world.since, low)) (floor_between W of.world).1
      (subst (λ (h : Half). IsHeld (in_form form W.geometry) h c) (half_form W.geometry form (1 - kept.half) (W.generation + 1) (floor W) W.history) after)

  -- in the old form or in the new one
  pub form_either : (c : List ℕ) → IsHeld W.geometry (half_of_world W kept.half) c ⊎ IsHeld (after_switch W form).geometry (half_of_world (after_switch W form) (1 - kept.half)) c → HasFormOr W form c
  form_either c (inl before) = inl (record { generation = W.generation; history = history_of W.geometry (half_of_world W kept.half); image = before.image })
  form_either c (inr after) =
      inr (record { generation = W.generation + 1; history = history_of (after_switch W form).geometry (half_of_world (after_switch W form) (1 - kept.half)); image = after.image })

-- the own form, and the second one
pub own_form : (W : World) (form : ℕ) → IsWorld W → form ≡ W.geometry.form → IsForm W form
own_form W form is same =
    let largest : W.geometry.form ≤ 2 = (limits W.geometry is.valid).largest_form in
    record { rises = omega (arith, same); largest = omega (arith, same, largest) }

pub second_form : (W : World) → IsWorld W → IsForm W 2
second_form W is = record { rises = (limits W.geometry is.valid).largest_form; largest = omega arith }
