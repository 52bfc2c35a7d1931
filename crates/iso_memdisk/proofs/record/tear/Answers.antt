use Rattle.iso_memdisk.proofs.{Words.{◌≡◌, ◌+◌, ℕ, List, length, refl, sym, ◌∙◌, ap, subst, arith, rules, spliced, Torn, torn_same, spliced_torn}, Steps.{IsTornSoFar, torn_write, fits_at, no_sync_at}, record.tear.Goals.{in-Write+in-0, in-Write+in-1, in-Write+in_default-pick, in_default}}

pub loop-call-preserved : Rattle.iso_memdisk.proofs.record.tear.Goals.loop-call-preserved
loop-call-preserved c =
    let calls = c.args.calls.now in
    let first = c.args.image.now in
    let i = c.loop-call.call-index in
    let so_far = c.loop-call.invariant in
    let step = λ (image : List ℕ). IsTornSoFar calls first c.args.pick (i + 1) image in
    elim c.match-call.branch [
      | in-Write+in-0 w ↦
          let pick = w.in-0.is in
          subst step (sym w.image-is) (torn_write calls i c.call-item.result (omega arith) c.call-item.is first c.loop-call.image c.loop-call.image c.args.pick w.in-Write.at w.in-Write.bytes w.in-Write.is (torn_same _ _ _) (λ none. refl) (λ all. absurd (omega arith)) so_far)
      | in-Write+in-1 w ↦
          let pick = w.in-1.is in
          let lies = fits_at calls i c.call-item.result (omega arith) c.call-item.is (length first) w.in-Write.at w.in-Write.bytes w.in-Write.is c.requires.fits in
          let laid = w.lay.ensures ∙ ap (spliced c.loop-call.image w.in-Write.at) w.deref.ensures.value in
          let torn = subst (λ (next : List ℕ). Torn w.in-Write.at (length w.in-Write.bytes.items) c.loop-call.image next) (sym laid) (spliced_torn c.loop-call.image w.in-Write.at w.in-Write.bytes.items (omega (arith, lies, so_far.size))) in
          subst step (sym w.image-is) (torn_write calls i c.call-item.result (omega arith) c.call-item.is first c.loop-call.image w.lay.new.image c.args.pick w.in-Write.at w.in-Write.bytes w.in-Write.is torn (λ none. absurd (omega arith)) (λ all. laid) so_far)
      | in-Write+in_default-pick w ↦
          let rest = w.in_default-pick in
          let len : w.len.result ≡ length w.in-Write.bytes.items = w.len.ensures ∙ search rules in
          let torn = subst (λ (n : ℕ). Torn w.in-Write.at n c.loop-call.image w.scribble.new.image) len w.scribble.ensures in
          subst step (sym w.image-is) (torn_write calls i c.call-item.result (omega arith) c.call-item.is first c.loop-call.image w.scribble.new.image c.args.pick w.in-Write.at w.in-Write.bytes w.in-Write.is torn (λ none. absurd (omega arith)) (λ all. absurd (omega arith)) so_far)
      | in_default w ↦ absurd (no_sync_at calls i c.call-item.result (omega arith) c.call-item.is w.in_default.is c.requires.pending)
    ]
