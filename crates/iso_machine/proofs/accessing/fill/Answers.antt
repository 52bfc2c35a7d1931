use Rattle.iso_machine.proofs.{Words.{◌∙◌, refl, ap, length, replicate, slice_index, ◌++◌, ◌∷◌, [], ℕ, List, not, ◌==◌, None, false, write_access, fill_step, Doing}, Accesses.{step_allowed, step_refused, fill_is}}
use Rattle.script_model.specs.declared.script.Reply.TheVariants as reply

pub returns-in-Some : Rattle.iso_machine.proofs.accessing.fill.Goals.returns-in-Some
returns-in-Some c = record {
  given = λ W t active.
      step_refused W t c.args.work.now active (fill_step W t c.args.block c.args.bytes.now) c.args.block (not (length c.args.bytes.now == 1)) (not (length c.args.bytes.now == 1))
      reply.Done (write_access c.args.block (replicate W.geometry.block (slice_index c.args.bytes.now 0))) c.in-Some.reply (fill_is W t c.args.block c.args.bytes.now) refl
      (c.in-Some.ensures.refused W t active.is_work reply.Done (write_access c.args.block (replicate W.geometry.block (slice_index c.args.bytes.now 0))));
  kept = tt;
}

pub returns : Rattle.iso_machine.proofs.accessing.fill.Goals.returns
returns c = record {
  given = λ W t active.
      let full : List ℕ = replicate W.geometry.block (slice_index c.args.bytes.now 0) in
      step_allowed W t c.args.work.now active (fill_step W t c.args.block c.args.bytes.now) c.args.block (not (length c.args.bytes.now == 1)) reply.Done
      (write_access c.args.block full) c.write.new.self None false (fill_is W t c.args.block c.args.bytes.now)
      (c.in_default.ensures.allowed refl).1 (c.in_default.ensures.allowed refl).0 (c.in_default.ensures.allowed refl).2
      (c.write.ensures
      ∙ ap (λ (l : List ℕ). record c.reserve.new.self { accesses = c.reserve.new.self.accesses ++ write_access c.args.block l ∷ []; ready = None; settled = false })
      (c.deref.ensures.value ∙ c.in_ok-fill_up.ensures ∙ ap (λ (n : ℕ). replicate n (slice_index c.args.bytes.now 0)) (c.block_size-size.ensures.size ∙ active.is_work.size))
      ∙ ap (λ (w : Doing). record w { accesses = w.accesses ++ write_access c.args.block full ∷ []; ready = None; settled = false }) c.in_ok-reserve.ensures.ok);
  kept = tt;
}
