use Rattle.iso_machine.proofs.{Words.{◌∙◌, sym, refl, ap, length, ◌++◌, ◌∷◌, [], ℕ, not, ◌==◌, None, false, write_access, write_step, Doing}, Accesses.{step_allowed, step_refused, write_is}}
use Rattle.script_model.specs.declared.script.Reply.TheVariants as reply

pub returns-in-Some : Rattle.iso_machine.proofs.accessing.write.Goals.returns-in-Some
returns-in-Some c = record {
  given = λ W t active.
      step_refused W t c.args.work.now active (write_step W t c.args.block c.args.bytes.now) c.args.block (not (length c.args.bytes.now == W.geometry.block)) (not (length c.args.bytes.now == c.block_size-size.result))
      reply.Done (write_access c.args.block c.args.bytes.now) c.in-Some.reply (write_is W t c.args.block c.args.bytes.now)
      (ap (λ (n : ℕ). not (length c.args.bytes.now == n)) (c.block_size-size.ensures.size ∙ active.is_work.size))
      (c.in-Some.ensures.refused W t active.is_work reply.Done (write_access c.args.block c.args.bytes.now));
  kept = tt;
}

pub returns : Rattle.iso_machine.proofs.accessing.write.Goals.returns
returns c = record {
  given = λ W t active.
      step_allowed W t c.args.work.now active (write_step W t c.args.block c.args.bytes.now) c.args.block (not (length c.args.bytes.now == W.geometry.block)) reply.Done
      (write_access c.args.block c.args.bytes.now) c.write.new.self None false (write_is W t c.args.block c.args.bytes.now)
      (ap (λ (n : ℕ). not (length c.args.bytes.now == n)) (sym (c.block_size-size.ensures.size ∙ active.is_work.size)) ∙ (c.in_default.ensures.allowed refl).1)
      (c.in_default.ensures.allowed refl).0 (c.in_default.ensures.allowed refl).2
      (c.write.ensures ∙ ap (λ (w : Doing). record w { accesses = w.accesses ++ write_access c.args.block c.args.bytes.now ∷ []; ready = None; settled = false }) c.in_ok-reserve.ensures.ok);
  kept = tt;
}
