use Rattle.iso_machine.proofs.{Words.{◌≡◌, ◌∙◌, sym, refl, ap, length, ◌++◌, ◌∷◌, [], ℕ, None, false, is_outside, put_access, put_step, Doing}, Accesses.{put_is, step_allowed, step_refused}}
use Rattle.script_model.specs.declared.script.Reply.TheVariants as reply

pub returns-in-Some-clause-given : Rattle.iso_machine.proofs.accessing.put.Goals.returns-in-Some-clause-given
returns-in-Some-clause-given c W t active =
    step_refused W t c.args.work.now active (put_step W t c.args.block c.args.off c.args.bytes.now) c.args.block (is_outside W.geometry.block c.args.off (length c.args.bytes.now)) c.is_outside.result
    reply.Done (put_access W.geometry.block c.args.block c.args.off c.args.bytes.now) c.in-Some.reply (put_is W t c.args.block c.args.off c.args.bytes.now)
    (c.is_outside.ensures ∙ ap (λ (n : ℕ). is_outside n c.args.off (length c.args.bytes.now)) (c.block_size-size.ensures.size ∙ active.is_work.size))
    (c.in-Some.ensures.refused W t active.is_work reply.Done (put_access W.geometry.block c.args.block c.args.off c.args.bytes.now))

pub returns-clause-given : Rattle.iso_machine.proofs.accessing.put.Goals.returns-clause-given
returns-clause-given c W t active =
    let old = c.args.work.now in
    let off = c.args.off in
    let bytes = c.args.bytes.now in
    let puts = λ (w : Doing). record w { accesses = w.accesses ++ put_access w.size c.args.block off bytes ∷ []; ready = None; settled = false } in
    let size : c.block_size-size.result ≡ W.geometry.block = c.block_size-size.ensures.size ∙ active.is_work.size in
    step_allowed W t old active (put_step W t c.args.block off bytes) c.args.block (is_outside W.geometry.block off (length bytes)) reply.Done
    (put_access W.geometry.block c.args.block off bytes) c.put.new.self None false (put_is W t c.args.block off bytes)
    (ap (λ (n : ℕ). is_outside n off (length bytes)) (sym size) ∙ sym c.is_outside.ensures ∙ (c.in_default.ensures.allowed refl).1)
    (c.in_default.ensures.allowed refl).0 (c.in_default.ensures.allowed refl).2
    (c.put.ensures ∙ ap puts c.in_ok-reserve.ensures.ok
    ∙ ap (λ (n : ℕ). record old { accesses = old.accesses ++ put_access n c.args.block off bytes ∷ []; ready = None; settled = false }) active.is_work.size)
