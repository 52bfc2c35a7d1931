use Rattle.iso_machine.proofs.{Words.{◌∙◌, sym, refl, ap, subst, ℕ, false, Reply, is_outside, mark_refused, mark_step, Doing, IsGiven}, Accesses.{mark_done, mark_outside, mark_refused_is}}

pub returns-then-is_outside : Rattle.iso_machine.proofs.accessing.mark.Goals.returns-then-is_outside
returns-then-is_outside c W t active = mark_outside W t c.args.work.now active c.args.off c.args.len
    (ap (λ (n : ℕ). is_outside n c.args.off c.args.len) (sym c.block_size.ensures.size) ∙ sym c.if-is_outside.ensures)

pub returns-in-Ok : Rattle.iso_machine.proofs.accessing.mark.Goals.returns-in-Ok
returns-in-Ok c W t active =
    mark_done W t c.args.work.now active c.args.off c.args.len c.mark.new.self c.args.work.now.ready false (c.in-Ok.ensures.ok).0 (c.in-Ok.ensures.ok).1

pub returns-in-Err : Rattle.iso_machine.proofs.accessing.mark.Goals.returns-in-Err
returns-in-Err c W t active =
    let fault = c.in-Err.ensures.err c.in-Err.error refl in
    subst (λ (r : Reply). IsGiven W t (mark_step W t c.args.off c.args.len) c.mark.new.self r) (sym c.mark_reply.ensures)
    (subst (λ (w : Doing). IsGiven W t (mark_step W t c.args.off c.args.len) w (mark_refused c.in-Err.error)) (sym fault.1)
    (mark_refused_is W t c.args.work.now active c.args.off c.args.len c.in-Err.error fault.0))
