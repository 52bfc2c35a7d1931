use Rattle.iso_machine.proofs.{Words.{ℕ, List, take, drop, length, ◌≡◌, ◌∙◌, sym, refl, ap, subst, Ok, Reply, is_outside, get_access, shown_to, get_step, disk_of}, Accesses.{get_is, shown_given, step_refused}}
use Rattle.iso_machine.specs.Accessing.{IsFilled, IsRefusal, IsShown, bytes_shown}
use Rattle.script_model.specs.declared.script.Reply.TheVariants as reply
use Rattle.iso_machine.proofs.reading.get_into.Goals as goal

-- a refusal shows nothing
as_refused : (r : Reply) (into : List ℕ) → IsRefusal r → bytes_shown r into ≡ r
as_refused reply.BadBlock into is = refl
as_refused reply.BadRange into is = refl
as_refused reply.TooManyAccesses into is = refl
as_refused r into is = absurd is

unfilled : (r : Reply) (into : List ℕ) → IsRefusal r → IsFilled (Ok r) into into
unfilled reply.BadBlock into is = refl
unfilled reply.BadRange into is = refl
unfilled reply.TooManyAccesses into is = refl
unfilled r into is = absurd is

pub returns-in-Some-clause-given : goal.returns-in-Some-clause-given
returns-in-Some-clause-given g c W t of tx active =
    let n = length c.args.into.now in
    let answer = reply.Shown (take n (drop c.args.off (shown_to W t c.args.block))) in
    let access = get_access c.args.block c.args.off n in
    subst (λ (r : Reply). IsShown (g.D.Disk.state (disk_of c.args.core.now)) W t (get_step W t c.args.block c.args.off n) c.args.work.now r) (sym (as_refused c.in-Some.reply c.args.into.now c.in-Some.ensures.plain))
    (shown_given (g.D.Disk.state (disk_of c.args.core.now)) W t (get_step W t c.args.block c.args.off n) c.args.work.now c.in-Some.reply
    (step_refused W t c.args.work.now active (get_step W t c.args.block c.args.off n) c.args.block (is_outside W.geometry.block c.args.off n) c.is_outside.result answer access c.in-Some.reply
    (get_is W t c.args.block c.args.off n)
    (c.is_outside.ensures ∙ ap (λ (m : ℕ). is_outside m c.args.off n) (c.block_size-size.ensures.size ∙ active.is_work.size))
    (c.in-Some.ensures.refused W t active.is_work answer access)))

pub returns-in-Some-clause-filled : goal.returns-in-Some-clause-filled
returns-in-Some-clause-filled g c = unfilled c.in-Some.reply c.args.into.now c.in-Some.ensures.plain

pub returns-in-Ok-clause-given : goal.returns-in-Ok-clause-given
returns-in-Ok-clause-given g c W t of tx active = c.in-Ok.ensures.acts.given W t of tx active
