use Rattle.iso_machine.proofs.{Words.{arith, ℕ, List, take, drop, length, ◌≡◌, ◌∙◌, sym, refl, ap, is_outside, get_access, shown_to, get_step, disk_of}, Accesses.{get_is, shown_given, step_refused, take_front}, Acts.{acts_alone, acts_got, acts_refused}}
use Rattle.script_model.specs.declared.script.Reply.TheVariants as reply
use Rattle.iso_machine.proofs.reading.get.Goals as goal

pub returns-in-Some : goal.returns-in-Some
returns-in-Some g c = acts_alone (g.met.D.Disk.lawful (disk_of c.args.core.now)) c.in-Some.reply (λ W t of tx active.
    let answer = reply.Shown (take c.args.range.len (drop c.args.range.off (shown_to W t c.args.range.block))) in
    let access = get_access c.args.range.block c.args.range.off c.args.range.len in
    shown_given (g.D.Disk.state (disk_of c.args.core.now)) W t (get_step W t c.args.range.block c.args.range.off c.args.range.len) c.args.work.now c.in-Some.reply
    (step_refused W t c.args.work.now active (get_step W t c.args.range.block c.args.range.off c.args.range.len) c.args.range.block (is_outside W.geometry.block c.args.range.off c.args.range.len) c.is_outside.result answer access c.in-Some.reply
    (get_is W t c.args.range.block c.args.range.off c.args.range.len)
    (c.is_outside.ensures ∙ ap (λ (n : ℕ). is_outside n c.args.range.off c.args.range.len) (c.block_size-size.ensures.size ∙ active.is_work.size))
    (c.in-Some.ensures.refused W t active.is_work answer access)))

pub get_within-requires-clause-allowed : goal.get_within-requires-clause-allowed
get_within-requires-clause-allowed g c =
    let n : length c.deref_mut.result.now ≡ c.args.range.len = omega (arith, ap (λ (l : List ℕ). length l) c.deref_mut.ensures.value, c.fit.new.buffer.ok.0, c.in_default-fit.ensures) in
    let may = c.in_default.ensures.allowed refl in (
      may.0,
      ap (λ (m : ℕ). is_outside c.args.work.now.size c.args.range.off m) n ∙ ap (λ (m : ℕ). is_outside m c.args.range.off c.args.range.len) (sym c.block_size-size.ensures.size) ∙ sym c.is_outside.ensures ∙ may.1,
      may.2,
    )

pub returns-in-Ok : goal.returns-in-Ok
returns-in-Ok g c =
    let n : length c.deref_mut.result.now ≡ c.args.range.len = omega (arith, ap (λ (l : List ℕ). length l) c.deref_mut.ensures.value, c.fit.new.buffer.ok.0, c.in_default-fit.ensures) in
    acts_got c.args.range.block c.args.range.off n
    (c.of.ensures ∙ take_front c.fit.new.buffer.len c.get_within.new.into (drop (length c.get_within.new.into) c.fit.new.buffer.items)
    (omega (arith, c.get_within.ensures.length, ap (λ (l : List ℕ). length l) c.deref_mut.ensures.value, c.fit.new.buffer.ok.0)))
    c.in-Ok.ensures.acts

pub returns-in-Err-get_within : goal.returns-in-Err-get_within
returns-in-Err-get_within g c = acts_refused c.in-Err-get_within.why c.in-Err-get_within.ensures.acts
