use Rattle.iso_machine.proofs.{Words.{◌≡◌, ◌<◌, ◌∙◌, ℕ, List, Reply, ap, arith, disk_of, drop, false, is_outside, length, refl, shown_to, sym, take}, Accesses.{prepared, refused, shown_bytes, shown_given, take_front}}
use Rattle.device_desk.specs.Peeked.{peek_reply}
use Rattle.device_desk.proofs.Peeks.{peek_is}
use Rattle.device_desk.proofs.peek.peek_at.Goals as goal

pub returns-in-Some-clause-given : goal.returns-in-Some-clause-given
returns-in-Some-clause-given g c W t of tx active =
    let work = c.args.seat.now.work.value in
    let answer = peek_reply W t c.args.block c.args.off c.args.len in
    shown_given (g.D.Disk.state (disk_of c.args.core.now)) W t (answer, W) work c.in-Some.reply
    (refused W t work active (answer, W) c.in-Some.reply (ap (λ (r : Reply). (r, W)) (c.in-Some.ensures.refused W t active.is_work)))

pub returns-clause-given : goal.returns-clause-given
returns-clause-given g c W t of tx active =
    let work = c.args.seat.now.work.value in
    let may = c.in_default.ensures.allowed refl in
    let inside : c.args.block < W.geometry.blocks = omega (arith, may.0, active.is_work.blocks) in
    let right : is_outside W.geometry.block c.args.off c.args.len ≡ false = ap (λ (n : ℕ). is_outside n c.args.off c.args.len) (sym active.is_work.size) ∙ may.1 in
    let shown : List ℕ = take c.args.len (drop c.args.off (shown_to W t c.args.block)) in
    shown_bytes (g.D.Disk.state (disk_of c.args.core.now)) W t (peek_reply W t c.args.block c.args.off c.args.len, W) c.of.result shown W work
    (ap (λ (r : Reply). (r, W)) (peek_is W t c.args.block c.args.off c.args.len inside right))
    (λ told.
    let front : c.deref-2.result.now ≡ c.peek_into.new.into =
    c.deref-2.ensures.value ∙ take_front c.fit.new.buffer.len c.peek_into.new.into (drop (length c.peek_into.new.into) c.fit.new.buffer.items)
    (omega (arith, c.peek_into.auto.into, ap (λ (l : List ℕ). length l) c.deref_mut.ensures.value, c.fit.new.buffer.ok.0)) in
    c.of.ensures ∙ c.copy_from.ensures ∙ (λ i. take (c.in-Ok.ensures i) (drop c.args.off (front i))) ∙ c.in_default-peek_into.ensures.shown W t of tx active.is_work told)
    (prepared W t work active work work.settled refl)
