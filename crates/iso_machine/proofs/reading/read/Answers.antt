use Rattle.iso_machine.proofs.{Words.{arith, ℕ, List, drop, length, ◌∙◌, ◌≡◌, sym, whole_range, refl, ap, ◌++◌, ◌∷◌, [], None, Some, false, read_access, shown_to, read_step, with_access, disk_of, Doing}, Accesses.{one_more, read_is, shown_bytes, shown_given, step_is, step_refused, still_work, take_front}, Acts.{acts_alone, acts_read, may_read}, Ranges.length-shown}
use Rattle.iso_machine.proofs.reading.read.Goals as goal
use Rattle.script_model.specs.declared.script.Reply.TheVariants as reply

pub returns-in-Some : goal.returns-in-Some
returns-in-Some g c = acts_alone (g.met.D.Disk.lawful (disk_of c.args.core.now)) c.in-Some.reply (λ W t of tx active.
    shown_given (g.D.Disk.state (disk_of c.args.core.now)) W t (read_step W t c.args.block) c.args.work.now c.in-Some.reply
    (step_refused W t c.args.work.now active (read_step W t c.args.block) c.args.block false false (reply.Shown (shown_to W t c.args.block)) (read_access c.args.block) c.in-Some.reply (read_is W t c.args.block) refl
    (c.in-Some.ensures.refused W t active.is_work (reply.Shown (shown_to W t c.args.block)) (read_access c.args.block))))

pub read_into-requires-clause-stands : goal.read_into-requires-clause-stands
read_into-requires-clause-stands g c =
    let (W, t, of, here, active) = c.requires in
    (W, t, of, here, still_work W t c.args.work.now c.reserve.new.self (Some c.args.block) c.in_default-reserve.ensures.ok active.is_work)

pub read_into-requires-clause-range : goal.read_into-requires-clause-range
read_into-requires-clause-range g c =
    let long : length c.deref_mut.result.now ≡ c.len-size.result = omega (arith, ap (λ (l : List ℕ). length l) c.deref_mut.ensures.value, c.in-Ok.bytes.ok.0, c.len-size.ensures) in
    may_read c.args.work.now c.reserve.new.self c.args.block 0 c.len-size.result (length c.deref_mut.result.now) false c.in_default-reserve.ensures.ok (c.in_default.ensures.allowed refl)
    (omega (arith, long, c.len-size.ensures, c.in-Ok.ensures, c.block_size.ensures.size, c.in-Ok.bytes.ok.0)) (omega (arith, long))

pub returns-in-Ok-read_into : goal.returns-in-Ok-read_into
returns-in-Ok-read_into g c = acts_read _ (reply.Shown c.of.result) c.in-Ok-read_into.ensures (λ W t of tx active.
    let may = c.in_default.ensures.allowed refl in
    shown_bytes (g.D.Disk.state (disk_of c.args.core.now)) W t (read_step W t c.args.block) c.of.result (shown_to W t c.args.block) (with_access W t (read_access c.args.block)) c.read_into.new.work
    (read_is W t c.args.block ∙ step_is W t c.args.work.now active c.args.block false (reply.Shown (shown_to W t c.args.block)) (read_access c.args.block) refl may.0 may.2)
    (λ told.
    let n : ℕ = c.len-size.result in
    let size : n ≡ W.geometry.block = omega (arith, c.len-size.ensures, c.in-Ok.bytes.ok.0, c.in-Ok.ensures, c.block_size.ensures.size, active.is_work.size) in
    c.of.ensures ∙ take_front c.in-Ok.bytes.len c.read_into.new.into (drop (length c.read_into.new.into) c.in-Ok.bytes.items)
    (omega (arith, c.read_into.ensures.long, ap (λ (l : List ℕ). length l) c.deref_mut.ensures.value, c.in-Ok.bytes.ok.0))
    ∙ whole_range n c.read_into.new.into (shown_to W t c.args.block) (omega (arith, c.len-size.ensures, c.read_into.ensures.long, ap (λ (l : List ℕ). length l) c.deref_mut.ensures.value, c.in-Ok.bytes.ok.0))
    (length-shown W of.kept_of.world t c.args.block (omega (arith, may.0, active.is_work.blocks)) ∙ sym size)
    (c.in-Ok-read_into.ensures.shown W t of tx (still_work W t c.args.work.now c.reserve.new.self (Some c.args.block) c.in_default-reserve.ensures.ok active.is_work) told))
    (one_more W t c.args.work.now active (read_access c.args.block) c.read_into.new.work None false
    (c.in-Ok-read_into.ensures.work ∙ ap (λ (w : Doing). record w { accesses = w.accesses ++ read_access c.args.block ∷ []; ready = None; settled = false }) c.in_default-reserve.ensures.ok)))
