use Rattle.iso_machine.proofs.{Words.{arith, ℕ, List, take, drop, length, ◌≡◌, ◌∙◌, sym, ap, ◌++◌, ◌∷◌, [], None, Some, false, Access, get_access, is_outside, shown_to, get_step, with_access, disk_of, Doing}, Accesses.{get_is, one_more, shown_bytes, small_block, step_is, still_work, take_front, within}, Acts.{acts_read, may_read}}
use Rattle.script_model.specs.declared.script.Reply.TheVariants as reply
use Rattle.iso_machine.proofs.reading.get_within.Goals as goal

pub read_range-requires-clause-stands : goal.read_range-requires-clause-stands
read_range-requires-clause-stands g c =
    let (W, t, of, here, active) = c.requires.stands in
    (W, t, of, here, still_work W t c.args.work.now c.reserve.new.self (Some c.args.block) c.in_default-reserve.ensures.ok active.is_work)

pub read_range-requires-clause-range : goal.read_range-requires-clause-range
read_range-requires-clause-range g c =
    let old = c.args.work.now in
    let long : length c.deref_mut.result.now ≡ old.size = omega (arith, ap (λ (l : List ℕ). length l) c.deref_mut.ensures.value, c.fit.new.buffer.ok.0, c.in_default.ensures, c.block_size.ensures.size) in
    may_read old c.reserve.new.self c.args.block c.args.off (length c.args.into.now) (length c.deref_mut.result.now) (is_outside old.size c.args.off (length c.args.into.now)) c.in_default-reserve.ensures.ok c.requires.allowed long
    (omega (arith, (within old.size c.args.off (length c.args.into.now) c.requires.allowed.1).1, long))

pub read_range-requires-clause-small : goal.read_range-requires-clause-small
read_range-requires-clause-small g c =
    let inside = within c.args.work.now.size c.args.off (length c.args.into.now) c.requires.allowed.1 in
    let small = small_block c.block_size.result c.block_size.ensures.valid in
    omega (arith, inside.1, small, c.block_size.ensures.size)

pub returns-clause-acts : goal.returns-clause-acts
returns-clause-acts g c =
    acts_read _ (reply.Shown c.copy_out.new.into) c.in_default-read_range.ensures (λ W t of tx active.
    let old = c.args.work.now in
    let block = c.args.block in
    let off = c.args.off in
    let n = length c.args.into.now in
    let may = c.requires.allowed in
    let right : is_outside W.geometry.block off n ≡ false = ap (λ (m : ℕ). is_outside m off n) (sym active.is_work.size) ∙ may.1 in
    let shown : List ℕ = take n (drop off (shown_to W t block)) in
    let access : Access = get_access block off n in
    let gets = λ (w : Doing). record w { accesses = w.accesses ++ access ∷ []; ready = None; settled = false } in
    let front : c.deref.result.now ≡ c.read_range.new.into =
    c.deref.ensures.value ∙ take_front c.fit.new.buffer.len c.read_range.new.into (drop (length c.read_range.new.into) c.fit.new.buffer.items)
    (omega (arith, c.read_range.ensures.long, ap (λ (l : List ℕ). length l) c.deref_mut.ensures.value, c.fit.new.buffer.ok.0)) in
    shown_bytes (g.D.Disk.state (disk_of c.args.core.now)) W t (get_step W t block off n) c.copy_out.new.into shown (with_access W t access) c.read_range.new.work
    (get_is W t block off n ∙ step_is W t old active block (is_outside W.geometry.block off n) (reply.Shown shown) access right may.0 may.2)
    (λ told.
    c.copy_out.ensures ∙ ap (λ (l : List ℕ). take n (drop off l)) front
    ∙ c.in_default-read_range.ensures.shown W t of tx (still_work W t old c.reserve.new.self (Some block) c.in_default-reserve.ensures.ok active.is_work) told)
    (one_more W t old active access c.read_range.new.work None false (c.in_default-read_range.ensures.work ∙ ap gets c.in_default-reserve.ensures.ok)))
