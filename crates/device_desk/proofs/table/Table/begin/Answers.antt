use Rattle.iso_machine.proofs.{Words.{◌≡◌, ◌∙◌, sym, refl, ap, subst, ℕ, Ok, CoreError, List, [], ◌∷◌, ◌++◌, None, IsTrue, Geometry, CoreReply, Reply, is_block_size, last, after_begin, begin_step, mode_named, as_step, step, World, client, unattached, IsWorld, step_leads, Core, Refuses, Answers, Always, answer_to, disk_of, up, Doing, shows}, Begins.{began_at, begin_is, begin_keeps, begins_alike, has_begun, valid_block}, Quiet.{answers_as, answers_by}, Refusals.refused_still}
use Rattle.iso_model.specs.declared.core_error.CoreError.TheVariants as error
use Rattle.iso_model.specs.declared.core_reply.CoreReply.TheVariants as core
use Rattle.script_model.specs.declared.script.Op.TheVariants as op
use Rattle.script_model.specs.declared.script.Reply.TheVariants as reply
use Rattle.device_desk.specs.{declared.seat.Seat.Seat, Seats.{AreOf, IsSized, live_of}}
use Rattle.device_desk.proofs.Tables.{begun, next_is_free, stays_with, wants_memory}
use Rattle.device_desk.proofs.table.Table.begin.Goals as goal

pub returns-in-Err-clause-answer : goal.returns-in-Err-clause-answer
returns-in-Err-clause-answer g c W of =
    let m = c.args.self.now in
    wants_memory of (g.met.D.Disk.lawful (disk_of m.core)) refl (λ may. subst (λ (l : List Seat). AreOf g.D.Disk.state m.core l W) (sym c.in-Err.ensures.items) of)

pub returns-in-Err-take_work-clause-answer : goal.returns-in-Err-take_work-clause-answer
returns-in-Err-take_work-clause-answer g c W of =
    let m = c.args.self.now in
    wants_memory of (g.met.D.Disk.lawful (disk_of m.core)) refl (λ may. subst (λ (l : List Seat). AreOf g.D.Disk.state m.core l W) (sym c.reserve.ensures.items) of)

pub returns-in-Err-begin-clause-answer : goal.returns-in-Err-begin-clause-answer
returns-in-Err-begin-clause-answer g c W of =
    let m = c.args.self.now in
    let mode = mode_named W c.args.mode in
    let e = c.in-Err-begin.error in
    let state = g.D.Disk.state in
    let live = c.reserve.new.self.items in
    let still : AreOf state m.core live W = subst (λ (l : List Seat). AreOf state m.core l W) (sym c.reserve.ensures.items) of in
    let refuses : Refuses (begin_step W (client W.next) mode).0 e =
    subst (λ (r : CoreReply). Refuses r e) (begins_alike W unattached (client W.next) mode) (c.in-Err-begin.ensures.refused W of.core_of) in
    answers_by c.refused.ensures (answers_as (sym (begin_is W W.next c.args.mode None (next_is_free of)))
    (subst (λ (k : Core g.row.D.Denot). Answers Always (AreOf state k live) (state (disk_of m.core)) (state (disk_of k)) W (as_step (begin_step W (client W.next) mode)) (answer_to e)) (sym c.in-Err-begin.ensures.kept)
    (refused_still (g.met.D.Disk.lawful (disk_of m.core)) (shows state m.core W of.core_of) e refuses (begin_keeps W (client W.next) mode) still)))

pub take_work-requires : goal.take_work-requires
take_work-requires g c =
    let (W, of) = c.requires in
    let geometry : c.geometry-geometry.result ≡ W.geometry = c.geometry-geometry.ensures W up of.core_of in
    subst (λ (h : Geometry). IsTrue (is_block_size h.block)) (sym geometry) (valid_block W.geometry of.core_of.kept_of.world.valid)

pub returns-clause-answer : goal.returns-clause-answer
returns-clause-answer g c W of =
    let m = c.args.self.now in
    let mode = mode_named W c.args.mode in
    let place = client W.next in
    let at = c.in-Ok-begin.begun.at in
    let b : Seat = record { tx = c.in-Ok-begin.begun.tx; work = record c.in-Ok.work { value = c.restart.new.self } } in
    let is = c.in-Ok-begin.ensures.begun W of.core_of in
    let geometry : c.geometry-geometry.result ≡ W.geometry = c.geometry-geometry.ensures W up of.core_of in
    let began : (begin_step W place mode).0 ≡ core.Began at = begins_alike W place unattached mode ∙ is.2 in
    let says : step W W.next (op.Begin c.args.mode) ≡ (reply.Began at, after_begin W place mode) =
    begin_is W W.next c.args.mode None (next_is_free of) ∙ ap as_step (has_begun W place mode at began) in
    let world : IsWorld (after_begin W place mode) =
    subst (λ (given : Reply × World). IsWorld given.1) says (step_leads W W.next (op.Begin c.args.mode) of.core_of.kept_of.world tt).world in
    let begin : c.restart.new.self.begin ≡ last W.history = ap (λ (w : Doing). w.begin) c.restart.ensures ∙ began_at W place mode at began in
    let its_mode : c.restart.new.self.mode ≡ mode = ap (λ (w : Doing). w.mode) c.restart.ensures ∙ is.1 in
    let none : c.restart.new.self.accesses ≡ [] = ap (λ (w : Doing). w.accesses) c.restart.ensures in
    let live_is : live_of b ≡ record { number = W.next; begin = last W.history; mode = mode; accesses = []; place = place } =
    λ i. record { number = is.0 i; begin = begin i; mode = its_mode i; accesses = none i; place = client (is.0 i) } in
    let sized : IsSized W.geometry b = record {
      size = ap (λ (w : Doing). w.size) c.restart.ensures ∙ ap (λ (h : Geometry). h.block) geometry;
      blocks = ap (λ (w : Doing). w.blocks) c.restart.ensures ∙ ap (λ (h : Geometry). h.blocks) geometry;
    } in
    let items : c.push_reserved.new.self.items ≡ m.live.items ++ b ∷ [] = c.push_reserved.ensures.items ∙ ap (λ (l : List Seat). l ++ b ∷ []) c.reserve.ensures.items in
    stays_with of (g.met.D.Disk.lawful (disk_of m.core)) c.begin.ensures.disk says
    (subst (λ (l : List Seat). AreOf g.D.Disk.state c.begin.new.self l (after_begin W place mode)) (sym items) (begun of b W.next mode live_is sized is.3 world))

-- an error represents no begin
not_begun : (e : CoreError) (at : ℕ) → answer_to e ≡ Ok (reply.Began at) → ⊥
not_begun error.Down at is = cc is
not_begun error.TooManyTx at is = cc is
not_begun (error.LogFull need free) at is = cc is
not_begun error.Disk at is = cc is
not_begun error.Memory at is = cc is
not_begun (error.Worn n) at is = cc is
not_begun error.ModeFixed at is = cc is

pub returns-in-Err-begin-clause-number : goal.returns-in-Err-begin-clause-number
returns-in-Err-begin-clause-number g c W at of told = absurd (not_begun c.in-Err-begin.error at (sym c.refused.ensures ∙ told))

pub returns-clause-number : goal.returns-clause-number
returns-clause-number g c W at of told = (c.in-Ok-begin.ensures.begun W of.core_of).0
