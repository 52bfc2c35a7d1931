use Rattle.iso_machine.proofs.{Words.{◌≡◌, ◌∙◌, sym, refl, ap, subst, all_push, AreListed, IsOff, is_under_label, key_of, nat_eq, List, [], ◌∷◌, ◌++◌, Some, None, get_or, IsTrue, Geometry, CoreReply, Reply, is_block_size, last, after_begin, begin_step, mode_named, as_step, step, World, client, unattached, IsWorld, step_leads, Core, Refuses, Answers, Always, answer_to, disk_of, up, Doing, Attached, shows, AreOf, IsSized, live_of, get}, Begins.{began_at, begin_is, begin_keeps, begins_alike, has_begun, valid_block}, Lists.pick, Machines.begun, Quiet.{answers_as, answers_by, stays_with, wants_memory}, Refusals.refused_still, Whereabouts.clients_come}
use Rattle.iso_model.specs.declared.core_reply.CoreReply.TheVariants as core
use Rattle.script_model.specs.declared.script.Op.TheVariants as op
use Rattle.script_model.specs.declared.script.Reply.TheVariants as reply
use Rattle.iso_machine.specs.declared.attached.Spot.TheVariants as spot
use Rattle.iso_machine.proofs.machine.Machine.begin.Goals as goal

pub returns-in-Some : goal.returns-in-Some
returns-in-Some g c W of =
    let m = c.args.self.now in
    let d = pick m.live.items c.in-Some.field-0 c.in-Some.ensures.within in
    stays_with (g.met.D.Disk.lawful (disk_of m.core)) of refl (begin_is W c.args.client c.args.mode (Some (live_of (get_or m.live.items c.in-Some.field-0 d))) (c.in-Some.ensures.here W of d).here) of

pub returns-in-Err : goal.returns-in-Err
returns-in-Err g c W of =
    let m = c.args.self.now in
    wants_memory (g.met.D.Disk.lawful (disk_of m.core)) of refl (λ may. subst (λ (l : List Attached). AreOf g.D.Disk.state m.core m.finder l W) (sym c.in-Err.ensures.items) of)

pub returns-in-Err-take_work : goal.returns-in-Err-take_work
returns-in-Err-take_work g c W of =
    let m = c.args.self.now in
    wants_memory (g.met.D.Disk.lawful (disk_of m.core)) of refl (λ may. subst (λ (l : List Attached). AreOf g.D.Disk.state m.core m.finder l W) (sym c.reserve.ensures.items) of)

pub returns-in-Err-begin : goal.returns-in-Err-begin
returns-in-Err-begin g c W of =
    let m = c.args.self.now in
    let mode = mode_named W c.args.mode in
    let e = c.in-Err-begin.error in
    let state = g.D.Disk.state in
    let live = c.reserve.new.self.items in
    let still : AreOf state m.core m.finder live W = subst (λ (l : List Attached). AreOf state m.core m.finder l W) (sym c.reserve.ensures.items) of in
    let refuses : Refuses (begin_step W (client c.args.client) mode).0 e =
    subst (λ (r : CoreReply). Refuses r e) (begins_alike W unattached (client c.args.client) mode) (c.in-Err-begin.ensures.refused W of.core_of) in
    answers_by c.refused.ensures (answers_as (sym (begin_is W c.args.client c.args.mode None (c.in_default.ensures.here W of)))
    (subst (λ (k : Core g.row.D.Denot). Answers Always (AreOf state k m.finder live) (state (disk_of m.core)) (state (disk_of k)) W (as_step (begin_step W (client c.args.client) mode)) (answer_to e)) (sym c.in-Err-begin.ensures.kept)
    (refused_still (g.met.D.Disk.lawful (disk_of m.core)) (shows state m.core W of.core_of) e refuses (begin_keeps W (client c.args.client) mode) still)))

pub take_work-requires : goal.take_work-requires
take_work-requires g c =
    let (W, of) = c.requires in
    let geometry : c.geometry-geometry.result ≡ W.geometry = c.geometry-geometry.ensures W up of.core_of in
    subst (λ (h : Geometry). IsTrue (is_block_size h.block)) (sym geometry) (valid_block W.geometry of.core_of.kept_of.world.valid)

pub returns : goal.returns
returns g c W of =
    let m = c.args.self.now in
    let mode = mode_named W c.args.mode in
    let place = client c.args.client in
    let at = c.in-Ok-begin.begun.at in
    let b : Attached = record { tx = c.in-Ok-begin.begun.tx; spot = spot.Client c.args.client; work = record c.in-Ok.work { value = c.restart.new.self } } in
    let is = c.in-Ok-begin.ensures.begun W of.core_of in
    let geometry : c.geometry-geometry.result ≡ W.geometry = c.geometry-geometry.ensures W up of.core_of in
    let began : (begin_step W place mode).0 ≡ core.Began at = begins_alike W place unattached mode ∙ is.2 in
    let says : step W c.args.client (op.Begin c.args.mode) ≡ (reply.Began at, after_begin W place mode) =
    begin_is W c.args.client c.args.mode None (c.in_default.ensures.here W of) ∙ ap as_step (has_begun W place mode at began) in
    let world : IsWorld (after_begin W place mode) =
    subst (λ (given : Reply × World). IsWorld given.1) says (step_leads W c.args.client (op.Begin c.args.mode) of.core_of.kept_of.world tt).world in
    let begin : c.restart.new.self.begin ≡ last W.history = ap (λ (w : Doing). w.begin) c.restart.ensures ∙ began_at W place mode at began in
    let its_mode : c.restart.new.self.mode ≡ mode = ap (λ (w : Doing). w.mode) c.restart.ensures ∙ is.1 in
    let none : c.restart.new.self.accesses ≡ [] = ap (λ (w : Doing). w.accesses) c.restart.ensures in
    let live_is : live_of b ≡ record { number = W.next; begin = last W.history; mode = mode; accesses = []; place = place } =
    λ i. record { number = is.0 i; begin = begin i; mode = its_mode i; accesses = none i; place = place } in
    let sized : IsSized W.geometry b = record {
      size = ap (λ (w : Doing). w.size) c.restart.ensures ∙ ap (λ (h : Geometry). h.block) geometry;
      blocks = ap (λ (w : Doing). w.blocks) c.restart.ensures ∙ ap (λ (h : Geometry). h.blocks) geometry;
    } in
    let listed : AreListed c.set_client.new.self (m.live.items ++ b ∷ []) = record {
      clients = clients_come m.finder c.set_client.new.self m.live.items (m.live.items ++ b ∷ []) b c.args.client b.tx (λ test all is. all_push (IsOff test) m.live.items b all is) of.listed.clients refl
          c.set_client.ensures.own c.set_client.ensures.others;
      labels = λ text is none. all_push (IsOff (is_under_label text)) m.live.items b (of.listed.labels text is (ap (λ l. get nat_eq l (key_of text)) (sym c.set_client.ensures.labels) ∙ none)) refl;
    } in
    let items : c.push_reserved.new.self.items ≡ m.live.items ++ b ∷ [] = c.push_reserved.ensures.items ∙ ap (λ (l : List Attached). l ++ b ∷ []) c.reserve.ensures.items in
    stays_with (g.met.D.Disk.lawful (disk_of m.core)) of c.begin.ensures.disk says
    (subst (λ (l : List Attached). AreOf g.D.Disk.state c.begin.new.self c.set_client.new.self l (after_begin W place mode)) (sym items) (begun of c.set_client.new.self b place mode listed live_is sized is.3 world))
