use Rattle.iso_machine.proofs.{Words.{◌≡◌, ◌∙◌, sym, refl, ap, subst, ℕ, ◌<◌, length, List, Some, None, get_or, set, AreListed, IsOff, find, is_under_label, key_of, map, nat_eq, slice_index_or, Option, Reply, placed, step, World, client, held, IsWorld, step_leads, disk_of, Doing, Attached, AreOf, IsSized, live_of, get}, Lists.{all_at, all_set, pick}, Machines.{changed, distinct, held_none, held_some, known, nobody_under, relisted, takeover_is}, Quiet.stays_with, Whereabouts.{all_off, alone, clients_come, is_there, label_lone, labels_go, listed_less}}
use Rattle.script_model.specs.declared.script.Op.TheVariants as op
use Rattle.script_model.specs.declared.script.Reply.TheVariants as reply
use Rattle.iso_machine.specs.declared.attached.Spot.TheVariants as spot
use Rattle.iso_machine.proofs.machine.Machine.takeover.Goals as goal

pub returns-in-Some : goal.returns-in-Some
returns-in-Some g c W of =
    let m = c.args.self.now in
    let d = pick m.live.items c.in-Some.field-0 c.in-Some.ensures.within in
    stays_with (g.met.D.Disk.lawful (disk_of m.core)) of refl
    (takeover_is W c.args.client c.args.label.now (Some (live_of (get_or m.live.items c.in-Some.field-0 d))) (held W c.args.label.now) (c.in-Some.ensures.here W of d).here refl) of

pub index_under_label-requires-clause-distinct : goal.index_under_label-requires-clause-distinct
index_under_label-requires-clause-distinct g c = (known c.requires.1 c.deref.result.now c.deref.ensures.value).distinct

pub index_under_label-requires-clause-nobody : goal.index_under_label-requires-clause-nobody
index_under_label-requires-clause-nobody g c =
    nobody_under c.requires.1 c.deref.result.now c.args.label.now c.take_label-number.result c.deref.ensures.value c.take_label-number.ensures.label c.take_label-number.ensures.number

pub returns-in_default-index_under_label : goal.returns-in_default-index_under_label
returns-in_default-index_under_label g c W of =
    let m = c.args.self.now in
    let text = c.args.label.now in
    let now = c.take_label-number.new.self in
    let none = subst (λ (l : List Attached). find (λ t. is_under_label text t.place) (map live_of l) ≡ None) c.deref.ensures.value c.in_default-index_under_label.ensures in
    let listed : AreListed now m.live.items =
    listed_less m.finder now m.live.items m.live.items text (λ test all. all) (all_off (is_under_label text) m.live.items none) of.listed c.take_label-number.ensures.others c.take_label-number.ensures.clients in
    stays_with (g.met.D.Disk.lawful (disk_of m.core)) of refl
    (takeover_is W c.args.client text None None (c.in_default.ensures.here W of) (held_none of text c.deref.result.now c.deref.ensures.value c.in_default-index_under_label.ensures)) (relisted of now listed)

pub returns : goal.returns
returns g c W of =
    let m = c.args.self.now in
    let i = c.in-Some-index_under_label.i in
    let d = c.index_mut-attached.result.now in
    let a : Attached = get_or m.live.items i d in
    let text = c.args.label.now in
    let b : Attached = record a { spot = spot.Client c.args.client } in
    let inside = subst (λ (l : List Attached). i < length l) c.deref.ensures.value c.in-Some-index_under_label.ensures.0 in
    let is_held = held_some of text c.deref.result.now i d c.deref.ensures.value (c.in-Some-index_under_label.ensures.1 d) in
    let says : step W c.args.client (op.Takeover text) ≡ (reply.Began a.work.value.begin, placed W (live_of a) (client c.args.client)) =
    takeover_is W c.args.client text None (Some (live_of a)) (c.in_default.ensures.here W of) is_held in
    let sized = all_at (IsSized W.geometry) m.live.items i d of.sized inside in
    let world : IsWorld (placed W (live_of a) (client c.args.client)) =
    subst (λ (given : Reply × World). IsWorld given.1) says (step_leads W c.args.client (op.Takeover text) of.core_of.kept_of.world tt).world in
    let listed : AreListed c.set_client.new.self (set m.live.items i b) = record {
      clients = clients_come m.finder c.set_client.new.self m.live.items (set m.live.items i b) b c.args.client d.tx (λ test all is. all_set (IsOff test) m.live.items i b all is) of.listed.clients refl
          c.set_client.ensures.own (λ k other. c.set_client.ensures.others k other ∙ ap (λ (l : List (Option ℕ)). slice_index_or l k None) c.take_label-number.ensures.clients);
      labels = labels_go m.finder c.set_client.new.self m.live.items (set m.live.items i b) text (λ other all. all_set (IsOff (is_under_label other)) m.live.items i b all refl)
          (alone (is_under_label text) (label_lone text) m.live.items i d b (distinct of) inside (is_there (is_under_label text) W.live (live_of a) is_held) refl) of.listed.labels
          (λ other is apart. ap (λ l. get nat_eq l (key_of other)) c.set_client.ensures.labels ∙ c.take_label-number.ensures.others other is apart);
    } in
    let same : set m.live.items i b ≡ set m.live.items i (record d { spot = spot.Client c.args.client }) =
    λ j. set m.live.items i (record (sym c.index_mut-attached.ensures.value j) { spot = spot.Client c.args.client }) in
    let at : a.work.value.begin ≡ c.begun_at.result = sym (c.begun_at.ensures ∙ ap (λ (w : Doing). w.begin) c.deref-2.ensures ∙ ap (λ (x : Attached). x.work.value.begin) c.index_mut-attached.ensures.value) in
    stays_with (g.met.D.Disk.lawful (disk_of m.core)) of refl (says ∙ ap (λ (n : ℕ). (reply.Began n, placed W (live_of a) (client c.args.client))) at)
    (subst (λ (l : List Attached). AreOf g.D.Disk.state m.core c.set_client.new.self l (placed W (live_of a) (client c.args.client))) same
    (changed of i d inside c.set_client.new.self b listed refl refl refl (record { size = sized.size; blocks = sized.blocks }) of.core_of world))
