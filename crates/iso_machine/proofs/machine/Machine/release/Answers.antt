use Rattle.iso_machine.proofs.{Words.{MatchOption, ℕ, ◌≡◌, sym, subst, ◌<◌, List, Some, None, length, get_or, set, AreListed, IsOff, is_at_client, is_under_label, key_of, nat_eq, find, map, Option, ◌∙◌, ap, refl, Reply, placed, step, World, held, label, IsWorld, step_leads, disk_of, Attached, AreOf, IsSized, live_of, get}, Lists.{all_at, all_set, pick}, Machines.{changed, distinct, held_none, held_some, known, release_is, relisted}, Quiet.{stays_with, wants_memory}, Whereabouts.{alone, client_lone, clients_go, is_there, labels_come}}
use Rattle.script_model.specs.declared.script.Op.TheVariants as op
use Rattle.script_model.specs.declared.script.Reply.TheVariants as reply
use Rattle.iso_machine.specs.declared.attached.Spot.TheVariants as spot
use Rattle.iso_machine.proofs.machine.Machine.release.Goals as goal

pub returns-in_default : goal.returns-in_default
returns-in_default g c is W of =
    stays_with (g.met.D.Disk.lawful (disk_of c.args.self.now.core)) of refl (release_is W c.args.client c.args.label.now None (held W c.args.label.now) (c.in_default.ensures.here W of) refl) of

pub claim-requires : goal.claim-requires
claim-requires g c = known c.requires.1 c.deref.result.now c.deref.ensures.value

pub returns-in_default-claim : goal.returns-in_default-claim
returns-in_default-claim g c is W of =
    wants_memory (g.met.D.Disk.lawful (disk_of c.args.self.now.core)) of refl (λ may. relisted of c.claim.new.finder (subst (AreListed c.claim.new.finder) c.deref.ensures.value c.claim.ensures.listed))

pub returns-in-Some-found : goal.returns-in-Some-found
returns-in-Some-found g c is W of =
    let m = c.args.self.now in
    let text = c.args.label.now in
    let d = pick m.live.items c.in-Some.i c.in-Some.ensures.within in
    let found = subst (λ (o : Option ℕ). MatchOption o (find (λ t. is_under_label text t.place) (map live_of c.deref.result.now) ≡ None)
    (λ i. (i < length c.deref.result.now) × ((d : Attached) → find (λ t. is_under_label text t.place) (map live_of c.deref.result.now) ≡ Some (live_of (get_or c.deref.result.now i d))))) c.in-Some-found.is c.in-Ok.ensures.found in
    stays_with (g.met.D.Disk.lawful (disk_of m.core)) of refl
    (release_is W c.args.client text (Some (live_of (get_or m.live.items c.in-Some.i d))) (Some (live_of (get_or m.live.items c.in-Some-found.field-0 d)))
    (c.in-Some.ensures.here W of d).here (held_some of text c.deref.result.now c.in-Some-found.field-0 d c.deref.ensures.value (found.1 d)))
    (relisted of c.claim.new.finder (subst (AreListed c.claim.new.finder) c.deref.ensures.value c.claim.ensures.listed))

pub returns : goal.returns
returns g c is W of =
    let m = c.args.self.now in
    let i = c.in-Some.i in
    let d = c.index_mut.result.now in
    let a : Attached = get_or m.live.items i d in
    let text = c.args.label.now in
    let b : Attached = record a { spot = spot.Label text } in
    let inside = c.in-Some.ensures.within in
    let here = (c.in-Some.ensures.here W of d).here in
    let says : step W c.args.client (op.Release text) ≡ (reply.Done, placed W (live_of a) (label text)) =
    release_is W c.args.client text (Some (live_of a)) None here
    (held_none of text c.deref.result.now c.deref.ensures.value
    (subst (λ (o : Option ℕ). MatchOption o (find (λ t. is_under_label text t.place) (map live_of c.deref.result.now) ≡ None)
    (λ i. (i < length c.deref.result.now) × ((d : Attached) → find (λ t. is_under_label text t.place) (map live_of c.deref.result.now) ≡ Some (live_of (get_or c.deref.result.now i d))))) c.in_default-found.is c.in-Ok.ensures.found)) in
    let sized = all_at (IsSized W.geometry) m.live.items i d of.sized inside in
    let world : IsWorld (placed W (live_of a) (label text)) = subst (λ (given : Reply × World). IsWorld given.1) says (step_leads W c.args.client (op.Release text) of.core_of.kept_of.world is).world in
    let claimed : AreListed c.claim.new.finder m.live.items = subst (AreListed c.claim.new.finder) c.deref.ensures.value c.claim.ensures.listed in
    let listed : AreListed c.set_client.new.self (set m.live.items i b) = record {
      clients = clients_go c.claim.new.finder c.set_client.new.self m.live.items (set m.live.items i b) c.args.client (λ k all. all_set (IsOff (is_at_client k)) m.live.items i b all refl)
          (alone (is_at_client c.args.client) (client_lone c.args.client) m.live.items i d b (distinct of) inside (is_there (is_at_client c.args.client) W.live (live_of a) here) refl) claimed.clients c.set_client.ensures.others;
      labels = labels_come c.claim.new.finder c.set_client.new.self m.live.items (set m.live.items i b) b text _ (λ test all is. all_set (IsOff test) m.live.items i b all is) claimed.labels refl
          (ap (λ l. get nat_eq l (key_of text)) c.set_client.ensures.labels ∙ c.in-Ok.ensures.own c.in_default-found.is) (λ other. ap (λ l. get nat_eq l (key_of other)) c.set_client.ensures.labels);
    } in
    let same : set m.live.items i b ≡ set m.live.items i (record d { spot = spot.Label c.copy.result }) =
    λ j. set m.live.items i (record (sym c.index_mut.ensures.value j) { spot = spot.Label (sym c.copy.ensures j) }) in
    stays_with (g.met.D.Disk.lawful (disk_of m.core)) of refl says
    (subst (λ (l : List Attached). AreOf g.D.Disk.state m.core c.set_client.new.self l (placed W (live_of a) (label text))) same
    (changed of i d inside c.set_client.new.self b listed refl refl refl (record { size = sized.size; blocks = sized.blocks }) of.core_of world))
