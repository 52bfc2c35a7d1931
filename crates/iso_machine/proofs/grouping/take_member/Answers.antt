use Rattle.iso_machine.proofs.{Words.{◌≡◌, ◌∙◌, sym, refl, take, ◌+◌, subst, ◌<◌, List, [], ◌∷◌, ◌++◌, ap, get_or, length, map, true, set, remove, find, is_under_label, AllByRecursion, Option, Some, None, GroupReply, Attached, AreKnown, AreListed, IsOff, live_of, place_of}, Lists.{all_remove, remove_set}, Taking.{none_taken, one_taken}, Whereabouts.{all_off, alone, is_there, label_lone, listed_less}}
use Rattle.iso_model.specs.declared.access.GroupReply.TheVariants as member
use Rattle.iso_machine.specs.declared.attached.Spot.TheVariants as spot
use Rattle.iso_machine.proofs.grouping.take_member.Goals as goal

pub index_under_label-requires-clause-distinct : goal.index_under_label-requires-clause-distinct
index_under_label-requires-clause-distinct c = (subst (AreKnown c.args.finder.now) (sym c.deref.ensures.value) c.requires.known).distinct

pub index_under_label-requires-clause-nobody : goal.index_under_label-requires-clause-nobody
index_under_label-requires-clause-nobody c none =
    (subst (AreKnown c.args.finder.now) (sym c.deref.ensures.value) c.requires.known).listed.labels c.args.label.now c.take_label-number.ensures.label (sym c.take_label-number.ensures.number ∙ none)

pub returns-in_default-clause-taken : goal.returns-in_default-clause-taken
returns-in_default-clause-taken c =
    none_taken c.args.label.now c.deref.result.now c.args.live.now.items c.args.taken.now.answers.items c.push_reserved.new.self.items (take c.args.taken.now.count c.args.ends.now) c.deref.ensures.value c.in_default.ensures
    (c.push_reserved.ensures.items ∙ ap (λ (xs : List (Option GroupReply)). xs ++ None ∷ []) c.reserve.ensures.items)

pub returns-in_default-clause-listed : goal.returns-in_default-clause-listed
returns-in_default-clause-listed c =
    let text = c.args.label.now in
    let live = c.args.live.now.items in
    let none = subst (λ (l : List Attached). find (λ t. is_under_label text t.place) (map live_of l) ≡ None) c.deref.ensures.value c.in_default.ensures in
    listed_less c.args.finder.now c.take_label-number.new.self live live text (λ test all. all) (all_off (is_under_label text) live none) c.requires.known.listed c.take_label-number.ensures.others c.take_label-number.ensures.clients

pub returns-clause-taken : goal.returns-clause-taken
returns-clause-taken c =
    one_taken c.args.label.now c.deref.result.now c.args.live.now.items c.remove-gone.new.self.items c.in-Some.i c.remove-gone.result c.args.taken.now.answers.items c.push_reserved-2.new.self.items (take c.args.taken.now.count c.args.ends.now)
    (take (c.args.taken.now.count + 1) c.add_member.new.ends) c.deref.ensures.value c.requires.known.distinct c.in-Some.ensures.0 (c.in-Some.ensures.1 c.remove-gone.result) c.remove-gone.ensures.value c.remove-gone.ensures.items
    (c.push_reserved-2.ensures.items ∙ ap (λ (xs : List (Option GroupReply)). xs ++ Some member.Worn ∷ []) c.reserve.ensures.items) c.add_member.ensures

pub returns-clause-listed : goal.returns-clause-listed
returns-clause-listed c =
    let text = c.args.label.now in
    let live = c.args.live.now.items in
    let i = c.in-Some.i in
    let d = c.remove-gone.result in
    let e : Attached = record d { spot = spot.Client 0 } in
    let inside : i < length live = subst (λ (l : List Attached). i < length l) c.deref.ensures.value c.in-Some.ensures.0 in
    let there = subst (λ (l : List Attached). is_under_label text (place_of (get_or l i d).spot) ≡ true) c.deref.ensures.value (is_there (is_under_label text) (map live_of c.deref.result.now) _ (c.in-Some.ensures.1 d)) in
    let gone = subst (AllByRecursion (IsOff (is_under_label text))) (remove_set live i e)
    (all_remove (IsOff (is_under_label text)) (set live i e) i (alone (is_under_label text) (label_lone text) live i d e c.requires.known.distinct inside there refl)) in
    subst (AreListed c.take_label-number.new.self) (sym c.remove-gone.ensures.items)
    (listed_less c.args.finder.now c.take_label-number.new.self live (remove live i) text (λ test all. all_remove (IsOff test) live i all) gone c.requires.known.listed c.take_label-number.ensures.others c.take_label-number.ensures.clients)
