-- Transactions that are taken out of the list of live ones for a group.
use Rattle.iso_machine.proofs.{Words.{◌≡◌, ◌∙◌, sym, refl, ap, subst, ℕ, ◌<◌, List, [], ◌∷◌, ◌++◌, length, get_or, map, arith, Option, Some, None, Result, Ok, Err, OnOk, append-nil, append_assoc, map-append, not, ◌==◌, AllByRecursion, remove, distinct_filter, GroupReply, found_ones, Live, AreDistinct, GroupEnd, Attached, IsSized, live_of, HasTaken, found_in, left_in, member_of, stand_in, under, without_found, all_append}, Lists.{all_at, all_remove, without_at}}
use Rattle.iso_model.specs.declared.access.GroupReply.TheVariants as member

-- nothing is under the label
pub none_taken : (text : List ℕ) (list live : List Attached) (answers new : List (Option GroupReply)) (ends : List GroupEnd) → list ≡ live → under text (map live_of list) ≡ None → new ≡ answers ++ None ∷ []
    → HasTaken (text ∷ []) live live answers new ends ends
none_taken text list live answers new ends same none pushed =
    let found : under text (map live_of live) ≡ None = subst (λ (l : List Attached). under text (map live_of l) ≡ None) same none in
    record {
      gone = [];
      live = ap (without_found (map live_of live)) (sym found);
      answers = pushed ∙ ap (λ (o : Option Live). answers ++ stand_in o ∷ []) (sym found);
      ends = sym (append-nil ends);
      members = ap (λ (o : Option Live). found_ones (o ∷ [])) (sym found);
      stay_sized = λ g all. all;
      gone_sized = λ g all. tt;
    }

-- one is
pub one_taken : (text : List ℕ) (list live left : List Attached) (i : ℕ) (a : Attached) (answers new : List (Option GroupReply)) (ends new_ends : List GroupEnd) → list ≡ live → AreDistinct (map live_of live)
    → i < length list → under text (map live_of list) ≡ Some (live_of (get_or list i a)) → a ≡ get_or live i a → left ≡ remove live i
    → new ≡ answers ++ Some member.Worn ∷ [] → new_ends ≡ ends ++ member_of a ∷ [] → HasTaken (text ∷ []) live left answers new ends new_ends
one_taken text list live left i a answers new ends new_ends same distinct within is picked removed pushed ended =
    let inside : i < length live = subst (λ (l : List Attached). i < length l) same within in
    let found : under text (map live_of live) ≡ Some (live_of a) =
    subst (λ (l : List Attached). under text (map live_of l) ≡ Some (live_of (get_or l i a))) same is ∙ ap (λ (b : Attached). Some (live_of b)) (sym picked) in
    record {
      gone = a ∷ [];
      live = ap (λ (l : List Attached). map live_of l) removed ∙ sym (without_at live i a distinct inside) ∙ ap (λ (b : Attached). without_found (map live_of live) (Some (live_of b))) (sym picked)
          ∙ ap (without_found (map live_of live)) (sym found);
      answers = pushed ∙ ap (λ (o : Option Live). answers ++ stand_in o ∷ []) (sym found);
      ends = ended;
      members = ap (λ (o : Option Live). found_ones (o ∷ [])) (sym found);
      stay_sized = λ g all. subst (λ (l : List Attached). AllByRecursion (IsSized g) l) (sym removed) (all_remove (IsSized g) live i all);
      gone_sized = λ g all. (subst (λ (b : Attached). IsSized g b) (sym picked) (all_at (IsSized g) live i a all inside), tt);
    }

-- no label
pub nothing_taken : (texts : List (List ℕ)) (live : List Attached) (answers : List (Option GroupReply)) (ends : List GroupEnd) → length texts ≡ 0 → HasTaken texts live live answers answers ends ends
nothing_taken (text ∷ texts) live answers ends none = absurd (omega (arith, none))
nothing_taken [] live answers ends none = record {
  gone = [];
  live = refl;
  answers = sym (append-nil answers);
  ends = sym (append-nil ends);
  members = refl;
  stay_sized = λ g all. all;
  gone_sized = λ g all. tt;
}

-- those that stay are different ones
without_distinct : (live : List Live) (o : Option Live) → AreDistinct live → AreDistinct (without_found live o)
without_distinct live None distinct = distinct
without_distinct live (Some t) distinct = distinct_filter (λ u. not (u.number == t.number)) live distinct

pub still_distinct : (text : List ℕ) (live left : List Attached) (answers new : List (Option GroupReply)) (ends new_ends : List GroupEnd) → AreDistinct (map live_of live)
    → HasTaken (text ∷ []) live left answers new ends new_ends → AreDistinct (map live_of left)
still_distinct text live left answers new ends new_ends distinct taken =
    subst (λ (l : List Live). AreDistinct l) (sym taken.live) (without_distinct (map live_of live) (under text (map live_of live)) distinct)

first_of : (o : Option Live) (found : List (Option Live)) → found_ones (o ∷ found) ≡ found_ones (o ∷ []) ++ found_ones found
first_of None found = refl
first_of (Some t) found = refl

-- one label, and then the others
pub both_taken : (text : List ℕ) (texts all : List (List ℕ)) (live mid left : List Attached) (answers more new : List (Option GroupReply)) (ends further new_ends : List GroupEnd) → all ≡ text ∷ texts
    → HasTaken (text ∷ []) live mid answers more ends further → HasTaken texts mid left more new further new_ends → HasTaken all live left answers new ends new_ends
both_taken text texts all live mid left answers more new ends further new_ends are first second =
    let L : List Live = map live_of live in
    let o : Option Live = under text L in
    subst (λ (ts : List (List ℕ)). HasTaken ts live left answers new ends new_ends) (sym are) (record {
      gone = first.gone ++ second.gone;
      live = second.live ∙ ap (left_in texts) first.live;
      answers = second.answers ∙ ap (λ (xs : List (Option GroupReply)). xs ++ map stand_in (found_in texts (map live_of mid))) first.answers
          ∙ append_assoc answers (stand_in o ∷ []) (map stand_in (found_in texts (map live_of mid)))
          ∙ ap (λ (l : List Live). answers ++ stand_in o ∷ map stand_in (found_in texts l)) first.live;
      ends = second.ends ∙ ap (λ (xs : List GroupEnd). xs ++ map member_of second.gone) first.ends ∙ append_assoc ends (map member_of first.gone) (map member_of second.gone)
          ∙ ap (λ (xs : List GroupEnd). ends ++ xs) (sym (map-append member_of first.gone second.gone));
      members = map-append live_of first.gone second.gone ∙ ap (λ (xs : List Live). xs ++ map live_of second.gone) first.members
          ∙ ap (λ (xs : List Live). found_ones (o ∷ []) ++ xs) (second.members ∙ ap (λ (l : List Live). found_ones (found_in texts l)) first.live)
          ∙ sym (first_of o (found_in texts (without_found L o)));
      stay_sized = λ g all. second.stay_sized g (first.stay_sized g all);
      gone_sized = λ g all. all_append (IsSized g) first.gone second.gone (first.gone_sized g all) (second.gone_sized g (first.stay_sized g all));
    })

pub on_both : {A E : Type 0} (r : Result A E) (text : List ℕ) (texts all : List (List ℕ)) (live mid left : List Attached) (answers more new : List (Option GroupReply)) (ends further new_ends : List GroupEnd) → all ≡ text ∷ texts
    → HasTaken (text ∷ []) live mid answers more ends further → OnOk r (HasTaken texts mid left more new further new_ends) → OnOk r (HasTaken all live left answers new ends new_ends)
on_both (Ok x) text texts all live mid left answers more new ends further new_ends are first second = both_taken text texts all live mid left answers more new ends further new_ends are first second
on_both (Err e) text texts all live mid left answers more new ends further new_ends are first second = tt

-- where nothing was taken before
pub from_none : {texts : List (List ℕ)} {live left : List Attached} {answers new : List (Option GroupReply)} {ends new_ends : List GroupEnd} → answers ≡ [] → ends ≡ [] → HasTaken texts live left answers new ends new_ends
    → HasTaken texts live left [] new [] new_ends
from_none {texts = texts} {live = live} {left = left} {new = new} {new_ends = new_ends} no_answers no_ends taken =
    rw (no_answers, no_ends) at taken
