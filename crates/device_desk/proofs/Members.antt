-- A group over a table: what is taken out of its list is what the model finds by the numbers, and represents the same world.
use Rattle.iso_machine.proofs.{Words.{◌≡◌, ◌≢◌, ◌∙◌, sym, refl, ap, subst, ℕ, ◌≤◌, ◌<◌, ◌==◌, not, List, [], ◌∷◌, ◌++◌, length, get_or, map, arith, Option, Some, None, Result, Ok, Err, OnOk, append-nil, append_assoc, map-append, AllByRecursion, remove, all_filter, all_find, all_append, distinct_filter, DiskState, GroupReply, Geometry, World, Live, is_at_client, without, AreDistinct, found_ones, group, label_replies, Core, IsAmong, StandsFor, AreEach, IsMember, GroupEnd, up, reply_in, filled, stand_in, without_found}, Groups.{AreOther, all_among, filled_is, group_geometry, group_live, none_found, out, without_all}, Lists.{all_at, all_remove}}
use Rattle.iso_model.specs.declared.access.GroupReply.TheVariants as member
use Rattle.device_desk.specs.{declared.seat.Seat.Seat, Numbers.{HasTaken, found_of, left_of, member_of, numbers_step, of_number}, Seats.{AreOf, IsSized, live_of}}
use Rattle.device_desk.proofs.Lists.{without_at}

-- no transaction has the number
pub none_taken : (number : ℕ) (list live : List Seat) (answers new : List (Option GroupReply)) (ends : List GroupEnd) → list ≡ live → of_number number (map live_of list) ≡ None → new ≡ answers ++ None ∷ []
    → HasTaken (number ∷ []) live live answers new ends ends
none_taken number list live answers new ends same none pushed =
    let found : of_number number (map live_of live) ≡ None = subst (λ (l : List Seat). of_number number (map live_of l) ≡ None) same none in
    record {
      gone = [];
      live = ap (without_found (map live_of live)) (sym found);
      answers = pushed ∙ ap (λ (o : Option Live). answers ++ stand_in o ∷ []) (sym found);
      ends = sym (append-nil ends);
      members = ap (λ (o : Option Live). found_ones (o ∷ [])) (sym found);
      stay_sized = λ g all. all;
      gone_sized = λ g all. tt;
    }

-- one has
pub one_taken : (number : ℕ) (list live left : List Seat) (i : ℕ) (a : Seat) (answers new : List (Option GroupReply)) (ends new_ends : List GroupEnd) → list ≡ live → AreDistinct (map live_of live)
    → i < length list → of_number number (map live_of list) ≡ Some (live_of (get_or list i a)) → a ≡ get_or live i a → left ≡ remove live i
    → new ≡ answers ++ Some member.Worn ∷ [] → new_ends ≡ ends ++ member_of a ∷ [] → HasTaken (number ∷ []) live left answers new ends new_ends
one_taken number list live left i a answers new ends new_ends same distinct within is picked removed pushed ended =
    let inside : i < length live = subst (λ (l : List Seat). i < length l) same within in
    let found : of_number number (map live_of live) ≡ Some (live_of a) =
    subst (λ (l : List Seat). of_number number (map live_of l) ≡ Some (live_of (get_or l i a))) same is ∙ ap (λ (b : Seat). Some (live_of b)) (sym picked) in
    record {
      gone = a ∷ [];
      live = ap (λ (l : List Seat). map live_of l) removed ∙ sym (without_at live i a distinct inside) ∙ ap (λ (b : Seat). without_found (map live_of live) (Some (live_of b))) (sym picked)
          ∙ ap (without_found (map live_of live)) (sym found);
      answers = pushed ∙ ap (λ (o : Option Live). answers ++ stand_in o ∷ []) (sym found);
      ends = ended;
      members = ap (λ (o : Option Live). found_ones (o ∷ [])) (sym found);
      stay_sized = λ g all. subst (λ (l : List Seat). AllByRecursion (IsSized g) l) (sym removed) (all_remove (IsSized g) live i all);
      gone_sized = λ g all. (subst (λ (b : Seat). IsSized g b) (sym picked) (all_at (IsSized g) live i a all inside), tt);
    }

-- no number
pub nothing_taken : (numbers : List ℕ) (live : List Seat) (answers : List (Option GroupReply)) (ends : List GroupEnd) → length numbers ≡ 0 → HasTaken numbers live live answers answers ends ends
nothing_taken (number ∷ numbers) live answers ends none = absurd (omega (arith, none))
nothing_taken [] live answers ends none = record {
  gone = [];
  live = refl;
  answers = sym (append-nil answers);
  ends = sym (append-nil ends);
  members = refl;
  stay_sized = λ g all. all;
  gone_sized = λ g all. tt;
}

-- those that stay are different ones
pub without_distinct : (live : List Live) (o : Option Live) → AreDistinct live → AreDistinct (without_found live o)
without_distinct live None distinct = distinct
without_distinct live (Some t) distinct = distinct_filter (λ u. not (u.number == t.number)) live distinct

pub still_distinct : (number : ℕ) (live left : List Seat) (answers new : List (Option GroupReply)) (ends new_ends : List GroupEnd) → AreDistinct (map live_of live)
    → HasTaken (number ∷ []) live left answers new ends new_ends → AreDistinct (map live_of left)
still_distinct number live left answers new ends new_ends distinct taken =
    subst (λ (l : List Live). AreDistinct l) (sym taken.live) (without_distinct (map live_of live) (of_number number (map live_of live)) distinct)

first_of : (o : Option Live) (found : List (Option Live)) → found_ones (o ∷ found) ≡ found_ones (o ∷ []) ++ found_ones found
first_of None found = refl
first_of (Some t) found = refl

-- one number, and then the others
both_taken : (number : ℕ) (numbers all : List ℕ) (live mid left : List Seat) (answers more new : List (Option GroupReply)) (ends further new_ends : List GroupEnd) → all ≡ number ∷ numbers
    → HasTaken (number ∷ []) live mid answers more ends further → HasTaken numbers mid left more new further new_ends → HasTaken all live left answers new ends new_ends
both_taken number numbers all live mid left answers more new ends further new_ends are first second =
    let L : List Live = map live_of live in
    let o : Option Live = of_number number L in
    subst (λ (ns : List ℕ). HasTaken ns live left answers new ends new_ends) (sym are) (record {
      gone = first.gone ++ second.gone;
      live = second.live ∙ ap (left_of numbers) first.live;
      answers = second.answers ∙ ap (λ (xs : List (Option GroupReply)). xs ++ map stand_in (found_of numbers (map live_of mid))) first.answers
          ∙ append_assoc answers (stand_in o ∷ []) (map stand_in (found_of numbers (map live_of mid)))
          ∙ ap (λ (l : List Live). answers ++ stand_in o ∷ map stand_in (found_of numbers l)) first.live;
      ends = second.ends ∙ ap (λ (xs : List GroupEnd). xs ++ map member_of second.gone) first.ends ∙ append_assoc ends (map member_of first.gone) (map member_of second.gone)
          ∙ ap (λ (xs : List GroupEnd). ends ++ xs) (sym (map-append member_of first.gone second.gone));
      members = map-append live_of first.gone second.gone ∙ ap (λ (xs : List Live). xs ++ map live_of second.gone) first.members
          ∙ ap (λ (xs : List Live). found_ones (o ∷ []) ++ xs) (second.members ∙ ap (λ (l : List Live). found_ones (found_of numbers l)) first.live)
          ∙ sym (first_of o (found_of numbers (without_found L o)));
      stay_sized = λ g all. second.stay_sized g (first.stay_sized g all);
      gone_sized = λ g all. all_append (IsSized g) first.gone second.gone (first.gone_sized g all) (second.gone_sized g (first.stay_sized g all));
    })

pub on_both : {A E : Type 0} (r : Result A E) (number : ℕ) (numbers all : List ℕ) (live mid left : List Seat) (answers more new : List (Option GroupReply)) (ends further new_ends : List GroupEnd) → all ≡ number ∷ numbers
    → HasTaken (number ∷ []) live mid answers more ends further → OnOk r (HasTaken numbers mid left more new further new_ends) → OnOk r (HasTaken all live left answers new ends new_ends)
on_both (Ok x) number numbers all live mid left answers more new ends further new_ends are first second = both_taken number numbers all live mid left answers more new ends further new_ends are first second
on_both (Err e) number numbers all live mid left answers more new ends further new_ends are first second = tt

-- where nothing was taken before
pub from_none : {numbers : List ℕ} {live left : List Seat} {answers new : List (Option GroupReply)} {ends new_ends : List GroupEnd} → answers ≡ [] → ends ≡ [] → HasTaken numbers live left answers new ends new_ends
    → HasTaken numbers live left [] new [] new_ends
from_none {numbers = numbers} {live = live} {left = left} {new = new} {new_ends = new_ends} no_answers no_ends taken =
    rw (no_answers, no_ends) at taken

-- WHO STAYS
left_is : (numbers : List ℕ) (live : List Live) → left_of numbers live ≡ out (found_ones (found_of numbers live)) live
left_is [] live = refl
left_is (number ∷ numbers) live = go (λ l. left_is numbers l) (of_number number live)
  where
    go : ((l : List Live) → left_of numbers l ≡ out (found_ones (found_of numbers l)) l) → (o : Option Live)
        → left_of numbers (without_found live o) ≡ out (found_ones (o ∷ found_of numbers (without_found live o))) live
    go later None = later live
    go later (Some t) = later (without t.number live)

-- THE MEMBERS
found_all : (P : Live → Type 0) (numbers : List ℕ) (live : List Live) → AllByRecursion P live → AllByRecursion P (found_ones (found_of numbers live))
found_all P [] live all = tt
found_all P (number ∷ numbers) live all = go (λ l each. found_all P numbers l each) (of_number number live) refl
  where
    go : ((l : List Live) → AllByRecursion P l → AllByRecursion P (found_ones (found_of numbers l))) → (o : Option Live) → of_number number live ≡ o
        → AllByRecursion P (found_ones (o ∷ found_of numbers (without_found live o)))
    go later None found = later live all
    go later (Some t) found =
        (all_find P (λ u. is_at_client number u.place) live t all found, later (without t.number live) (all_filter P (λ u. not (u.number == t.number)) live all))

found_other : (numbers : List ℕ) (live : List Live) → AreOther (found_ones (found_of numbers live))
found_other [] live = tt
found_other (number ∷ numbers) live = go (λ l. found_other numbers l) (of_number number live)
  where
    go : ((l : List Live) → AreOther (found_ones (found_of numbers l))) → (o : Option Live) → AreOther (found_ones (o ∷ found_of numbers (without_found live o)))
    go later None = later live
    go later (Some t) = (found_all (λ u. u.number ≢ t.number) numbers (without t.number live) (without_all t.number live), later (without t.number live))

pub each_of : (V : World) (gone : List Seat) → AllByRecursion (IsSized V.geometry) gone → AllByRecursion (λ t. IsAmong t V.live) (map live_of gone) → AreOther (map live_of gone)
    → AreEach (IsMember V) (map member_of gone) (map live_of gone)
each_of V [] sized among other = tt
each_of V (a ∷ gone) sized among other = (
  record {
    here = record { number = refl; among = among.0 };
    work = record { begin = refl; mode = refl; size = sized.0.size; blocks = sized.0.blocks; accesses = refl };
    none = refl;
  },
  other.0,
  each_of V gone sized.1 among.1 other.1,
)

-- no more are found than there are numbers
ones_fit : (found : List (Option Live)) → length (found_ones found) ≤ length found
ones_fit [] = omega arith
ones_fit (None ∷ found) = let rest = ones_fit found in omega arith
ones_fit (Some t ∷ found) = let rest = ones_fit found in omega arith

found_count : (numbers : List ℕ) (live : List Live) → length (found_of numbers live) ≡ length numbers
found_count [] live = refl
found_count (number ∷ numbers) live = let rest = found_count numbers (without_found live (of_number number live)) in omega arith

member_count : (gone : List Seat) → length (map member_of gone) ≡ length (map live_of gone)
member_count [] = refl
member_count (a ∷ gone) = let rest = member_count gone in omega arith

module _ {D : Type 0} {state : D → DiskState} {kernel : Core D} {live left : List Seat} {W : World} (of : AreOf state kernel live W) {numbers : List ℕ} {answers : List (Option GroupReply)} {ends : List GroupEnd}
    (taken : HasTaken numbers live left [] answers [] ends) where
  abbrev members : List Live
  members = found_ones (found_of numbers W.live)

  members_are : map live_of taken.gone ≡ members
  members_are = taken.members ∙ ap (λ (l : List Live). found_ones (found_of numbers l)) of.live_are

  pub ready : AreEach (IsMember W) ends members
  ready =
      subst (λ (es : List GroupEnd). AreEach (IsMember W) es members) (sym taken.ends)
      (subst (λ (ms : List Live). AreEach (IsMember W) (map member_of taken.gone) ms) members_are
      (each_of W taken.gone (taken.gone_sized W.geometry of.sized)
      (subst (λ (ms : List Live). AllByRecursion (λ t. IsAmong t W.live) ms) (sym members_are) (found_all (λ t. IsAmong t W.live) numbers W.live (all_among W.live)))
      (subst (λ (ms : List Live). AreOther ms) (sym members_are) (found_other numbers W.live))))

  pub few : length ends ≤ length numbers
  few =
      let one = ones_fit (found_of numbers W.live) in
      let two = found_count numbers W.live in
      let three = member_count taken.gone in
      omega (arith, ap length taken.ends, ap length members_are)

  pub behind : {new : Core D} → StandsFor state new (group W members).1 up → AreOf state new left (numbers_step W numbers).1
  behind after = record {
    core_of = after;
    live_are = taken.live ∙ ap (left_of numbers) of.live_are ∙ left_is numbers W.live ∙ sym (group_live W members);
    sized = subst (λ (g : Geometry). AllByRecursion (IsSized g) left) (sym (group_geometry W members)) (taken.stay_sized W.geometry of.sized);
  }

  answers_are : answers ≡ map stand_in (found_of numbers W.live)
  answers_are = taken.answers ∙ ap (λ (l : List Live). map stand_in (found_of numbers l)) of.live_are

  -- no member
  no_members : ends ≡ [] → members ≡ []
  no_members none = sym members_are ∙ none_gone taken.gone (sym taken.ends ∙ none)
    where
      none_gone : (gone : List Seat) → map member_of gone ≡ [] → map live_of gone ≡ []
      none_gone [] is = refl
      none_gone (a ∷ gone) is = cc

  pub nobody : ends ≡ [] → numbers_step W numbers ≡ (answers, W)
  nobody none =
      let nobody_is = no_members none in
      ap (λ (ms : List Live). (label_replies (found_of numbers W.live) (group W ms).0, (group W ms).1)) nobody_is
      ∙ ap (λ (xs : List (Option GroupReply)). (xs, W)) (sym (answers_are ∙ none_found (found_of numbers W.live) nobody_is))

  pub nobody_stands : ends ≡ [] → AreOf state kernel left W
  nobody_stands none =
      subst (λ (U : World). AreOf state kernel left U) (ap (λ (x : List (Option GroupReply) × World). x.1) (nobody none))
      (behind (subst (λ (ms : List Live). StandsFor state kernel (group W ms).1 up) (sym (no_members none)) of.core_of))

  -- the replies
  pub replies_are : (new : List GroupEnd) → map reply_in new ≡ map Some (group W members).0 → filled answers (map reply_in new) ≡ (numbers_step W numbers).0
  replies_are new given =
      ap (filled answers) given ∙ ap (λ (xs : List (Option GroupReply)). filled xs (map Some (group W members).0)) answers_are ∙ filled_is (found_of numbers W.live) (group W members).0
