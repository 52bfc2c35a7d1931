-- Ends that all have room are answered one after the other as in one group.
use Rattle.iso_machine.proofs.{Words.{◌≡◌, ◌≢◌, ◌∙◌, sym, refl, ap, subst, ℕ, ◌+◌, ◌-◌, ◌≤◌, ◌<◌, ◌==◌, not, Bool, true, false, cond, List, [], ◌∷◌, ◌++◌, length, map, take, drop, get_or, arith, ne_eqb, eqb-true, nat_lt, nat_tests, Option, Some, None, AllByRecursion, all_filter, all_find, same_Some, Clash, Geometry, LAST, CoreReply, Reply, as_reply, as_step, World, Live, client, is_at_client, used, without, IsWorld, AreDistinct, after_commit, after_leaving, last, has_write, clash, need, commit_step, end_step, step, step_leads, group, Doing, without_found}, Endings.end_is, Groups.{AreOther, out}}
use Rattle.std.proofs.lemmas.List.{get_or-map, length-map, length_push}
use Rattle.std.proofs.lemmas.List.Sums.{sum_by-cons}
use Rattle.iso_model.proofs.Worlds.{used_more}
use Rattle.iso_model.specs.{Effect.{record_length, runs}, Group.{after_member, member_reply}, Step.commit_from}
use Rattle.script_model.specs.declared.script.Op.TheVariants as op
use Rattle.iso_model.specs.declared.core_reply.CoreReply.TheVariants as core
use Rattle.device_desk.specs.{declared.seat.Seat.Seat, Lent.{ArePlaces, StandAt, doing_of, items_at}, Numbers.{left_of, of_number}, Seats.{live_of}, Waiting.{Fit, after_ends, end_replies, needs, told_of}}
use Rattle.device_desk.proofs.{Lendings.{item_live, pick}, Lists.found_at}

-- each is at the client of its number
abbrev pub ArePlaced : List Live → Type 0
ArePlaced live = AllByRecursion (λ t. t.place ≡ client t.number) live

pub placed_all : (live : List Seat) → ArePlaced (map live_of live)
placed_all [] = tt
placed_all (a ∷ live) = (refl, placed_all live)

-- these are the transactions of those numbers, which are different ones
abbrev pub AreMembers : List Live → (numbers : List ℕ) → (members : List Live) → Type 0
AreMembers live [] [] = Unit {0}
AreMembers live [] (t ∷ members) = ⊥
AreMembers live (n ∷ numbers) [] = ⊥
AreMembers live (n ∷ numbers) (t ∷ members) = (of_number n live ≡ Some t) × AllByRecursion (λ m. m ≢ n) numbers × AreMembers live numbers members

pub stand_members : (numbers places : List ℕ) (live : List Seat) → AreDistinct (map live_of live) → StandAt live numbers places → AreMembers (map live_of live) numbers (items_at places (map live_of live))
stand_members [] [] live distinct stand = tt
stand_members [] (i ∷ places) live distinct stand = absurd stand
stand_members (n ∷ numbers) [] live distinct stand = absurd stand
stand_members (n ∷ numbers) (i ∷ places) live distinct stand =
    let d : Seat = pick live i stand.0 in
    let there : take 1 (drop i (map live_of live)) ≡ live_of (get_or live i d) ∷ [] = item_live live i d stand.0 in
    subst (λ (l : List Live). AreMembers (map live_of live) (n ∷ numbers) (l ++ items_at places (map live_of live))) (sym there)
    (found_at n live i d distinct stand.0 (stand.1 d), stand.2, stand_members numbers places live distinct stand.3)

pub stand_count : (numbers places : List ℕ) (live : List Seat) → StandAt live numbers places → length places ≡ length numbers
stand_count [] [] live stand = refl
stand_count [] (i ∷ places) live stand = absurd stand
stand_count (n ∷ numbers) [] live stand = absurd stand
stand_count (n ∷ numbers) (i ∷ places) live stand = let rest = stand_count numbers places live stand.3 in omega (arith, rest)

other_places : (n i : ℕ) (d : Seat) (numbers places : List ℕ) (live : List Seat) → (get_or live i d).tx ≡ n → AllByRecursion (λ m. m ≢ n) numbers → StandAt live numbers places → AllByRecursion (λ j. j ≢ i) places
other_places n i d [] [] live here other stand = tt
other_places n i d [] (j ∷ places) live here other stand = absurd stand
other_places n i d (m ∷ numbers) [] live here other stand = absurd stand
other_places n i d (m ∷ numbers) (j ∷ places) live here other stand =
    ((λ same. other.0 (sym (stand.1 d) ∙ ap (λ (k : ℕ). (get_or live k d).tx) same ∙ here)), other_places n i d numbers places live here other.1 stand.3)

-- the places of different numbers are different ones
pub stand_places : (numbers places : List ℕ) (live : List Seat) → StandAt live numbers places → ArePlaces (length live) places
stand_places [] [] live stand = tt
stand_places [] (i ∷ places) live stand = absurd stand
stand_places (n ∷ numbers) [] live stand = absurd stand
stand_places (n ∷ numbers) (i ∷ places) live stand =
    let d : Seat = pick live i stand.0 in
    (stand.0, other_places n i d numbers places live (stand.1 d) stand.2 stand.3, stand_places numbers places live stand.3)

pub stand_within : (numbers places : List ℕ) (live : List Seat) → StandAt live numbers places → AllByRecursion (λ i. i < length live) places
stand_within [] [] live stand = tt
stand_within [] (i ∷ places) live stand = absurd stand
stand_within (n ∷ numbers) [] live stand = absurd stand
stand_within (n ∷ numbers) (i ∷ places) live stand = (stand.0, stand_within numbers places live stand.3)

-- they stand there still where each has its number
pub stand_same : (numbers places : List ℕ) (live now : List Seat) → map doing_of now ≡ map doing_of live → StandAt live numbers places → StandAt now numbers places
stand_same [] [] live now same stand = tt
stand_same [] (i ∷ places) live now same stand = absurd stand
stand_same (n ∷ numbers) [] live now same stand = absurd stand
stand_same (n ∷ numbers) (i ∷ places) live now same stand =
    let long : length now ≡ length live = omega (arith, ap length same, length-map now doing_of, length-map live doing_of) in
    let inside : i < length now = omega (arith, long, stand.0) in (
      inside,
      (λ d. ap (λ (x : ℕ × Doing). x.0) (sym (get_or-map doing_of now i d (doing_of d) inside) ∙ ap (λ (l : List (ℕ × Doing)). get_or l i (doing_of d)) same ∙ get_or-map doing_of live i d (doing_of d) stand.0) ∙ stand.1 d),
      stand.2,
      stand_same numbers places live now same stand.3,
    )

-- who is found by a number has it
pub found_number : (n : ℕ) (live : List Live) (t : Live) → ArePlaced live → of_number n live ≡ Some t → t.number ≡ n
found_number n [] t placed found = absurd (cc found)
found_number n (u ∷ live) t placed found =
    go (n == u.number) refl (subst (λ place. cond (is_at_client n place) (Some u) (of_number n live) ≡ Some t) placed.0 found) (λ rest. found_number n live t placed.1 rest)
  where
    go : (b : Bool) → (n == u.number) ≡ b → cond b (Some u) (of_number n live) ≡ Some t → (of_number n live ≡ Some t → t.number ≡ n) → t.number ≡ n
    go true same is later = ap (λ (x : Live). x.number) (sym (same_Some u t is)) ∙ sym (eqb-true n u.number same)
    go false same is later = later is

-- another one is found as before where one has left
pub others_found : (n m : ℕ) (live : List Live) → ArePlaced live → m ≢ n → of_number m (without n live) ≡ of_number m live
others_found n m [] placed other = refl
others_found n m (u ∷ live) placed other =
    let rest = others_found n m live placed.1 other in
    subst (λ place. of_number m (cond (not (u.number == n)) (u ∷ without n live) (without n live)) ≡ cond (is_at_client m place) (Some u) (of_number m live)) (sym placed.0) (go (u.number == n) refl rest)
  where
    go : (b : Bool) → (u.number == n) ≡ b → of_number m (without n live) ≡ of_number m live
        → of_number m (cond (not b) (u ∷ without n live) (without n live)) ≡ cond (m == u.number) (Some u) (of_number m live)
    go true same rest =
        let apart : (m == u.number) ≡ false = ne_eqb m u.number (λ e. other (e ∙ eqb-true u.number n same)) in
        rw apart rest
    go false same rest =
        subst (λ place. cond (is_at_client m place) (Some u) (of_number m (without n live)) ≡ cond (m == u.number) (Some u) (of_number m live)) (sym placed.0)
        (ap (λ (o : Option Live). cond (m == u.number) (Some u) o) rest)

pub members_without : (n : ℕ) (live : List Live) (numbers : List ℕ) (members : List Live) → ArePlaced live → AllByRecursion (λ m. m ≢ n) numbers → AreMembers live numbers members → AreMembers (without n live) numbers members
members_without n live [] [] placed other are = tt
members_without n live [] (t ∷ members) placed other are = absurd are
members_without n live (m ∷ numbers) [] placed other are = absurd are
members_without n live (m ∷ numbers) (t ∷ members) placed other are =
    (others_found n m live placed other.0 ∙ are.0, are.1, members_without n live numbers members placed other.1 are.2)

-- what holds of all holds of them
pub members_all : (P : Live → Type 0) (live : List Live) (numbers : List ℕ) (members : List Live) → AllByRecursion P live → AreMembers live numbers members → AllByRecursion P members
members_all P live [] [] all are = tt
members_all P live [] (t ∷ members) all are = absurd are
members_all P live (n ∷ numbers) [] all are = absurd are
members_all P live (n ∷ numbers) (t ∷ members) all are = (all_find P (λ u. is_at_client n u.place) live t all are.0, members_all P live numbers members all are.2)

pub members_other : (live : List Live) (numbers : List ℕ) (members : List Live) → ArePlaced live → AreMembers live numbers members → AreOther members
members_other live [] [] placed are = tt
members_other live [] (t ∷ members) placed are = absurd are
members_other live (n ∷ numbers) [] placed are = absurd are
members_other live (n ∷ numbers) (t ∷ members) placed are = (apart numbers members are.1 are.2, members_other live numbers members placed are.2)
  where
    apart : (numbers : List ℕ) (members : List Live) → AllByRecursion (λ m. m ≢ n) numbers → AreMembers live numbers members → AllByRecursion (λ u. u.number ≢ t.number) members
    apart [] [] other all = tt
    apart [] (u ∷ members) other all = absurd all
    apart (m ∷ numbers) [] other all = absurd all
    apart (m ∷ numbers) (u ∷ members) other all =
        (λ same. other.0 (sym (found_number m live u placed all.0) ∙ same ∙ found_number n live t placed are.0), apart numbers members other.1 all.2)

-- they leave by their numbers
pub members_leave : (live : List Live) (numbers : List ℕ) (members : List Live) → ArePlaced live → AreMembers live numbers members → left_of numbers live ≡ out members live
members_leave live [] [] placed are = refl
members_leave live [] (t ∷ members) placed are = absurd are
members_leave live (n ∷ numbers) [] placed are = absurd are
members_leave live (n ∷ numbers) (t ∷ members) placed are =
    let number : t.number ≡ n = found_number n live t placed are.0 in
    ap (λ (o : Option Live). left_of numbers (without_found live o)) are.0
    ∙ members_leave (without t.number live) numbers members (all_filter (λ u. u.place ≡ client u.number) (λ u. not (u.number == t.number)) live placed)
    (subst (λ (k : ℕ). AreMembers (without k live) numbers members) (sym number) (members_without n live numbers members placed are.1 are.2))

-- who leaves first makes no difference
without_both : (n m : ℕ) (live : List Live) → without n (without m live) ≡ without m (without n live)
without_both n m [] = refl
without_both n m (u ∷ live) = go (u.number == n) (u.number == m) refl refl (without_both n m live)
  where
    go : (a b : Bool) → (u.number == n) ≡ a → (u.number == m) ≡ b → without n (without m live) ≡ without m (without n live) → without n (without m (u ∷ live)) ≡ without m (without n (u ∷ live))
    go true true e f more = rw (e, f) more
    go true false e f more = rw (f, e) more
    go false true e f more = rw (e, f) more
    go false false e f more = rw (e, f, e) (ap (λ (l : List Live). u ∷ l) more)

none_leaves : (n : ℕ) (live : List Live) → ArePlaced live → of_number n live ≡ None → without n live ≡ live
none_leaves n [] placed none = refl
none_leaves n (u ∷ live) placed none =
    go (n == u.number) refl (subst (λ place. cond (is_at_client n place) (Some u) (of_number n live) ≡ None) placed.0 none) (λ rest. none_leaves n live placed.1 rest)
  where
    go : (b : Bool) → (n == u.number) ≡ b → cond b (Some u) (of_number n live) ≡ None → (of_number n live ≡ None → without n live ≡ live) → without n (u ∷ live) ≡ u ∷ live
    go true same is later = absurd (cc is)
    go false same is later = let other : (u.number == n) ≡ false = grind (arith, nat_tests) in rw other (ap (λ (l : List Live). u ∷ l) (later is))

-- whom a number finds leaves by it
one_leaves : (n : ℕ) (live : List Live) → ArePlaced live → without_found live (of_number n live) ≡ without n live
one_leaves n live placed = go (of_number n live) refl
  where
    go : (o : Option Live) → of_number n live ≡ o → without_found live o ≡ without n live
    go None found = sym (none_leaves n live placed found)
    go (Some t) found = ap (λ (k : ℕ). without k live) (found_number n live t placed found)

-- so the last of them may leave first
pub last_leaves : (numbers : List ℕ) (m : ℕ) (live : List Live) → ArePlaced live → left_of (numbers ++ m ∷ []) live ≡ left_of numbers (without_found live (of_number m live))
last_leaves [] m live placed = refl
last_leaves (n ∷ numbers) m live placed =
    let one = one_leaves n live placed in
    let other = one_leaves m live placed in
    let stay : (k : ℕ) → ArePlaced (without k live) = λ k. all_filter (λ u. u.place ≡ client u.number) (λ u. not (u.number == k)) live placed in
    let mid : ArePlaced (without_found live (of_number n live)) = subst (λ (l : List Live). ArePlaced l) (sym one) (stay n) in
    let late : ArePlaced (without_found live (of_number m live)) = subst (λ (l : List Live). ArePlaced l) (sym other) (stay m) in
    last_leaves numbers m (without_found live (of_number n live)) mid
    ∙ ap (left_of numbers) (one_leaves m (without_found live (of_number n live)) mid ∙ ap (without m) one ∙ without_both m n live ∙ ap (without n) (sym other)
    ∙ sym (one_leaves n (without_found live (of_number m live)) late))

-- AN END THAT HAS ROOM
-- The end of a transaction: it is gone, and the log has grown by no more than its record.
pub record EndsWell (W : World) (t : Live) (given : CoreReply × World) : Type 0 where
  pub after : after_member t given ≡ given.1
  pub told : told_of (member_reply given.0) ≡ as_reply given.0
  pub live : given.1.live ≡ without t.number W.live
  pub geometry : given.1.geometry ≡ W.geometry
  pub used_most : used given.1 ≤ used W + record_length (runs W.geometry t.accesses)
  pub last_most : last given.1.history ≤ last W.history + 1

leaves_well : (W : World) (t : Live) (r : CoreReply) → after_member t (r, after_leaving W t) ≡ after_leaving W t → told_of (member_reply r) ≡ as_reply r → EndsWell W t (r, after_leaving W t)
leaves_well W t r after told = record { after = after; told = told; live = refl; geometry = refl; used_most = omega arith; last_most = omega arith }

commits_well : (W : World) (t : Live) (n : ℕ) → IsWorld W → EndsWell W t (core.Committed n, after_commit W t)
commits_well W t n is = record {
  after = refl;
  told = refl;
  live = refl;
  geometry = refl;
  used_most = omega (arith, used_more W t is);
  last_most = omega (arith, length_push W.history.commits (commit_from t), is.history.first);
}

either_well : (W : World) (t : Live) (b : Bool) (x y : CoreReply × World) → (b ≡ true → EndsWell W t x) → (b ≡ false → EndsWell W t y) → EndsWell W t (cond b x y)
either_well W t true x y first second = first refl
either_well W t false x y first second = second refl

no_room : (log used len : ℕ) → len + used + 1 ≤ log → nat_lt (log - used) (len + 1) ≡ true → ⊥
no_room log used len room full = grind (arith, nat_tests)

commit_well : (W : World) (t : Live) (o : Option Clash) → IsWorld W → record_length (runs W.geometry t.accesses) + used W + 1 ≤ W.geometry.log → last W.history + 1 ≤ LAST → EndsWell W t (commit_step W t o)
unfolding commit_step
commit_well W t (Some c) is room number = leaves_well W t (core.Conflict c) refl refl
commit_well W t None is room number =
    either_well W t (last W.history == LAST) (core.Worn, W) _ (λ worn. absurd (omega (arith, number, eqb-true (last W.history) LAST worn)))
    (λ unworn. either_well W t (nat_lt (W.geometry.log - used W) (need W t)) (core.LogFull (need W t) (W.geometry.log - used W), W) (core.Committed (last W.history + 1), after_commit W t)
    (λ full. absurd (no_room W.geometry.log (used W) (record_length (runs W.geometry t.accesses)) room full)) (λ fits. commits_well W t (last W.history + 1) is))

pub ends_well : (W : World) (t : Live) → IsWorld W → record_length (runs W.geometry t.accesses) + used W + 1 ≤ W.geometry.log → last W.history + 1 ≤ LAST → EndsWell W t (end_step W t)
unfolding end_step
ends_well W t is room number =
    either_well W t (has_write t.accesses) (commit_step W t (clash W.geometry W.history t.mode t.begin t.accesses)) (core.ReadOnly, after_leaving W t)
    (λ write. commit_well W t (clash W.geometry W.history t.mode t.begin t.accesses) is room number) (λ none. leaves_well W t core.ReadOnly refl refl)

-- ALL OF THEM
pub as_ends : (numbers : List ℕ) (members : List Live) (W : World) → IsWorld W → ArePlaced W.live → AreMembers W.live numbers members → Fit W members
    → (map told_of (group W members).0 ≡ end_replies W numbers) × ((group W members).1 ≡ after_ends W numbers)
as_ends [] [] W is placed are fit = (refl, refl)
as_ends [] (t ∷ members) W is placed are fit = absurd are
as_ends (n ∷ numbers) [] W is placed are fit = absurd are
as_ends (n ∷ numbers) (t ∷ members) W is placed are fit =
    let V : World = (end_step W t).1 in
    let sum = sum_by-cons (λ (u : Live). record_length (runs W.geometry u.accesses)) t members in
    let well = ends_well W t is (omega (arith, fit.room, sum)) (omega (arith, fit.numbers)) in
    let says : step W n op.End ≡ as_step (end_step W t) = end_is W n (Some t) are.0 in
    let number : t.number ≡ n = found_number n W.live t placed are.0 in
    let sound : IsWorld V = subst (λ (given : Reply × World). IsWorld given.1) says (step_leads W n op.End is tt).world in
    let still : ArePlaced V.live =
    subst (λ (l : List Live). ArePlaced l) (sym well.live) (all_filter (λ u. u.place ≡ client u.number) (λ u. not (u.number == t.number)) W.live placed) in
    let others : AreMembers V.live numbers members =
    subst (λ (l : List Live). AreMembers l numbers members) (sym well.live)
    (subst (λ (k : ℕ). AreMembers (without k W.live) numbers members) (sym number) (members_without n W.live numbers members placed are.1 are.2)) in
    let same_needs : needs V.geometry members ≡ needs W.geometry members = ap (λ (g : Geometry). needs g members) well.geometry in
    let same_log : V.geometry.log ≡ W.geometry.log = ap (λ (g : Geometry). g.log) well.geometry in
    let room : needs V.geometry members + used V + 1 ≤ V.geometry.log = omega (arith, fit.room, sum, well.used_most, same_needs, same_log) in
    let later = as_ends numbers members V sound still others (record { room = room; numbers = omega (arith, fit.numbers, well.last_most) }) in (
      (λ i. well.told i ∷ map told_of (group (well.after i) members).0) ∙ (λ i. as_reply (end_step W t).0 ∷ later.0 i) ∙ ap (λ (given : Reply × World). given.0 ∷ end_replies given.1 numbers) (sym says),
      ap (λ (U : World). (group U members).1) well.after ∙ later.1 ∙ ap (λ (given : Reply × World). after_ends given.1 numbers) (sym says),
    )
