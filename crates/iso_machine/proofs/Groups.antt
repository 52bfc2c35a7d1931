-- A group over a machine: what is taken out of its list is what the model finds under the labels, and represents the same world.
use Rattle.iso_machine.proofs.{Words.{◌≡◌, ◌≢◌, ◌∙◌, ◌⊎◌, sym, refl, ap, subst, ℕ, ◌==◌, not, Bool, true, false, cond, List, [], ◌∷◌, map, filter, Option, Some, None, inl, inr, eq-eqb, ne_eqb, cases_eq, AllByRecursion, all_filter, all_find, all_weaker, same_number, DiskState, Geometry, GroupReply, World, Live, Place, held, is_under_label, unattached, with, without, IsWorld, placed, after_leaving, with_live, after_look, ahead, decided, decided_live, found_ones, group, group_is, group_step, label_replies, leave_all, looks, made_by, member_reply, held_live, look_leads, looks_lead, looks_geometry, end_step, Core, IsAmong, StandsFor, AreEach, IsMember, bare, up, Attached, IsSized, live_of, filled, found_in, left_in, member_of, stand_in, under, without_found}, Besides.stands_besides}

-- WHAT IS FOUND
-- all but those that are left out, which are nowhere
abbrev IsRest : (all rest : List Live) → Type 0
IsRest [] rest = rest ≡ []
IsRest (t ∷ all) rest = ((t.place ≡ unattached) × IsRest all rest) ⊎ ((others : List Live) × (rest ≡ t ∷ others) × IsRest all others)

whole : (live : List Live) → IsRest live live
whole [] = refl
whole (t ∷ live) = inr (live, refl, whole live)

-- nothing under a label is left out
same_found : (text : List ℕ) (all rest : List Live) → IsRest all rest → under text all ≡ under text rest
same_found text [] rest is = ap (under text) (sym is)
same_found text (t ∷ all) rest (inl (nowhere, is)) =
    ap (λ (p : Place). cond (is_under_label text p) (Some t) (under text all)) nowhere ∙ same_found text all rest is
same_found text (t ∷ all) rest (inr (others, same, is)) =
    ap (λ (o : Option Live). cond (is_under_label text t.place) (Some t) o) (same_found text all others is) ∙ ap (under text) (sym same)

rest_looked : (t : Live) (all rest : List Live) → IsRest all rest → IsRest (with (record t { place = unattached }) all) (without t.number rest)
rest_looked t [] rest is = ap (without t.number) is
rest_looked t (u ∷ all) rest (inl (nowhere, is)) =
    inl (elim (u.number == t.number) as (λ b. (cond b (record t { place = unattached }) u).place ≡ unattached) [ true ↦ refl | false ↦ nowhere ], rest_looked t all rest is)
rest_looked t (u ∷ all) rest (inr (others, same, is)) =
    let new : Live = record t { place = unattached } in
    let more = rest_looked t all others is in
    subst (λ (l : List Live). IsRest (with new (u ∷ all)) (without t.number l)) (sym same)
    (elim (u.number == t.number) as (λ b. IsRest (cond b new u ∷ with new all) (cond (not b) (u ∷ without t.number others) (without t.number others))) [
      | true ↦ inl (refl, more)
      | false ↦ inr (without t.number others, refl, more)
    ])

found_same : (texts : List (List ℕ)) (W : World) (rest : List Live) → IsRest W.live rest → (looks W texts).0 ≡ found_in texts rest
found_same [] W rest is = refl
found_same (text ∷ texts) W rest is =
    go (λ V others more. found_same texts V others more) (held W text) ∙ ap (λ (o : Option Live). o ∷ found_in texts (without_found rest o)) (same_found text W.live rest is)
  where
    go : ((V : World) (others : List Live) → IsRest V.live others → (looks V texts).0 ≡ found_in texts others) → (o : Option Live)
        → o ∷ (looks (after_look W o) texts).0 ≡ o ∷ found_in texts (without_found rest o)
    go later None = ap (λ (found : List (Option Live)). None ∷ found) (later W rest is)
    go later (Some t) = ap (λ (found : List (Option Live)). Some t ∷ found) (later (placed W t unattached) (without t.number rest) (rest_looked t W.live rest is))

pub found_is : (texts : List (List ℕ)) (W : World) → (looks W texts).0 ≡ found_in texts W.live
found_is texts W = found_same texts W W.live (whole W.live)

-- WHO STAYS
-- the transactions without any of these
abbrev pub out : List Live → List Live → List Live
out [] live = live
out (t ∷ members) live = out members (without t.number live)

left_is : (texts : List (List ℕ)) (live : List Live) → left_in texts live ≡ out (found_ones (found_in texts live)) live
left_is [] live = refl
left_is (text ∷ texts) live = go (λ l. left_is texts l) (under text live)
  where
    go : ((l : List Live) → left_in texts l ≡ out (found_ones (found_in texts l)) l) → (o : Option Live)
        → left_in texts (without_found live o) ≡ out (found_ones (o ∷ found_in texts (without_found live o))) live
    go later None = later live
    go later (Some t) = later (without t.number live)

abbrev kept : Bool → Live → List Live → List Live
kept t v l = cond t (v ∷ l) l

filter_both : (p q : Live → Bool) (live : List Live) → filter p (filter q live) ≡ filter q (filter p live)
filter_both p q [] = refl
filter_both p q (u ∷ live) = go (p u) (q u) refl refl (filter_both p q live)
  where
    go : (a b : Bool) → p u ≡ a → q u ≡ b → filter p (filter q live) ≡ filter q (filter p live) → filter p (kept b u (filter q live)) ≡ filter q (kept a u (filter p live))
    go true true e f more =
        ap (λ t. kept t u (filter p (filter q live))) e ∙ ap (λ (l : List Live). u ∷ l) more ∙ sym (ap (λ t. kept t u (filter q (filter p live))) f)
    go true false e f more = more ∙ sym (ap (λ t. kept t u (filter q (filter p live))) f)
    go false true e f more = ap (λ t. kept t u (filter p (filter q live))) e ∙ more
    go false false e f more = more

without_both : (n m : ℕ) (live : List Live) → without n (without m live) ≡ without m (without n live)
without_both n m live = filter_both (λ u. not (u.number == n)) (λ u. not (u.number == m)) live

out_without : (members : List Live) (n : ℕ) (live : List Live) → out members (without n live) ≡ without n (out members live)
out_without [] n live = refl
out_without (t ∷ members) n live = ap (out members) (without_both t.number n live) ∙ out_without members n (without t.number live)

without_with : (t : Live) (place : Place) (live : List Live) → without t.number (with (record t { place = place }) live) ≡ without t.number live
without_with t place [] = refl
without_with t place (u ∷ live) = go (record t { place = place }) refl (u.number == t.number) refl (without_with t place live)
  where
    go : (new : Live) → new.number ≡ t.number → (b : Bool) → (u.number == t.number) ≡ b → without t.number (with new live) ≡ without t.number live
        → without t.number (cond b new u ∷ with new live) ≡ cond (not b) (u ∷ without t.number live) (without t.number live)
    go new same true e more = ap (λ x. cond (not x) (new ∷ without t.number (with new live)) (without t.number (with new live))) (eq-eqb new.number t.number same) ∙ more
    go new same false e more = ap (λ x. cond (not x) (u ∷ without t.number (with new live)) (without t.number (with new live))) e ∙ ap (λ (l : List Live). u ∷ l) more

looked_out : (texts : List (List ℕ)) (W : World) → out (found_ones (looks W texts).0) (looks W texts).1.live ≡ out (found_ones (looks W texts).0) W.live
looked_out [] W = refl
looked_out (text ∷ texts) W = go (λ V. looked_out texts V) (held W text)
  where
    go : ((V : World) → out (found_ones (looks V texts).0) (looks V texts).1.live ≡ out (found_ones (looks V texts).0) V.live) → (o : Option Live)
        → out (found_ones (o ∷ (looks (after_look W o) texts).0)) (looks (after_look W o) texts).1.live ≡ out (found_ones (o ∷ (looks (after_look W o) texts).0)) W.live
    go later None = later W
    go later (Some t) =
        let V : World = placed W t unattached in
        let members : List Live = found_ones (looks V texts).0 in
        out_without members t.number (looks V texts).1.live ∙ ap (without t.number) (later V) ∙ sym (out_without members t.number V.live)
        ∙ ap (out members) (without_with t unattached W.live)

left_all_live : (members : List Live) (W : World) → (leave_all members W).live ≡ out members W.live
left_all_live [] W = refl
left_all_live (t ∷ members) W = left_all_live members (after_leaving W t)

left_all_geometry : (members : List Live) (W : World) → (leave_all members W).geometry ≡ W.geometry
left_all_geometry [] W = refl
left_all_geometry (t ∷ members) W = left_all_geometry members (after_leaving W t)

decided_geometry : (members : List Live) (W : World) → (decided W members).1.geometry ≡ W.geometry
decided_geometry [] W = refl
decided_geometry (t ∷ members) W = decided_geometry members (ahead W (made_by t (member_reply (end_step W t).0)))

pub group_live : (V : World) (members : List Live) → (group V members).1.live ≡ out members V.live
group_live V members =
    ap (λ (x : List GroupReply × World). x.1.live) (group_is V members) ∙ left_all_live members (decided V members).1
    ∙ ap (out members) (ap (λ (x : List GroupReply × World). x.1.live) (decided_live V V.live members))

pub group_geometry : (V : World) (members : List Live) → (group V members).1.geometry ≡ V.geometry
group_geometry V members =
    ap (λ (x : List GroupReply × World). x.1.geometry) (group_is V members) ∙ left_all_geometry members (decided V members).1 ∙ decided_geometry members V

pub live_behind : (texts : List (List ℕ)) (W : World) → (group_step W texts).1.live ≡ left_in texts W.live
unfolding group_step
live_behind texts W =
    group_live (looks W texts).1 (found_ones (looks W texts).0) ∙ looked_out texts W
    ∙ ap (λ (found : List (Option Live)). out (found_ones found) W.live) (found_is texts W) ∙ sym (left_is texts W.live)

pub geometry_behind : (texts : List (List ℕ)) (W : World) → (group_step W texts).1.geometry ≡ W.geometry
unfolding group_step
geometry_behind texts W = group_geometry (looks W texts).1 (found_ones (looks W texts).0) ∙ looks_geometry texts W

-- THE WORLD AFTER THE LOOKS
bare_with : (t : Live) (place : Place) (live : List Live) → AllByRecursion (λ u. u.number ≡ t.number → u ≡ t) live → map bare (with (record t { place = place }) live) ≡ map bare live
bare_with t place [] all = refl
bare_with t place (u ∷ live) all =
    let more = bare_with t place live all.1 in
    elim (cases_eq u.number t.number) [
      | inl same ↦ rw (eq-eqb u.number t.number same) (λ i. bare (sym (all.0 same) i) ∷ more i)
      | inr other ↦ rw (ne_eqb u.number t.number other) (ap (λ (l : List Live). bare u ∷ l) more)
    ]

looks_bare : (texts : List (List ℕ)) (W : World) → IsWorld W → map bare (looks W texts).1.live ≡ map bare W.live
looks_bare [] W is = refl
looks_bare (text ∷ texts) W is = go (λ V sound. looks_bare texts V sound) (held W text) refl
  where
    go : ((V : World) → IsWorld V → map bare (looks V texts).1.live ≡ map bare V.live) → (o : Option Live) → held W text ≡ o → map bare (looks (after_look W o) texts).1.live ≡ map bare W.live
    go later None found = later W is
    go later (Some t) found =
        later (placed W t unattached) (look_leads W (Some t) is (λ u same. held_live W text u is (found ∙ same))).world
        ∙ bare_with t unattached W.live (same_number (λ u. is_under_label text u.place) W.live t is.distinct found)

pub looks_is : (texts : List (List ℕ)) (W : World) → (looks W texts).1 ≡ with_live W (looks W texts).1.live
looks_is [] W = refl
looks_is (text ∷ texts) W = go (λ V. looks_is texts V) (held W text)
  where
    go : ((V : World) → (looks V texts).1 ≡ with_live V (looks V texts).1.live) → (o : Option Live) → (looks (after_look W o) texts).1 ≡ with_live W (looks (after_look W o) texts).1.live
    go later None = later W
    go later (Some t) = later (placed W t unattached)

pub stands_looked : {D : Type 0} (state : D → DiskState) (core : Core D) (texts : List (List ℕ)) (W : World) → StandsFor state core W up → StandsFor state core (looks W texts).1 up
stands_looked state core texts W of =
    let is : IsWorld W = of.kept_of.world in
    let U : World = (looks W texts).1 in
    subst (λ (V : World). StandsFor state core V up) (sym (looks_is texts W))
    (stands_besides state core W U.live of (subst (λ (V : World). IsWorld V) (looks_is texts W) (looks_lead texts W is).world) (looks_bare texts W is))

-- THE MEMBERS
found_all : (P : Live → Type 0) (texts : List (List ℕ)) (live : List Live) → AllByRecursion P live → AllByRecursion P (found_ones (found_in texts live))
found_all P [] live all = tt
found_all P (text ∷ texts) live all = go (λ l each. found_all P texts l each) (under text live) refl
  where
    go : ((l : List Live) → AllByRecursion P l → AllByRecursion P (found_ones (found_in texts l))) → (o : Option Live) → under text live ≡ o
        → AllByRecursion P (found_ones (o ∷ found_in texts (without_found live o)))
    go later None found = later live all
    go later (Some t) found =
        (all_find P (λ u. is_under_label text u.place) live t all found, later (without t.number live) (all_filter P (λ u. not (u.number == t.number)) live all))

-- no two have one number
abbrev pub AreOther : List Live → Type 0
AreOther [] = Unit {0}
AreOther (t ∷ members) = AllByRecursion (λ (u : Live). u.number ≢ t.number) members × AreOther members

pub without_all : (n : ℕ) (live : List Live) → AllByRecursion (λ (u : Live). u.number ≢ n) (without n live)
without_all n [] = tt
without_all n (u ∷ live) =
    elim (cases_eq u.number n) [
      | inl same ↦ rw (eq-eqb u.number n same) (without_all n live)
      | inr other ↦ rw (ne_eqb u.number n other) (other, without_all n live)
    ]

found_other : (texts : List (List ℕ)) (live : List Live) → AreOther (found_ones (found_in texts live))
found_other [] live = tt
found_other (text ∷ texts) live = go (λ l. found_other texts l) (under text live)
  where
    go : ((l : List Live) → AreOther (found_ones (found_in texts l))) → (o : Option Live) → AreOther (found_ones (o ∷ found_in texts (without_found live o)))
    go later None = later live
    go later (Some t) = (found_all (λ u. u.number ≢ t.number) texts (without t.number live) (without_all t.number live), later (without t.number live))

pub all_among : (live : List Live) → AllByRecursion (λ t. IsAmong t live) live
all_among [] = tt
all_among (t ∷ live) = (inl refl, all_weaker (λ u. IsAmong u live) (λ u. IsAmong u (t ∷ live)) (λ u there. inr there) live (all_among live))

among_bare : (t : Live) (xs ys : List Live) → map bare xs ≡ map bare ys → IsAmong t xs → IsAmong t ys
among_bare t [] ys same there = absurd there
among_bare t (x ∷ xs) [] same there = cc
among_bare t (x ∷ xs) (y ∷ ys) same (inl is) = let head : bare x ≡ bare y = cc in inl (sym head ∙ is)
among_bare t (x ∷ xs) (y ∷ ys) same (inr there) = let tail : map bare xs ≡ map bare ys = cc in inr (among_bare t xs ys tail there)

each_of : (V : World) (gone : List Attached) → AllByRecursion (IsSized V.geometry) gone → AllByRecursion (λ t. IsAmong t V.live) (map live_of gone) → AreOther (map live_of gone)
    → AreEach (IsMember V) (map member_of gone) (map live_of gone)
each_of V [] sized among other = tt
each_of V (a ∷ gone) sized among other = (
  record {
    here = record { number = refl; among = among.0 };
    work = record { begin = refl; mode = refl; size = sized.0.size; blocks = sized.0.blocks; accesses = refl };
    none = refl;
  },
  other.0,
  each_of V gone sized.1 among.1 other.1,
)

-- those that were taken are the members that the looks find
pub are_members : (texts : List (List ℕ)) (W : World) (gone : List Attached) → IsWorld W → AllByRecursion (IsSized W.geometry) gone → map live_of gone ≡ found_ones (found_in texts W.live)
    → AreEach (IsMember (looks W texts).1) (map member_of gone) (found_ones (looks W texts).0)
are_members texts W gone is sized same =
    let V : World = (looks W texts).1 in
    let among = all_weaker (λ t. IsAmong t W.live) (λ t. IsAmong t V.live) (λ t there. among_bare t W.live V.live (sym (looks_bare texts W is)) there) (found_ones (found_in texts W.live))
    (found_all (λ t. IsAmong t W.live) texts W.live (all_among W.live)) in
    subst (λ (members : List Live). AreEach (IsMember V) (map member_of gone) members) (same ∙ ap found_ones (sym (found_is texts W)))
    (each_of V gone (subst (λ (g : Geometry). AllByRecursion (IsSized g) gone) (sym (looks_geometry texts W)) sized)
    (subst (λ (members : List Live). AllByRecursion (λ t. IsAmong t V.live) members) (sym same) among)
    (subst (λ (members : List Live). AreOther members) (sym same) (found_other texts W.live)))

-- THE REPLIES
pub filled_is : (found : List (Option Live)) (replies : List GroupReply) → filled (map stand_in found) (map Some replies) ≡ label_replies found replies
filled_is [] replies = refl
filled_is (None ∷ found) replies = ap (λ (answers : List (Option GroupReply)). None ∷ answers) (filled_is found replies)
filled_is (Some t ∷ found) [] = ap (λ (answers : List (Option GroupReply)). None ∷ answers) (filled_is found [])
filled_is (Some t ∷ found) (first ∷ replies) = ap (λ (answers : List (Option GroupReply)). Some first ∷ answers) (filled_is found replies)

pub none_found : (found : List (Option Live)) → found_ones found ≡ [] → map stand_in found ≡ label_replies found []
none_found [] none = refl
none_found (None ∷ found) none = ap (λ (answers : List (Option GroupReply)). None ∷ answers) (none_found found none)
none_found (Some t ∷ found) none = cc
