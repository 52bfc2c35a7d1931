-- What a group does to a world.
use Rattle.iso_model.proofs.{Words.{◌≡◌, ◌∙◌, sym, refl, ap, ℕ, ◌+◌, ◌-◌, ◌<◌, ◌≤◌, Bool, true, false, ◌==◌, cond, List, [], ◌∷◌, ◌++◌, length, arith, subst, None, Some, Option, nat_lt, append-nil, eqb-false, ltb-false, length-append, length_push, AllByRecursion, Clash, Commit, LAST, GroupReply, CoreReply, clash, has_write, Follow, after_look, after_member, ahead, decided, found_ones, group, group_step, leave_all, looks, made_by, member_reply, numbers_told, with_first, last, after_commit, after_leaving, commit_from, placed, commit_step, end_step, need, with_live, World, Live, Place, held, is_under_label, unattached, used, without, AreApart, IsLive, IsWorld, LeadsTo}, Distinct.all_find, Growth.all_weaker, Worlds.{commits, with_lives, leads_on, leaves, live_on, places, same_geometry, stays}}
use Rattle.iso_model.specs.declared.core_reply.CoreReply.TheVariants as reply

-- what an end answers hangs on no other transaction
pub same_answer : (W : World) (live : List Live) (t : Live) → (end_step (with_live W live) t).0 ≡ (end_step W t).0
unfolding end_step commit_step
same_answer W live t = go (has_write t.accesses) (clash W.geometry W.history t.mode t.begin t.accesses)
  where
    so : CoreReply × World → CoreReply × World → Type 0
    so x y = x.0 ≡ y.0

    tests : (w f : Bool)
        → so (cond w (reply.Worn, with_live W live) (cond f (reply.LogFull (need W t) (W.geometry.log - used W), with_live W live) (reply.Committed (last W.history + 1), after_commit (with_live W live) t)))
        (cond w (reply.Worn, W) (cond f (reply.LogFull (need W t) (W.geometry.log - used W), W) (reply.Committed (last W.history + 1), after_commit W t)))
    tests w f = grind arith

    go : (b : Bool) (o : Option Clash) → so (cond b (commit_step (with_live W live) t o) (reply.ReadOnly, after_leaving (with_live W live) t)) (cond b (commit_step W t o) (reply.ReadOnly, after_leaving W t))
    go b o = grind (arith, tests)

pub nothing_ahead : (W : World) → W ≡ ahead W []
nothing_ahead W = let e = sym (append-nil W.history.commits) in λ i. record W { history = record W.history { commits = e i } }

-- the world after a member is the one with its commit, without it
pub member_leaves : (W : World) (t : Live) → after_member t (end_step W t) ≡ after_leaving (ahead W (made_by t (member_reply (end_step W t).0))) t
unfolding end_step commit_step
member_leaves W t = go (has_write t.accesses) (clash W.geometry W.history t.mode t.begin t.accesses)
  where
    so : CoreReply × World → Type 0
    so x = after_member t x ≡ after_leaving (ahead W (made_by t (member_reply x.0))) t

    tests : (w f : Bool) → so (cond w (reply.Worn, W) (cond f (reply.LogFull (need W t) (W.geometry.log - used W), W) (reply.Committed (last W.history + 1), after_commit W t)))
    tests w f = grind (arith, nothing_ahead)

    go : (b : Bool) (o : Option Clash) → so (cond b (commit_step W t o) (reply.ReadOnly, after_leaving W t))
    go b o = grind (arith, nothing_ahead, tests)

-- members decide alike whoever else is live
pub decided_live : (W : World) (live : List Live) (members : List Live) → decided (with_live W live) members ≡ ((decided W members).0, with_live (decided W members).1 live)
decided_live W live [] = refl
decided_live W live (t ∷ members) =
    let V : World = ahead W (made_by t (member_reply (end_step W t).0)) in
    (λ i. with_first (member_reply (same_answer W live t i)) (decided (ahead (with_live W live) (made_by t (member_reply (same_answer W live t i)))) members))
    ∙ ap (with_first (member_reply (end_step W t).0)) (decided_live V live members)

decided_keeps : (W : World) (members : List Live) → (decided W members).1.live ≡ W.live
decided_keeps W [] = refl
decided_keeps W (t ∷ members) = decided_keeps (ahead W (made_by t (member_reply (end_step W t).0))) members

-- a group decides its members, and then all of them leave
pub group_is : (W : World) (members : List Live) → group W members ≡ ((decided W members).0, leave_all members (decided W members).1)
group_is W [] = refl
group_is W (t ∷ members) =
    let V : World = ahead W (made_by t (member_reply (end_step W t).0)) in
    let left : List Live = without t.number W.live in
    let same : after_leaving (decided V members).1 t ≡ with_live (decided V members).1 left =
    (let e = decided_keeps V members in λ i. with_live (decided V members).1 (without t.number (e i))) in
    ap (λ (U : World). with_first (member_reply (end_step W t).0) (group U members)) (member_leaves W t)
    ∙ ap (with_first (member_reply (end_step W t).0)) (group_is (with_live V left) members)
    ∙ (let e = decided_live V left members in λ i. (member_reply (end_step W t).0 ∷ (e i).0, leave_all members (e i).1))
    ∙ (λ i. (member_reply (end_step W t).0 ∷ (decided V members).0, leave_all members (sym same i)))

-- a world with one commit more, in which its transaction is live still
pub stays_ahead : (W : World) (t : Live) → IsWorld W → IsWorld (after_commit W t) → LeadsTo W (ahead W (commit_from t ∷ []))
stays_ahead W t is next =
    let V : World = ahead W (commit_from t ∷ []) in
    let count : length V.history.commits ≡ length W.history.commits + 1 = length_push W.history.commits (commit_from t) in
    let later : last W.history ≤ last V.history = omega (arith, count) in
    record {
      world = with_lives (after_commit W t) W.live W.next next (all_weaker (IsLive W) (IsLive V) (λ u old. live_on W V u refl (omega arith) later (omega arith) old) W.live is.live) is.distinct is.count is.next;
      geometry = same_geometry W.geometry;
      history = record { first = refl; base = refl; more = commit_from t ∷ []; commits = refl };
    }

-- what an end makes leads to a sound world
pub made_leads : (W : World) (t : Live) → IsWorld W → IsLive W t → LeadsTo W (ahead W (made_by t (member_reply (end_step W t).0)))
unfolding end_step commit_step
made_leads W t is live = go (has_write t.accesses) refl
  where
    so : CoreReply × World → Type 0
    so x = LeadsTo W (ahead W (made_by t (member_reply x.0)))

    none : LeadsTo W (ahead W [])
    none = subst (LeadsTo W) (nothing_ahead W) (stays W is)

    tests : has_write t.accesses ≡ true → clash W.geometry W.history t.mode t.begin t.accesses ≡ None → (w f : Bool) → (last W.history == LAST) ≡ w → nat_lt (W.geometry.log - used W) (need W t) ≡ f
        → so (cond w (reply.Worn, W) (cond f (reply.LogFull (need W t) (W.geometry.log - used W), W) (reply.Committed (last W.history + 1), after_commit W t)))
    tests write free true f worn full = none
    tests write free false true worn full = none
    tests write free false false worn full =
        stays_ahead W t is (commits W t is live write free (eqb-false (last W.history) LAST worn) (ltb-false (W.geometry.log - used W) (need W t) full)).world

    found : has_write t.accesses ≡ true → (o : Option Clash) → clash W.geometry W.history t.mode t.begin t.accesses ≡ o → so (commit_step W t o)
    found write (Some c) is_so = none
    found write None is_so = tests write is_so (last W.history == LAST) (nat_lt (W.geometry.log - used W) (need W t)) refl refl

    go : (b : Bool) → has_write t.accesses ≡ b → so (cond b (commit_step W t (clash W.geometry W.history t.mode t.begin t.accesses)) (reply.ReadOnly, after_leaving W t))
    go false write = none
    go true write = found write (clash W.geometry W.history t.mode t.begin t.accesses) refl

lives_ahead : (W : World) (more : List Commit) (u : Live) → IsLive W u → IsLive (ahead W more) u
lives_ahead W more u old =
    let count : length (W.history.commits ++ more) ≡ length W.history.commits + length more = length-append W.history.commits more in
    let later : last W.history ≤ last (ahead W more).history = omega (arith, count) in
    live_on W (ahead W more) u refl (omega arith) later (omega arith) old

leaves_all : (members : List Live) (W : World) → IsWorld W → LeadsTo W (leave_all members W)
leaves_all [] W is = stays W is
leaves_all (t ∷ members) W is = let one = leaves W t is in leads_on W (after_leaving W t) (leave_all members (after_leaving W t)) one (leaves_all members (after_leaving W t) one.world)

decided_leads : (W : World) (members : List Live) → IsWorld W → AllByRecursion (IsLive W) members → LeadsTo W (decided W members).1
decided_leads W [] is live = stays W is
decided_leads W (t ∷ members) is live =
    let more : List Commit = made_by t (member_reply (end_step W t).0) in
    let one = made_leads W t is live.0 in
    leads_on W (ahead W more) (decided (ahead W more) members).1 one
    (decided_leads (ahead W more) members one.world (all_weaker (IsLive W) (IsLive (ahead W more)) (lives_ahead W more) members live.1))

-- A group of live transactions leads from a sound world to a sound one: its history is isolated, and grows by commits alone.
pub group_leads : (W : World) (members : List Live) → IsWorld W → AllByRecursion (IsLive W) members → LeadsTo W (group W members).1
group_leads W members is live =
    let one = decided_leads W members is live in
    subst (λ (x : List GroupReply × World). LeadsTo W x.1) (sym (group_is W members))
    (leads_on W (decided W members).1 (leave_all members (decided W members).1) one (leaves_all members (decided W members).1 one.world))

numbered : (W : World) (t : Live) (rest : List GroupReply) → 0 < W.history.first
    → (Follow (last (ahead W (made_by t (member_reply (end_step W t).0))).history) (numbers_told rest) → Follow (last W.history) (numbers_told (member_reply (end_step W t).0 ∷ rest)))
unfolding end_step commit_step
numbered W t rest first = go (has_write t.accesses) (clash W.geometry W.history t.mode t.begin t.accesses)
  where
    so : CoreReply × World → Type 0
    so x = Follow (last (ahead W (made_by t (member_reply x.0))).history) (numbers_told rest) → Follow (last W.history) (numbers_told (member_reply x.0 ∷ rest))

    none : Follow (last (ahead W []).history) (numbers_told rest) → Follow (last W.history) (numbers_told rest)
    none = subst (λ (V : World). Follow (last V.history) (numbers_told rest)) (sym (nothing_ahead W))

    tests : (w f : Bool) → so (cond w (reply.Worn, W) (cond f (reply.LogFull (need W t) (W.geometry.log - used W), W) (reply.Committed (last W.history + 1), after_commit W t)))
    tests true f = none
    tests false true = none
    tests false false = λ more.
        (refl, subst (λ (n : ℕ). Follow n (numbers_told rest)) (let count = length_push W.history.commits (commit_from t) in omega (arith, count, first)) more)

    go : (b : Bool) (o : Option Clash) → so (cond b (commit_step W t o) (reply.ReadOnly, after_leaving W t))
    go false o = none
    go true (Some c) = none
    go true None = tests (last W.history == LAST) (nat_lt (W.geometry.log - used W) (need W t))

numbers_follow : (W : World) (members : List Live) → 0 < W.history.first → Follow (last W.history) (numbers_told (decided W members).0)
numbers_follow W [] first = tt
numbers_follow W (t ∷ members) first =
    let V : World = ahead W (made_by t (member_reply (end_step W t).0)) in
    numbered W t (decided V members).0 first (numbers_follow V members first)

-- The commits of a group are consecutive, from the next number on.
pub consecutive : (W : World) (members : List Live) → 0 < W.history.first → Follow (last W.history) (numbers_told (group W members).0)
consecutive W members first = subst (λ (x : List GroupReply × World). Follow (last W.history) (numbers_told x.0)) (sym (group_is W members)) (numbers_follow W members first)

-- a group of none and of one
pub group_of_one : (W : World) (t : Live) → group W (t ∷ []) ≡ (member_reply (end_step W t).0 ∷ [], after_member t (end_step W t))
group_of_one W t = refl

-- ---- the group that labels ask for

pub nowhere : (place : Place) → AreApart place unattached
nowhere place = grind arith

pub all_apart_nowhere : (live : List Live) → AllByRecursion (λ u. AreApart u.place unattached) live
all_apart_nowhere [] = tt
all_apart_nowhere (t ∷ live) = (nowhere t.place, all_apart_nowhere live)

held_live : (W : World) (text : List ℕ) (t : Live) → IsWorld W → held W text ≡ Some t → IsLive W t
held_live W text t is found = all_find (IsLive W) (λ u. is_under_label text u.place) W.live t is.live found

-- what is found under a label leaves it, and all else stays
look_leads : (W : World) (text : List ℕ) → IsWorld W → LeadsTo W (after_look W (held W text))
look_leads W text is = go (held W text) refl
  where
    go : (o : Option Live) → held W text ≡ o → LeadsTo W (after_look W o)
    go None none = stays W is
    go (Some t) found = places W t unattached is (held_live W text t is found) tt (all_apart_nowhere W.live)

looks_lead : (texts : List (List ℕ)) (W : World) → IsWorld W → LeadsTo W (looks W texts).1
looks_lead [] W is = stays W is
looks_lead (text ∷ texts) W is =
    let V : World = after_look W (held W text) in
    let one = look_leads W text is in
    leads_on W V (looks V texts).1 one (looks_lead texts V one.world)

live_after_look : (W : World) (o : Option Live) (t : Live) → IsLive W t → IsLive (after_look W o) t
live_after_look W None t is = is
live_after_look W (Some u) t is = live_on W (placed W u unattached) t refl (omega arith) (omega arith) (omega arith) is

live_after_looks : (texts : List (List ℕ)) (W : World) (t : Live) → IsLive W t → IsLive (looks W texts).1 t
live_after_looks [] W t is = is
live_after_looks (text ∷ texts) W t is = live_after_looks texts (after_look W (held W text)) t (live_after_look W (held W text) t is)

one_more_found : (P : Live → Type 0) (o : Option Live) (found : List (Option Live)) → ((t : Live) → o ≡ Some t → P t) → AllByRecursion P (found_ones found) → AllByRecursion P (found_ones (o ∷ found))
one_more_found P None found first all = all
one_more_found P (Some t) found first all = (first t refl, all)

-- what the looks find is live after them
found_are_live : (texts : List (List ℕ)) (W : World) → IsWorld W → AllByRecursion (IsLive (looks W texts).1) (found_ones (looks W texts).0)
found_are_live [] W is = tt
found_are_live (text ∷ texts) W is =
    let V : World = after_look W (held W text) in
    one_more_found (IsLive (looks V texts).1) (held W text) (looks V texts).0
    (λ t found. live_after_looks texts V t (live_after_look W (held W text) t (held_live W text t is found)))
    (found_are_live texts V (look_leads W text is).world)

-- A group that labels ask for leads from a sound world to a sound one too.
pub group_step_leads : (W : World) (texts : List (List ℕ)) → IsWorld W → LeadsTo W (group_step W texts).1
unfolding group_step
group_step_leads W texts is =
    let first = looks_lead texts W is in
    leads_on W (looks W texts).1 (group (looks W texts).1 (found_ones (looks W texts).0)).1 first
    (group_leads (looks W texts).1 (found_ones (looks W texts).0) first.world (found_are_live texts W is))
