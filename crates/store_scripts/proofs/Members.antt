-- Where a group leads, with what is told of the transactions: its members end one after the other, each as by an end of its own.
use Rattle.store_scripts.proofs.{Words.{◌≡◌, ◌∙◌, ◌⊎◌, sym, refl, ap, subst, ℕ, ◌+◌, ◌-◌, ◌<◌, ◌≤◌, ◌==◌, not, IsTrue, List, [], ◌∷◌, length, take, Option, Some, None, arith, inl, inr, take-append-le, length-append, AllByRecursion, all_filter, all_find, all_weaker, live_on, same_Some, Geometry, Commit, GroupReply, CoreReply, Stat, Reply, Array, History, all_own, array_at, last, after_member, after_look, ahead, decided, found_ones, group, group_is, group_leads, group_step, label_replies, leave_all, looks, made_by, member_leaves, member_reply, found_are_live, first_found, held_live, look_leads, looks_geometry, looks_history, looks_keep, after_commit, after_leaving, commit_from, end_step, as_reply, Live, World, held, is_under_label, unattached, Extends, IsLive, IsWorld, IsByBoth, ToldInOrder, image_hash, EndsAs, Notes, Told, SecondStore, second_store}, Calls.end_goes, Noted.{IsKept, IsNoted}, Order.{committed_told, end_only}, Steps.places, Seconds.IsSecond}
use Rattle.iso_model.specs.declared.access.GroupReply.TheVariants as member
use Rattle.iso_model.specs.declared.core_reply.CoreReply.TheVariants as core
use Rattle.script_model.specs.declared.script.Reply.TheVariants as reply

pub array_extends : (H G : History) (n : ℕ) → 0 < H.first → Extends H G → n ≤ last H → array_at G n ≡ array_at H n
array_extends H G n first more before =
    (λ i. all_own (more.base i) (take (n + 1 - more.first i) (more.commits i)))
    ∙ ap (all_own H.base) (take-append-le (n + 1 - H.first) H.commits more.more (omega arith))

-- one of the members makes commit k
abbrev pub MakesCommit : (members : List Live) → (replies : List GroupReply) → (t : Live) → (k : ℕ) → Type 0
MakesCommit [] replies t k = ⊥
MakesCommit (m ∷ members) [] t k = ⊥
MakesCommit (m ∷ members) (r ∷ replies) t k = ((m ≡ t) × (r ≡ member.Committed k)) ⊎ MakesCommit members replies t k

to_labels : (found : List (Option Live)) (replies : List GroupReply) (t : Live) (k : ℕ) → MakesCommit (found_ones found) replies t k → EndsAs found (label_replies found replies) t k
to_labels [] replies t k makes = absurd makes
to_labels (None ∷ found) replies t k makes = inr (to_labels found replies t k makes)
to_labels (Some m ∷ found) [] t k makes = absurd makes
to_labels (Some m ∷ found) (r ∷ replies) t k (inl (same, is)) = inl (ap Some same, ap Some is)
to_labels (Some m ∷ found) (r ∷ replies) t k (inr later) = inr (to_labels found replies t k later)

no_replies : (members : List Live) (t : Live) (k : ℕ) → MakesCommit members [] t k → ⊥
no_replies [] t k makes = makes
no_replies (m ∷ members) t k makes = makes

pub of_labels : (found : List (Option Live)) (replies : List GroupReply) (t : Live) (k : ℕ) → EndsAs found (label_replies found replies) t k → MakesCommit (found_ones found) replies t k
of_labels [] replies t k ends = absurd ends
of_labels (None ∷ found) replies t k (inl (none, is)) = cc
of_labels (None ∷ found) replies t k (inr later) = of_labels found replies t k later
of_labels (Some m ∷ found) [] t k (inl (same, none)) = cc
of_labels (Some m ∷ found) [] t k (inr later) = absurd (no_replies (found_ones found) t k (of_labels found [] t k later))
of_labels (Some m ∷ found) (r ∷ replies) t k (inl (same, is)) = inl (same_Some m t same, same_Some r (member.Committed k) is)
of_labels (Some m ∷ found) (r ∷ replies) t k (inr later) = inr (of_labels found replies t k later)

-- the number of the next transaction stays
decided_next : (members : List Live) (W : World) → (decided W members).1.next ≡ W.next
decided_next [] W = refl
decided_next (t ∷ members) W = decided_next members (ahead W (made_by t (member_reply (end_step W t).0)))

left_next : (members : List Live) (W : World) → (leave_all members W).next ≡ W.next
left_next [] W = refl
left_next (t ∷ members) W = left_next members (after_leaving W t)

pub group_next : (texts : List (List ℕ)) (W : World) → (group_step W texts).1.next ≡ W.next
unfolding group_step
group_next texts W =
    let V : World = (looks W texts).1 in
    let members : List Live = found_ones (looks W texts).0 in
    ap (λ (x : List GroupReply × World). x.1.next) (group_is V members) ∙ left_next members (decided V members).1 ∙ decided_next members V ∙ looks_keep (λ (X : World). X.next) (λ X t. refl) texts W

member_commit : (r : CoreReply) (k : ℕ) → member_reply r ≡ member.Committed k → r ≡ core.Committed k
member_commit (core.Committed number) k is = let same : number ≡ k = cc in ap core.Committed same
member_commit x k is = cc

core_commit : (r : CoreReply) (k : ℕ) → as_reply r ≡ reply.Committed k → member_reply r ≡ member.Committed k
core_commit (core.Committed number) k is = let same : number ≡ k = cc in ap member.Committed same
core_commit x k is = cc

module _ (S : SecondStore) (lawful : IsSecond S) where
  -- what is told of a transaction stays true where the history is longer
  kept_in : (Q : Type 0) (n : ℕ) (g h : Geometry) (H G : History) (notes : Notes S) (t : Live) → h ≡ g → array_at G t.begin ≡ array_at H t.begin → IsKept S Q n g H notes t → IsKept S Q n h G notes t
  kept_in Q n g h H G notes t same_geometry same_array kept = grind arith

  module _ (Q : Type 0) (n : ℕ) where
    -- ONE MEMBER
    -- what a world is to be, but for its soundness
    record GoesTo (notes : Notes S) (next : ℕ) (V : World) : Type 0 where
      next_is : next ≤ V.next
      each : AllByRecursion (IsKept S Q n V.geometry V.history notes) V.live
      low : n ≤ last V.history
      by : Q → IsByBoth (image_hash V.geometry) (second_store S V.geometry) V.geometry V.history n

    leaving : (notes : Notes S) (next : ℕ) (V : World) (t : Live) → GoesTo notes next V → GoesTo notes next (after_leaving V t)
    leaving notes next V t to = record {
      next_is = to.next_is;
      each = all_filter (IsKept S Q n V.geometry V.history notes) (λ (u : Live). not (u.number == t.number)) V.live to.each;
      low = to.low;
      by = to.by;
    }

    member_goes : (notes : Notes S) (next : ℕ) (t : Live) (r : CoreReply) (V : World) → GoesTo notes next V → GoesTo notes next (after_member t (r, V))
    member_goes notes next t (core.LogFull need free) V to = leaving notes next V t to
    member_goes notes next t core.Worn V to = leaving notes next V t to
    member_goes notes next t x V to = to

    member_noted : (W : World) (notes : Notes S) (is : IsNoted S Q n W notes) (t : Live) → IsLive W t → IsKept S Q n W.geometry W.history notes t
        → ((k : ℕ) → member_reply (end_step W t).0 ≡ member.Committed k → Q → IsTrue (notes t.number).kept) → IsNoted S Q n (after_member t (end_step W t)) notes
    member_noted W notes is t live kept keeps =
        let goes = end_goes S lawful Q n W notes is 0 None t live kept (λ k done. keeps k (core_commit (end_step W t).0 k done)) in
        let to = member_goes notes W.next t (end_step W t).0 (end_step W t).1 (record { next_is = goes.next; each = goes.each; low = goes.low; by = goes.by }) in
        record {
          world = (group_leads W (t ∷ []) is.world (live, tt)).world;
          each = to.each;
          low = to.low;
          by = to.by;
          fresh = λ number past. let later = to.next_is in is.fresh number (omega arith);
        }

    -- the others are live after it, and what is told of them is true
    behind : (W : World) (t u : Live) → IsLive W u → IsLive (after_member t (end_step W t)) u
    behind W t u live =
        let more : List Commit = made_by t (member_reply (end_step W t).0) in
        let count = length-append W.history.commits more in
        subst (λ (V : World). IsLive V u) (sym (member_leaves W t))
        (live_on W (after_leaving (ahead W more) t) u refl (omega arith) (omega (arith, count)) (omega arith) live)

    member_geometry : (W : World) (t : Live) → (after_member t (end_step W t)).geometry ≡ W.geometry
    member_geometry W t = ap (λ (V : World). V.geometry) (member_leaves W t)

    kept_behind : (W : World) (notes : Notes S) (t u : Live) → IsWorld W → IsLive W t → IsLive W u → IsKept S Q n W.geometry W.history notes u
        → let V = after_member t (end_step W t) in IsKept S Q n V.geometry V.history notes u
    kept_behind W notes t u is live_t live kept =
        let V : World = after_member t (end_step W t) in
        let leads = group_leads W (t ∷ []) is (live_t, tt) in
        kept_in Q n W.geometry V.geometry W.history V.history notes u (member_geometry W t) (array_extends W.history V.history u.begin is.history.first leads.history live.begin) kept

    -- both of a list
    all_both : (P R S : Live → Type 0) → ((u : Live) → P u → R u → S u) → (members : List Live) → AllByRecursion P members → AllByRecursion R members → AllByRecursion S members
    all_both P R S both [] first second = tt
    all_both P R S both (u ∷ members) first second = (both u first.0 second.0, all_both P R S both members first.1 second.1)

    -- ALL MEMBERS
    pub group_noted : (members : List Live) (W : World) (notes : Notes S) → IsNoted S Q n W notes → AllByRecursion (IsLive W) members → AllByRecursion (IsKept S Q n W.geometry W.history notes) members
        → ((t : Live) (k : ℕ) → MakesCommit members (group W members).0 t k → Q → IsTrue (notes t.number).kept) → IsNoted S Q n (group W members).1 notes
    group_noted [] W notes is live kept keeps = is
    group_noted (t ∷ members) W notes is live kept keeps =
        let V : World = after_member t (end_step W t) in
        let one = member_noted W notes is t live.0 kept.0 (λ k made. keeps t k (inl (refl, made))) in
        group_noted members V notes one (all_weaker (IsLive W) (IsLive V) (λ u. behind W t u) members live.1)
        (all_both (IsLive W) (IsKept S Q n W.geometry W.history notes) (IsKept S Q n V.geometry V.history notes) (λ u. kept_behind W notes t u is.world live.0) members live.1 kept.1)
        (λ u k later. keeps u k (inr later))

    -- THE LOOKS
    looked : (W : World) (notes : Notes S) (is : IsNoted S Q n W notes) (o : Option Live) → ((t : Live) → o ≡ Some t → IsLive W t × IsKept S Q n W.geometry W.history notes t) → IsNoted S Q n (after_look W o) notes
    looked W notes is None has = is
    looked W notes is (Some t) has =
        let of = has t refl in
        let goes = places S Q n W notes is 0 Stat None t unattached reply.Done (lawful.quiet Stat tt reply.Done) of.1 in
        record {
          world = (look_leads W (Some t) is.world (λ u same. (has u same).0)).world;
          each = goes.each;
          low = goes.low;
          by = goes.by;
          fresh = λ number past. is.fresh number past;
        }

    found_kept : (W : World) (notes : Notes S) → IsNoted S Q n W notes → (text : List ℕ) (t : Live) → held W text ≡ Some t → IsKept S Q n W.geometry W.history notes t
    found_kept W notes is text t found = all_find (IsKept S Q n W.geometry W.history notes) (λ u. is_under_label text u.place) W.live t is.each found

    one_looked : (W : World) (notes : Notes S) (is : IsNoted S Q n W notes) (text : List ℕ) → IsNoted S Q n (after_look W (held W text)) notes
    one_looked W notes is text = looked W notes is (held W text) (λ t found. (held_live W text t is.world found, found_kept W notes is text t found))

    looks_noted : (texts : List (List ℕ)) (W : World) (notes : Notes S) → IsNoted S Q n W notes → IsNoted S Q n (looks W texts).1 notes
    looks_noted [] W notes is = is
    looks_noted (text ∷ texts) W notes is = looks_noted texts (after_look W (held W text)) notes (one_looked W notes is text)

    looked_geometry : (W : World) (o : Option Live) → (after_look W o).geometry ≡ W.geometry
    looked_geometry W None = refl
    looked_geometry W (Some t) = refl

    looked_history : (W : World) (o : Option Live) → (after_look W o).history ≡ W.history
    looked_history W None = refl
    looked_history W (Some t) = refl

    members_kept : (texts : List (List ℕ)) (W : World) (notes : Notes S) → IsNoted S Q n W notes
        → AllByRecursion (IsKept S Q n (looks W texts).1.geometry (looks W texts).1.history notes) (found_ones (looks W texts).0)
    members_kept [] W notes is = tt
    members_kept (text ∷ texts) W notes is =
        let V : World = after_look W (held W text) in
        let U : World = (looks V texts).1 in
        first_found (IsKept S Q n U.geometry U.history notes) (held W text) (looks V texts).0
        (λ t found.
        kept_in Q n W.geometry U.geometry W.history U.history notes t (looks_geometry texts V ∙ looked_geometry W (held W text))
        (ap (λ (H : History). array_at H t.begin) (looks_history texts V ∙ looked_history W (held W text))) (found_kept W notes is text t found))
        (members_kept texts V notes (one_looked W notes is text))

    -- A GROUP
    pub labels_noted : (texts : List (List ℕ)) (W : World) (notes : Notes S) → IsNoted S Q n W notes
        → ((t : Live) (k : ℕ) → EndsAs (looks W texts).0 (group_step W texts).0 t k → Q → IsTrue (notes t.number).kept) → IsNoted S Q n (group_step W texts).1 notes
    unfolding group_step
    labels_noted texts W notes is keeps =
        let V : World = (looks W texts).1 in
        let members : List Live = found_ones (looks W texts).0 in
        group_noted members V notes (looks_noted texts W notes is) (found_are_live texts W is.world) (members_kept texts W notes is)
        (λ t k makes. keeps t k (to_labels (looks W texts).0 (group V members).0 t k makes))

  -- WHAT A GROUP TOLD
  -- a member whose commit was told
  record IsCommitTold (g : Geometry) (told : Told S) (H : History) (k : ℕ) : Type 0 where
    order : ToldInOrder S g told (array_at H (k - 1)) (array_at H k)
    within : k ≤ last H

  -- an end of one that made a commit
  one_told : (n : ℕ) (W : World) (notes : Notes S) (is : IsNoted S (Unit {0}) n W notes) (t : Live) (k : ℕ) → IsLive W t → IsKept S (Unit {0}) n W.geometry W.history notes t → IsTrue (notes t.number).kept
      → member_reply (end_step W t).0 ≡ member.Committed k → IsCommitTold W.geometry (notes t.number) (after_member t (end_step W t)).history k
  one_told n W notes is t k live holds kept made =
      let r = member_commit (end_step W t).0 k made in
      let ends = end_only S lawful n W notes is t live holds kept k (ap as_reply r) in
      let world_is : (end_step W t).1 ≡ after_commit W t = ap (λ (x : Reply × World). x.1) ends.0 in
      let same : after_member t (end_step W t) ≡ after_commit W t = ap (λ (a : CoreReply). after_member t (a, (end_step W t).1)) r ∙ world_is in
      let sound = subst IsWorld same (group_leads W (t ∷ []) is.world (live, tt)).world in
      let more = length-append W.history.commits (commit_from t ∷ []) in
      let first : 0 < W.history.first = is.world.history.first in
      let at : k ≡ last W.history + 1 = ends.1 in
      subst (λ (V : World). IsCommitTold W.geometry (notes t.number) V.history k) (sym same)
      (record { order = committed_told S lawful n W notes is t live holds kept k at sound; within = omega arith })

  -- it is in each later history
  stands_later : (g : Geometry) (told : Told S) (H G : History) (k : ℕ) → 0 < H.first → Extends H G → IsCommitTold g told H k → IsCommitTold g told G k
  stands_later g told H G k first more is =
      let one = array_extends H G (k - 1) first more (let w = is.within in omega arith) in
      let two = array_extends H G k first more is.within in
      let count = length-append H.commits more.more in
      record {
        order = subst (λ (A : Array). ToldInOrder S g told A (array_at G k)) (sym one) (subst (λ (B : Array). ToldInOrder S g told (array_at H (k - 1)) B) (sym two) is.order);
        within = let w = is.within in omega (arith, count, more.first, ap length more.commits);
      }

  members_told : (n : ℕ) (members : List Live) (W : World) (notes : Notes S) (is : IsNoted S (Unit {0}) n W notes) → AllByRecursion (IsLive W) members
      → AllByRecursion (IsKept S (Unit {0}) n W.geometry W.history notes) members → ((t : Live) (k : ℕ) → MakesCommit members (group W members).0 t k → IsTrue (notes t.number).kept)
      → (t : Live) (k : ℕ) → MakesCommit members (group W members).0 t k → IsCommitTold W.geometry (notes t.number) (group W members).1.history k
  members_told n [] W notes is live kept keeps t k makes = absurd makes
  members_told n (m ∷ members) W notes is live kept keeps t k (inl (same, made)) =
      let V : World = after_member m (end_step W m) in
      let one = one_told n W notes is m k live.0 kept.0 (keeps m k (inl (refl, made))) made in
      let noted = member_noted (Unit {0}) n W notes is m live.0 kept.0 (λ j done q. keeps m j (inl (refl, done))) in
      let lives = all_weaker (IsLive W) (IsLive V) (λ u. behind (Unit {0}) n W m u) members live.1 in
      let rest = group_leads V members noted.world lives in
      subst (λ (u : Live). IsCommitTold W.geometry (notes u.number) (group V members).1.history k) same
      (stands_later W.geometry (notes m.number) V.history (group V members).1.history k noted.world.history.first rest.history one)
  members_told n (m ∷ members) W notes is live kept keeps t k (inr later) =
      let V : World = after_member m (end_step W m) in
      let noted = member_noted (Unit {0}) n W notes is m live.0 kept.0 (λ j done q. keeps m j (inl (refl, done))) in
      let lives = all_weaker (IsLive W) (IsLive V) (λ u. behind (Unit {0}) n W m u) members live.1 in
      let kept_more = all_both (Unit {0}) n (IsLive W) (IsKept S (Unit {0}) n W.geometry W.history notes) (IsKept S (Unit {0}) n V.geometry V.history notes)
      (λ u. kept_behind (Unit {0}) n W notes m u is.world live.0) members live.1 kept.1 in
      let told = members_told n members V notes noted lives kept_more (λ u j at. keeps u j (inr at)) t k later in
      subst (λ (g : Geometry). IsCommitTold g (notes t.number) (group V members).1.history k) (member_geometry (Unit {0}) n W m) told

  pub labels_told : (n : ℕ) (texts : List (List ℕ)) (W : World) (notes : Notes S) (is : IsNoted S (Unit {0}) n W notes)
      → ((t : Live) (k : ℕ) → EndsAs (looks W texts).0 (group_step W texts).0 t k → IsTrue (notes t.number).kept)
      → (t : Live) (k : ℕ) → EndsAs (looks W texts).0 (group_step W texts).0 t k
      → let H = (group_step W texts).1.history in ToldInOrder S W.geometry (notes t.number) (array_at H (k - 1)) (array_at H k) × (k ≤ last H)
  unfolding group_step
  labels_told n texts W notes is keeps t k ends =
      let V : World = (looks W texts).1 in
      let members : List Live = found_ones (looks W texts).0 in
      let told = members_told n members V notes (looks_noted (Unit {0}) n texts W notes is) (found_are_live texts W is.world) (members_kept (Unit {0}) n texts W notes is)
      (λ u j makes. keeps u j (to_labels (looks W texts).0 (group V members).0 u j makes)) t k (of_labels (looks W texts).0 (group V members).0 t k ends) in
      let here = subst (λ (g : Geometry). IsCommitTold g (notes t.number) (group V members).1.history k) (looks_geometry texts W) told in
      (here.order, here.within)
