-- The end of a group leaves an entry that is legal at its place.
use Rattle.iso_shared.proofs.{Words.{◌≡◌, ◌≢◌, ◌⊎◌, inl, inr, ⊎_elim, ℕ, ◌<◌, ◌≤◌, List, [], ◌∷◌, ◌++◌, Option, Some, None, Result, Ok, Err, IfErr, OnOk, length, map, refl, sym, ap, ◌∙◌, subst, arith, unwrap_or, append-nil, append_cancel_left, IsErrOf, AllByRecursion, AreDistinct, AreEach, AreHeld, Bool, cond, view, IsJoined, Made, MemberEnd, Posted, answered, Shared, Standing, View, Tx, cause_of, end_of, false, handed, held_after, is_down, members_in, numbers_in, returned, IsEnd, IsMember, MAX_GROUP, MayHaveMade, ShowsFrom, hit_same, is_live, member_numbers, numbers_handed, suc, times, true, BlamesDisk, Core, StandsFor, disk_of, up, down, ShowsEither, ShowsLast, DiskState, LeavesOnly, StaysTold, weakened, Commit, CoreError, GroupEnd, GroupReply, bare_end, reply_in, group, group_is, decided, leave_all, leave_all_is, made_by, member_reply, numbers_told, ahead, end_step, with_commits, History, World, Live, Entry, Answers, IsGroup, IsLegal, Member, Holds, faults_of, with_lost, Start, State, after_group, commits_made, group_answers, lost_commits, members_of, replies_of, state_at, txs_of, with_world, ends_at, group_entry, members_at, IsPrefix}, Cores.{Did, by_lost, holds_up, is_tx, refused_down, same_faults, same_told}, Ends.{may_have, work_of}, Giving.{Lends, live_lent, refused_holds}, Grouped.after_live, HandedBack.{answered_is, as_many, same_many}, Growing.{from_after, from_last}, Mades.own_on, Standings.Moved}
use Rattle.iso_shared.specs.{Groups.{AreEnds, AreJoined}, declared.shared.Port.Port}
use Rattle.iso_model.specs.declared.access.GroupReply.TheVariants as member
use Rattle.iso_model.specs.declared.core_error.CoreError.TheVariants as error
use Rattle.iso_shared.specs.declared.entry.Call.TheVariants as call
use Rattle.iso_shared.specs.declared.entry.Cause.TheVariants as cause
use Rattle.iso_shared.specs.declared.entry.Entry.TheVariants as entry

-- ---- the members, before the call and after it

pub same_members : (last ends : List GroupEnd) → map bare_end last ≡ map bare_end ends → members_at last ≡ members_at ends
same_members last ends same = of_bare last ∙ ap (map of_end) same ∙ sym (of_bare ends)
  where
    of_end : GroupEnd → Member
    of_end g = record { number = g.tx; accesses = g.work.accesses }

    of_bare : (ms : List GroupEnd) → members_at ms ≡ map of_end (map bare_end ms)
    of_bare [] = refl
    of_bare (m ∷ ms) = ap (λ (l : List Member). of_end m ∷ l) (of_bare ms)

pub bare_members : (ends : List GroupEnd) → members_of (ends_at ends) ≡ members_at ends
bare_members [] = refl
bare_members (g ∷ ends) = ap (λ (l : List Member). (let m : Member = record { number = g.tx; accesses = g.work.accesses } in m) ∷ l) (bare_members ends)

-- their replies, where each has one
pub told_replies : (ends : List GroupEnd) (replies : List GroupReply) → map reply_in ends ≡ map Some replies → replies ≡ replies_of (ends_at ends)
told_replies [] [] same = refl
told_replies [] (r ∷ replies) same = absurd (cc same)
told_replies (g ∷ ends) [] same = absurd (cc same)
told_replies (g ∷ ends) (r ∷ replies) same =
    let first : g.reply ≡ Some r = cc same in
    let rest : map reply_in ends ≡ map Some replies = cc same in
    let head : r ≡ unwrap_or g.reply member.ReadOnly = sym (ap (λ (o : Option GroupReply). unwrap_or o member.ReadOnly) first) in
    let tail = told_replies ends replies rest in
    λ i. head i ∷ tail i

-- ---- the commits that a group makes

told_by : (t : Live) (r : GroupReply) (replies : List GroupReply) (made : List Commit) → length (numbers_told replies) ≡ length made → length (numbers_told (r ∷ replies)) ≡ length (made_by t r ++ made)
told_by t (member.Committed k) replies made same = omega (arith, same)
told_by t x replies made same = same

decided_many : (W : World) (txs : List Live) → length (numbers_told (decided W txs).0) ≡ length (commits_made txs (decided W txs).0)
decided_many W [] = refl
decided_many W (t ∷ txs) =
    let r : GroupReply = member_reply (end_step W t).0 in
    let V : World = ahead W (made_by t r) in
    told_by t r (decided V txs).0 (commits_made txs (decided V txs).0) (decided_many V txs)

-- as many as its replies tell
pub many_lost : (W : World) (members : List Member) → length (numbers_told (group_answers W members)) ≡ length (lost_commits W members)
many_lost W members = grind (arith, group_is, decided_many)

pub group_history : (W : World) (members : List Member) → (after_group W members).history ≡ with_commits (lost_commits W members) W.history
group_history W members = ap (λ (V : World). V.history) (after_live W members)

some_of : (commits : List Commit) → (commits ≡ [] → ⊥) → 0 < length commits
some_of [] other = absurd (other refl)
some_of (c ∷ commits) other = omega arith

-- a group that changes the history tells of a commit
pub some_told : (W : World) (members : List Member) → ((after_group W members).history ≢ W.history) → 0 < length (numbers_told (group_answers W members))
some_told W members other =
    let made = lost_commits W members in
    let some = some_of made (λ none. other (group_history W members ∙ (λ i. with_commits (none i) W.history) ∙ (λ i. record W.history { commits = append-nil W.history.commits i }))) in
    omega (arith, some, many_lost W members)

-- its commits are the ones that its history has more
pub lost_is : (W : World) (members : List Member) (more : List Commit) → (after_group W members).history ≡ with_commits more W.history → more ≡ lost_commits W members
lost_is W members more same =
    append_cancel_left W.history.commits more (lost_commits W members) (ap (λ (H : History). H.commits) (sym same ∙ group_history W members))

-- ---- the members, as the core is handed them

apart : (W : World) (n : ℕ) (ends : List GroupEnd) → times n (numbers_handed ends) ≡ 0 → AllByRecursion (λ (u : Live). u.number ≢ n) (txs_of W (members_at ends))
apart W n [] none = tt
apart W n (g ∷ ends) none = ((λ same. let h = hit_same g.tx n same in absurd (omega (arith, none, h))), apart W n ends (omega (arith, none)))

-- live ones, which are different
each_member : (A : Start) (es seen : List Entry) (ends : List GroupEnd) → IsPrefix seen es → AllByRecursion (IsEnd A seen) ends
    → AllByRecursion (λ (g : GroupEnd). is_live g.tx (state_at A es).world.live ≡ true) ends → AreDistinct (numbers_handed ends) → AreEach (IsMember (state_at A es).world) ends (txs_of (state_at A es).world (members_at ends))
each_member A es seen [] p each live distinct = tt
each_member A es seen (g ∷ ends) p each live distinct =
    let S : State = state_at A es in
    let own = own_on A seen es g.tx g.work p each.0.own in (
      record { here = is_tx S.world g.tx g.work.accesses live.0; work = work_of S g.tx g.work own live.0; none = each.0.none },
      apart S.world g.tx ends distinct.0,
      each_member A es seen ends p each.1 live.1 distinct.1,
    )

pub numbers_are : (ends : List GroupEnd) → member_numbers (members_at ends) ≡ numbers_handed ends
numbers_are [] = refl
numbers_are (g ∷ ends) = ap (λ (ns : List ℕ). g.tx ∷ ns) (numbers_are ends)

may_have_all : (A : Start) (es seen : List Entry) (ends : List GroupEnd) → IsPrefix seen es → AllByRecursion (IsEnd A seen) ends
    → AllByRecursion (λ (m : Member). MayHaveMade (state_at A es).world m.accesses) (members_at ends)
may_have_all A es seen [] p each = tt
may_have_all A es seen (g ∷ ends) p each =
    (may_have (state_at A es) g.tx g.work (own_on A seen es g.tx g.work p each.0.own) each.0.within.0 each.0.within.1, may_have_all A es seen ends p each.1)

pub members_many : (ends : List GroupEnd) → length (members_at ends) ≡ length ends
members_many [] = refl
members_many (g ∷ ends) = ap suc (members_many ends)

pub group_args : (A : Start) (es seen : List Entry) (ends : List GroupEnd) → IsPrefix seen es → AllByRecursion (IsEnd A seen) ends → 0 < length ends → length ends ≤ MAX_GROUP → AreDistinct (numbers_handed ends)
    → IsGroup (state_at A es).world (members_at ends)
group_args A es seen ends p each some most distinct =
    let many = members_many ends in
    record {
      some = omega (arith, many, some);
      most = omega (arith, many, most);
      distinct = subst AreDistinct (sym (numbers_are ends)) distinct;
      each = may_have_all A es seen ends p each;
    }

-- ---- the call

module _ {D : Type 0} (disk : D → DiskState) (S : State) (old new : Core D) (ends last : List GroupEnd) where
  abbrev ms : List Member
  ms = members_at ends

  abbrev txs : List Live
  txs = txs_of S.world ms

  -- what the clauses of the core's call say of this state
  pub record Groups (r : Result (Unit {0}) CoreError) : Type 0 where
    pub members : map bare_end last ≡ map bare_end ends
    pub ended : StandsFor disk old S.world up → OnOk r ((map reply_in last ≡ map Some (group S.world txs).0) × StandsFor disk new (group S.world txs).1 up)
    pub stays : StandsFor disk old S.world up → IfErr r (λ e. e ≢ error.Disk → StandsFor disk new S.world up)
    pub fallen : (commits : List Commit) → StandsFor disk old S.world (down commits) → (r ≡ Err error.Down) × (new ≡ old)
    pub only : StandsFor disk old S.world up → IfErr r (λ e. (e ≡ error.Disk) ⊎ (e ≡ error.Memory))
    pub lost : StandsFor disk old S.world up → IsErrOf r error.Disk
        → (more : List Commit) × ((group S.world txs).1.history ≡ with_commits more S.world.history) × StandsFor disk new (leave_all txs S.world) (down more)
    pub commits : StandsFor disk old S.world up → IsErrOf r error.Disk → (group S.world txs).1.history ≢ S.world.history
    pub untouched : IfErr r (λ e. e ≢ error.Disk → disk_of new ≡ disk_of old)
    pub told : OnOk r (StaysTold (disk (disk_of old)) (disk (disk_of new)))
    pub cause : BlamesDisk (faults_of disk old) (faults_of disk new) r
    pub moments : StandsFor disk old S.world up → LeavesOnly (disk (disk_of old)) (disk (disk_of new)) (ShowsEither S.world (group S.world txs).1)

  -- the entry of an answer
  answered_so : (r : Result (Unit {0}) CoreError) → Groups r → members_of (ends_at last) ≡ ms
  answered_so r so = bare_members last ∙ same_members last ends so.members

  refused_so : (r : Result (Unit {0}) CoreError) → Groups r → ms ≡ members_at last
  refused_so r so = sym (same_members last ends so.members)

  pub did_group : (r : Result (Unit {0}) CoreError) → Holds disk old S → IsGroup S.world ms → Groups r → Did disk S new (group_entry (faults_of disk old) (faults_of disk new) last r)
  did_group r h args so =
      by_lost disk S old (Did disk S new (group_entry (faults_of disk old) (faults_of disk new) last r)) h
      (λ is stands. up_by r is stands so)
      (λ commits is stands.
      let down_so = so.fallen commits stands in
      refused_down disk S old new (faults_of disk old) (faults_of disk new) (call.EndGroup (members_at last)) (λ done. entry.EndGroup (ends_at last)) r commits h is (subst (IsGroup S.world) (refused_so r so) args) tt down_so.0 down_so.1)
    where
      counts : S.faults ≤ faults_of disk old
      counts = h.counts

      up_by : (r : Result (Unit {0}) CoreError) → S.lost ≡ None → StandsFor disk old S.world up → Groups r → Did disk S new (group_entry (faults_of disk old) (faults_of disk new) last r)
      up_by (Ok done) is stands so =
          let (replies, after_it) = so.ended stands in
          subst (λ (l : List Member). ((S.lost ≡ None) × IsGroup S.world l × (group_answers S.world l ≡ replies_of (ends_at last))) × Holds disk new (with_world S (after_group S.world l))) (sym (answered_so (Ok done) so))
          ((is, args, told_replies last (group_answers S.world ms) replies), holds_up disk S old new (after_group S.world ms) is h after_it so.cause.later so.told)
      up_by (Err e) is stands so =
          ⊎_elim
          (λ (d : e ≡ error.Disk). subst (λ (v : CoreError). Did disk S new (group_entry (faults_of disk old) (faults_of disk new) last (Err v))) (sym d) (faulted is stands (subst (λ (v : CoreError). Groups (Err v)) d so)))
          (λ (m : e ≡ error.Memory). subst (λ (v : CoreError). Did disk S new (group_entry (faults_of disk old) (faults_of disk new) last (Err v))) (sym m) (wanting is stands (subst (λ (v : CoreError). Groups (Err v)) m so)))
          (so.only stands)
        where
          faulted : S.lost ≡ None → StandsFor disk old S.world up → Groups (Err error.Disk) → Did disk S new (group_entry (faults_of disk old) (faults_of disk new) last (Err error.Disk))
          faulted is stands so =
              let (more, history, fell) = so.lost stands refl in
              let rose = so.cause.failed refl in
              subst (λ (l : List Member). Did disk S new (entry.Refused (call.EndGroup l) (cause.Disk (faults_of disk old) (faults_of disk new)))) (refused_so (Err error.Disk) so) (
                (args, ((is, some_told S.world ms (so.commits stands refl)), counts, rose, so.cause.later)),
                record {
                  world = subst (λ (cs : List Commit). StandsFor disk new (leave_all txs S.world) (down cs)) (lost_is S.world ms more history) fell;
                  counts = omega arith;
                  told = λ up. absurd (cc up);
                },
              )

          wanting : S.lost ≡ None → StandsFor disk old S.world up → Groups (Err error.Memory) → Did disk S new (group_entry (faults_of disk old) (faults_of disk new) last (Err error.Memory))
          wanting is stands so =
              let equal = so.untouched (λ e. cc e) in
              subst (λ (l : List Member). Did disk S new (entry.Refused (call.EndGroup l) cause.Memory)) (refused_so (Err error.Memory) so)
              ((args, is), holds_up disk S old new S.world is h (so.stays stands (λ e. cc e)) (same_faults disk old new equal) (same_told disk old new equal))

-- a crash in the course of a group
pub moved_group : {D : Type 0} (disk : D → DiskState) (A : Start) (es : List Entry) (old new : Core D) (ends last : List GroupEnd) (r : Result (Unit {0}) CoreError) (b n : ℕ)
    → IsLegal A es → 0 < (state_at A es).world.history.first → Holds disk old (state_at A es) → Answers (state_at A es) (group_entry b n last r) → Groups disk (state_at A es) old new ends last r
    → Moved disk A es (group_entry b n last r) old new
moved_group disk A es old new ends last r b n legal some h answers so =
    by_lost disk S old (Moved disk A es (group_entry b n last r) old new) h (λ is stands. by r is stands answers so) (λ commits is stands. inl (ap disk_of (so.fallen commits stands).1))
  where
    S : State
    S = state_at A es

    ms : List Member
    ms = members_at ends

    before : (e : Entry) → S.lost ≡ None → Answers S e → (c : List ℕ) → ShowsLast S.world c → ShowsFrom A es (es ++ e ∷ []) c
    before e is answers c shown = from_last A es e legal some answers c (subst (λ (o : Option (List Commit)). ShowsLast (with_lost S.world o) c) (sym is) shown)

    by : (r : Result (Unit {0}) CoreError) → S.lost ≡ None → StandsFor disk old S.world up → Answers S (group_entry b n last r) → Groups disk S old new ends last r → Moved disk A es (group_entry b n last r) old new
    by (Ok done) is stands answers so =
        let e : Entry = entry.EndGroup (ends_at last) in
        let are = answered_so disk S old new ends last (Ok done) so in
        inr (weakened (so.moments stands) (λ c shown. ⊎_elim (before e is answers c)
        (λ (after_it : ShowsLast (after_group S.world ms) c). from_after A es e legal some answers c
        (subst (λ (o : Option (List Commit)). ShowsLast (with_lost (after_group S.world (members_of (ends_at last))) o) c) (sym is)
        (subst (λ (l : List Member). ShowsLast (after_group S.world l) c) (sym are) after_it)))
        shown))
    by (Err x) is stands answers so =
        ⊎_elim
        (λ (d : x ≡ error.Disk). subst (λ (v : CoreError). Moved disk A es (group_entry b n last (Err v)) old new) (sym d)
        (faulted (subst (λ (v : CoreError). Answers S (group_entry b n last (Err v))) d answers) (subst (λ (v : CoreError). Groups disk S old new ends last (Err v)) d so)))
        (λ (m : x ≡ error.Memory). inl (so.untouched (λ e. cc (m, e))))
        (so.only stands)
      where
        faulted : Answers S (group_entry b n last (Err error.Disk)) → Groups disk S old new ends last (Err error.Disk) → Moved disk A es (group_entry b n last (Err error.Disk)) old new
        faulted answers so =
            let e : Entry = group_entry b n last (Err error.Disk) in
            let are = refused_so disk S old new ends last (Err error.Disk) so in
            let lost : List Member → List Commit = lost_commits S.world in
            inr (weakened (so.moments stands) (λ c shown. ⊎_elim (before e is answers c)
            (λ (after_it : ShowsLast (after_group S.world ms) c). from_after A es e legal some answers c
            (subst (λ (l : List Member). ShowsLast (with_lost (leave_all (txs_of S.world l) S.world) (Some (lost_commits S.world l))) c) are
            (subst (λ (V : World). ShowsLast (with_lost V (Some (lost_commits S.world ms))) c) (sym (leave_all_is (txs_of S.world ms) S.world))
            (subst (λ (V : World). ShowsLast V c) (after_live S.world ms) after_it))))
            shown))

-- ---- the turn

pub held_again : (last ends : List GroupEnd) (holds : List ℕ) → map bare_end last ≡ map bare_end ends → AreHeld (numbers_handed ends) holds
    → AreHeld (member_numbers (members_at last)) holds × AreHeld (member_numbers (members_of (ends_at last))) holds
held_again last ends holds same held =
    let one = subst (λ (ms : List Member). AreHeld (member_numbers ms) holds) (sym (same_members last ends same)) (subst (λ (ns : List ℕ). AreHeld ns holds) (sym (numbers_are ends)) held) in
    (one, subst (λ (ms : List Member). AreHeld (member_numbers ms) holds) (sym (bare_members last)) one)

module _ {D : Type 0} {disk : D → DiskState} {A : Start} {first : DiskState} {lent : Core D} {items : List (List ℕ × Posted)} {es : List Entry} {ms : List ℕ} {holds : List ℕ} (l : Lends disk A first lent items es ms holds) where
  -- members that a pass holds are live
  all_live : (ends : List GroupEnd) → AreHeld (numbers_handed ends) holds → AllByRecursion (λ (g : GroupEnd). is_live g.tx (state_at A es).world.live ≡ true) ends
  all_live [] held = tt
  all_live (g ∷ ends) held = (live_lent l g.tx held.0, all_live ends held.1)

  pub each_lent : (v : View Entry) (ends : List GroupEnd) → IsPrefix v.seen es → holds ≡ v.holds → AllByRecursion (IsEnd A v.seen) ends → AreHeld (numbers_handed ends) v.holds × AreDistinct (numbers_handed ends)
      → AreEach (IsMember (state_at A es).world) ends (txs_of (state_at A es).world (members_at ends))
  each_lent v ends begins same each held = each_member A es v.seen ends begins each (all_live ends (subst (λ (hs : List ℕ). AreHeld (numbers_handed ends) hs) (sym same) held.0)) held.1

-- why a group is refused
pub group_only : {D : Type 0} → (disk : D → DiskState) (S : State) (old new : Core D) (ends last : List GroupEnd) (r : Result (Unit {0}) CoreError) → Holds disk old S → Groups disk S old new ends last r
    → IfErr r (λ e. (e ≡ error.Down) ⊎ (e ≡ error.Disk) ⊎ (e ≡ error.Memory))
group_only disk S old new ends last r h so =
    by_lost disk S old (IfErr r (λ e. (e ≡ error.Down) ⊎ (e ≡ error.Disk) ⊎ (e ≡ error.Memory))) h
    (λ is stands. up_by r (so.only stands))
    (λ commits is stands. subst (λ (v : Result (Unit {0}) CoreError). IfErr v (λ e. (e ≡ error.Down) ⊎ (e ≡ error.Disk) ⊎ (e ≡ error.Memory))) (sym (so.fallen commits stands).0) (inl refl))
  where
    up_by : (r : Result (Unit {0}) CoreError) → IfErr r (λ e. (e ≡ error.Disk) ⊎ (e ≡ error.Memory)) → IfErr r (λ e. (e ≡ error.Down) ⊎ (e ≡ error.Disk) ⊎ (e ≡ error.Memory))
    up_by (Ok done) only = tt
    up_by (Err e) only = inr only

-- ---- a group that is refused before the core is asked

module _ {D O : Type 0} (s : Shared D O) (A : Start) (seen : List Entry) where
  pub ends_of_joined : (group : List (Tx D O)) → AllByRecursion (IsJoined s A seen) group → AllByRecursion (IsEnd A seen) (map end_of group)
  ends_of_joined [] all = tt
  ends_of_joined (t ∷ group) all = (record { own = all.0.own; within = all.0.within; none = refl }, ends_of_joined group all.1)

pub members_end : {D O : Type 0} → (group : List (Tx D O)) → members_at (map end_of group) ≡ members_in group
members_end [] = refl
members_end (t ∷ group) = ap (λ (l : List Member). (let m : Member = record { number = t.number; accesses = t.work.accesses } in m) ∷ l) (members_end group)

pub numbers_end : {D O : Type 0} → (group : List (Tx D O)) → numbers_handed (map end_of group) ≡ numbers_in group
numbers_end [] = refl
numbers_end (t ∷ group) = ap (λ (ns : List ℕ). t.number ∷ ns) (numbers_end group)

pub many_end : {D O : Type 0} → (group : List (Tx D O)) → length (map end_of group) ≡ length group
many_end [] = refl
many_end (t ∷ group) = ap suc (many_end group)

-- what the core hands back are the members that it was handed
pub members_last : {D O : Type 0} → (group : List (Tx D O)) (last : List GroupEnd) → map bare_end last ≡ map bare_end (map end_of group) → members_at last ≡ members_in group
members_last group last same = same_members last (map end_of group) same ∙ members_end group

-- the entry of a group that has ended, told of its members and of the replies that were put out
pub ended_so : {D O : Type 0} → (A : Start) (v w : View Entry) (group : List (Tx D O)) (last : List GroupEnd) (replies : List GroupReply) → map bare_end last ≡ map bare_end (map end_of group)
    → replies ≡ replies_of (ends_at last) → Made A v v (entry.EndGroup (ends_at last)) w → (length replies ≡ length group) × Made A v v (entry.EndGroup (answered (members_in group) replies)) w
ended_so A v w group last replies same are made =
    let members : members_at last ≡ members_in group = members_last group last same in
    let entries : ends_at last ≡ answered (members_in group) replies = sym (answered_is last) ∙ (λ i. answered (members i) (sym are i)) in (
      ap (λ (l : List GroupReply). length l) are ∙ as_many last ∙ members_many last ∙ same_many last (map end_of group) same ∙ many_end group,
      subst (λ (es : List MemberEnd). Made A v v (entry.EndGroup es) w) entries made,
    )

pub numbers_member : {D O : Type 0} → (group : List (Tx D O)) → member_numbers (members_in group) ≡ numbers_in group
numbers_member [] = refl
numbers_member (t ∷ group) = ap (λ (ns : List ℕ). t.number ∷ ns) (numbers_member group)

-- members whose passes were joined, as the core is handed them
pub joined_ends : {D O : Type 0} → (s : Shared D O) (A : Start) (p : Port D O) (group : List (Tx D O)) (ends : List GroupEnd) → ends ≡ map end_of group → AreJoined s A p group → AreEnds s A p ends
joined_ends s A p group ends are j =
    let many = many_end group in
    subst (AreEnds s A p) (sym are) (record {
      port = j.port;
      each = ends_of_joined s A (view p.pass).seen group j.each;
      some = omega (arith, many, j.some);
      most = omega (arith, many, j.most);
      held = subst (λ (ns : List ℕ). AreHeld ns (view p.pass).holds × AreDistinct ns) (sym (numbers_end group)) j.held;
    })

pub joined_args : {D O : Type 0} → (s : Shared D O) (A : Start) (es seen : List Entry) (group : List (Tx D O)) → IsPrefix seen es → AllByRecursion (IsJoined s A seen) group → 0 < length group → length group ≤ MAX_GROUP
    → AreDistinct (numbers_in group) → IsGroup (state_at A es).world (members_in group)
joined_args s A es seen group p all some most distinct =
    let many = many_end group in
    subst (IsGroup (state_at A es).world) (members_end group)
    (group_args A es seen (map end_of group) p (ends_of_joined s A seen group all) (omega (arith, many, some)) (omega (arith, many, most)) (subst AreDistinct (sym (numbers_end group)) distinct))

pub did_wanting : {D : Type 0} → (disk : D → DiskState) (S : State) (core : Core D) (members : List Member) (e : CoreError) (fell : Bool) → Holds disk core S → IsGroup S.world members
    → ((W : World) (standing : Standing) → StandsFor disk core W standing → fell ≡ is_down standing) → e ≡ cond fell error.Down error.Memory
    → Did disk S core (entry.Refused (call.EndGroup members) (cause_of 0 0 e))
did_wanting disk S core members e fell h args told why =
    let as_down : fell ≡ true → e ≡ error.Down = λ is. why ∙ ap (λ (b : Bool). cond b error.Down error.Memory) is in
    let as_wanting : fell ≡ false → e ≡ error.Memory = λ is. why ∙ ap (λ (b : Bool). cond b error.Down error.Memory) is in
    grind (arith, by_lost)

pub wants_only : (e : CoreError) (fell : Bool) → e ≡ cond fell error.Down error.Memory → (e ≡ error.Down) ⊎ (e ≡ error.Memory)
wants_only e true why = inl why
wants_only e false why = inr why

pub not_disk : (e : CoreError) → e ≢ error.Disk → (e ≡ error.Down) ⊎ (e ≡ error.Disk) ⊎ (e ≡ error.Memory) → (e ≡ error.Down) ⊎ (e ≡ error.Memory)
not_disk e other only = ⊎_elim (λ (d : e ≡ error.Down). inl d) (⊎_elim (λ (x : e ≡ error.Disk). absurd (other x)) (λ (m : e ≡ error.Memory). inr m)) only

pub wanting_holds : (members : List Member) (e : CoreError) (holds : List ℕ) → (e ≡ error.Down) ⊎ (e ≡ error.Memory) → held_after handed returned (entry.Refused (call.EndGroup members) (cause_of 0 0 e)) holds ≡ holds
wanting_holds members e holds only = refused_holds 0 0 (call.EndGroup members) e holds (λ is. absurd (⊎_elim (λ (x : e ≡ error.Down). cc (x, is)) (λ (x : e ≡ error.Memory). cc (x, is)) only))
