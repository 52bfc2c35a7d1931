-- A history whose commits after some number are by calls, with transactions that began at that number or later, as entries change both.
use Rattle.store_scripts.proofs.EntryWords.{◌≡◌, sym, refl, ap, subst, ℕ, ◌+◌, ◌-◌, ◌<◌, ◌≤◌, ◌==◌, not, Bool, true, false, cond, IfSome, List, [], ◌∷◌, ◌++◌, length, length-append, Option, Some, None, slice_get, arith, inl, inr, AllByRecursion, cases_lt, Access, Commit, EndReply, Committed, ReadOnly, Conflict, Array, History, array_at, last, appended, Live, without, all_filter, all_push, all_weaker, slice_get_append_left, Call, Cause, Entry, State, after, after_fault, after_refusal, is_live, live_of, AreMixed, BothWellFormed, IsOfBoth, MapStore, if_some, array_longer, last_of, append-nil, append_assoc, GroupReply, World, after_is, after_leaving, ahead, commits_made, leave_all, lost_commits, made_by, members_of, replies_of, tx_of, txs_of, with_commits, Member, MemberEnd, commit_at, commits_as}
use Rattle.iso_model.specs.declared.access.GroupReply.TheVariants as member
use Rattle.iso_shared.specs.declared.entry.Call.TheVariants as call
use Rattle.iso_shared.specs.declared.entry.Cause.TheVariants as cause
use Rattle.iso_shared.specs.declared.entry.Entry.TheVariants as entry

-- a transaction that began at n or later, and not after m
abbrev pub IsSince : (n m : ℕ) → Live → Type 0
IsSince n m t = (n ≤ t.begin) × (t.begin ≤ m)

-- a commit by calls whose begin the history has
abbrev pub IsOf : (s t : MapStore) → History → Commit → Type 0
IsOf s t H c = (c.begin ≤ last H) × IsOfBoth s t H c

abbrev Each : (History → Commit → Type 0) → History → (n : ℕ) → Type 0
Each P H n = (k : ℕ) → n < k → k ≤ last H → IfSome (slice_get H.commits (k - H.first)) (P H)

pub record IsBy (s t : MapStore) (n : ℕ) (H : History) (txs : List Live) : Type 0 where
  pub first : 0 < H.first
  pub since : H.first ≤ n + 1
  pub within : n ≤ last H
  pub calls : Each (IsOf s t) H n
  pub begins : BothWellFormed s t (array_at H n)
  pub each : AllByRecursion (IsSince n (last H)) txs

-- without commits after n, and without a transaction
pub by_first : (s t : MapStore) (H : History) → 0 < H.first → BothWellFormed s t (array_at H (last H)) → IsBy s t (last H) H []
by_first s t H some well = record { first = some; since = omega arith; within = omega arith; calls = λ k from to. absurd (omega arith); begins = well; each = tt }

-- the transactions change
by_txs : (s t : MapStore) (n : ℕ) (H : History) (txs new : List Live) → IsBy s t n H txs → AllByRecursion (IsSince n (last H)) new → IsBy s t n H new
by_txs s t n H txs new by all = record { first = by.first; since = by.since; within = by.within; calls = by.calls; begins = by.begins; each = all }

by_without : (s t : MapStore) (n k : ℕ) (H : History) (txs : List Live) → IsBy s t n H txs → IsBy s t n H (without k txs)
by_without s t n k H txs by = by_txs s t n H txs (without k txs) by (all_filter (IsSince n (last H)) (λ u. not (u.number == k)) txs by.each)

-- the live transaction of a number is one of those that are live
live_by : (P : Live → Type 0) (t u : Live) (live : Bool) (b : Bool) → P t → (live ≡ true → P u) → cond b true live ≡ true → P (cond b t u)
live_by P t u live true here later is = here
live_by P t u live false here later is = later is

pub live_is : (P : Live → Type 0) (n : ℕ) (live : List Live) → AllByRecursion P live → is_live n live ≡ true → P (live_of n live)
live_is P n [] all is = absurd (cc is)
live_is P n (t ∷ live) all is = live_by P t (live_of n live) (is_live n live) (t.number == n) all.0 (live_is P n live all.1) is

-- one commit more
of_longer : (s t : MapStore) (H : History) (c d : Commit) → 0 < H.first → IsOf s t H d → IsOf s t (appended H c) d
of_longer s t H c d some is =
    let begin : d.begin ≤ last H = is.0 in
    let of : IsOfBoth s t H d = is.1 in (
      omega (arith, begin, length-append H.commits (c ∷ [])),
      record {
        parts = of.parts;
        are = of.are;
        made = subst (λ (A : Array). AreMixed s t A of.parts) (sym (array_longer H c d.begin some begin)) of.made;
        mode = of.mode;
      },
    )

by_one : (s t : MapStore) (n : ℕ) (H : History) (txs : List Live) (c : Commit) → IsBy s t n H txs → IsOf s t H c → IsBy s t n (appended H c) txs
by_one s t n H txs c by is =
    let some : 0 < H.first = by.first in
    let since : H.first ≤ n + 1 = by.since in
    let within : n ≤ last H = by.within in
    let more : length (H.commits ++ c ∷ []) ≡ length H.commits + 1 = length-append H.commits (c ∷ []) in
    record {
      first = some;
      since = since;
      within = omega arith;
      calls = λ m from to.
          elim (cases_lt (last H) m) [
            | inl past ↦ subst (λ (o : Option Commit). IfSome o (IsOf s t (appended H c))) (sym (last_of H.commits c (m - H.first) (omega arith))) (of_longer s t H c c some is)
            | inr low ↦
                subst (λ (o : Option Commit). IfSome o (IsOf s t (appended H c))) (sym (slice_get_append_left H.commits (c ∷ []) (m - H.first) (omega arith)))
                (if_some (IsOf s t H) (IsOf s t (appended H c)) (slice_get H.commits (m - H.first)) (λ d at old. of_longer s t H c d some old) (by.calls m from low))
          ];
      begins = subst (BothWellFormed s t) (sym (array_longer H c n some within)) by.begins;
      each = all_weaker (IsSince n (last H)) (IsSince n (last (appended H c))) (λ u is. (is.0, let below : u.begin ≤ last H = is.1 in omega arith)) txs by.each;
    }

by_commit : (s t : MapStore) (n k : ℕ) (H : History) (txs : List Live) (c : Commit) → IsBy s t n H txs → c.begin ≤ last H → IsOfBoth s t H c → IsBy s t n (appended H c) (without k txs)
by_commit s t n k H txs c by begin of = by_without s t n k (appended H c) txs (by_one s t n H txs c by (begin, of))

-- several commits more
all_longer : (s t : MapStore) (H : History) (c : Commit) (commits : List Commit) → 0 < H.first → AllByRecursion (IsOf s t H) commits → AllByRecursion (IsOf s t (appended H c)) commits
all_longer s t H c [] some all = tt
all_longer s t H c (d ∷ commits) some all = (of_longer s t H c d some all.0, all_longer s t H c commits some all.1)

by_more : (s t : MapStore) (n : ℕ) (H : History) (txs : List Live) (commits : List Commit) → IsBy s t n H txs → AllByRecursion (IsOf s t H) commits → IsBy s t n (with_commits commits H) txs
by_more s t n H txs [] by all = subst (λ (cs : List Commit). IsBy s t n (record H { commits = cs }) txs) (sym (append-nil H.commits)) by
by_more s t n H txs (c ∷ commits) by all =
    subst (λ (cs : List Commit). IsBy s t n (record H { commits = cs }) txs) (append_assoc H.commits (c ∷ []) commits)
    (by_more s t n (appended H c) txs commits (by_one s t n H txs c by all.0) (all_longer s t H c commits by.first all.1))

-- several leave
by_left : (s t : MapStore) (n : ℕ) (W : World) (txs : List Live) → IsBy s t n W.history W.live → let V : World = leave_all txs W in IsBy s t n V.history V.live
by_left s t n W [] by = by
by_left s t n W (u ∷ txs) by = by_left s t n (after_leaving W u) txs (by_without s t n u.number W.history W.live by)

-- the commits of members are by calls where those of each are that commits
pub all_made : (s t : MapStore) (W : World) (H : History) (ends : List MemberEnd)
    → ((first others : List MemberEnd) (k m : ℕ) (accesses : List Access) → ends ≡ first ++ commits_as k m accesses ∷ others → IsOf s t H (commit_at W k accesses))
    → AllByRecursion (IsOf s t H) (commits_made (txs_of W (members_of ends)) (replies_of ends))
all_made s t W H [] of = tt
all_made s t W H (e ∷ ends) of =
    by_reply e.reply refl (all_made s t W H ends (λ first others k m accesses is. of (e ∷ first) others k m accesses (ap (λ (xs : List MemberEnd). e ∷ xs) is)))
  where
    tx : Live
    tx = tx_of W e.number e.accesses

    rest : List Commit
    rest = commits_made (txs_of W (members_of ends)) (replies_of ends)

    by_reply : (r : GroupReply) → e.reply ≡ r → AllByRecursion (IsOf s t H) rest → AllByRecursion (IsOf s t H) (made_by tx r ++ rest)
    by_reply (member.Committed m) is all = (of [] ends e.number m e.accesses (λ i. record e { reply = is i } ∷ ends), all)
    by_reply x is all = all

module _ (s t : MapStore) (n : ℕ) where
  -- the history and the live transactions of a state are such
  abbrev pub IsByAt : State → Type 0
  IsByAt S = IsBy s t n S.world.history S.world.live

  by_end : (S : State) (k : ℕ) (accesses : List Access) (r : EndReply) → is_live k S.world.live ≡ true
      → ((m : ℕ) → r ≡ Committed m → IsOfBoth s t S.world.history (commit_at S.world k accesses)) → IsByAt S → IsByAt (after S (entry.End k accesses r))
  by_end S k accesses (Committed m) live of by =
      by_commit s t n k S.world.history S.world.live (commit_at S.world k accesses) by (live_is (IsSince n (last S.world.history)) k S.world.live by.each live).1 (of m refl)
  by_end S k accesses ReadOnly live of by = by_without s t n k S.world.history S.world.live by
  by_end S k accesses (Conflict c) live of by = by_without s t n k S.world.history S.world.live by

  by_fault : (S : State) (c : Call) (now : ℕ) → IsByAt S → IsByAt (after_fault S c now)
  by_fault S (call.End k accesses) now by = by_without s t n k S.world.history S.world.live by
  by_fault S (call.EndGroup members) now by = by_left s t n S.world (txs_of S.world members) by
  by_fault S x now by = by

  by_refusal : (S : State) (c : Call) (why : Cause) → IsByAt S → IsByAt (after_refusal S c why)
  by_refusal S c (cause.Disk before now) by = by_fault S c now by
  by_refusal S c why by = by

  -- after a group whose commits are such
  by_group : (S : State) (ends : List MemberEnd) → AllByRecursion (IsOf s t S.world.history) (lost_commits S.world (members_of ends)) → IsByAt S → IsByAt (after S (entry.EndGroup ends))
  by_group S ends all by =
      let members : List Member = members_of ends in
      let V : World = ahead S.world (lost_commits S.world members) in
      subst (λ (W : World). IsBy s t n W.history W.live) (sym (after_is S.world members))
      (by_left s t n V (txs_of S.world members) (by_more s t n S.world.history S.world.live (lost_commits S.world members) by all))

  -- after an entry, by what it takes back where it commits
  pub by_next : (S : State) (e : Entry) → ((k m : ℕ) (accesses : List Access) → e ≡ entry.End k accesses (Committed m) → IsOfBoth s t S.world.history (commit_at S.world k accesses))
      → ((ends : List MemberEnd) → e ≡ entry.EndGroup ends → AllByRecursion (IsOf s t S.world.history) (lost_commits S.world (members_of ends)))
      → ((k : ℕ) (accesses : List Access) (r : EndReply) → e ≡ entry.End k accesses r → is_live k S.world.live ≡ true) → IsByAt S → IsByAt (after S e)
  by_next S (entry.Begin k at mode) of grouped live by = grind (arith, by_txs, all_push)
  by_next S (entry.Fetch k block bytes) of grouped live by = by
  by_next S (entry.End k accesses r) of grouped live by =
      by_end S k accesses r (live k accesses r refl) (λ m is. of k m accesses (ap (λ (x : EndReply). entry.End k accesses x) is)) by
  by_next S (entry.EndGroup ends) of grouped live by = by_group S ends (grouped ends refl) by
  by_next S (entry.Abort k) of grouped live by = by_without s t n k S.world.history S.world.live by
  by_next S (entry.Trim k) of grouped live by = by
  by_next S (entry.Compact k) of grouped live by = by
  by_next S (entry.Upgrade k) of grouped live by = by
  by_next S (entry.Stat numbers) of grouped live by = by
  by_next S (entry.Post k label accesses) of grouped live by = by
  by_next S (entry.Look label found) of grouped live by = by
  by_next S (entry.Sweep None) of grouped live by = by
  by_next S (entry.Sweep (Some k)) of grouped live by = by_without s t n k S.world.history S.world.live by
  by_next S (entry.Recent k upto) of grouped live by = by
  by_next S (entry.Refused c why) of grouped live by = by_refusal S c why by
