-- A member of a group, after those before it.
use Rattle.iso_core.proofs.{Words.{none_behind, ◌≡◌, ◌≢◌, ◌∙◌, sym, refl, ap, ℕ, suc, ◌+◌, ◌-◌, ◌<◌, ◌≤◌, true, false, List, [], ◌∷◌, ◌++◌, length, map, drop, arith, subst, None, Option, sum_by, append-nil, transport, AllByRecursion, append_assoc, length-append, take-append-le, take_all, drop-append-le, drop_all, map-append, length-map, sum_by-append, sum_by-cons, AreTouched, AreNotes, AreNotesAfter, Bytes, IsAsked, up_to, Note, above, notes_appended, notes_rise, all_above, records-append, Access, Clash, Commit, Geometry, Read, Write, LAST, CoreReply, clash, first_after, has_write, record_length, runs, last, records, written, AreAccesses, commit_step, end_step, need, commit_from, World, Live, logged_commits, used, IsWorld, limits, length-records, sum_by-map, Doing, PartSpan, GroupReply, GroupEnd, Kept, Plan, Staged, IsCheckedOf, IsTx, IsSettledOf, MayCommit, ahead, decided, made_by, member_reply, with_first, IsOf, AreEach, AreStaged, HasPlanned, IfCommits, IsAhead, IsNextStaged, all_parts, is_commit, parts_of, stays_ahead}, Decides.asked, Endings.ends_by, Leaves.has_begun, Moments.{is_committed, is_full, is_worn}, Numbers.{log_last, log_used, log_room}}
use Rattle.iso_model.specs.declared.core_reply.CoreReply.TheVariants as reply
use Rattle.iso_model.specs.declared.access.GroupReply.TheVariants as member

pub staged_count : (g : Geometry) (at : ℕ) (staged : List Staged) (commits : List Commit) → AreStaged g at staged commits → length staged ≡ length commits
staged_count g at [] [] are = refl
staged_count g at [] (c ∷ commits) are = absurd are
staged_count g at (s ∷ staged) [] are = absurd are
staged_count g at (s ∷ staged) (c ∷ commits) are = ap suc (staged_count g (at + record_length (written g c).parts) staged commits are.2)

pub staged_push : (g : Geometry) (at : ℕ) (staged : List Staged) (commits : List Commit) (s : Staged) (c : Commit) → AreStaged g at staged commits
    → s.at ≡ at + sum_by (λ (d : Commit). record_length (written g d).parts) commits → s.count ≡ length (parts_of g c)
    → AreStaged g at (staged ++ s ∷ []) (commits ++ c ∷ [])
staged_push g at [] [] s c are here count = (omega (arith, here), count, tt)
staged_push g at [] (d ∷ commits) s c are here count = absurd are
staged_push g at (r ∷ staged) [] s c are here count = absurd are
staged_push g at (r ∷ staged) (d ∷ commits) s c are here count =
    let f = λ (e : Commit). record_length (written g e).parts in
    (are.0, are.1, staged_push g (at + record_length (written g d).parts) staged commits s c are.2 (omega (arith, here, sum_by-cons f d commits)) count)

parts_push : (g : Geometry) (commits : List Commit) (c : Commit) → all_parts g (commits ++ c ∷ []) ≡ all_parts g commits ++ parts_of g c
parts_push g [] c = append-nil (parts_of g c)
parts_push g (d ∷ commits) c = ap (λ (l : List PartSpan). parts_of g d ++ l) (parts_push g commits c) ∙ sym (append_assoc (parts_of g d) (all_parts g commits) (parts_of g c))

module _ (W : World) (more : List Commit) (base : IsWorld W) where
  pub last_ahead : last (ahead W more).history ≡ last W.history + length more
  last_ahead = omega (arith, length-append W.history.commits more, base.history.first)

  pub used_ahead : used (ahead W more) ≡ used W + sum_by (λ (c : Commit). record_length (runs W.geometry c.accesses)) more
  used_ahead =
      let first : 0 < W.history.first = base.history.first in
      ap (sum_by (λ (c : Commit). record_length (runs W.geometry c.accesses))) (drop-append-le (W.base + 1 - W.history.first) W.history.commits more (omega arith))
      ∙ sum_by-append (λ (c : Commit). record_length (runs W.geometry c.accesses)) (logged_commits W) more

  -- the history so far is that of the world
  so_far : up_to (ahead W more).history (last W.history) ≡ W.history
  so_far =
      let all : last W.history + 1 - W.history.first ≡ length W.history.commits = omega (arith, base.history.first) in
      let front = take-append-le (last W.history + 1 - W.history.first) W.history.commits more (omega (arith, all)) ∙ take_all (last W.history + 1 - W.history.first) W.history.commits (omega (arith, all)) in
      λ i. record W.history { commits = front i }

  rest_of : drop (last W.history + 1 - W.history.first) (W.history.commits ++ more) ≡ more
  rest_of =
      let all : last W.history + 1 - W.history.first ≡ length W.history.commits = omega (arith, base.history.first) in
      drop-append-le (last W.history + 1 - W.history.first) W.history.commits more (omega (arith, all))
      ∙ ap (λ (l : List Commit). l ++ more) (drop_all (last W.history + 1 - W.history.first) W.history.commits (omega (arith, all)))

  -- the notes of the commits ahead are those after the last commit of the world
  pub ahead_notes : (notes : List Note) → AreNotes W.geometry (last W.history + 1) notes more → AreNotesAfter W.geometry (ahead W more).history (last W.history) (above (last W.history) notes)
  ahead_notes notes are =
      let k : last W.history + 1 ≡ first_after W.history (last W.history) = omega (arith, base.history.first) in
      let same = all_above (last W.history + 1) (last W.history) notes (omega arith) (notes_rise W.geometry (last W.history + 1) notes more are) in
      subst (λ (l : List Note). AreNotesAfter W.geometry (ahead W more).history (last W.history) l) (sym same)
      (subst (λ (l : List Commit). AreNotes W.geometry (first_after W.history (last W.history)) notes l) (sym rest_of)
      (subst (λ (n : ℕ). AreNotes W.geometry n notes more) k are))

module _ (kept : Kept) (W : World) (more : List Commit) (plan : Plan) (of : IsOf kept W) (is : IsAhead W more plan) where
  pub number_ahead : (last_number count : ℕ) → last_number ≡ kept.log.last → count ≡ length plan.staged.items → last_number + count ≡ last (ahead W more).history
  number_ahead last_number count last_is count_is = grind (arith, log_last, staged_count, last_ahead)

  pub bytes_ahead : length plan.bytes.items ≡ sum_by (λ (c : Commit). record_length (written W.geometry c).parts) more
  bytes_ahead = grind (arith, length-records, sum_by-map)

  pub room_ahead : used (ahead W more) ≡ kept.log.used + length plan.bytes.items
  room_ahead = grind (arith, log_used, used_ahead, bytes_ahead)

  pub fits_ahead : kept.log.used + length plan.bytes.items + 1 ≤ kept.log.room
  fits_ahead = grind (arith, log_room, room_ahead)

  -- what the first decision is asked
  pub asked_first : (tx : ℕ) (t : Live) (work : Doing) → IsTx W tx t → IsSettledOf W t work → (upto : ℕ) → upto ≡ work.begin → (reads writes : Bytes)
      → AreTouched work.size work.blocks Read work.accesses reads → AreTouched work.size work.blocks Write work.accesses writes
      → IsAsked W.geometry W.history work.mode work.begin work.accesses upto None reads writes kept.notes.notes
  asked_first tx t work here settled upto upto_is reads writes read written =
      let w = settled.is_work in
      let mode = sym w.mode in
      let begin = sym w.begin in
      let accesses = sym w.accesses in
      let same = upto_is ∙ w.begin in
      let checked : IsCheckedOf W t (record { upto = upto; clash = None }) = record {
        from = omega (arith, same);
        to = omega (arith, same, (has_begun W tx t of.world here).begin);
        clash = subst (λ (n : ℕ). None ≡ clash W.geometry (up_to W.history n) t.mode t.begin t.accesses) (sym same) (none_behind W.geometry W.history t.mode t.accesses t.begin);
      } in
      transport (λ i. IsAsked W.geometry W.history (mode i) (begin i) (accesses i) upto None reads writes kept.notes.notes)
      (asked kept W tx t (record { upto = upto; clash = None }) of here checked settled.accesses work w reads writes read written)

  -- what the second decision is asked, by the answer of the first
  pub asked_second : (tx : ℕ) (t : Live) (work : Doing) → IsTx W tx t → IsSettledOf W t work → (upto : ℕ) (found : Option Clash) → upto ≡ kept.log.last
      → found ≡ clash W.geometry W.history work.mode work.begin work.accesses → (reads writes : Bytes)
      → AreTouched work.size work.blocks Read work.accesses reads → AreTouched work.size work.blocks Write work.accesses writes
      → IsAsked W.geometry (ahead W more).history work.mode work.begin work.accesses upto found reads writes plan.notes.notes
  asked_second tx t work here settled upto found upto_is found_is reads writes read written =
      let w = settled.is_work in
      let size : 64 ≤ W.geometry.block = (limits W.geometry of.world.valid).least_block in
      let number = upto_is ∙ log_last kept W of.world of.keeps in
      record {
        size = omega arith;
        well_formed = subst (λ (l : List Access). AreAccesses W.geometry l) (sym w.accesses) settled.accesses;
        order = omega (arith, number, (has_begun W tx t of.world here).begin, w.begin);
        reads = transport (λ i. AreTouched (w.size i) (w.blocks i) Read work.accesses reads) read;
        writes = transport (λ i. AreTouched (w.size i) (w.blocks i) Write work.accesses writes) written;
        ahead = found_is ∙ (let e = sym (so_far W more of.world) in λ i. clash W.geometry (e i) work.mode work.begin work.accesses)
            ∙ (let n = sym number in λ i. clash W.geometry (up_to (ahead W more).history (n i)) work.mode work.begin work.accesses);
        later = subst (λ (n : ℕ). AreNotesAfter W.geometry (ahead W more).history n (above n plan.notes.notes)) (sym number) (ahead_notes W more of.world plan.notes.notes is.notes);
      }

-- how a transaction ends that may commit
module _ (U : World) (tx : ℕ) (t : Live) (work : Doing) (is : IsWorld U) (may : MayCommit U tx t work) where
  pub ends_as : end_step U t ≡ commit_step U t None
  ends_as = ends_by U t None may.write (sym may.none)

  pub worn_so : last U.history ≡ LAST → member.Worn ≡ member_reply (end_step U t).0
  worn_so worn = ap member_reply (sym (ap (λ (x : CoreReply × World). x.0) ends_as ∙ is_worn U t worn))

  pub full_so : (needs free : ℕ) → last U.history ≢ LAST → needs ≡ need U t → free ≡ U.geometry.log - used U → free < needs → member.Full needs free ≡ member_reply (end_step U t).0
  full_so needs free fresh need_is free_is less = grind (arith, ends_as, is_full)

  pub commits_as : last U.history ≢ LAST → need U t ≤ U.geometry.log - used U → (end_step U t).0 ≡ reply.Committed (last U.history + 1)
  commits_as fresh fits = ap (λ (x : CoreReply × World). x.0) (ends_as ∙ is_committed U t fresh fits)

-- commits after commits
pub ahead_twice : (W : World) (more others : List Commit) → ahead (ahead W more) others ≡ ahead W (more ++ others)
ahead_twice W more others = let e = append_assoc W.history.commits more others in λ i. record W { history = record W.history { commits = e i } }

-- one record more
pub records_more : (g : Geometry) (n : ℕ) (more : List Commit) (c : Commit) → records g n (map (written g) more) ++ records g (n + length more) (written g c ∷ []) ≡ records g n (map (written g) (more ++ c ∷ []))
records_more g n more c =
    let count : length (map (written g) more) ≡ length more = length-map more (written g) in
    (λ i. records g n (map (written g) more) ++ records g (n + sym count i) (written g c ∷ []))
    ∙ sym (records-append g n (map (written g) more) (written g c ∷ []))
    ∙ ap (records g n) (sym (map-append (written g) more (c ∷ [])))

-- one commit more is staged
module _ (kept : Kept) (W : World) (more : List Commit) (plan : Plan) (of : IsOf kept W) (is : IsAhead W more plan) (tx : ℕ) (t : Live) (next : IsNextStaged (ahead W more) tx t kept) where
  pub staged_more : (new : Plan) (s : Staged) (number : ℕ) (writes : Bytes) → new.bytes.items ≡ plan.bytes.items ++ kept.buffer.records → new.staged.items ≡ plan.staged.items ++ s ∷ []
      → new.notes.notes ≡ plan.notes.notes ++ (number, writes) ∷ [] → number ≡ last (ahead W more).history + 1 → s.at ≡ length plan.bytes.items → s.count ≡ length kept.parts.items → new.parts.items ≡ plan.parts.items ++ kept.parts.items
      → AreTouched W.geometry.block W.geometry.blocks Write t.accesses writes → IsAhead W (more ++ commit_from t ∷ []) new
  staged_more new s number writes bytes staged notes number_is at count parts touched =
      let from : last (ahead W more).history + 1 ≡ last W.history + 1 + length more = (let all = last_ahead W more of.world in omega (arith, all)) in
      record {
        world = subst IsWorld (ahead_twice W more (commit_from t ∷ [])) (stays_ahead (ahead W more) t is.world next.world).world;
        bytes = bytes ∙ (λ i. is.bytes i ++ next.next.bytes_are i) ∙ (λ i. records W.geometry (last W.history + 1) (map (written W.geometry) more) ++ records W.geometry (from i) (written W.geometry (commit_from t) ∷ []))
            ∙ records_more W.geometry (last W.history + 1) more (commit_from t);
        notes = subst (λ (l : List Note). AreNotes W.geometry (last W.history + 1) l (more ++ commit_from t ∷ [])) (sym notes)
            (notes_appended W.geometry (last W.history + 1) number plan.notes.notes more (commit_from t) writes is.notes (number_is ∙ from) touched);
        staged = subst (λ (l : List Staged). AreStaged W.geometry 0 l (more ++ commit_from t ∷ [])) (sym staged)
            (staged_push W.geometry 0 plan.staged.items more s (commit_from t) is.staged (let b = bytes_ahead kept W more plan of is in omega (arith, at, b)) (count ∙ ap (λ (l : List PartSpan). length l) next.parts));
        parts = parts ∙ (λ i. is.parts i ++ next.parts i) ∙ sym (parts_push W.geometry more (commit_from t));
      }

-- a work of a member is one of the world with the commits ahead
pub settled_ahead : (W : World) (more : List Commit) (t : Live) (work : Doing) → IsSettledOf W t work → IsSettledOf (ahead W more) t work
settled_ahead W more t work s = grind arith

pub may_ahead : (W : World) (more : List Commit) (tx : ℕ) (t : Live) (work : Doing) → IsTx W tx t → IsSettledOf W t work → has_write t.accesses ≡ true
    → clash W.geometry (ahead W more).history t.mode t.begin t.accesses ≡ None → MayCommit (ahead W more) tx t work
may_ahead W more tx t work here s write none = grind (arith, settled_ahead)

-- how many bytes are free ahead
pub free_ahead : (kept : Kept) (W : World) (more : List Commit) (plan : Plan) → IsOf kept W → IsAhead W more plan → (kept.log.room - kept.log.used) - length plan.bytes.items ≡ (ahead W more).geometry.log - used (ahead W more)
free_ahead kept W more plan of is = grind (arith, log_room, room_ahead)

-- what a reply says of the commit
pub commits_then : (r : GroupReply) (P : Type 0) → is_commit r ≡ true → IfCommits r P → P
commits_then (member.Committed number) P is p = p
commits_then member.ReadOnly P is p = cc is
commits_then (member.Conflict c) P is p = cc is
commits_then (member.Full needs free) P is p = cc is
commits_then member.Worn P is p = cc is

pub makes_none : (t : Live) (r : GroupReply) → is_commit r ≡ false → made_by t r ≡ []
makes_none t (member.Committed number) is = cc is
makes_none t member.ReadOnly is = refl
makes_none t (member.Conflict c) is = refl
makes_none t (member.Full needs free) is = refl
makes_none t member.Worn is = refl

pub makes_one : (t : Live) (r : GroupReply) → is_commit r ≡ true → made_by t r ≡ commit_from t ∷ []
makes_one t (member.Committed number) is = refl
makes_one t member.ReadOnly is = cc is
makes_one t (member.Conflict c) is = cc is
makes_one t (member.Full needs free) is = cc is
makes_one t member.Worn is = cc is

pub ahead_by : (W : World) (more : List Commit) (t : Live) (r : GroupReply) (plan : Plan) → is_commit r ≡ true → IsAhead W (more ++ commit_from t ∷ []) plan → IsAhead W (more ++ made_by t r) plan
ahead_by W more t r plan is = subst (λ (l : List Commit). IsAhead W (more ++ l) plan) (sym (makes_one t r is))

-- the first of the members, and the others
pub record FirstOf (P : GroupEnd → Live → Type 0) (m : GroupEnd) (rest : List GroupEnd) (members : List Live) : Type 0 where
  pub first : Live
  pub others : List Live
  pub are : members ≡ first ∷ others
  pub is : P m first
  pub apart : AllByRecursion (λ (u : Live). u.number ≢ first.number) others
  pub each : AreEach P rest others

pub parted : (P : GroupEnd → Live → Type 0) (m : GroupEnd) (rest : List GroupEnd) (members : List Live) → AreEach P (m ∷ rest) members → FirstOf P m rest members
parted P m rest [] each = absurd each
parted P m rest (t ∷ members) each = record { first = t; others = members; are = refl; is = each.0; apart = each.1; each = each.2 }

pub none_each : (P : GroupEnd → Live → Type 0) (ms : List GroupEnd) (members : List Live) → length ms ≡ 0 → AreEach P ms members → members ≡ []
none_each P [] [] none each = refl
none_each P [] (t ∷ members) none each = absurd each
none_each P (m ∷ ms) members none each = absurd (omega (arith, none))

pub planned_none : (W : World) (more : List Commit) (members : List Live) (plan : Plan) (replies : List GroupReply) → members ≡ [] → IsAhead W more plan → HasPlanned W more members plan replies replies
planned_none W more members plan replies none is = record {
  all = more;
  is = is;
  told = [];
  replies = sym (append-nil replies);
  decides = ap (decided (ahead W more)) none;
}

-- one member is decided, and then the others
pub planned_one : (W : World) (more : List Commit) (t : Live) (r : GroupReply) (plan : Plan) (old new : List GroupReply) → r ≡ member_reply (end_step (ahead W more) t).0 → IsAhead W (more ++ made_by t r) plan
    → new ≡ old ++ r ∷ [] → HasPlanned W more (t ∷ []) plan old new
planned_one W more t r plan old new answer is replies = record {
  all = more ++ made_by t r;
  is = is;
  told = r ∷ [];
  replies = replies;
  decides = (λ i. (sym answer i ∷ [], ahead (ahead W more) (made_by t (sym answer i)))) ∙ ap (λ (V : World). (r ∷ [], V)) (ahead_twice W more (made_by t r));
}

pub planned_more : (W : World) (more : List Commit) (t : Live) (members all : List Live) (mid_plan plan : Plan) (old mid new : List GroupReply) → all ≡ t ∷ members
    → (one : HasPlanned W more (t ∷ []) mid_plan old mid) → HasPlanned W one.all members plan mid new → HasPlanned W more all plan old new
planned_more W more t members all mid_plan plan old mid new all_are one rest =
    let r : GroupReply = member_reply (end_step (ahead W more) t).0 in
    record {
      all = rest.all;
      is = rest.is;
      told = r ∷ rest.told;
      replies = rest.replies ∙ ap (λ (l : List GroupReply). l ++ rest.told) (one.replies ∙ ap (λ (x : List GroupReply × World). old ++ x.0) (sym one.decides)) ∙ append_assoc old (r ∷ []) rest.told;
      decides = ap (decided (ahead W more)) all_are
          ∙ ap (λ (x : List GroupReply × World). with_first r (decided x.1 members)) one.decides
          ∙ ap (with_first r) rest.decides;
    }
