-- The calls that are told of each commit of a trace answer in order.
use Rattle.store_scripts.{proofs.ThreadWords.{◌≡◌, ◌∙◌, sym, refl, ap, subst, ℕ, ◌<◌, Bool, true, IsTrue, List, [], ◌∷◌, ◌++◌, append_assoc, Option, Some, None, Access, Commit, Committed, Geometry, GroupReply, Array, is_valid, History, array_at, HasShape, Extends, Entry, Member, MemberEnd, AreLoose, Fits, LegalFrom, State, after, after_all, is_live, is_loose, member_numbers, members_of, follows_all, loose_is, Own, member_for, members_for, commit_at, commits_as, BothInOrder, IsOfBoth, MixedParts, firsts, seconds, answers_in, calls_in, run, IsToldOf, ToldInOrder, SecondStore, image_hash, second_store, Told, SecondGoes, all_are, all_parts, array_extends, IsSecond, AreByCalls, BothByMap, ToldByMap, ends_bare, array_at_begin, Mode, ReadOnly, map, EachBare, WhereBare, EachCommit, WhereCommitted, after_entry, after_line, notes_after, Event, Made, OfOwn, entries_in, events_of, IsOp}, specs.Notes.Notes, specs.Trace.{Done, Step}, proofs.Events.AreOps, proofs.Running.{IsAt, IsClientAt, by_client, done_next, made_next, told_after_line}, proofs.Standing.{AllHeld, IsHeld, OptionHeld}}
use Rattle.iso_model.specs.declared.access.GroupReply.TheVariants as member
use Rattle.iso_shared.specs.declared.entry.Entry.TheVariants as entry
use Rattle.iso_shared.specs.States.{live_of}

-- an entry that is no sweep is in the trace
abbrev pub IsNoSweep : Entry → Type 0
IsNoSweep (entry.Sweep found) = ⊥
IsNoSweep e = Unit {0}

abbrev pub AreSweeps : List Entry → Type 0
AreSweeps [] = Unit {0}
AreSweeps (e ∷ es) = (IsNoSweep e → ⊥) × AreSweeps es

pub record StandsIn (events : List Event) (before : List Entry) (e : Entry) : Type 0 where
  pub first : List Event
  pub others : List Event
  pub client : ℕ
  pub is : events ≡ first ++ Made client e ∷ others
  pub behind : entries_in first ≡ before

none_among : (tail before later : List Entry) (e : Entry) → AreSweeps tail → IsNoSweep e → tail ≡ before ++ e ∷ later → ⊥
none_among tail [] later e sweeps plain is = (subst AreSweeps is sweeps).0 plain
none_among tail (x ∷ before) later e sweeps plain is = none_among (before ++ e ∷ later) before later e (subst AreSweeps is sweeps).1 plain refl

pub located : (events : List Event) (tail before later : List Entry) (e : Entry) → AreSweeps tail → IsNoSweep e → entries_in events ++ tail ≡ before ++ e ∷ later → StandsIn events before e
located [] tail before later e sweeps plain is = absurd (none_among tail before later e sweeps plain is)
located (Made c x ∷ events) tail [] later e sweeps plain is = record { first = []; others = events; client = c; is = ap (λ (y : Entry). Made c y ∷ events) (let same : x ≡ e = cc is in same); behind = refl }
located (Made c x ∷ events) tail (y ∷ before) later e sweeps plain is =
    let rest : entries_in events ++ tail ≡ before ++ e ∷ later = cc is in
    let same : x ≡ y = cc is in
    let at = located events tail before later e sweeps plain rest in
    record { first = Made c x ∷ at.first; others = at.others; client = at.client; is = ap (λ (v : List Event). Made c x ∷ v) at.is; behind = λ i. same i ∷ at.behind i }
located (Done c s ∷ events) tail before later e sweeps plain is =
    let at = located events tail before later e sweeps plain is in
    record { first = Done c s ∷ at.first; others = at.others; client = at.client; is = ap (λ (v : List Event). Done c s ∷ v) at.is; behind = at.behind }

module _ (S : SecondStore) (lawful : IsSecond S) (second : SecondGoes S) (g : Geometry) (valid : IsTrue (is_valid g)) (H : History) (shapes : (n : ℕ) → HasShape g (array_at H n)) (tells : Bool) (all : tells ≡ true) where
  abbrev At : State → Notes S → List Event → Type 0
  At U N events = IsAt S lawful second g valid H shapes tells all U N events

  -- what is known at a place of the trace
  pub at_place : (U : State) (N : Notes S) (before rest : List Event) (tail : List Entry) → At U N (before ++ rest) → LegalFrom U (entries_in (before ++ rest) ++ tail) → (after_all U (entries_in (before ++ rest) ++ tail)).world.history ≡ H → AreOps before
      → At (after_all U (entries_in before)) (notes_after S g N before) rest
  at_place U N [] rest tail is legal ends good = is
  at_place U N (Made c e ∷ before) rest tail is legal ends good =
      at_place (after U e) (after_entry S c e N) before rest tail
      (made_next S lawful second g valid H shapes tells all U N c e (before ++ rest) is legal.0 (subst (Extends U.world.history) ends (follows_all U (entries_in (Made c e ∷ before ++ rest) ++ tail)).history)) legal.1 ends good
  at_place U N (Done c s ∷ before) rest tail is legal ends good =
      at_place U (after_line S g c s N) before rest tail (done_next S lawful second g valid H shapes tells all U N c s (before ++ rest) is good.0) legal ends good.1

  -- a transaction that ends
  told_of : (U : State) (t : Own) (told : Told S) (n : ℕ) (accesses : List Access) → IsHeld S g H U t told → IsTrue told.kept → n ≡ t.number → accesses ≡ t.accesses → is_loose n U ≡ true → 0 < U.world.history.first
      → Extends U.world.history H → IsToldOf S g (array_at U.world.history (commit_at U.world n accesses).begin) accesses (commit_at U.world n accesses).mode told
  told_of U t told n accesses held kept number same loose some more =
      let live : is_live t.number U.world.live ≡ true = subst (λ k. is_live k U.world.live ≡ true) number (loose_is n U loose).0 in
      let begin : t.begin ≡ (live_of n U.world.live).begin = sym (ap (λ k. (live_of k U.world.live).begin) number ∙ held.posting.begin live) in
      let mode : t.mode ≡ (live_of n U.world.live).mode = sym (ap (λ k. (live_of k U.world.live).mode) number ∙ held.posting.mode live) in
      let here : IsToldOf S g (array_at U.world.history t.begin) t.accesses t.mode told =
      subst (λ (B : Array). IsToldOf S g B t.accesses t.mode told) (array_extends U.world.history H t.begin some more held.within) (held.good.made kept) in
      let c : Commit = record { begin = t.begin; mode = t.mode; accesses = t.accesses } in
      let is : c ≡ commit_at U.world n accesses = λ i. record { begin = begin i; mode = mode i; accesses = sym same i } in
      subst (λ (d : Commit). IsToldOf S g (array_at U.world.history d.begin) d.accesses d.mode told) is here

  in_order : (told : Told S) (parts : MixedParts (image_hash g) (second_store S g)) (A B : Array) → calls_in (firsts parts) ≡ told.hash.calls → answers_in (firsts parts) ≡ told.hash.answers
      → calls_in (seconds parts) ≡ told.second.calls → answers_in (seconds parts) ≡ told.second.answers → BothInOrder (image_hash g) (second_store S g) parts A B → ToldInOrder S g told A B
  in_order told parts A B hash_calls hash_answers second_calls second_answers order = record {
    hash_answers = sym (ap (λ calls. (run (image_hash g) ((image_hash g).map_of A) calls).0) hash_calls) ∙ order.first.answers ∙ hash_answers;
    hash_ends = sym (ap (λ calls. (run (image_hash g) ((image_hash g).map_of A) calls).1) hash_calls) ∙ order.first.ends;
    second_answers = sym (ap (λ (calls : List S.Call). (run (second_store S g) ((second_store S g).map_of A) calls).0) second_calls) ∙ order.second.answers ∙ second_answers;
    second_ends = sym (ap (λ (calls : List S.Call). (run (second_store S g) ((second_store S g).map_of A) calls).1) second_calls) ∙ order.second.ends;
  }

  -- a commit that is told of: it is by calls, and the calls that are told are those of its parts
  pub record IsTold (G : History) (c : Commit) (told : Told S) : Type 0 where
    pub of : IsOfBoth (image_hash g) (second_store S g) G c
    pub answers : (A B : Array) → BothInOrder (image_hash g) (second_store S g) of.parts A B → ToldInOrder S g told A B

  is_told : (G : History) (c : Commit) (told : Told S) → IsToldOf S g (array_at G c.begin) c.accesses c.mode told → IsTold G c told
  is_told G c told is =
      let are = all_are S g (array_at G c.begin) c.accesses c.mode told is in
      record {
        of = record { parts = all_parts S g (array_at G c.begin) c.accesses c.mode told is; are = are.are; made = are.made; mode = are.serial };
        answers = λ A B order. in_order told (all_parts S g (array_at G c.begin) c.accesses c.mode told is) A B are.hash_calls are.hash_answers are.second_calls are.second_answers order;
      }

  -- a transaction that is live: its accesses are by calls, and the calls that are told are those of its parts
  pub record IsMade (A : Array) (accesses : List Access) (told : Told S) : Type 0 where
    pub by : AreByCalls (second_store S g) g A accesses
    pub answers : (B C : Array) → BothInOrder (image_hash g) (second_store S g) by.parts B C → ToldInOrder S g told B C

  is_made : (A : Array) (accesses : List Access) (mode : Mode) (told : Told S) → IsToldOf S g A accesses mode told → IsMade A accesses told
  is_made A accesses mode told is =
      let are = all_are S g A accesses mode told is in
      record {
        by = record { parts = all_parts S g A accesses mode told is; are = are.are; made = are.made };
        answers = λ B C order. in_order told (all_parts S g A accesses mode told is) B C are.hash_calls are.hash_answers are.second_calls are.second_answers order;
      }

  pub live_told : (U : State) (N : Notes S) (c : ℕ) (s : Step) (t : Own) (events : List Event) → At U N (Done c s ∷ events) → IsOp s.line.1.op → s.after ≡ Some t → is_live t.number U.world.live ≡ true → Extends U.world.history H
      → let told = (after_line S g c s N).of c in IsTrue told.kept → IsMade (array_at_begin U.world t.number) t.accesses told
  live_told U N c s t events is isop after live more kept =
      let told : Told S = (after_line S g c s N).of c in
      let held : IsHeld S g H U t told = subst (λ (o : Option Own). OptionHeld S g H U o told) after (told_after_line S lawful second g valid H shapes tells all U N c s events is isop) in
      let here : IsToldOf S g (array_at U.world.history t.begin) t.accesses t.mode told =
      subst (λ (B : Array). IsToldOf S g B t.accesses t.mode told) (array_extends U.world.history H t.begin is.first more held.within) (held.good.made kept) in
      is_made (array_at_begin U.world t.number) t.accesses t.mode told (subst (λ (n : ℕ). IsToldOf S g (array_at U.world.history n) t.accesses t.mode told) (sym (held.posting.begin live)) here)

  -- an end that commits
  pub end_told : (U : State) (N : Notes S) (c n k : ℕ) (accesses : List Access) (events : List Event) → At U N (Made c (entry.End n accesses (Committed k)) ∷ events) → Fits U (entry.End n accesses (Committed k))
      → Extends U.world.history H → IsTrue (N.of c).kept → IsTold U.world.history (commit_at U.world n accesses) (N.of c)
  end_told U N c n k accesses events is fits more kept = by client.own client.held client.runs.0
    where
      client : IsClientAt S lawful second g valid H shapes tells all U (N.of c) (N.found c) (Made c (entry.End n accesses (Committed k)) ∷ events_of c events)
      client = by_client S lawful second g valid H shapes tells all U N c (entry.End n accesses (Committed k)) events is fits more

      by : (own : Option Own) → OptionHeld S g H U own (N.of c) → OfOwn own (λ t. (n ≡ t.number) × (accesses ≡ t.accesses)) → IsTold U.world.history (commit_at U.world n accesses) (N.of c)
      by None held of = absurd of
      by (Some t) held of =
          is_told U.world.history (commit_at U.world n accesses) (N.of c) (told_of U t (N.of c) n accesses held kept of.0 of.1 fits.takes.0 is.first more)

  -- the members of a group, each with what is told of it
  pub member_told : (U : State) (first others : List MemberEnd) (n k : ℕ) (accesses : List Access) (ts : List Own) (told : List (Told S)) → members_of (first ++ commits_as n k accesses ∷ others) ≡ members_for ts → AllHeld S g H U ts told
      → EachCommit (λ j m. IsTrue m.kept) (first ++ commits_as n k accesses ∷ others) told → AreLoose (member_numbers (members_of (first ++ commits_as n k accesses ∷ others))) U → 0 < U.world.history.first → Extends U.world.history H → (m : Told S) × IsTold U.world.history (commit_at U.world n accesses) m
  member_told U [] others n k accesses [] told are held kept loose some more = absurd (cc are)
  member_told U [] others n k accesses (t ∷ ts) [] are held kept loose some more = absurd held
  member_told U [] others n k accesses (t ∷ ts) (m ∷ told) are held kept loose some more =
      let x : Member = record { number = n; accesses = accesses } in
      let head : x ≡ member_for t = cc are in
      let number : n ≡ t.number = ap (λ (y : Member). y.number) head in
      let same : accesses ≡ t.accesses = ap (λ (y : Member). y.accesses) head in
      (m, is_told U.world.history (commit_at U.world n accesses) m (told_of U t m n accesses held.0 kept.0 number same loose.0 some more))
  member_told U (x ∷ first) others n k accesses [] told are held kept loose some more = absurd (cc are)
  member_told U (x ∷ first) others n k accesses (t ∷ ts) [] are held kept loose some more = absurd held
  member_told U (x ∷ first) others n k accesses (t ∷ ts) (m ∷ told) are held kept loose some more =
      let rest : members_of (first ++ commits_as n k accesses ∷ others) ≡ members_for ts = cc are in
      member_told U first others n k accesses ts told rest held.1 kept.1 loose.1 some more

  -- all members of a group, where each that commits answers so
  pub members_told : (U : State) (first ends : List MemberEnd) (ts : List Own) (told : List (Told S)) (Q : ℕ → Told S → Type 0) → members_of ends ≡ members_for ts → AllHeld S g H U ts told
      → EachCommit (λ j m. IsTrue m.kept) ends told → AreLoose (member_numbers (members_of ends)) U → 0 < U.world.history.first → Extends U.world.history H
      → ((before later : List MemberEnd) (n k : ℕ) (accesses : List Access) (m : Told S) → first ++ ends ≡ before ++ commits_as n k accesses ∷ later → IsTold U.world.history (commit_at U.world n accesses) m → Q k m)
      → EachCommit Q ends told
  members_told U first [] ts told Q are held kept loose some more on = tt
  members_told U first (x ∷ ends) [] told Q are held kept loose some more on = absurd (cc are)
  members_told U first (x ∷ ends) (t ∷ ts) [] Q are held kept loose some more on = absurd held
  members_told U first (x ∷ ends) (t ∷ ts) (m ∷ told) Q are held kept loose some more on =
      let rest : members_of ends ≡ members_for ts = cc are in
      (by x.reply refl kept.0, members_told U (first ++ x ∷ []) ends ts told Q rest held.1 kept.1 loose.1 some more (λ before later n k accesses m is. on before later n k accesses m (sym (append_assoc first (x ∷ []) ends) ∙ is)))
    where
      y : Member
      y = record { number = x.number; accesses = x.accesses }

      head : y ≡ member_for t
      head = cc are

      by : (r : GroupReply) → x.reply ≡ r → WhereCommitted (λ j. IsTrue m.kept) r → WhereCommitted (λ k. Q k m) r
      by (member.Committed k) is kept =
          on first ends x.number k x.accesses m (λ i. first ++ record x { reply = is i } ∷ ends)
          (is_told U.world.history (commit_at U.world x.number x.accesses) m
          (told_of U t m x.number x.accesses held.0 kept (ap (λ (z : Member). z.number) head) (ap (λ (z : Member). z.accesses) head) loose.0 some more))
      by member.ReadOnly is kept = tt
      by x is kept = tt

  -- WITHOUT A WRITE
  by_map : (told : Told S) (parts : MixedParts (image_hash g) (second_store S g)) (A : Array) → calls_in (firsts parts) ≡ told.hash.calls → answers_in (firsts parts) ≡ told.hash.answers
      → calls_in (seconds parts) ≡ told.second.calls → answers_in (seconds parts) ≡ told.second.answers → BothByMap (image_hash g) (second_store S g) parts A → ToldByMap S g told A
  by_map told parts A hash_calls hash_answers second_calls second_answers both = record {
    hash = sym hash_answers ∙ both.first ∙ ap (map (λ call. ((image_hash g).act call ((image_hash g).map_of A)).0)) hash_calls;
    second = sym second_answers ∙ both.second ∙ ap (map (λ (call : S.Call). (S.act call ((second_store S g).map_of A)).0)) second_calls;
  }

  -- a transaction that ends without a write: its accesses are by calls, and the calls that are told are those of its parts
  pub record IsRead (A : Array) (accesses : List Access) (told : Told S) : Type 0 where
    pub by : AreByCalls (second_store S g) g A accesses
    pub answers : BothByMap (image_hash g) (second_store S g) by.parts A → ToldByMap S g told A

  is_read : (A : Array) (accesses : List Access) (mode : Mode) (told : Told S) → IsToldOf S g A accesses mode told → IsRead A accesses told
  is_read A accesses mode told is =
      let are = all_are S g A accesses mode told is in
      record {
        by = record { parts = all_parts S g A accesses mode told is; are = are.are; made = are.made };
        answers = λ both. by_map told (all_parts S g A accesses mode told is) A are.hash_calls are.hash_answers are.second_calls are.second_answers both;
      }

  pub read_told : (U : State) (N : Notes S) (c n : ℕ) (accesses : List Access) (events : List Event) → At U N (Made c (entry.End n accesses ReadOnly) ∷ events) → Fits U (entry.End n accesses ReadOnly) → Extends U.world.history H
      → IsTrue (N.of c).kept → IsRead (array_at_begin U.world n) accesses (N.of c)
  read_told U N c n accesses events is fits more kept = by client.own client.held client.runs.0
    where
      client : IsClientAt S lawful second g valid H shapes tells all U (N.of c) (N.found c) (Made c (entry.End n accesses ReadOnly) ∷ events_of c events)
      client = by_client S lawful second g valid H shapes tells all U N c (entry.End n accesses ReadOnly) events is fits more

      by : (own : Option Own) → OptionHeld S g H U own (N.of c) → OfOwn own (λ t. (n ≡ t.number) × (accesses ≡ t.accesses)) → IsRead (array_at_begin U.world n) accesses (N.of c)
      by None held of = absurd of
      by (Some t) held of =
          is_read (array_at_begin U.world n) accesses (commit_at U.world n accesses).mode (N.of c) (told_of U t (N.of c) n accesses held kept of.0 of.1 fits.takes.0 is.first more)

  -- what `read_told` says of one transaction, of all members of a group
  pub members_read : (U : State) (first ends : List MemberEnd) (ts : List Own) (told : List (Told S)) (Q : ℕ → Told S → Type 0) → members_of ends ≡ members_for ts → AllHeld S g H U ts told
      → AreLoose (member_numbers (members_of ends)) U → 0 < U.world.history.first → Extends U.world.history H
      → ((before later : List MemberEnd) (n : ℕ) (accesses : List Access) (m : Told S) → first ++ ends ≡ before ++ ends_bare n accesses ∷ later → (IsTrue m.kept → IsRead (array_at_begin U.world n) accesses m) → Q n m)
      → EachBare Q ends told
  members_read U first [] ts told Q are held loose some more on = tt
  members_read U first (x ∷ ends) [] told Q are held loose some more on = absurd (cc are)
  members_read U first (x ∷ ends) (t ∷ ts) [] Q are held loose some more on = absurd held
  members_read U first (x ∷ ends) (t ∷ ts) (m ∷ told) Q are held loose some more on =
      let rest : members_of ends ≡ members_for ts = cc are in
      (by x.reply refl, members_read U (first ++ x ∷ []) ends ts told Q rest held.1 loose.1 some more (λ before later n accesses m is. on before later n accesses m (sym (append_assoc first (x ∷ []) ends) ∙ is)))
    where
      y : Member
      y = record { number = x.number; accesses = x.accesses }

      head : y ≡ member_for t
      head = cc are

      by : (r : GroupReply) → x.reply ≡ r → WhereBare (Q x.number m) r
      by member.ReadOnly is =
          on first ends x.number x.accesses m (λ i. first ++ record x { reply = is i } ∷ ends)
          (λ kept. is_read (array_at_begin U.world x.number) x.accesses (commit_at U.world x.number x.accesses).mode m
          (told_of U t m x.number x.accesses held.0 kept (ap (λ (z : Member). z.number) head) (ap (λ (z : Member). z.accesses) head) loose.0 some more))
      by (member.Committed k) is = tt
      by x is = tt
