-- The calls of the transactions of a legal list answer in order.
use Rattle.store_scripts.proofs.{EntryWords.{◌≡◌, ◌∙◌, sym, refl, ap, subst, ℕ, ◌+◌, ◌-◌, ◌<◌, ◌≤◌, ◌==◌, true, false, IfSome, List, [], ◌∷◌, ◌++◌, length, length-append, append_assoc, Option, Some, slice_get, arith, and_parts, AllByRecursion, AnswersByOne, AreLoose, GroupReply, IsInPlace, MemberEnd, after_history, commits_as, commits_made, ends_bare, extends_itself, extends_on, group_is, lost_commits, member_numbers, members_of, replies_of, txs_of, Access, Commit, EndReply, Committed, ReadOnly, Array, has_write, own, History, array_at, last, appended, Live, Extends, IsWorld, slice_get_append_left, Entry, Fits, IsLegal, LegalFrom, IsIsolatedAt, Start, State, after, after_all, is_live, live_of, opened, racked, state_at, tx_of, follows_all, last_longer, after_append, legal_append, times, AreMixed, BothByMap, BothInOrder, BothWellFormed, IsByBoth, IsOfBoth, firsts, accesses_in, IsOfItsBlocks, MapStore, if_some, last_of, both_commits, both_live, both_read_only, both_well_formed, image_hash, image_tree, hash_blocks, tree_blocks, array_extends, AreByCalls, AreCallsInOrderAt, CommitsAreByCalls, StoresAnswerAt, FilesAnswerAt, file_blocks_are, image_files, StoresAreWell, array_at_begin, commit_at, world_at}, MemberPlaces.{bare_at, decides, made_at}, Numbers.{end_is_next, end_writes_not}, Since.{IsBy, IsByAt, IsOf, IsSince, all_made, by_first, by_next, live_is}}
use Rattle.iso_shared.specs.declared.entry.Entry.TheVariants as entry

-- a transaction that an end takes back is live
ends_live : (S : State) (e : Entry) → Fits S e → (k : ℕ) (accesses : List Access) (r : EndReply) → e ≡ entry.End k accesses r → is_live k S.world.live ≡ true
ends_live S e fits k accesses r is = grind arith

-- so is each member that a group takes back
member_among : (S : State) (first others : List MemberEnd) (e : MemberEnd) → AreLoose (member_numbers (members_of (first ++ e ∷ others))) S → is_live e.number S.world.live ≡ true
member_among S [] others e loose = (and_parts (is_live e.number S.world.live) (times e.number (racked S.rack) == 0) loose.0).0
member_among S (m ∷ first) others e loose = member_among S first others e loose.1

member_live : (S : State) (ends first others : List MemberEnd) (e : MemberEnd) → Fits S (entry.EndGroup ends) → ends ≡ first ++ e ∷ others → is_live e.number S.world.live ≡ true
member_live S ends first others e fits are = member_among S first others e (subst (λ (xs : List MemberEnd). AreLoose (member_numbers (members_of xs)) S) are fits.takes)

-- each commit of entries from a state on is by calls
record AreFrom (s t : MapStore) (S : State) (es : List Entry) : Type 0 where
  ends : (before later : List Entry) (n k : ℕ) (accesses : List Access) → es ≡ before ++ entry.End n accesses (Committed k) ∷ later
      → let W = (after_all S before).world in IsOfBoth s t W.history (commit_at W n accesses)
  groups : (before later : List Entry) (first others : List MemberEnd) (n k : ℕ) (accesses : List Access) → es ≡ before ++ entry.EndGroup (first ++ commits_as n k accesses ∷ others) ∷ later
      → let W = (after_all S before).world in IsOfBoth s t W.history (commit_at W n accesses)

-- the commits of a group are by calls
group_by : (s t : MapStore) (n : ℕ) (S : State) (e : Entry) (ends : List MemberEnd) → Fits S e → IsByAt s t n S
    → ((first others : List MemberEnd) (m k : ℕ) (accesses : List Access) → e ≡ entry.EndGroup (first ++ commits_as m k accesses ∷ others) → IsOfBoth s t S.world.history (commit_at S.world m accesses))
    → e ≡ entry.EndGroup ends → AllByRecursion (IsOf s t S.world.history) (lost_commits S.world (members_of ends))
group_by s t n S e ends fits by of is =
    let f : Fits S (entry.EndGroup ends) = subst (Fits S) is fits in
    subst (λ (replies : List GroupReply). AllByRecursion (IsOf s t S.world.history) (commits_made (txs_of S.world (members_of ends)) replies)) (sym f.answers.2)
    (all_made s t S.world S.world.history ends (λ first others m k accesses are. (
      (live_is (IsSince n (last S.world.history)) m S.world.live by.each (member_live S ends first others (commits_as m k accesses) f are)).1,
      of first others m k accesses (is ∙ ap (λ (xs : List MemberEnd). entry.EndGroup xs) are),
    )))

by_all : (s t : MapStore) (n : ℕ) (S : State) (es : List Entry) → LegalFrom S es → AreFrom s t S es → IsByAt s t n S → IsByAt s t n (after_all S es)
by_all s t n S [] legal of by = by
by_all s t n S (e ∷ es) legal of by =
    by_all s t n (after S e) es legal.1
    (record {
      ends = λ before later m k accesses is. of.ends (e ∷ before) later m k accesses (ap (λ (xs : List Entry). e ∷ xs) is);
      groups = λ before later first others m k accesses is. of.groups (e ∷ before) later first others m k accesses (ap (λ (xs : List Entry). e ∷ xs) is);
    })
    (by_next s t n S e (λ k m accesses is. of.ends [] es k m accesses (ap (λ (x : Entry). x ∷ es) is))
    (λ ends is. group_by s t n S e ends legal.0 by (λ first others m k accesses is_so. of.groups [] es first others m k accesses (ap (λ (x : Entry). x ∷ es) is_so)) is)
    (ends_live S e legal.0) by)

-- where the history with one commit more is the beginning of another one, the commit is there at its number
at_its_number : (H G : History) (c : Commit) (k : ℕ) → 0 < H.first → k ≡ last H + 1 → Extends (appended H c) G → slice_get G.commits (k - G.first) ≡ Some c
at_its_number H G c k some is more =
    let same : G.first ≡ H.first = more.first in
    let size : length (H.commits ++ c ∷ []) ≡ length H.commits + 1 = length-append H.commits (c ∷ []) in
    ap (λ (cs : List Commit). slice_get cs (k - G.first)) more.commits
    ∙ slice_get_append_left (H.commits ++ c ∷ []) more.more (k - G.first) (omega arith)
    ∙ last_of H.commits c (k - G.first) (omega arith)

module _ (t : MapStore) (two : IsOfItsBlocks t) (A : Start) (es : List Entry) (sound : IsWorld A.world) (idle : A.world.live ≡ []) (legal : IsLegal A es) (isolated : IsIsolatedAt A es)
    (well : StoresAreWell t A.world.geometry A.world.history) (by_calls : CommitsAreByCalls t A es) where
  abbrev s : MapStore
  s = image_hash A.world.geometry

  abbrev n : ℕ
  n = last A.world.history

  abbrev H : History
  H = (world_at A es).history

  one : IsOfItsBlocks s
  one = hash_blocks A.world.geometry sound.valid

  begun : IsByAt s t n (opened A)
  begun = subst (λ (live : List Live). IsBy s t n A.world.history live) (sym idle) (by_first s t A.world.history sound.history.first well)

  by_front : (before later : List Entry) → es ≡ before ++ later → IsByAt s t n (state_at A before)
  by_front before later are =
      by_all s t n (opened A) before (legal_append (opened A) before later (subst (IsLegal A) are legal)).0
      (record {
        ends = λ front rest m k accesses is. by_calls.ends front (rest ++ later) m k accesses (are ∙ ap (λ (xs : List Entry). xs ++ later) is ∙ append_assoc front (entry.End m accesses (Committed k) ∷ rest) later);
        groups = λ front rest first others m k accesses is.
            by_calls.groups front (rest ++ later) first others m k accesses (are ∙ ap (λ (xs : List Entry). xs ++ later) is ∙ append_assoc front (entry.EndGroup (first ++ commits_as m k accesses ∷ others) ∷ rest) later);
      }) begun

  all_by : IsByAt s t n (state_at A es)
  all_by = by_all s t n (opened A) es legal (record { ends = by_calls.ends; groups = by_calls.groups }) begun

  history_by : IsByBoth s t (world_at A es).geometry H n
  history_by = record {
    first = all_by.first;
    since = all_by.since;
    within = all_by.within;
    isolated = isolated;
    calls = λ k from to. if_some (IsOf s t H) (IsOfBoth s t H) (slice_get H.commits (k - H.first)) (λ c at is. is.1) (all_by.calls k from to);
    begins = all_by.begins;
  }

  -- the history at a place of the list is the beginning of the whole one
  leads_on : (before later : List Entry) → es ≡ before ++ later → Extends (world_at A before).history H
  leads_on before later are = grind (arith, after_append, follows_all)

  same_array : (before later : List Entry) → es ≡ before ++ later → (k : ℕ) → k ≤ last (world_at A before).history → array_at H k ≡ array_at (world_at A before).history k
  same_array before later are k low = grind (arith, array_extends, by_front, leads_on)

  -- a transaction that is live at a place began between the start and that place
  began : (before later : List Entry) → es ≡ before ++ later → (m : ℕ) → is_live m (world_at A before).live ≡ true → IsSince n (last (world_at A before).history) (live_of m (world_at A before).live)
  began before later are m live = live_is (IsSince n (last (world_at A before).history)) m (world_at A before).live (by_front before later are).each live

  fits_here : (before later : List Entry) (e : Entry) → es ≡ before ++ e ∷ later → Fits (state_at A before) e
  fits_here before later e are = (legal_append (opened A) before (e ∷ later) (subst (IsLegal A) are legal)).1.0

  -- a commit of a transaction that is live at a place, after a history between the one there and the whole one
  placed : (before later : List Entry) (m k : ℕ) (accesses : List Access) (G : History) → es ≡ before ++ later → is_live m (world_at A before).live ≡ true → Extends (world_at A before).history G
      → k ≡ last G + 1 → Extends (appended G (commit_at (world_at A before) m accesses)) H
      → (of : IsOfBoth s t (world_at A before).history (commit_at (world_at A before) m accesses)) → BothInOrder s t of.parts (array_at H (k - 1)) (array_at H k)
  placed before later m k accesses G are live from is_next later_is of =
      let V = world_at A before in
      let c = commit_at V m accesses in
      let since = began before later are m live in
      let low : n ≤ (live_of m V.live).begin = since.0 in
      let high : (live_of m V.live).begin ≤ last V.history = since.1 in
      let first : 0 < V.history.first = (by_front before later are).first in
      let same : G.first ≡ V.history.first = from.first in
      let some : 0 < G.first = omega (arith, same, first) in
      let grown : last V.history ≤ last G = last_longer V.history G first from in
      let size : length (G.commits ++ c ∷ []) ≡ length G.commits + 1 = length-append G.commits (c ∷ []) in
      let within : last (appended G c) ≤ last H = last_longer (appended G c) H some later_is in
      let at = at_its_number G H c k some is_next later_is in
      let here = subst (λ (o : Option Commit). IfSome o (λ d. (d_of : IsOfBoth s t H d) → BothInOrder s t d_of.parts (array_at H (k - 1)) (array_at H k))) at
      (both_commits s t one two (world_at A es).geometry H n history_by k (omega arith) (omega arith)) in
      here (record {
        parts = of.parts;
        are = of.are;
        made = subst (λ (B : Array). AreMixed s t B of.parts) (sym (same_array before later are (live_of m V.live).begin high)) of.made;
        mode = of.mode;
      })

  -- the history after an entry is the beginning of the whole one
  leads_behind : (before later : List Entry) (e : Entry) → es ≡ before ++ e ∷ later → Extends (after (state_at A before) e).world.history H
  leads_behind before later e are = grind (arith, after_append, follows_all)

  commit_in_order : (before later : List Entry) (m k : ℕ) (accesses : List Access) → es ≡ before ++ entry.End m accesses (Committed k) ∷ later
      → (of : IsOfBoth s t (world_at A before).history (commit_at (world_at A before) m accesses)) → BothInOrder s t of.parts (array_at H (k - 1)) (array_at H k)
  commit_in_order before later m k accesses are of =
      let e = entry.End m accesses (Committed k) in
      let V = world_at A before in
      let fits = fits_here before later e are in
      placed before (e ∷ later) m k accesses V.history are (ends_live (state_at A before) e fits m accesses (Committed k) refl) (extends_itself V.history)
      (end_is_next V (tx_of V m accesses) k fits.answers.2) (leads_behind before later e are) of

  -- what a group decides, as its entry tells it
  group_decides : (before later : List Entry) (ends : List MemberEnd) → es ≡ before ++ entry.EndGroup ends ∷ later → (decides (world_at A before) (world_at A before) ends).0 ≡ replies_of ends
  group_decides before later ends are = grind (arith, group_is, fits_here)

  member_in_order : (before later : List Entry) (first others : List MemberEnd) (m k : ℕ) (accesses : List Access) → es ≡ before ++ entry.EndGroup (first ++ commits_as m k accesses ∷ others) ∷ later
      → (of : IsOfBoth s t (world_at A before).history (commit_at (world_at A before) m accesses)) → IsInPlace t A es k of.parts
  member_in_order before later first others m k accesses are of =
      let ends : List MemberEnd = first ++ commits_as m k accesses ∷ others in
      let e = entry.EndGroup ends in
      let V = world_at A before in
      let c = commit_at V m accesses in
      let made = made_at V V first others m k accesses (group_decides before later ends are) in
      let behind : Extends (decides V V ends).1.history H = subst (λ (G : History). Extends G H) (after_history V (members_of ends)) (leads_behind before later e are) in
      placed before (e ∷ later) m k accesses made.at are (member_live (state_at A before) ends first others (commits_as m k accesses) (fits_here before later e are) refl) made.from made.number
      (extends_on (appended made.at c) (decides V V ends).1.history H made.within behind) of

  -- the calls of a transaction that is live at a place and has no write
  bare_by_map : (before later : List Entry) (m : ℕ) (accesses : List Access) → es ≡ before ++ later → is_live m (world_at A before).live ≡ true → has_write accesses ≡ false
      → (by : AreByCalls t A.world.geometry (array_at_begin (world_at A before) m) accesses) → BothByMap s t by.parts (array_at_begin (world_at A before) m)
  bare_by_map before later m accesses are live bare by =
      let V = world_at A before in
      let begin : ℕ = (live_of m V.live).begin in
      let since = began before later are m live in
      let high : begin ≤ last V.history = since.1 in
      let same : array_at H begin ≡ array_at_begin V m = same_array before later are begin high in
      let longer : last V.history ≤ last H = last_longer V.history H (by_front before later are).first (leads_on before later are) in
      let none : has_write (accesses_in (firsts by.parts)) ≡ false = ap has_write by.are ∙ bare in
      subst (λ (B : Array). BothByMap s t by.parts B) same
      (both_read_only s t one two (world_at A es).geometry H n begin by.parts history_by since.0 (omega arith) (subst (λ (B : Array). AreMixed s t B by.parts) (sym same) by.made) none)

  read_by_map : (before later : List Entry) (m : ℕ) (accesses : List Access) → es ≡ before ++ entry.End m accesses ReadOnly ∷ later
      → (by : AreByCalls t A.world.geometry (array_at_begin (world_at A before) m) accesses) → BothByMap s t by.parts (array_at_begin (world_at A before) m)
  read_by_map before later m accesses are by =
      let e = entry.End m accesses ReadOnly in
      let V = world_at A before in
      let fits = fits_here before later e are in
      bare_by_map before (e ∷ later) m accesses are (ends_live (state_at A before) e fits m accesses ReadOnly refl) (end_writes_not V (tx_of V m accesses) fits.answers.2) by

  member_by_map : (before later : List Entry) (first others : List MemberEnd) (m : ℕ) (accesses : List Access) → es ≡ before ++ entry.EndGroup (first ++ ends_bare m accesses ∷ others) ∷ later
      → (by : AreByCalls t A.world.geometry (array_at_begin (world_at A before) m) accesses) → AnswersByOne t A by.parts (array_at_begin (world_at A before) m)
  member_by_map before later first others m accesses are by =
      let ends : List MemberEnd = first ++ ends_bare m accesses ∷ others in
      let e = entry.EndGroup ends in
      let V = world_at A before in
      bare_by_map before (e ∷ later) m accesses are (member_live (state_at A before) ends first others (ends_bare m accesses) (fits_here before later e are) refl)
      (bare_at V V first others m accesses (group_decides before later ends are)) by

  live_in_order : (before later : List Entry) (m : ℕ) (accesses : List Access) → es ≡ before ++ later → is_live m (world_at A before).live ≡ true
      → (by : AreByCalls t A.world.geometry (array_at_begin (world_at A before) m) accesses) → BothInOrder s t by.parts (array_at_begin (world_at A before) m) (own (array_at_begin (world_at A before) m) accesses)
  live_in_order before later m accesses are live by =
      let V = world_at A before in
      let B = array_at_begin V m in
      let begin : ℕ = (live_of m V.live).begin in
      let since = began before later are m live in
      let high : begin ≤ last V.history = since.1 in
      let longer : last V.history ≤ last H = last_longer V.history H (by_front before later are).first (leads_on before later are) in
      let here : BothWellFormed s t B =
      subst (BothWellFormed s t) (same_array before later are begin high) (both_well_formed s t one two (world_at A es).geometry H n begin history_by since.0 (omega arith)) in
      subst (λ (xs : List Access). BothInOrder s t by.parts B (own B xs)) by.are (both_live s t one two B by.parts by.made here)

  pub listed : AreCallsInOrderAt t A es
  listed = record {
    by_calls = history_by;
    well = both_well_formed s t one two (world_at A es).geometry H n (last H) history_by all_by.within (omega arith);
    commits = commit_in_order;
    group_commits = member_in_order;
    read_only = read_by_map;
    group_read_only = member_by_map;
    live = live_in_order;
  }

pub stores_answer_at : (A : Start) (es : List Entry) → IsWorld A.world → A.world.live ≡ [] → IsLegal A es → IsIsolatedAt A es → StoresAnswerAt A es
stores_answer_at A es sound idle legal isolated well by_calls =
    listed (image_tree A.world.geometry) (tree_blocks A.world.geometry sound.valid) A es sound idle legal isolated well by_calls

pub files_answer_at : (A : Start) (es : List Entry) → IsWorld A.world → A.world.live ≡ [] → IsLegal A es → IsIsolatedAt A es → FilesAnswerAt A es
files_answer_at A es sound idle legal isolated well by_calls =
    listed (image_files A.world.geometry) (file_blocks_are A.world.geometry sound.valid) A es sound idle legal isolated well by_calls
