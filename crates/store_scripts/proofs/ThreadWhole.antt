-- The store theorem of clients that run concurrently, by what their lines say.
use Rattle.store_scripts.{proofs.ThreadWords.{◌≡◌, ◌∙◌, sym, refl, ap, subst, ℕ, ◌-◌, true, List, [], ◌∷◌, ◌++◌, append_assoc, None, own, LiveInOrder, Access, Committed, ReadOnly, Geometry, History, array_at, HasShape, Extends, IsWorld, array_shape, Entry, MemberEnd, Fits, IsLegal, LegalFrom, Start, State, after_all, opened, state_at, follows_all, after_append, legal_append, opened_sound, AnswersWithAt, AreCallsInOrderAt, CommitsAreByCalls, commit_at, commits_as, world_at, IsOfBoth, ToldInOrder, SecondStore, image_hash, second_store, SecondGoes, IsSecond, array_at_begin, ToldByMap, IsTrue, OfReads, ReadsByMap, CallsAnswer, CommitsInOrder, CommitsKeep, OfCommits, no_notes, notes_after, Event, Made, Runs, entries_in, events_of, found_in}, specs.Notes.Notes, specs.Trace.{Done}, proofs.Events.{AreOps, entries_joined, ops_at, ops_front}, proofs.Histories.history_all, proofs.Placed.{live_told, members_read, read_told, AreSweeps, IsTold, at_place, end_told, located, member_told, members_told}, proofs.Running.{IsAt, IsClientAt, by_client}}
use Rattle.iso_shared.specs.declared.entry.Entry.TheVariants as entry

module _ (S : SecondStore) (lawful : IsSecond S) (second : SecondGoes S) (A : Start) (E : List Entry) (events : List Event) (tail : List Entry) (sound : IsWorld A.world) (none : A.world.live ≡ []) (legal : IsLegal A E)
    (are : E ≡ entries_in events ++ tail) (sweeps : AreSweeps tail) (runs : (c : ℕ) → Runs A.world.geometry A.tells None [] (events_of c events)) (ops : AreOps events)
    (answers : AnswersWithAt (second_store S A.world.geometry) A E) where
  abbrev g : Geometry
  g = A.world.geometry

  abbrev H : History
  H = (world_at A E).history

  shapes : (n : ℕ) → HasShape g (array_at H n)
  shapes n = array_shape g H n (history_all g (opened A) E (record { block = refl; blocks = refl }) legal sound.history)

  module _ (tells : A.tells ≡ true) where
    abbrev At : State → Notes S → List Event → Type 0
    At U N rest = IsAt S lawful second g sound.valid H shapes A.tells tells U N rest

    starts : At (opened A) (no_notes S) events
    starts = record {
      sound = opened_sound A none;
      first = sound.history.first;
      told = tells;
      racked = tt;
      each = λ c. record { own = None; made = []; held = tt; looked = tt; tell = tt; runs = runs c };
    }

    abbrev before_it : List Event → State
    before_it before = state_at A (entries_in before)

    whole : (before rest : List Event) → events ≡ before ++ rest → E ≡ entries_in (before ++ rest) ++ tail
    whole before rest is = are ∙ ap (λ v. entries_in v ++ tail) is

    placed : (before rest : List Event) → events ≡ before ++ rest → At (before_it before) (notes_after S g (no_notes S) before) rest
    placed before rest is =
        at_place S lawful second g sound.valid H shapes A.tells tells (opened A) (no_notes S) before rest tail (subst (At (opened A) (no_notes S)) is starts)
        (subst (LegalFrom (opened A)) (whole before rest is) legal) (sym (ap (λ es. (after_all (opened A) es).world.history) (whole before rest is))) (ops_front before rest (subst AreOps is ops))

    split_at : (before later : List Event) (c : ℕ) (e : Entry) → events ≡ before ++ Made c e ∷ later → E ≡ entries_in before ++ e ∷ (entries_in later ++ tail)
    split_at before later c e is =
        whole before (Made c e ∷ later) is ∙ ap (λ v. v ++ tail) (entries_joined before (Made c e ∷ later)) ∙ append_assoc (entries_in before) (e ∷ entries_in later) tail

    fits_at : (before later : List Event) (c : ℕ) (e : Entry) → events ≡ before ++ Made c e ∷ later → Fits (before_it before) e
    fits_at before later c e is = (legal_append (opened A) (entries_in before) (e ∷ (entries_in later ++ tail)) (subst (LegalFrom (opened A)) (split_at before later c e is) legal)).1.0

    extends_at : (before later : List Event) (c : ℕ) (e : Entry) → events ≡ before ++ Made c e ∷ later → Extends (before_it before).world.history H
    extends_at before later c e is =
        subst (λ (T : State). Extends (before_it before).world.history T.world.history)
        (sym (after_append (opened A) (entries_in before) (e ∷ (entries_in later ++ tail))) ∙ ap (after_all (opened A)) (sym (split_at before later c e is)))
        (follows_all (before_it before) (e ∷ (entries_in later ++ tail))).history

    module _ (keep : CommitsKeep S g events) where
      of_end : (before later : List Event) (c n k : ℕ) (accesses : List Access) → events ≡ before ++ Made c (entry.End n accesses (Committed k)) ∷ later
          → IsTold S lawful second g sound.valid H shapes A.tells tells (before_it before).world.history (commit_at (before_it before).world n accesses) ((notes_after S g (no_notes S) before).of c)
      of_end before later c n k accesses is =
          let e = entry.End n accesses (Committed k) in
          end_told S lawful second g sound.valid H shapes A.tells tells (before_it before) (notes_after S g (no_notes S) before) c n k accesses later (placed before (Made c e ∷ later) is)
          (fits_at before later c e is) (extends_at before later c e is) (keep before later c e is)

      client_at : (before later : List Event) (c : ℕ) (e : Entry) → events ≡ before ++ Made c e ∷ later
          → IsClientAt S lawful second g sound.valid H shapes A.tells tells (before_it before) ((notes_after S g (no_notes S) before).of c) ((notes_after S g (no_notes S) before).found c) (Made c e ∷ events_of c later)
      client_at before later c e is =
          by_client S lawful second g sound.valid H shapes A.tells tells (before_it before) (notes_after S g (no_notes S) before) c e later (placed before (Made c e ∷ later) is)
          (fits_at before later c e is) (extends_at before later c e is)

      by_calls : CommitsAreByCalls (second_store S g) A E
      by_calls = record { ends = ends; groups = groups }
        where
          ends : (before later : List Entry) (n k : ℕ) (accesses : List Access) → E ≡ before ++ entry.End n accesses (Committed k) ∷ later
              → IsOfBoth (image_hash g) (second_store S g) (world_at A before).history (commit_at (world_at A before) n accesses)
          ends before later n k accesses is =
              let e = entry.End n accesses (Committed k) in
              let at = located events tail before later e sweeps tt (sym are ∙ is) in
              subst (λ es. IsOfBoth (image_hash g) (second_store S g) (world_at A es).history (commit_at (world_at A es) n accesses)) at.behind (of_end at.first at.others at.client n k accesses at.is).of

          groups : (before later : List Entry) (first others : List MemberEnd) (n k : ℕ) (accesses : List Access) → E ≡ before ++ entry.EndGroup (first ++ commits_as n k accesses ∷ others) ∷ later
              → IsOfBoth (image_hash g) (second_store S g) (world_at A before).history (commit_at (world_at A before) n accesses)
          groups before later first others n k accesses is =
              let e = entry.EndGroup (first ++ commits_as n k accesses ∷ others) in
              let at = located events tail before later e sweeps tt (sym are ∙ is) in
              let client = client_at at.first at.others at.client e at.is in
              let place = placed at.first (Made at.client e ∷ at.others) at.is in
              subst (λ es. IsOfBoth (image_hash g) (second_store S g) (world_at A es).history (commit_at (world_at A es) n accesses)) at.behind
              (member_told S lawful second g sound.valid H shapes A.tells tells (before_it at.first) first others n k accesses (found_in client.made) ((notes_after S g (no_notes S) at.first).found at.client) client.runs.0 client.looked
              (keep at.first at.others at.client e at.is) (fits_at at.first at.others at.client e at.is).takes place.first (extends_at at.first at.others at.client e at.is)).1.of

      in_order : AreCallsInOrderAt (second_store S g) A E → CommitsInOrder S g H events
      in_order order before later c e is = by e is
        where
          by : (e : Entry) → events ≡ before ++ Made c e ∷ later → OfCommits S (λ k told. ToldInOrder S g told (array_at H (k - 1)) (array_at H k)) c e (notes_after S g (no_notes S) before)
          by (entry.End n accesses (Committed k)) is =
              let told = of_end before later c n k accesses is in
              told.answers (array_at H (k - 1)) (array_at H k) (order.commits (entries_in before) (entries_in later ++ tail) n k accesses (split_at before later c (entry.End n accesses (Committed k)) is) told.of)
          by (entry.EndGroup ends) is =
              let e = entry.EndGroup ends in
              let client = client_at before later c e is in
              members_told S lawful second g sound.valid H shapes A.tells tells (before_it before) [] ends (found_in client.made) ((notes_after S g (no_notes S) before).found c) (λ k told. ToldInOrder S g told (array_at H (k - 1)) (array_at H k)) client.runs.0 client.looked
              (keep before later c e is) (fits_at before later c e is).takes (placed before (Made c e ∷ later) is).first (extends_at before later c e is)
              (λ first others n k accesses m ends_are told.
              told.answers (array_at H (k - 1)) (array_at H k)
              (order.group_commits (entries_in before) (entries_in later ++ tail) first others n k accesses (split_at before later c e is ∙ ap (λ l. entries_in before ++ entry.EndGroup l ∷ (entries_in later ++ tail)) ends_are) told.of))
          by (entry.End n accesses r) is = tt
          by e is = tt

  reads_by_map : A.tells ≡ true → AreCallsInOrderAt (second_store S g) A E → ReadsByMap S A events
  reads_by_map tells order before later c e is = by e is
    where
      by : (e : Entry) → events ≡ before ++ Made c e ∷ later
          → OfReads S (λ n told. IsTrue told.kept → ToldByMap S g told (array_at_begin (world_at A (entries_in before)) n)) c e (notes_after S g (no_notes S) before)
      by (entry.End n accesses ReadOnly) is = λ kept.
          let e = entry.End n accesses ReadOnly in
          let told = read_told S lawful second g sound.valid H shapes A.tells tells (before_it tells before) (notes_after S g (no_notes S) before) c n accesses later (placed tells before (Made c e ∷ later) is)
          (fits_at tells before later c e is) (extends_at tells before later c e is) kept in
          told.answers (order.read_only (entries_in before) (entries_in later ++ tail) n accesses (split_at tells before later c e is) told.by)
      by (entry.EndGroup ends) is =
          let e = entry.EndGroup ends in
          let place = placed tells before (Made c e ∷ later) is in
          let client =
          by_client S lawful second g sound.valid H shapes A.tells tells (before_it tells before) (notes_after S g (no_notes S) before) c e later place (fits_at tells before later c e is) (extends_at tells before later c e is) in
          members_read S lawful second g sound.valid H shapes A.tells tells (before_it tells before) [] ends (found_in client.made) ((notes_after S g (no_notes S) before).found c)
          (λ n told. IsTrue told.kept → ToldByMap S g told (array_at_begin (world_at A (entries_in before)) n)) client.runs.0 client.looked (fits_at tells before later c e is).takes place.first (extends_at tells before later c e is)
          (λ first others n accesses m ends_are told kept.
          (told kept).answers (order.group_read_only (entries_in before) (entries_in later ++ tail) first others n accesses (split_at tells before later c e is ∙ ap (λ l. entries_in before ++ entry.EndGroup l ∷ (entries_in later ++ tail)) ends_are) (told kept).by))
      by (entry.End n accesses r) is = tt
      by e is = tt

  live_in_order : A.tells ≡ true → AreCallsInOrderAt (second_store S g) A E → LiveInOrder S A events
  live_in_order tells order before later c s t is after live kept =
      let rest : List Entry = entries_in later ++ tail in
      let U : State = before_it tells before in
      let split : E ≡ entries_in before ++ rest =
      whole tells before (Done c s ∷ later) is ∙ ap (λ v. v ++ tail) (entries_joined before (Done c s ∷ later)) ∙ append_assoc (entries_in before) (entries_in later) tail in
      let more : Extends U.world.history H =
      subst (λ (T : State). Extends U.world.history T.world.history) (sym (after_append (opened A) (entries_in before) rest) ∙ ap (after_all (opened A)) (sym split)) (follows_all U rest).history in
      let made =
      live_told S lawful second g sound.valid H shapes A.tells tells U (notes_after S g (no_notes S) before) c s t later (placed tells before (Done c s ∷ later) is)
      (ops_at before later c s (subst AreOps is ops)) after live more kept in
      let B = array_at_begin U.world t.number in
      made.answers B (own B t.accesses) (order.live (entries_in before) rest t.number t.accesses split live made.by)

  pub calls_answer : CallsAnswer S A E events
  calls_answer tells well keep =
      let order = answers well (by_calls tells keep) in
      record { commits = in_order tells keep order; read_only = reads_by_map tells order; live = live_in_order tells order }
