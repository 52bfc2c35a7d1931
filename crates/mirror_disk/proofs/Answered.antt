-- What a sync and a read of the sides in use answer, by which are.
use Rattle.mirror_disk.proofs.{Words.{◌≡◌, ◌≢◌, ◌⊎◌, inl, inr, ℕ, ◌+◌, Bool, true, false, List, ◌∷◌, Result, OnOk, is_ok, refl, sym, ◌∙◌, subst, slice_range, ForSome, DiskState, IsLawful, IsSettled, Elapses, torn_from_old, HasCause, Marks, Used, Plain, Both, OnlyFirst, OnlySecond, Broken, Unbound, Called, ChangesSides, ReadsSides, SideCalled, SyncsSides, HasEnded, AllFailed, HasLeft, StandsBy, state_in}, Alone.{settled_first, settled_second}, Asked.{both_asked, told_same}, Called.{called_idle, called_pair, changes_both, changes_first, changes_none, changes_plain, changes_second, first_asked, none_failed, second_asked, side_idle}, Done.{becomes_same, both_chosen, by_done, first_chosen, left_settled, read_chosen, rose_of, second_chosen}, Ended.ended_both, Mirrored.{elapses_more, of_pair, state_pair, told_pair}, Telling.{becomes_torn, told_alike, turned_of}}

-- a call that gave what was told, as one that was done
pub side_read : {old new : DiskState} {done : Bool} → SideCalled 0 0 (λ c. c) old new done → new.contents ≡ old.contents → SideCalled 0 0 (λ c. c) old new true
side_read side same = record { crash = side.crash; torn = side.torn; did = λ _. becomes_same same; later = side.later; failed = λ no. absurd (cc no) }

module _ {A B : Type 0} (f : A → DiskState) (s : B → DiskState) (marks : Marks) {past past' : List (ℕ × ℕ)} {first : A} {second : B} (law_a : IsLawful (f first)) (law_b : IsLawful (s second)) (later : past' ≡ ((f first).clock, (s second).clock) ∷ past)
    (stands : StandsBy (f first) (s second) marks past) where
  pub syncs_first : {first' : A} {done : Bool} → IsLawful (f first') → marks.used ≡ OnlyFirst → SideCalled 0 0 (λ c. c) (f first) (f first') done → (done ≡ true → IsSettled (f first')) → SyncsSides f s marks past past' (first, second) (first', second) (OnlyFirst, done)
  syncs_first {first' = first'} law is side settled =
      let changes = changes_first f s marks law_a law_b later stands law is side in
      let now = changes.called.stands in
      record { changes = changes; settled = λ yes faults binds. settled_first (f first') (s second) past' faults binds marks.epoch law law_b (now.pair ((λ no. cc no), (λ no. cc no))) (now.first refl) (settled yes) }

  pub syncs_second : {second' : B} {done : Bool} → IsLawful (s second') → marks.used ≡ OnlySecond → SideCalled 0 0 (λ c. c) (s second) (s second') done → (done ≡ true → IsSettled (s second')) → SyncsSides f s marks past past' (first, second) (first, second') (OnlySecond, done)
  syncs_second {second' = second'} law is side settled =
      let changes = changes_second f s marks law_a law_b later stands law is side in
      let now = changes.called.stands in
      record { changes = changes; settled = λ yes faults binds. settled_second (f first) (s second') past' faults binds marks.epoch law_a law (now.pair ((λ no. cc no), (λ no. cc no))) (now.second refl) (settled yes) }

  pub syncs_both : {mid_a first' : A} {mid_b second' : B} {used : Used} {p q done : Bool} → IsLawful (f first') → IsLawful (s second') → marks.used ≡ Both → SideCalled 0 0 (λ c. c) (f first) (f mid_a) p → SideCalled 0 0 (λ c. c) (s second) (s mid_b) q → (p ≡ true → IsSettled (f mid_a)) → (q ≡ true → IsSettled (s mid_b))
      → HasEnded (f first) (s second) (f first') (s second') used past marks.epoch marks.first_slot marks.second_slot 0 0 → HasLeft (f mid_a) (s mid_b) (f first') (s second') used marks.epoch p q → (done ≡ true → used ≢ Broken) → (done ≡ false → used ≡ Broken)
      → SyncsSides f s marks past past' (first, second) (first', second') (used, done)
  syncs_both {first' = first'} {second' = second'} {used = used} law law' is one two settled settled' ended left goes_on broken = record {
    changes = changes_both f s marks law_a law_b later stands law law' is one two ended left goes_on broken;
    settled = λ yes faults binds. state_pair used ended.is_pair (f first') (s second') past' faults binds (λ (d : DiskState). IsSettled d)
        (left_settled _ _ _ _ _ _ past marks.epoch marks.first_slot marks.second_slot 0 0 law law' settled settled' used left ended (goes_on yes));
  }

  -- the first side alone, where there is no header
  plain_changes : {T E : Type 0} {first' : A} {done : Bool} (r : Result T E) → marks.used ≡ Plain → done ≡ is_ok r → Elapses (f first) (f first') (f first).now → (f first').contents ≡ (f first).contents → HasCause (f first).faults (f first').faults r → ChangesSides f s marks past past' 0 0 (λ c. c) (first, second) (first', second) (Plain, done)
  plain_changes r is same run contents cause =
      changes_plain f s marks law_a law_b later stands r is same (elapses_more run (λ c now. torn_from_old 0 0 c now)) (told_same _ _ 0 contents) (λ _. turned_of (λ c. c) _ _ (record { told = λ c told. (c, contents ∙ told, refl); untold = λ none. contents ∙ none })) cause

  pub syncs_plain : {T E : Type 0} {first' : A} {done : Bool} (r : Result T E) → marks.used ≡ Plain → done ≡ is_ok r → Elapses (f first) (f first') (f first).now → (f first').contents ≡ (f first).contents → HasCause (f first).faults (f first').faults r → OnOk r (IsSettled (f first'))
      → SyncsSides f s marks past past' (first, second) (first', second) (Plain, done)
  syncs_plain r is same run contents cause settled = record { changes = plain_changes r is same run contents cause; settled = λ yes faults binds. by_done r (sym same ∙ yes) settled }

  pub syncs_none : (marks.used ≡ Broken) ⊎ (marks.used ≡ Unbound) → SyncsSides f s marks past past' (first, second) (first, second) (marks.used, false)
  syncs_none out = record { changes = changes_none f s marks law_a law_b later stands out; settled = λ no. absurd (cc no) }

  -- a read of both: the first one did it, or failed and the second one was asked
  pub called_both : {first' : A} {second' : B} {done : Bool} → IsLawful (f first') → IsLawful (s second') → marks.used ≡ Both → SideCalled 0 0 (λ c. c) (f first) (f first') true → SideCalled 0 0 (λ c. c) (s second) (s second') true → Called f s marks past past' 0 0 (λ c. c) (first, second) (first', second') (marks.used, done)
  called_both {first' = first'} {second' = second'} law law' is one two =
      let in_use = of_pair (inl is) in
      let both = stands.both is in
      let becomes = told_alike (one.did refl) (two.did refl) both.agree in
      let torn = told_alike (becomes_torn _ _ 0 0 one.torn) (becomes_torn _ _ 0 0 two.torn) both.agree in
      let ended = subst (λ (u : Used). HasEnded (f first) (s second) (f first') (s second') u past marks.epoch marks.first_slot marks.second_slot 0 0) (sym is)
      (ended_both past marks.epoch marks.first_slot marks.second_slot 0 0 law_a law_b law law' (both_asked (stands.pair in_use) both one two) refl refl) in
      called_pair f s marks later in_use ended torn (λ _. becomes) (λ _ broken. cc (is, broken)) (first_asked Both is refl) (second_asked Both is refl)

  module _ (at len : ℕ) (into : List ℕ) where
    pub reads_first : {first' : A} {done : Bool} → IsLawful (f first') → marks.used ≡ OnlyFirst → SideCalled 0 0 (λ c. c) (f first) (f first') done → (done ≡ true → ForSome (f first).contents (λ c. into ≡ slice_range c (64 + at) (64 + at + len))) → ReadsSides f s marks past past' at len into (first, second) (first', second) done
    reads_first {first' = first'} {done = done} law is side read =
        let in_use = of_pair (inr (inl is)) in
        record {
          called = subst (λ (u : Used). Called f s marks past past' 0 0 (λ c. c) (first, second) (first', second) (u, done)) (sym is) (changes_first f s marks law_a law_b later stands law is side).called;
          bytes = λ yes faults binds c told. read_chosen (f first).contents (s second).contents into at len len (λ x y. x) refl (first_chosen law_a law_b (stands.pair in_use) marks.epoch (stands.first is)) (λ x y here there. read yes x here) c
              (sym (told_pair marks.used in_use (f first) (s second) past faults binds) ∙ told);
          second_last = λ both. absurd (cc (is, both));
          counted = λ no. subst (λ (u : Used). AllFailed u (f first).faults (f first').faults (s second).faults (s second).faults) (sym is) (side.failed no);
        }

    pub reads_second : {second' : B} {done : Bool} → IsLawful (s second') → marks.used ≡ OnlySecond → SideCalled 0 0 (λ c. c) (s second) (s second') done → (done ≡ true → ForSome (s second).contents (λ c. into ≡ slice_range c (64 + at) (64 + at + len))) → ReadsSides f s marks past past' at len into (first, second) (first, second') done
    reads_second {second' = second'} {done = done} law is side read =
        let in_use = of_pair (inr (inr (inl is))) in
        record {
          called = subst (λ (u : Used). Called f s marks past past' 0 0 (λ c. c) (first, second) (first, second') (u, done)) (sym is) (changes_second f s marks law_a law_b later stands law is side).called;
          bytes = λ yes faults binds c told. read_chosen (f first).contents (s second).contents into at len len (λ x y. y) refl (second_chosen law_a law_b (stands.pair in_use) marks.epoch (stands.second is)) (λ x y here there. read yes y there) c
              (sym (told_pair marks.used in_use (f first) (s second) past faults binds) ∙ told);
          second_last = λ both. absurd (cc (is, both));
          counted = λ no. subst (λ (u : Used). AllFailed u (f first).faults (f first).faults (s second).faults (s second').faults) (sym is) (side.failed no);
        }

    pub reads_one : {first' : A} {done : Bool} → IsLawful (f first') → marks.used ≡ Both → done ≡ true → SideCalled 0 0 (λ c. c) (f first) (f first') done → (f first').contents ≡ (f first).contents → (done ≡ true → ForSome (f first).contents (λ c. into ≡ slice_range c (64 + at) (64 + at + len)))
        → ReadsSides f s marks past past' at len into (first, second) (first', second) true
    reads_one law is done side same read =
        let in_use = of_pair (inl is) in
        record {
          called = called_both law law_b is (side_read side same) (side_idle law_b);
          bytes = λ _ faults binds c told. read_chosen (f first).contents (s second).contents into at len len (λ x y. x) refl (both_chosen law_a law_b (stands.pair in_use) marks.epoch marks.first_slot marks.second_slot (stands.both is)) (λ x y here there. read done x here) c
              (sym (told_pair marks.used in_use (f first) (s second) past faults binds) ∙ told);
          second_last = λ _. inr refl;
          counted = λ no. absurd (cc no);
        }

    pub reads_other : {first' : A} {second' : B} {p done : Bool} (m : ℕ) → m ≡ len → IsLawful (f first') → IsLawful (s second') → marks.used ≡ Both → p ≡ false → SideCalled 0 0 (λ c. c) (f first) (f first') p → (f first').contents ≡ (f first).contents → SideCalled 0 0 (λ c. c) (s second) (s second') done → (s second').contents ≡ (s second).contents
        → (done ≡ true → ForSome (s second).contents (λ c. into ≡ slice_range c (64 + at) (64 + at + m))) → ReadsSides f s marks past past' at len into (first, second) (first', second') done
    reads_other {first' = first'} {second' = second'} m count law law' is failed side same side' same' read =
        let in_use = of_pair (inl is) in
        let both = stands.both is in
        let chosen = both_chosen law_a law_b (stands.pair in_use) marks.epoch marks.first_slot marks.second_slot both in
        record {
          called = called_both law law' is (side_read side same) (side_read side' same');
          bytes = λ yes faults binds c told. read_chosen (f first).contents (s second).contents into at m len (λ x y. y) count (λ x y here there. chosen x y here there ∙ both.agree x y here there) (λ x y here there. read yes y there) c
              (sym (told_pair marks.used in_use (f first) (s second) past faults binds) ∙ told);
          second_last = λ _. inl (side.failed failed);
          counted = λ no. subst (λ (u : Used). AllFailed u (f first).faults (f first').faults (s second).faults (s second').faults) (sym is) (side.failed failed, side'.failed no);
        }

    pub reads_plain : {T E : Type 0} {first' : A} {done : Bool} (r : Result T E) → marks.used ≡ Plain → done ≡ is_ok r → Elapses (f first) (f first') (f first).now → (f first').contents ≡ (f first).contents → (done ≡ true → ForSome (f first).contents (λ c. into ≡ slice_range c at (at + len))) → HasCause (f first).faults (f first').faults r
        → ReadsSides f s marks past past' at len into (first, second) (first', second) done
    reads_plain {first' = first'} {done = done} r is same run contents read cause = record {
      called = subst (λ (u : Used). Called f s marks past past' 0 0 (λ c. c) (first, second) (first', second) (u, done)) (sym is) (plain_changes r is same run contents cause).called;
      bytes = λ yes faults binds. subst (λ (u : Used). ForSome (state_in u (f first) (s second) past faults binds).contents (λ c. into ≡ slice_range c at (at + len))) (sym is) (read yes);
      second_last = λ both. absurd (cc (is, both));
      counted = λ no. subst (λ (u : Used). AllFailed u (f first).faults (f first').faults (s second).faults (s second).faults) (sym is) (rose_of r (sym same ∙ no) cause);
    }

    pub reads_none : (marks.used ≡ Broken) ⊎ (marks.used ≡ Unbound) → ReadsSides f s marks past past' at len into (first, second) (first, second) false
    reads_none out = record {
      called = called_idle f s marks law_a law_b later stands out;
      bytes = λ no. absurd (cc no);
      second_last = λ _. inr refl;
      counted = λ _. none_failed _ _ _ _ out;
    }
