-- How a call ends, by which sides are in use: what a crash leaves, who was asked, and who was left out.
use Rattle.mirror_disk.proofs.{Words.{◌≡◌, ◌≢◌, ◌⊎◌, inl, inr, ⊎_elim, ℕ, ◌+◌, ◌≤◌, Bool, true, false, List, ◌∷◌, Result, is_ok, refl, sym, ◌∙◌, ap, subst, arith, option_map, DiskState, IsLawful, Torn, TellsTorn, TornFrom, Elapses, called, started, torn_from_old, HasCause, Marks, Used, Plain, Both, OnlyFirst, OnlySecond, Broken, Unbound, MirrorBecomes, Called, ChangesSides, LeavesOut, SideCalled, HasEnded, AllFailed, CannotLeave, HasLeft, LeavesFailed, chosen_told, IsPair, StandsBy, sides_in, state_in}, Alone.{ended_first_alone, ended_idle, ended_second_alone}, Asked.{both_asked, told_same}, Done.{alone_first, alone_second, becomes_same, both_did, both_torn, breaks, leaves, rose_of}, Ended.tells_on, Mirrored.{of_pair, parts_elapse, parts_stand, parts_tear, parts_turn}, Telling.{becomes_torn, turned_of}}

-- what fits a mirror fits its first side, where that is all of it
pub fits_plain : {used : Used} (a b : DiskState) (past : List (ℕ × ℕ)) (at n : ℕ) → used ≡ Plain → at + n ≤ (state_in used a b past 0 0).size → at + n ≤ a.size
fits_plain a b past at n is fits = subst (λ (u : Used). at + n ≤ (state_in u a b past 0 0).size) is fits

-- a side is in use
pub first_asked : {used : Used} {P : Type 0} (u : Used) → used ≡ u → (sides_in u).0 ≡ true → (sides_in used).0 ≡ false → P
first_asked u is asked out = let no = sym out ∙ ap (λ (v : Used). (sides_in v).0) is ∙ asked in absurd (cc no)

pub second_asked : {used : Used} {P : Type 0} (u : Used) → used ≡ u → (sides_in u).1 ≡ true → (sides_in used).1 ≡ false → P
second_asked u is asked out = let no = sym out ∙ ap (λ (v : Used). (sides_in v).1) is ∙ asked in absurd (cc no)

-- a side that was read or made stable
pub side_kept : {T E : Type 0} {old new : DiskState} {done : Bool} (r : Result T E) → IsLawful old → done ≡ is_ok r → Elapses old new old.now → new.contents ≡ old.contents → HasCause old.faults new.faults r → SideCalled 0 0 (λ c. c) old new done
side_kept {old = old} {new = new} r law same run contents cause = record {
  crash = called law run (λ x now. torn_from_old 64 0 x now) (λ x now. torn_from_old 64 0 x now);
  torn = told_same old new 64 contents;
  did = λ _. becomes_same contents;
  later = cause.later;
  failed = λ no. rose_of r (sym same ∙ no) cause;
}

-- an idle side, as one that was asked for no bytes
pub side_idle : {d : DiskState} → IsLawful d → SideCalled 0 0 (λ c. c) d d true
side_idle {d = d} law = record {
  crash = started law (λ x now. torn_from_old 64 0 x now);
  torn = told_same d d 64 refl;
  did = λ _. becomes_same refl;
  later = omega arith;
  failed = λ no. absurd (cc no);
}

module _ {A B : Type 0} (f : A → DiskState) (s : B → DiskState) (marks : Marks) {past past' : List (ℕ × ℕ)} {at n : ℕ} {turn : List ℕ → List ℕ} {first first' : A} {second second' : B} where
  -- of two sides
  pub called_pair : {used : Used} {done : Bool} → past' ≡ ((f first).clock, (s second).clock) ∷ past → IsPair marks.used → HasEnded (f first) (s second) (f first') (s second') used past marks.epoch marks.first_slot marks.second_slot at n
      → MirrorBecomes (Torn at n) (chosen_told (f first).contents (s second).contents) (chosen_told (f first').contents (s second').contents) → (done ≡ true → MirrorBecomes (λ c d. d ≡ turn c) (chosen_told (f first).contents (s second).contents) (chosen_told (f first').contents (s second').contents))
      → (done ≡ true → used ≢ Broken) → ((sides_in marks.used).0 ≡ false → first' ≡ first) → ((sides_in marks.used).1 ≡ false → second' ≡ second) → Called f s marks past past' at n turn (first, second) (first', second') (used, done)
  called_pair later is ended torn did goes_on idle idle' = record {
    stands = parts_stand is later ended;
    crash = λ faults faults' binds. parts_elapse is later ended faults faults' binds;
    torn = λ faults faults' binds. parts_tear is later ended faults faults' binds at n torn;
    did = λ yes faults faults' binds. parts_turn is later ended faults faults' binds turn (turned_of turn _ _ (did yes));
    bound = λ _. is.1;
    goes_on = goes_on;
    first_idle = idle;
    second_idle = idle';
  }

module _ {A B : Type 0} (f : A → DiskState) (s : B → DiskState) (marks : Marks) {past past' : List (ℕ × ℕ)} {at n : ℕ} {turn : List ℕ → List ℕ} {first first' : A} {second : B} where
  -- of the first side alone, where there is no header
  pub called_plain : {done : Bool} → marks.used ≡ Plain → Elapses (f first) (f first') (TornFrom at n (f first).now) → TellsTorn at n (f first) (f first') → (done ≡ true → (f first').contents ≡ option_map turn (f first).contents) → Called f s marks past past' at n turn (first, second) (first', second) (Plain, done)
  called_plain is run torn did = record {
    stands = record { pair = λ pair. absurd (pair.0 refl); both = λ no. absurd (cc no); first = λ no. absurd (cc no); second = λ no. absurd (cc no) };
    crash = λ faults faults' binds.
        subst (λ (u : Used). Elapses (state_in u (f first) (s second) past faults binds) (state_in Plain (f first') (s second) past' faults' binds) (TornFrom at n (state_in u (f first) (s second) past faults binds).now)) (sym is)
        (record { same_size = run.same_size; same_bound = run.same_bound; same_binds = refl; later = run.later; after = run.after; during = run.during; keeps = run.keeps });
    torn = λ faults faults' binds.
        subst (λ (u : Used). TellsTorn at n (state_in u (f first) (s second) past faults binds) (state_in Plain (f first') (s second) past' faults' binds)) (sym is) (record { told = torn.told; untold = torn.untold });
    did = λ yes faults faults' binds. subst (λ (u : Used). (f first').contents ≡ option_map turn (state_in u (f first) (s second) past faults binds).contents) (sym is) (did yes);
    bound = λ _ unbound. cc (is, unbound);
    goes_on = λ _ broken. cc broken;
    first_idle = first_asked Plain is refl;
    second_idle = λ _. refl;
  }

-- what a mirror tells, whatever moments it had and whatever it has counted
pub told_any : (used : Used) (a b : DiskState) (past past' : List (ℕ × ℕ)) (f m f' m' : ℕ) → (state_in used a b past' f' m').contents ≡ (state_in used a b past f m).contents
told_any Plain a b past past' f m f' m' = refl
told_any Both a b past past' f m f' m' = refl
told_any OnlyFirst a b past past' f m f' m' = refl
told_any OnlySecond a b past past' f m f' m' = refl
told_any Broken a b past past' f m f' m' = refl
told_any Unbound a b past past' f m f' m' = refl

-- no side is asked
pub called_idle : {A B : Type 0} (f : A → DiskState) (s : B → DiskState) (marks : Marks) {past past' : List (ℕ × ℕ)} {at n : ℕ} {turn : List ℕ → List ℕ} {first : A} {second : B} → IsLawful (f first) → IsLawful (s second) → past' ≡ ((f first).clock, (s second).clock) ∷ past → StandsBy (f first) (s second) marks past
    → (marks.used ≡ Broken) ⊎ (marks.used ≡ Unbound) → Called f s marks past past' at n turn (first, second) (first, second) (marks.used, false)
called_idle f s marks {past = past} {past' = past'} {at = at} {n = n} {first = first} {second = second} law_a law_b later stands out = record {
  stands = ⊎_elim (λ is. parts_stand (broken is).0 later (broken is).1)
      (λ is. record { pair = λ pair. absurd (pair.1 is); both = λ no. absurd (cc (is, no)); first = λ no. absurd (cc (is, no)); second = λ no. absurd (cc (is, no)) })
      out;
  crash = λ faults faults' binds. ⊎_elim (λ is. parts_elapse (broken is).0 later (broken is).1 faults faults' binds)
      (λ is. subst (λ (u : Used). Elapses (state_in u (f first) (s second) past faults binds) (state_in u (f first) (s second) past' faults' binds) (TornFrom at n (state_in u (f first) (s second) past faults binds).now)) (sym is)
      (record { same_size = refl; same_bound = refl; same_binds = refl; later = omega arith; after = λ c now. absurd now; during = λ t c le left. inl left; keeps = λ t c le left. left }))
      out;
  torn = λ faults faults' binds.
      let same = told_any marks.used (f first) (s second) past past' faults binds faults' binds in
      record { told = λ c told. (c, same ∙ told, record { before = refl; after = refl; size = refl }); untold = λ told. same ∙ told };
  did = λ no. absurd (cc no);
  bound = λ no. absurd (cc no);
  goes_on = λ no. absurd (cc no);
  first_idle = λ _. refl;
  second_idle = λ _. refl;
}
  where
    broken : marks.used ≡ Broken → IsPair marks.used × HasEnded (f first) (s second) (f first) (s second) marks.used past marks.epoch marks.first_slot marks.second_slot at n
    broken is =
        let pair = of_pair (inr (inr (inr is))) in
        (pair, ended_idle marks.used past marks.epoch marks.first_slot marks.second_slot at n law_a law_b pair (inr (inl is)) (stands.pair pair))

-- where not both are in use, the same are then
pub leaves_none : {marks : Marks} {a b new_a new_b : DiskState} {done : Bool} (u : Used) → u ≢ Both → marks.used ≡ u → (done ≡ false → AllFailed u a.faults new_a.faults b.faults new_b.faults) → LeavesOut marks a b new_a new_b (u, done)
leaves_none {a = a} {b = b} {new_a = new_a} {new_b = new_b} u other is failed = record {
  breaks = λ _ both. absurd (other (sym is ∙ both));
  left = record { first = λ both. absurd (other (sym is ∙ both)); second = λ both. absurd (other (sym is ∙ both)); stays = λ _. sym is };
  counted = λ no. inl (subst (λ (v : Used). AllFailed v a.faults new_a.faults b.faults new_b.faults) (sym is) (failed no));
}

-- a mirror that asks no side
pub none_failed : {used : Used} (a new_a b new_b : ℕ) → (used ≡ Broken) ⊎ (used ≡ Unbound) → AllFailed used a new_a b new_b
none_failed a new_a b new_b out =
    ⊎_elim (λ is. subst (λ (v : Used). AllFailed v a new_a b new_b) (sym is) tt) (λ is. subst (λ (v : Used). AllFailed v a new_a b new_b) (sym is) tt) out

module _ {A B : Type 0} (f : A → DiskState) (s : B → DiskState) (marks : Marks) {past past' : List (ℕ × ℕ)} {at n : ℕ} {turn : List ℕ → List ℕ} {first : A} {second : B} (law_a : IsLawful (f first)) (law_b : IsLawful (s second)) (later : past' ≡ ((f first).clock, (s second).clock) ∷ past)
    (stands : StandsBy (f first) (s second) marks past) where
  -- the first side alone is in use
  pub changes_first : {first' : A} {done : Bool} → IsLawful (f first') → marks.used ≡ OnlyFirst → SideCalled at n turn (f first) (f first') done → ChangesSides f s marks past past' at n turn (first, second) (first', second) (OnlyFirst, done)
  changes_first law is side =
      let in_use = of_pair (inr (inl is)) in
      let pair = stands.pair in_use in
      let leads = stands.first is in
      let ended = ended_first_alone past marks.epoch marks.first_slot marks.second_slot at n law_a law_b law pair leads side.crash (tells_on side.torn) in
      record {
        called = called_pair f s marks later in_use ended (alone_first law_a law_b law pair leads ended (becomes_torn _ _ at n side.torn)) (λ yes. alone_first law_a law_b law pair leads ended (side.did yes))
            (λ _ broken. cc broken) (first_asked OnlyFirst is refl) (λ _. refl);
        leaves = leaves_none OnlyFirst (λ both. cc both) is side.failed;
      }

  -- the second one is
  pub changes_second : {second' : B} {done : Bool} → IsLawful (s second') → marks.used ≡ OnlySecond → SideCalled at n turn (s second) (s second') done → ChangesSides f s marks past past' at n turn (first, second) (first, second') (OnlySecond, done)
  changes_second law is side =
      let in_use = of_pair (inr (inr (inl is))) in
      let pair = stands.pair in_use in
      let leads = stands.second is in
      let ended = ended_second_alone past marks.epoch marks.first_slot marks.second_slot at n law_a law_b law pair leads side.crash (tells_on side.torn) in
      record {
        called = called_pair f s marks later in_use ended (alone_second law_a law_b law pair leads ended (becomes_torn _ _ at n side.torn)) (λ yes. alone_second law_a law_b law pair leads ended (side.did yes))
            (λ _ broken. cc broken) (λ _. refl) (second_asked OnlySecond is refl);
        leaves = leaves_none OnlySecond (λ both. cc both) is side.failed;
      }

  -- both are, and one that failed was left out
  pub changes_both : {mid_a first' : A} {mid_b second' : B} {used : Used} {p q done : Bool} → IsLawful (f first') → IsLawful (s second') → marks.used ≡ Both → SideCalled at n turn (f first) (f mid_a) p → SideCalled at n turn (s second) (s mid_b) q
      → HasEnded (f first) (s second) (f first') (s second') used past marks.epoch marks.first_slot marks.second_slot at n → HasLeft (f mid_a) (s mid_b) (f first') (s second') used marks.epoch p q → (done ≡ true → used ≢ Broken) → (done ≡ false → used ≡ Broken)
      → ChangesSides f s marks past past' at n turn (first, second) (first', second') (used, done)
  changes_both {mid_a = mid_a} {first' = first'} {mid_b = mid_b} {second' = second'} {used = used} law law' is one two ended left goes_on broken =
      let in_use = of_pair (inl is) in
      let asked = both_asked (stands.pair in_use) (stands.both is) one two in
      record {
        called = called_pair f s marks later in_use ended (both_torn past marks.epoch marks.first_slot marks.second_slot at n asked left)
            (λ yes. both_did past marks.epoch marks.first_slot marks.second_slot at n law_a law_b law law' asked one.did two.did used left ended (goes_on yes)) goes_on (first_asked Both is refl) (second_asked Both is refl);
        leaves = record {
          breaks = λ failed _. broken failed;
          left = subst (λ (u : Used). LeavesFailed u used (f first).faults (f first').faults (s second).faults (s second').faults) (sym is) (leaves one two left);
          counted = λ failed. subst (λ (u : Used). AllFailed u (f first).faults (f first').faults (s second).faults (s second').faults ⊎ CannotLeave u marks.epoch (f first).faults (f first').faults (s second).faults (s second').faults) (sym is) (breaks one two left (broken failed));
        };
      }

  pub changes_plain : {T E : Type 0} {first' : A} {done : Bool} (r : Result T E) → marks.used ≡ Plain → done ≡ is_ok r → Elapses (f first) (f first') (TornFrom at n (f first).now) → TellsTorn at n (f first) (f first') → (done ≡ true → (f first').contents ≡ option_map turn (f first).contents) → HasCause (f first).faults (f first').faults r
      → ChangesSides f s marks past past' at n turn (first, second) (first', second) (Plain, done)
  changes_plain r is same run torn did cause = record {
    called = called_plain f s marks is run torn did;
    leaves = leaves_none Plain (λ both. cc both) is (λ failed. rose_of r (sym same ∙ failed) cause);
  }

  pub changes_none : (marks.used ≡ Broken) ⊎ (marks.used ≡ Unbound) → ChangesSides f s marks past past' at n turn (first, second) (first, second) (marks.used, false)
  changes_none out = record {
    called = called_idle f s marks law_a law_b later stands out;
    leaves = leaves_none marks.used (λ both. ⊎_elim (λ is. cc (is, both)) (λ is. cc (is, both)) out) refl (λ _. none_failed _ _ _ _ out);
  }
