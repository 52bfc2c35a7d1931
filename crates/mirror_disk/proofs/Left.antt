-- How a call ends in which one side was left out.
use Rattle.mirror_disk.proofs.{Words.{◌≡◌, ◌≢◌, ◌⊎◌, inl, inr, ⊎_elim, ℕ, ◌+◌, Bool, List, ◌∷◌, Option, Some, None, refl, sym, ◌∙◌, subst, arith, same_Some, DiskState, IsLawful, Torn, TornFrom, TellsTorn, LeavesOnly, Elapses, at_end, joined, weakened, Slot, OnlyFirst, OnlySecond, Broken, BothAsked, HasEnded, body, epoch, ChosenOf, mirrored, HasEpoch, KeepsBody, Raising, other, ArePair, FirstLeads, SecondLeads, FromA, FromB}, Calls.elapses_pair, Ended.{heads_a, heads_b, from_now_a, from_now_b, keeps_on, tells_on}, Stands.{header_torn, Over, epoch_of_torn, from_a, from_b, meets_left, meets_over, pair_on}}

-- what is told after a write was told before it, and torn
pub torn_told : {old new : DiskState} {k n : ℕ} → TellsTorn k n old new → (c : List ℕ) → new.contents ≡ Some c → (d : List ℕ) × (old.contents ≡ Some d) × Torn k n d c
torn_told {old = old} {new = new} {k = k} {n = n} tells c is = by_cases old.contents refl
  where
    by_cases : (o : Option (List ℕ)) → old.contents ≡ o → (d : List ℕ) × (old.contents ≡ Some d) × Torn k n d c
    by_cases (Some d) told = let t = tells.told d told in (d, told, subst (Torn k n d) (same_Some t.0 c (sym t.1 ∙ is)) t.2)
    by_cases None told = absurd (cc (is, tells.untold told))

module _ {a b new_a new_b last : DiskState} (past : List (ℕ × ℕ)) (e : ℕ) (one two : Slot) (at n : ℕ) (law_a : IsLawful a) (law_b : IsLawful b) (law_a' : IsLawful new_a) (law_b' : IsLawful new_b) {p q : Bool}
    (asked : BothAsked a b new_a new_b past e one two at n p q) (law_last : IsLawful last) (run : LeavesOnly new_a last (Raising e (e + 1) new_a)) (keeps : KeepsBody new_a last) where
  over : LeavesOnly a last (Over law_a law_b asked.pair at n e a.now)
  over = joined
      (weakened asked.run_a (λ x t. record { header = header_torn at n (λ y now. asked.pair.first_header y (from_now_a past e one two at n law_a law_b law_a' law_b' asked y now)) t; most = (let is = asked.both.first t.old (from_now_a past e one two at n law_a law_b law_a' law_b' asked t.old t.was) in omega (arith, is, epoch_of_torn at n t)); was = x; is_torn = t; same = refl }))
      (weakened run (λ x r. elim r.1 [
        | inl k ↦ record { header = r.0; most = omega (arith, k.0); was = k.1.0; is_torn = at_end law_a' asked.run_a k.1.0 k.1.1; same = k.1.2 }
        | inr k ↦ record { header = r.0; most = omega (arith, k.0); was = k.1.0; is_torn = at_end law_a' asked.run_a k.1.0 (law_a'.reads_as_image k.1.0 k.1.1); same = k.1.2 }
      ]))

  pair_left : ArePair last new_b ((a.clock, b.clock) ∷ past)
  pair_left = pair_on asked.pair over asked.run_b
      (λ x o. asked.pair.first_told o.is_torn.old (from_now_a past e one two at n law_a law_b law_a' law_b' asked o.is_torn.old o.is_torn.was))
      (λ y t. asked.pair.second_told t.old (from_now_b past e one two at n law_a law_b law_a' law_b' asked t.old t.was))
      (λ told. keeps_on keeps (tells_on asked.told_a told)) (tells_on asked.told_b) (weakened over (λ x o. o.header)) (heads_b past e one two at n law_a law_b law_a' law_b' asked)

  leads : ((x : List ℕ) → last.now x → HasEpoch (other one) (e + 1) x) → FirstLeads last new_b ((a.clock, b.clock) ∷ past) e
  leads raised = record {
    raised = λ x now. let is = (raised x now).epoch_is in omega (arith, is);
    first = λ x from. ⊎_elim (λ (old : FromA a b past x). let is = asked.both.first x old in omega (arith, is)) (λ (o : Over law_a law_b asked.pair at n e a.now x). o.most) (from_a a b last new_b past asked.pair.rising over x from);
    second = λ y from. ⊎_elim (λ (old : FromB a b past y). let is = asked.both.second y old in omega (arith, is)) (λ (t : TornFrom (64 + at) n b.now y). let is = asked.both.second t.old (from_now_b past e one two at n law_a law_b law_a' law_b' asked t.old t.was) in omega (arith, is, epoch_of_torn at n t)) (from_b a b last new_b past asked.pair.rising asked.run_b y from);
  }

  elapses_left : (f g m : ℕ) → Elapses (mirrored a b past f m) (mirrored last new_b ((a.clock, b.clock) ∷ past) g m) (TornFrom at n (ChosenOf a.now b.now))
  elapses_left f g m = elapses_pair past f g m law_a law_b law_last law_b' asked.pair.rising over asked.run_b (meets_left law_a law_b asked.pair at n e one two asked.both)

  -- the second side was left out
  pub ended_first : ((x : List ℕ) → last.now x → HasEpoch (other one) (e + 1) x) → HasEnded a b last new_b OnlyFirst past e one two at n
  ended_first raised = record {
    is_pair = ((λ is. cc is), (λ is. cc is));
    stands = record { pair = λ _. pair_left; both = λ is. absurd (cc is); first = λ _. leads raised; second = λ is. absurd (cc is) };
    elapses = elapses_left;
  }

  -- the first one failed as its epoch was raised
  pub broken_first : HasEnded a b last new_b Broken past e one two at n
  broken_first = record {
    is_pair = ((λ is. cc is), (λ is. cc is));
    stands = record { pair = λ _. pair_left; both = λ is. absurd (cc is); first = λ is. absurd (cc is); second = λ is. absurd (cc is) };
    elapses = elapses_left;
  }

module _ {a b new_a new_b last : DiskState} (past : List (ℕ × ℕ)) (e : ℕ) (one two : Slot) (at n : ℕ) (law_a : IsLawful a) (law_b : IsLawful b) (law_a' : IsLawful new_a) (law_b' : IsLawful new_b) {p q : Bool}
    (asked : BothAsked a b new_a new_b past e one two at n p q) (law_last : IsLawful last) (run : LeavesOnly new_b last (Raising e (e + 1) new_b)) (keeps : KeepsBody new_b last) where
  raises : LeavesOnly b last (λ y. TornFrom (64 + at) n b.now y ⊎ (((epoch y ≡ e) × b.contents ≢ None) ⊎ ((epoch y ≡ e + 1) × ((c : List ℕ) × (new_b.contents ≡ Some c) × (body y ≡ body c)))))
  raises = joined (weakened asked.run_b (λ y t. inl t)) (weakened run (λ y r. elim r.1 [
    | inl k ↦ let t = at_end law_b' asked.run_b k.1.0 k.1.1 in inr (inl (k.0, asked.pair.second_told t.old (from_now_b past e one two at n law_a law_b law_a' law_b' asked t.old t.was)))
    | inr k ↦ inr (inr (k.0, k.1))
  ]))

  pair_over : ArePair new_a last ((a.clock, b.clock) ∷ past)
  pair_over = pair_on asked.pair asked.run_a raises
      (λ x t. asked.pair.first_told t.old (from_now_a past e one two at n law_a law_b law_a' law_b' asked t.old t.was))
      (λ y q. ⊎_elim
      (λ (t : TornFrom (64 + at) n b.now y). asked.pair.second_told t.old (from_now_b past e one two at n law_a law_b law_a' law_b' asked t.old t.was))
      (⊎_elim (λ (k : (epoch y ≡ e) × b.contents ≢ None). k.1) (λ (k : (epoch y ≡ e + 1) × ((c : List ℕ) × (new_b.contents ≡ Some c) × (body y ≡ body c))). let d = torn_told asked.told_b k.1.0 k.1.1 in λ none. absurd (cc (none, d.1))))
      q)
      (tells_on asked.told_a) (λ told. keeps_on keeps (tells_on asked.told_b told)) (heads_a past e one two at n law_a law_b law_a' law_b' asked) (joined (heads_b past e one two at n law_a law_b law_a' law_b' asked) (weakened run (λ y r. r.0)))

  elapses_over : (f g m : ℕ) → Elapses (mirrored a b past f m) (mirrored new_a last ((a.clock, b.clock) ∷ past) g m) (TornFrom at n (ChosenOf a.now b.now))
  elapses_over f g m = elapses_pair past f g m law_a law_b law_a' law_last asked.pair.rising asked.run_a raises (meets_over law_a law_b asked.pair at n e one two asked.both new_b (torn_told asked.told_b))

  over_leads : ((y : List ℕ) → last.now y → HasEpoch (other two) (e + 1) y) → SecondLeads new_a last ((a.clock, b.clock) ∷ past) e
  over_leads raised = record {
    first = λ x from. ⊎_elim (λ (old : FromA a b past x). let is = asked.both.first x old in omega (arith, is)) (λ (t : TornFrom (64 + at) n a.now x). let is = asked.both.first t.old (from_now_a past e one two at n law_a law_b law_a' law_b' asked t.old t.was) in omega (arith, is, epoch_of_torn at n t)) (from_a a b new_a last past asked.pair.rising asked.run_a x from);
    second = λ y now. let is = (raised y now).epoch_is in omega (arith, is);
  }

  -- the first side was left out
  pub ended_second : ((y : List ℕ) → last.now y → HasEpoch (other two) (e + 1) y) → HasEnded a b new_a last OnlySecond past e one two at n
  ended_second raised = record {
    is_pair = ((λ is. cc is), (λ is. cc is));
    stands = record { pair = λ _. pair_over; both = λ is. absurd (cc is); first = λ is. absurd (cc is); second = λ _. over_leads raised };
    elapses = elapses_over;
  }

  pub broken_second : HasEnded a b new_a last Broken past e one two at n
  broken_second = record {
    is_pair = ((λ is. cc is), (λ is. cc is));
    stands = record { pair = λ _. pair_over; both = λ is. absurd (cc is); first = λ is. absurd (cc is); second = λ is. absurd (cc is) };
    elapses = elapses_over;
  }
