-- How a call ends on a mirror with one side in use.
use Rattle.mirror_disk.proofs.{Words.{◌≡◌, ◌≢◌, ◌⊎◌, inr, ⊎_elim, ℕ, ◌+◌, ◌≤◌, List, [], Some, refl, sym, ◌∙◌, ap, subst, arith, DiskState, IsLawful, IsSettled, TornFrom, LeavesOnly, torn_from_old, at_end, started, weakened, Slot, Used, Plain, OnlyFirst, OnlySecond, Broken, Unbound, HasEnded, IsHeader, chosen, rising_first, chosen_told, mirrored, ArePair, FirstLeads, SecondLeads, IsPair}, Calls.elapses_pair, Epochs.{chosen_first, chosen_second}, Stands.{header_torn, GoesOnTelling, epoch_of_torn, from_a, from_b, meets_first, meets_second, now_from_a, now_from_b, pair_on, some_told}}

module _ {a b new_a : DiskState} (past : List (ℕ × ℕ)) (e : ℕ) (one two : Slot) (at n : ℕ) (law_a : IsLawful a) (law_b : IsLawful b) (law_a' : IsLawful new_a) (pair : ArePair a b past) (leads : FirstLeads a b past e)
    (run : LeavesOnly a new_a (TornFrom (64 + at) n a.now)) (on : GoesOnTelling a new_a) where
  idle_b : LeavesOnly b b b.now
  idle_b = started law_b (λ y now. now)

  -- only the first side is in use
  pub ended_first_alone : HasEnded a b new_a b OnlyFirst past e one two at n
  ended_first_alone = record {
    is_pair = ((λ is. cc is), (λ is. cc is));
    stands = record {
      pair = λ _. pair_on pair run idle_b (λ x t. pair.first_told t.old (now_from_a past law_a law_b pair.rising t.old t.was)) (λ y now. pair.second_told y (now_from_b past law_a law_b pair.rising y now)) on (λ told. told) (weakened run (λ x t. header_torn at n (λ x now. pair.first_header x (now_from_a past law_a law_b pair.rising x now)) t)) (started law_b (λ y now. pair.second_header y (now_from_b past law_a law_b pair.rising y now)));
      both = λ is. absurd (cc is);
      first = λ _. record {
        raised = λ x now. let t = at_end law_a' run x now in let more = leads.raised t.old t.was in omega (arith, more, epoch_of_torn at n t);
        first = λ x from. ⊎_elim (leads.first x) (λ (t : TornFrom (64 + at) n a.now x). let le = leads.first t.old (now_from_a past law_a law_b pair.rising t.old t.was) in omega (arith, le, epoch_of_torn at n t)) (from_a a b new_a b past pair.rising run x from);
        second = λ y from. ⊎_elim (leads.second y) (λ (now : b.now y). leads.second y (now_from_b past law_a law_b pair.rising y now)) (from_b a b new_a b past pair.rising idle_b y from);
      };
      second = λ is. absurd (cc is);
    };
    elapses = λ f g m. elapses_pair past f g m law_a law_b law_a' law_b pair.rising run idle_b (meets_first law_a law_b pair at n e leads);
  }

module _ {a b new_b : DiskState} (past : List (ℕ × ℕ)) (e : ℕ) (one two : Slot) (at n : ℕ) (law_a : IsLawful a) (law_b : IsLawful b) (law_b' : IsLawful new_b) (pair : ArePair a b past) (leads : SecondLeads a b past e)
    (run : LeavesOnly b new_b (TornFrom (64 + at) n b.now)) (on : GoesOnTelling b new_b) where
  idle_a : LeavesOnly a a a.now
  idle_a = started law_a (λ x now. now)

  -- only the second one is
  pub ended_second_alone : HasEnded a b a new_b OnlySecond past e one two at n
  ended_second_alone = record {
    is_pair = ((λ is. cc is), (λ is. cc is));
    stands = record {
      pair = λ _. pair_on pair idle_a run (λ x now. pair.first_told x (now_from_a past law_a law_b pair.rising x now)) (λ y t. pair.second_told t.old (now_from_b past law_a law_b pair.rising t.old t.was)) (λ told. told) on (started law_a (λ x now. pair.first_header x (now_from_a past law_a law_b pair.rising x now))) (weakened run (λ y t. header_torn at n (λ y now. pair.second_header y (now_from_b past law_a law_b pair.rising y now)) t));
      both = λ is. absurd (cc is);
      first = λ is. absurd (cc is);
      second = λ _. record {
        first = λ x from. ⊎_elim (leads.first x) (λ (now : a.now x). leads.first x (now_from_a past law_a law_b pair.rising x now)) (from_a a b a new_b past pair.rising idle_a x from);
        second = λ y now. let t = at_end law_b' run y now in let more = leads.second t.old t.was in omega (arith, more, epoch_of_torn at n t);
      };
    };
    elapses = λ f g m. elapses_pair past f g m law_a law_b law_a law_b' pair.rising idle_a run (meets_second law_a law_b pair at n e leads);
  }

pub none_torn : {images : List ℕ → Type 0} (c : List ℕ) → TornFrom 0 0 images c → images c
none_torn {images = images} c t = subst images (sym t.torn.after) t.was

-- What a mirror is at its first moment: two sides that are settled, with headers of the same epoch and the same bytes after them.
pub first_pair : (a b : DiskState) → IsLawful a → IsLawful b → b.size ≡ a.size → 64 ≤ a.size → IsSettled a → IsSettled b → ((x : List ℕ) → a.now x → IsHeader x) → ((y : List ℕ) → b.now y → IsHeader y) → ArePair a b []
first_pair a b law_a law_b sizes room settled_a settled_b header_a header_b = record {
  first_header = λ x from. header_a x (law_a.only_now x from);
  second_header = λ y from. header_b y (law_b.only_now y from);
  sizes = sizes;
  room = room;
  rising = rising_first (a.clock, b.clock);
  first_told = λ x from none. let is = settled_a x (law_a.only_now x from) in absurd (cc (none, is));
  second_told = λ y from none. let is = settled_b y (law_b.only_now y from) in absurd (cc (none, is));
}

-- where both sides are settled and in use, so is the mirror
pub settled_both : (a b : DiskState) (past : List (ℕ × ℕ)) (f m : ℕ) → IsSettled a → IsSettled b → IsSettled (mirrored a b past f m)
settled_both a b past f m one two c image =
    (λ i. chosen_told (one image.first image.of_first i) (two image.second image.of_second i)) ∙ ap Some (sym image.is)

-- where only the first side is in use, and it is settled
pub settled_first : (a b : DiskState) (past : List (ℕ × ℕ)) (f m e : ℕ) → IsLawful a → IsLawful b → ArePair a b past → FirstLeads a b past e → IsSettled a → IsSettled (mirrored a b past f m)
settled_first a b past f m e law_a law_b pair leads one c image =
    let told = some_told b.contents (pair.second_told image.second (now_from_b past law_a law_b pair.rising image.second image.of_second)) in
    let here = law_b.reads_as_image told.0 told.1 in
    let x = leads.first image.first (now_from_a past law_a law_b pair.rising image.first image.of_first) in
    let y = leads.second image.second (now_from_b past law_a law_b pair.rising image.second image.of_second) in
    let z = leads.second told.0 (now_from_b past law_a law_b pair.rising told.0 here) in
    (λ i. chosen_told (one image.first image.of_first i) (told.1 i)) ∙ ap Some (chosen_first image.first told.0 (omega (arith, x, z)) ∙ sym (chosen_first image.first image.second (omega (arith, x, y))) ∙ sym image.is)

-- where only the second one is
pub settled_second : (a b : DiskState) (past : List (ℕ × ℕ)) (f m e : ℕ) → IsLawful a → IsLawful b → ArePair a b past → SecondLeads a b past e → IsSettled b → IsSettled (mirrored a b past f m)
settled_second a b past f m e law_a law_b pair leads two c image =
    let told = some_told a.contents (pair.first_told image.first (now_from_a past law_a law_b pair.rising image.first image.of_first)) in
    let here = law_a.reads_as_image told.0 told.1 in
    let x = leads.first image.first (now_from_a past law_a law_b pair.rising image.first image.of_first) in
    let z = leads.first told.0 (now_from_a past law_a law_b pair.rising told.0 here) in
    let y = leads.second image.second image.of_second in
    (λ i. chosen_told (told.1 i) (two image.second image.of_second i)) ∙ ap Some (chosen_second told.0 image.second (omega (arith, y, z)) ∙ sym (chosen_second image.first image.second (omega (arith, x, y))) ∙ sym image.is)

none_of : {u v : Used} → (u ≡ Plain) ⊎ ((u ≡ Broken) ⊎ (u ≡ Unbound)) → Plain ≢ v → Broken ≢ v → Unbound ≢ v → u ≢ v
none_of {u = u} out plain broken unbound is =
    ⊎_elim (λ (e : u ≡ Plain). plain (sym e ∙ is)) (⊎_elim (λ (e : u ≡ Broken). broken (sym e ∙ is)) (λ (e : u ≡ Unbound). unbound (sym e ∙ is))) out

-- no side is asked
pub ended_idle : {a b : DiskState} (used : Used) (past : List (ℕ × ℕ)) (e : ℕ) (one two : Slot) (at n : ℕ) → IsLawful a → IsLawful b → IsPair used → (used ≡ Plain) ⊎ ((used ≡ Broken) ⊎ (used ≡ Unbound)) → ArePair a b past
    → HasEnded a b a b used past e one two at n
ended_idle {a = a} {b = b} used past e one two at n law_a law_b is_pair out pair =
    let idle_a : LeavesOnly a a a.now = started law_a (λ x now. now) in
    let idle_b : LeavesOnly b b b.now = started law_b (λ y now. now) in
    record {
      is_pair = is_pair;
      stands = record {
        pair = λ _. pair_on pair idle_a idle_b (λ x now. pair.first_told x (now_from_a past law_a law_b pair.rising x now)) (λ y now. pair.second_told y (now_from_b past law_a law_b pair.rising y now)) (λ told. told) (λ told. told) (started law_a (λ x now. pair.first_header x (now_from_a past law_a law_b pair.rising x now))) (started law_b (λ y now. pair.second_header y (now_from_b past law_a law_b pair.rising y now)));
        both = λ is. absurd (none_of out (λ e. cc e) (λ e. cc e) (λ e. cc e) is);
        first = λ is. absurd (none_of out (λ e. cc e) (λ e. cc e) (λ e. cc e) is);
        second = λ is. absurd (none_of out (λ e. cc e) (λ e. cc e) (λ e. cc e) is);
      };
      elapses = λ f g m. elapses_pair past f g m law_a law_b law_a law_b pair.rising idle_a idle_b (record {
        both = λ x y p q. torn_from_old at n (chosen x y) (record { first = x; second = y; of_first = p; of_second = q; is = refl });
        first_before = λ x y old q. inr (y, q, refl);
        second_before = λ x y p old. inr (x, p, refl);
      });
    }
