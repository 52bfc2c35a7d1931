-- What a call does to a mirror, by the sides that it asks.
use Rattle.mirror_disk.proofs.{Words.{◌≡◌, ◌≢◌, ◌⊎◌, inl, inr, ⊎_elim, ℕ, ◌+◌, ◌<◌, ◌≤◌, List, ◌∷◌, Option, Some, None, sym, ◌∙◌, subst, arith, DiskState, IsLawful, Torn, TornFrom, LeavesOnly, Slot, IsHeader, body, epoch, at_before, at_most, rising_more, ChosenOf, IsRising, ArePair, AreBoth, FirstLeads, SecondLeads, FromA, FromB}, Calls.Meet, Epochs.{chosen_first, chosen_second, epoch-torn}, Headers.header_behind, Meets.{Some_a, Some_b, meet_first, meet_over, meet_second, torn_body}}

-- what is not untold is told
pub some_told : (o : Option (List ℕ)) → o ≢ None → (c : List ℕ) × (o ≡ Some c)
some_told o not = grind arith

module _ {a b : DiskState} (past : List (ℕ × ℕ)) (one : IsLawful a) (two : IsLawful b) (rising : IsRising past (a.clock, b.clock)) where
  -- an image of now is one since the first moment
  pub now_from_a : (x : List ℕ) → a.now x → FromA a b past x
  now_from_a x now = one.counts_now _ x (at_most past (a.clock, b.clock) rising 0).0 now

  pub now_from_b : (y : List ℕ) → b.now y → FromB a b past y
  now_from_b y now = two.counts_now _ y (at_most past (a.clock, b.clock) rising 0).1 now

-- a side that was left out lags, at each image of now
pub second_behind : {a b : DiskState} {past : List (ℕ × ℕ)} {e : ℕ} → IsLawful a → IsLawful b → ArePair a b past → FirstLeads a b past e → (x y : List ℕ) → a.now x → b.now y → epoch y < epoch x
second_behind {past = past} one two pair leads x y here there = let more = leads.raised x here in let less = leads.second y (now_from_b past one two pair.rising y there) in omega (arith, more, less)

pub first_behind : {a b : DiskState} {past : List (ℕ × ℕ)} {e : ℕ} → IsLawful a → IsLawful b → ArePair a b past → SecondLeads a b past e → (x y : List ℕ) → a.now x → b.now y → epoch x < epoch y
first_behind {past = past} one two pair leads x y here there = let more = leads.second y there in let less = leads.first x (now_from_a past one two pair.rising x here) in omega (arith, more, less)

-- an image since the first moment is one from before a call or of the call
pub from_a : (a b new_a new_b : DiskState) (past : List (ℕ × ℕ)) {P : List ℕ → Type 0} → IsRising past (a.clock, b.clock) → LeavesOnly a new_a P → (x : List ℕ) → FromA new_a new_b ((a.clock, b.clock) ∷ past) x → FromA a b past x ⊎ P x
from_a a b new_a new_b past rising run x from =
    run.before _ x (at_most past (a.clock, b.clock) rising 0).0 (subst (λ (m : ℕ × ℕ). new_a.left m.0 x) (at_before past (a.clock, b.clock) (new_a.clock, new_b.clock) 0 (omega arith)) from)

pub from_b : (a b new_a new_b : DiskState) (past : List (ℕ × ℕ)) {Q : List ℕ → Type 0} → IsRising past (a.clock, b.clock) → LeavesOnly b new_b Q → (y : List ℕ) → FromB new_a new_b ((a.clock, b.clock) ∷ past) y → FromB a b past y ⊎ Q y
from_b a b new_a new_b past rising run y from =
    run.before _ y (at_most past (a.clock, b.clock) rising 0).1 (subst (λ (m : ℕ × ℕ). new_b.left m.1 y) (at_before past (a.clock, b.clock) (new_a.clock, new_b.clock) 0 (omega arith)) from)

-- a side that told its bytes goes on telling them
abbrev pub GoesOnTelling : DiskState → DiskState → Type 0
GoesOnTelling old new = old.contents ≢ None → new.contents ≢ None

-- the pair stays one
pub pair_on : {a b new_a new_b : DiskState} {past : List (ℕ × ℕ)} {P Q : List ℕ → Type 0} → ArePair a b past → LeavesOnly a new_a P → LeavesOnly b new_b Q
    → ((x : List ℕ) → P x → a.contents ≢ None) → ((y : List ℕ) → Q y → b.contents ≢ None) → GoesOnTelling a new_a → GoesOnTelling b new_b → LeavesOnly a new_a IsHeader → LeavesOnly b new_b IsHeader → ArePair new_a new_b ((a.clock, b.clock) ∷ past)
pair_on {a = a} {b = b} {new_a = new_a} {new_b = new_b} {past = past} pair run_a run_b told_p told_q on_a on_b heads_a heads_b = record {
  first_header = λ x from. ⊎_elim (pair.first_header x) (λ is. is) (from_a a b new_a new_b past pair.rising heads_a x from);
  second_header = λ y from. ⊎_elim (pair.second_header y) (λ is. is) (from_b a b new_a new_b past pair.rising heads_b y from);
  sizes = run_b.same_size ∙ pair.sizes ∙ sym run_a.same_size;
  room = omega (arith, pair.room, run_a.same_size);
  rising = rising_more past (a.clock, b.clock) (new_a.clock, new_b.clock) pair.rising run_a.later run_b.later;
  first_told = λ x from. on_a (⊎_elim (pair.first_told x) (told_p x) (from_a a b new_a new_b past pair.rising run_a x from));
  second_told = λ y from. on_b (⊎_elim (pair.second_told y) (told_q y) (from_b a b new_a new_b past pair.rising run_b y from));
}

-- a torn image of a call after the header has the epoch of one from before it
pub epoch_of_torn : (at n : ℕ) {images : List ℕ → Type 0} {x : List ℕ} (t : TornFrom (64 + at) n images x) → epoch x ≡ epoch t.old
epoch_of_torn at n t = epoch-torn t.torn (omega arith)

-- and has a header
pub header_torn : (at n : ℕ) {images : List ℕ → Type 0} {x : List ℕ} → ((y : List ℕ) → images y → IsHeader y) → TornFrom (64 + at) n images x → IsHeader x
header_torn at n headers t = header_behind (headers t.old t.was) t.torn (omega arith) (epoch_of_torn at n t)

module _ {a b : DiskState} {past : List (ℕ × ℕ)} (one : IsLawful a) (two : IsLawful b) (pair : ArePair a b past) (at n e : ℕ) where
  abbrev TornA : List ℕ → Type 0
  TornA = TornFrom (64 + at) n a.now

  abbrev TornB : List ℕ → Type 0
  TornB = TornFrom (64 + at) n b.now

  abbrev Images : List ℕ → Type 0
  Images = TornFrom at n (ChosenOf a.now b.now)

  told_a : (x : List ℕ) → a.now x → a.contents ≢ None
  told_a x now = pair.first_told x (now_from_a past one two pair.rising x now)

  told_b : (y : List ℕ) → b.now y → b.contents ≢ None
  told_b y now = pair.second_told y (now_from_b past one two pair.rising y now)

  -- there is an image of the second side now
  some_b : ((y : List ℕ) → FromB a b past y → epoch y ≤ e) → b.contents ≢ None → Some_b b e
  some_b le told = let c = some_told b.contents told in let now = two.reads_as_image c.0 c.1 in (c.0, now, le c.0 (now_from_b past one two pair.rising c.0 now))

  some_a : a.contents ≢ None → Some_a a
  some_a told = let c = some_told a.contents told in (c.0, one.reads_as_image c.0 c.1)

  image_first : ((x : List ℕ) → FromA a b past x → e ≤ epoch x) → (x z : List ℕ) → TornA x → b.now z → epoch z ≤ e → Images (body x)
  image_first leads x z t now le = record {
    old = body t.old;
    was = record { first = t.old; second = z; of_first = t.was; of_second = now; is = sym (chosen_first t.old z (let more = leads t.old (now_from_a past one two pair.rising t.old t.was) in omega (arith, more, le))) };
    torn = torn_body at n t.torn;
  }

  image_second : ((x : List ℕ) → FromA a b past x → epoch x ≤ e) → ((y : List ℕ) → b.now y → e < epoch y) → (z y : List ℕ) → a.now z → TornB y → Images (body y)
  image_second firsts seconds z y now t = record {
    old = body t.old;
    was = record { first = z; second = t.old; of_first = now; of_second = t.was; is = sym (chosen_second z t.old (let less = firsts z (now_from_a past one two pair.rising z now) in let more = seconds t.old t.was in omega (arith, less, more))) };
    torn = torn_body at n t.torn;
  }

  -- only the first side is asked
  pub meets_first : FirstLeads a b past e → Meet a b past TornA b.now Images
  meets_first leads = meet_first a b past e leads.first
      (λ y from. (leads.second y from, some_b leads.second (pair.second_told y from)))
      (λ x t. let more = leads.first t.old (now_from_a past one two pair.rising t.old t.was) in omega (arith, more, epoch_of_torn at n t))
      (λ y now. (leads.second y (now_from_b past one two pair.rising y now), some_b leads.second (told_b y now)))
      (image_first leads.first)

  -- only the second one is
  pub meets_second : SecondLeads a b past e → Meet a b past a.now TornB Images
  meets_second leads = meet_second a b past e
      (λ x from. (leads.first x from, some_a (pair.first_told x from)))
      (λ x now. (now, leads.first x (now_from_a past one two pair.rising x now)))
      (λ y t. let more = leads.second t.old t.was in omega (arith, more, epoch_of_torn at n t))
      (image_second leads.first leads.second)

  -- both are
  pub meets_both : (s t : Slot) → AreBoth a b past e s t → Meet a b past TornA TornB Images
  meets_both s t both =
      let firsts : (x : List ℕ) → FromA a b past x → e ≤ epoch x = λ x from. (let is = both.first x from in omega (arith, is)) in
      let seconds : (y : List ℕ) → FromB a b past y → epoch y ≤ e = λ y from. (let is = both.second y from in omega (arith, is)) in
      meet_first a b past e firsts
      (λ y from. (seconds y from, some_b seconds (pair.second_told y from)))
      (λ x t. let more = firsts t.old (now_from_a past one two pair.rising t.old t.was) in omega (arith, more, epoch_of_torn at n t))
      (λ y t. let less = seconds t.old (now_from_b past one two pair.rising t.old t.was) in (omega (arith, less, epoch_of_torn at n t), some_b seconds (told_b t.old t.was)))
      (image_first firsts)

  -- an image of a side that is called and raised: its mirrored bytes are those of a torn one
  pub record Over (images : List ℕ → Type 0) (x : List ℕ) : Type 0 where
    pub header : IsHeader x
    pub most : e ≤ epoch x
    pub was : List ℕ
    pub is_torn : TornFrom (64 + at) n images was
    pub same : body x ≡ body was

  -- the second side is left out: the first one is raised after the call
  pub meets_left : (s t : Slot) → AreBoth a b past e s t → Meet a b past (Over a.now) TornB Images
  meets_left s t both =
      let firsts : (x : List ℕ) → FromA a b past x → e ≤ epoch x = λ x from. (let is = both.first x from in omega (arith, is)) in
      let seconds : (y : List ℕ) → FromB a b past y → epoch y ≤ e = λ y from. (let is = both.second y from in omega (arith, is)) in
      meet_first a b past e firsts
      (λ y from. (seconds y from, some_b seconds (pair.second_told y from)))
      (λ x over. over.most)
      (λ y t. let less = seconds t.old (now_from_b past one two pair.rising t.old t.was) in (omega (arith, less, epoch_of_torn at n t), some_b seconds (told_b t.old t.was)))
      (λ x z over now le. subst Images (sym over.same) (image_first firsts over.was z over.is_torn now le))

  -- the first side is left out: the second one is raised after the call, from what it tells then
  pub meets_over : (s t : Slot) → AreBoth a b past e s t → (mid : DiskState) → ((c : List ℕ) → mid.contents ≡ Some c → (d : List ℕ) × (b.contents ≡ Some d) × Torn (64 + at) n d c)
      → Meet a b past TornA (λ y. (TornB y) ⊎ (((epoch y ≡ e) × b.contents ≢ None) ⊎ ((epoch y ≡ e + 1) × ((c : List ℕ) × (mid.contents ≡ Some c) × (body y ≡ body c))))) Images
  meets_over s t both mid from_told =
      let firsts : (x : List ℕ) → FromA a b past x → e ≤ epoch x = λ x from. (let is = both.first x from in omega (arith, is)) in
      let seconds : (y : List ℕ) → FromB a b past y → epoch y ≤ e = λ y from. (let is = both.second y from in omega (arith, is)) in
      meet_over a b past e
      (λ x from. (both.first x from, some_a (pair.first_told x from)))
      (λ y from. (both.second y from, some_b seconds (pair.second_told y from)))
      (λ x t. (epoch_of_torn at n t ∙ both.first t.old (now_from_a past one two pair.rising t.old t.was), some_a (told_a t.old t.was)))
      (λ y q. some_b seconds (⊎_elim (λ (t : TornB y). told_b t.old t.was) (⊎_elim (λ (k : (epoch y ≡ e) × b.contents ≢ None). k.1) (λ (k : (epoch y ≡ e + 1) × ((c : List ℕ) × (mid.contents ≡ Some c) × (body y ≡ body c))). let d = from_told k.1.0 k.1.1 in λ none. absurd (cc (none, d.1)))) q))
      (λ z y now q. ⊎_elim
      (λ (t : TornB y). inl (epoch_of_torn at n t ∙ both.second t.old (now_from_b past one two pair.rising t.old t.was)))
      (⊎_elim
      (λ (k : (epoch y ≡ e) × b.contents ≢ None). inl k.0)
      (λ (k : (epoch y ≡ e + 1) × ((c : List ℕ) × (mid.contents ≡ Some c) × (body y ≡ body c))). inr (omega (arith, k.0), raised z y now k)))
      q)
      (image_first firsts)
    where
      raised : (z y : List ℕ) → a.now z → (epoch y ≡ e + 1) × ((c : List ℕ) × (mid.contents ≡ Some c) × (body y ≡ body c)) → Images (body y)
      raised z y now k =
          let d = from_told k.1.0 k.1.1 in
          let c = some_told a.contents (told_a z now) in
          let here = two.reads_as_image d.0 d.1 in
          let there = one.reads_as_image c.0 c.1 in
          let same : body c.0 ≡ body d.0 = both.agree c.0 d.0 c.1 d.1 in
          let less : epoch d.0 ≤ epoch c.0 = (let p = both.first c.0 (now_from_a past one two pair.rising c.0 there) in let q = both.second d.0 (now_from_b past one two pair.rising d.0 here) in omega (arith, p, q)) in
          record {
            old = body d.0;
            was = record { first = c.0; second = d.0; of_first = there; of_second = here; is = sym same ∙ sym (chosen_first c.0 d.0 less) };
            torn = subst (λ (l : List ℕ). Torn at n (body d.0) l) (sym k.1.2) (torn_body at n d.2);
          }
