-- What is known of two sides that were adopted.
use Rattle.mirror_disk.proofs.{Words.{◌≡◌, ◌≢◌, ◌⊎◌, inl, inr, ⊎_elim, ℕ, ◌+◌, ◌<◌, ◌≤◌, List, [], take, Option, Some, None, refl, sym, ◌∙◌, ap, subst, arith, IfSome, same_Some, cases_lt, DiskState, IsLawful, IsSettled, LeavesOnly, WritesNothing, at_end, joined_unwritten, Rose, Mark, Slot, Both, OnlyFirst, OnlySecond, FailsByChoice, AdoptsFrom, AreAlike, LeavesAlike, OfChosen, OfOther, TellsOn, IsHeader, body, chosen, epoch, last_epoch, rising_first, ChosenOf, chosen_told, HasEpoch, KeepsBody, other, ArePair, AreBoth, FirstLeads, SecondLeads, Stands, HasMark, ShowsHeader, TellsNoHeader}, Choosing.{adopts_first, adopts_second}, Done.rose_behind, Ended.keeps_on, Epochs.{chosen_first, chosen_second}, Stands.some_told}

pub body_tells : {old new : DiskState} → KeepsBody old new → TellsOn old new
body_tells keeps = record { told = keeps_on keeps; untold = keeps.untold }

-- the two sides, once they were run
pub pair_of : {a b new_a new_b : DiskState} {P Q : List ℕ → Type 0} → IsLawful new_a → IsLawful new_b → b.size ≡ a.size → 64 ≤ a.size → LeavesOnly a new_a P → LeavesOnly b new_b Q
    → ((x : List ℕ) → P x → IsHeader x × (a.contents ≢ None)) → ((y : List ℕ) → Q y → IsHeader y × (b.contents ≢ None)) → TellsOn a new_a → TellsOn b new_b → ArePair new_a new_b []
pair_of {new_a = new_a} {new_b = new_b} law_a law_b sizes room run_a run_b is_p is_q tells_a tells_b = record {
  sizes = run_b.same_size ∙ sizes ∙ sym run_a.same_size;
  room = omega (arith, room, run_a.same_size);
  rising = rising_first (new_a.clock, new_b.clock);
  first_header = λ x from. (is_p x (at_end law_a run_a x (law_a.only_now x from))).0;
  second_header = λ y from. (is_q y (at_end law_b run_b y (law_b.only_now y from))).0;
  first_told = λ x from. tells_a.told (is_p x (at_end law_a run_a x (law_a.only_now x from))).1;
  second_told = λ y from. tells_b.told (is_q y (at_end law_b run_b y (law_b.only_now y from))).1;
}

front_of : (d : DiskState) → IsSettled d → (x c : List ℕ) → d.now x → d.contents ≡ Some c → take 64 x ≡ take 64 c
front_of d settled x c now is = ap (take 64) (same_Some x c (sym (settled x now) ∙ is))

-- both are in use
pub both_alike : (a b : DiskState) (e : ℕ) (one two : Slot) → IsLawful a → IsLawful b → IsSettled a → AreAlike a b e one two → AreBoth a b [] e one two
both_alike a b e one two law_a law_b settled alike = record {
  first = λ x from. (alike.first x (law_a.only_now x from)).epoch_is;
  second = λ y from. (alike.second y (law_b.only_now y from)).epoch_is;
  first_slot = λ x now. (alike.first x now).slot_is;
  second_slot = λ y now. (alike.second y now).slot_is;
  first_front = front_of a settled;
  second_front = front_of b alike.settled;
  agree = alike.agree;
}

-- the same where the second side was chosen
pub alike_turned : {a b : DiskState} {e : ℕ} {one two : Slot} → IsSettled b → AreAlike b a e two one → AreAlike a b e one two
alike_turned settled alike = record { first = alike.second; second = alike.first; settled = settled; agree = λ x y told told'. sym (alike.agree y x told' told) }

pub stands_both : {a b : DiskState} {e : ℕ} {one two : Slot} → ArePair a b [] → AreBoth a b [] e one two → Stands a b Both [] e one two
stands_both pair both = record { pair = λ _. pair; both = λ _. both; first = λ is. absurd (cc is); second = λ is. absurd (cc is) }

pub stands_first : {a b : DiskState} {e : ℕ} (one two : Slot) → ArePair a b [] → FirstLeads a b [] e → Stands a b OnlyFirst [] e one two
stands_first one two pair leads = record { pair = λ _. pair; both = λ is. absurd (cc is); first = λ _. leads; second = λ is. absurd (cc is) }

pub stands_second : {a b : DiskState} {e : ℕ} (one two : Slot) → ArePair a b [] → SecondLeads a b [] e → Stands a b OnlySecond [] e one two
stands_second one two pair leads = record { pair = λ _. pair; both = λ is. absurd (cc is); first = λ is. absurd (cc is); second = λ _. leads }

-- what two sides tell, where it is chosen as before
pub chosen_kept : (o p o' p' : Option (List ℕ)) → (o ≢ None → o' ≢ None) → (o ≡ None → o' ≡ None) → (p ≢ None → p' ≢ None) → (p ≡ None → p' ≡ None)
    → ((x y x' y' : List ℕ) → o ≡ Some x → p ≡ Some y → o' ≡ Some x' → p' ≡ Some y' → chosen x' y' ≡ chosen x y) → chosen_told o' p' ≡ chosen_told o p
chosen_kept (Some x) (Some y) o' p' told untold told' untold' same =
    let c = some_told o' (told (λ is. cc is)) in
    let d = some_told p' (told' (λ is. cc is)) in
    (λ i. chosen_told (c.1 i) (d.1 i)) ∙ ap Some (same x y c.0 d.0 refl refl c.1 d.1)
chosen_kept (Some x) None o' p' told untold told' untold' same = ap (chosen_told o') (untold' refl) ∙ no_second o'
  where
    no_second : (r : Option (List ℕ)) → chosen_told r None ≡ None
    no_second (Some x) = refl
    no_second None = refl
chosen_kept None p o' p' told untold told' untold' same = ap (λ (r : Option (List ℕ)). chosen_told r p') (untold refl)

-- a choice that is kept at each moment is kept in what is told
pub told_kept : (a b new_a new_b : DiskState) → IsLawful a → IsLawful b → IsLawful new_a → IsLawful new_b → a.clock ≤ new_a.clock → b.clock ≤ new_b.clock → TellsOn a new_a → TellsOn b new_b → IsSettled a → IsSettled b
    → ((x y : List ℕ) → new_a.left a.clock x → new_b.left b.clock y → ChosenOf a.now b.now (chosen x y)) → chosen_told new_a.contents new_b.contents ≡ chosen_told a.contents b.contents
told_kept a b new_a new_b law_a law_b law_a' law_b' later_a later_b tells_a tells_b settled_a settled_b kept =
    chosen_kept a.contents b.contents new_a.contents new_b.contents tells_a.told tells_a.untold tells_b.told tells_b.untold (λ x y x' y' is is' new new'.
    let k = kept x' y' (law_a'.counts_now a.clock x' later_a (law_a'.reads_as_image x' new)) (law_b'.counts_now b.clock y' later_b (law_b'.reads_as_image y' new')) in
    k.is ∙ (λ i. chosen (same_Some k.first x (sym (settled_a k.first k.of_first) ∙ is) i) (same_Some k.second y (sym (settled_b k.second k.of_second) ∙ is') i)))

module _ (a b new_a new_b : DiskState) (e low : ℕ) (one two : Slot) (law_a : IsLawful a) (law_b : IsLawful b) (law_a' : IsLawful new_a) (law_b' : IsLawful new_b) where
  -- the first side was chosen
  pub first_kept : low ≤ e → ((x : List ℕ) → a.now x → HasEpoch one e x) → ((y : List ℕ) → b.now y → HasEpoch two low y) → LeavesOnly a new_a (OfChosen e a) → LeavesOnly b new_b (OfOther low e a b)
      → (x y : List ℕ) → new_a.left a.clock x → new_b.left b.clock y → ChosenOf a.now b.now (chosen x y)
  first_kept le marks_a marks_b run_a run_b x y left left' =
      let p = run_a.each x left in
      let q = run_b.each y left' in
      let c = some_told a.contents p.told in
      let d = some_told b.contents q.told in
      let here = law_a.reads_as_image c.0 c.1 in
      let there = law_b.reads_as_image d.0 d.1 in
      let most : epoch y ≤ e = ⊎_elim (λ (k : epoch y ≤ low). (let is : epoch y ≤ e = omega (arith, k, le) in is)) (λ (k : (epoch y ≡ e) × ((d : List ℕ) → a.contents ≡ Some d → body y ≡ body d)). (let is : epoch y ≤ e = omega (arith, k.0) in is)) q.either in
      record {
        first = c.0;
        second = d.0;
        of_first = here;
        of_second = there;
        is = adopts_first e c.0 x y p.most (p.same c.0 c.1) (inl most) ∙ sym (chosen_first c.0 d.0 (omega (arith, le, (marks_a c.0 here).epoch_is, (marks_b d.0 there).epoch_is)));
      }

  pub first_leads : low ≤ e → LeavesOnly a new_a (OfChosen e a) → LeavesOnly b new_b (OfOther low e a b) → ((x : List ℕ) → new_a.now x → HasEpoch (other one) (e + 1) x) → FirstLeads new_a new_b [] e
  first_leads le run_a run_b raised = record {
    raised = λ x now. omega (arith, (raised x now).epoch_is);
    first = λ x from. (at_end law_a' run_a x (law_a'.only_now x from)).most;
    second = λ y from.
        let q = at_end law_b' run_b y (law_b'.only_now y from) in
        ⊎_elim (λ (k : epoch y ≤ low). (let is : epoch y ≤ e = omega (arith, k, le) in is)) (λ (k : (epoch y ≡ e) × ((d : List ℕ) → a.contents ≡ Some d → body y ≡ body d)). (let is : epoch y ≤ e = omega (arith, k.0) in is)) q.either;
  }

  -- the second one was
  pub second_kept : low < e → ((x : List ℕ) → a.now x → HasEpoch one low x) → ((y : List ℕ) → b.now y → HasEpoch two e y) → LeavesOnly a new_a (OfOther low e b a) → LeavesOnly b new_b (OfChosen e b)
      → (x y : List ℕ) → new_a.left a.clock x → new_b.left b.clock y → ChosenOf a.now b.now (chosen x y)
  second_kept less marks_a marks_b run_a run_b x y left left' =
      let p = run_a.each x left in
      let q = run_b.each y left' in
      let c = some_told a.contents p.told in
      let d = some_told b.contents q.told in
      let here = law_a.reads_as_image c.0 c.1 in
      let there = law_b.reads_as_image d.0 d.1 in
      let either : (epoch x < e) ⊎ (body x ≡ body d.0) = ⊎_elim (λ (k : epoch x ≤ low). inl (omega (arith, k, less))) (λ (k : (epoch x ≡ e) × ((z : List ℕ) → b.contents ≡ Some z → body x ≡ body z)). inr (k.1 d.0 d.1)) p.either in
      record {
        first = c.0;
        second = d.0;
        of_first = here;
        of_second = there;
        is = adopts_second e d.0 x y q.most (q.same d.0 d.1) either ∙ sym (chosen_second c.0 d.0 (omega (arith, less, (marks_a c.0 here).epoch_is, (marks_b d.0 there).epoch_is)));
      }

  pub second_leads : low < e → LeavesOnly a new_a (OfOther low e b a) → ((y : List ℕ) → new_b.now y → HasEpoch (other two) (e + 1) y) → SecondLeads new_a new_b [] e
  second_leads less run_a raised = record {
    first = λ x from.
        let p = at_end law_a' run_a x (law_a'.only_now x from) in
        ⊎_elim (λ (k : epoch x ≤ low). (let is : epoch x ≤ e = omega (arith, k, less) in is)) (λ (k : (epoch x ≡ e) × ((d : List ℕ) → b.contents ≡ Some d → body x ≡ body d)). (let is : epoch x ≤ e = omega (arith, k.0) in is)) p.either;
    second = λ y now. omega (arith, (raised y now).epoch_is);
  }

-- the slot that was answered
pub alike_of : {a b : DiskState} {e : ℕ} {one : Slot} (o : Option Slot) (two : Slot) → o ≡ Some two → IfSome o (λ s. AreAlike a b e one s) → AreAlike a b e one two
alike_of {a = a} {b = b} {e = e} {one = one} (Some y) two is alike = subst (AreAlike a b e one) (same_Some y two is) alike
alike_of None two is alike = absurd (cc is)

-- an adopt that ended before its choice
pub ended_early : {a b mid_a mid_b : DiskState} → IsLawful mid_a → IsLawful mid_b → WritesNothing a mid_a → WritesNothing b mid_b → AdoptsFrom a b mid_a mid_b mid_a mid_b
ended_early law_a law_b still_a still_b = record {
  first_before = still_a;
  second_before = still_b;
  kept = λ x y left left'. record { first = x; second = y; of_first = law_a.only_now x left; of_second = law_b.only_now y left'; is = refl };
}

-- what a side told has a header, where that of its images was read
pub told_header : {a mid : DiskState} → IsLawful mid → WritesNothing a mid → (o : Option Mark) (m : Mark) → o ≡ Some m → IfSome o (λ k. (k.epoch ≤ last_epoch) × ((x : List ℕ) → mid.now x → HasEpoch k.slot k.epoch x)) → (c : List ℕ) → a.contents ≡ Some c → IsHeader c
told_header laws still (Some k) m is read c told = (read.1 c (laws.reads_as_image c (still.same_contents ∙ told))).header
told_header laws still None m is read c told = absurd (cc is)

-- a call failed after the choice, which was made by the epochs that were read
pub choice_fails : (a b mid_a mid_b new_a new_b : DiskState) (one two : Mark) → IsLawful mid_a → IsLawful mid_b → WritesNothing a mid_a → WritesNothing b mid_b
    → ((x : List ℕ) → mid_a.now x → HasEpoch one.slot one.epoch x) → ((y : List ℕ) → mid_b.now y → HasEpoch two.slot two.epoch y)
    → (two.epoch ≤ one.epoch → Rose mid_a.faults new_a.faults ⊎ ((last_epoch ≤ one.epoch) × Rose mid_b.faults new_b.faults))
    → (one.epoch < two.epoch → Rose mid_b.faults new_b.faults ⊎ ((last_epoch ≤ two.epoch) × Rose mid_a.faults new_a.faults)) → FailsByChoice a b mid_a mid_b new_a new_b
choice_fails a b mid_a mid_b new_a new_b one two law_a law_b still_a still_b marks_a marks_b first second = inr (λ x told y told'.
    let p : epoch x ≡ one.epoch = (marks_a x (law_a.reads_as_image x (still_a.same_contents ∙ told))).epoch_is in
    let q : epoch y ≡ two.epoch = (marks_b y (law_b.reads_as_image y (still_b.same_contents ∙ told'))).epoch_is in (
      λ le. subst (λ (e : ℕ). Rose mid_a.faults new_a.faults ⊎ ((last_epoch ≤ e) × Rose mid_b.faults new_b.faults)) (sym p) (first (omega (arith, le, p, q))),
      λ less. subst (λ (e : ℕ). Rose mid_b.faults new_b.faults ⊎ ((last_epoch ≤ e) × Rose mid_a.faults new_a.faults)) (sym q) (second (omega (arith, less, p, q))),
    ))

-- what was read of a header, where it is one
pub mark_of : (d : DiskState) (o : Option Mark) (m : Mark) → o ≡ Some m → IfSome o (λ k. (k.epoch ≤ last_epoch) × ((x : List ℕ) → d.now x → HasEpoch k.slot k.epoch x)) → (x : List ℕ) → d.now x → HasEpoch m.slot m.epoch x
mark_of d (Some k) m is read = subst (λ (n : Mark). (x : List ℕ) → d.now x → HasEpoch n.slot n.epoch x) (same_Some k m is) read.1
mark_of d None m is read = absurd (cc is)

-- sides that were only read before
pub alike_behind : {a b mid_a mid_b new_a new_b : DiskState} → IsLawful mid_a → IsLawful mid_b → WritesNothing a mid_a → WritesNothing b mid_b → b.faults ≤ mid_b.faults → LeavesAlike mid_a mid_b new_a new_b → LeavesAlike a b new_a new_b
alike_behind law_a law_b still_a still_b later leaves x y told told' same alike = elim (leaves x y (still_a.same_contents ∙ told) (still_b.same_contents ∙ told') same alike) [
  | inl rose ↦ inl (rose_behind _ _ _ later rose)
  | inr nothing ↦ inr (joined_unwritten law_a still_a nothing.0, joined_unwritten law_b still_b nothing.1)
]

-- what was read of a header is so of the side that is given as well, and of a side that was only read since
pub told_none : {a mid : DiskState} → WritesNothing a mid → TellsNoHeader mid → TellsNoHeader a
told_none still none x told = none x (still.same_contents ∙ told)

pub shows_behind : {d mid : DiskState} → IsLawful mid → WritesNothing d mid → (read : Option Mark) → ShowsHeader d read → ShowsHeader mid read
shows_behind laws still (Some m) shows = record {
  size = omega (arith, shows.size, still.moments.same_size);
  mark = (shows.mark.0, λ x now. shows.mark.1 x (at_end laws still.moments x now));
  none = λ is. absurd (cc is);
}
shows_behind laws still None shows = record { size = tt; mark = tt; none = λ is x told. shows.none is x (sym still.same_contents ∙ told) }

pub mark_read : (d : DiskState) (o : Option Mark) (m : Mark) → o ≡ Some m → IfSome o (HasMark d) → HasMark d m
mark_read d (Some k) m is read = subst (HasMark d) (same_Some k m is) read
mark_read d None m is read = absurd (cc is)

pub room_read : (n : ℕ) (o : Option Mark) (m : Mark) → o ≡ Some m → IfSome o (λ k. 64 ≤ n) → 64 ≤ n
room_read n (Some k) m is room = room
room_read n None m is room = absurd (cc is)

-- a side failed, whichever was chosen
pub either_failed : (a mid_a new_a b mid_b new_b one two : ℕ) → a ≤ mid_a → b ≤ mid_b → (two ≤ one → Rose mid_a new_a ⊎ ((last_epoch ≤ one) × Rose mid_b new_b)) → (one < two → Rose mid_b new_b ⊎ ((last_epoch ≤ two) × Rose mid_a new_a)) → Rose a new_a ⊎ Rose b new_b
either_failed a mid_a new_a b mid_b new_b one two later_a later_b first second = elim (cases_lt one two) [
  | inl less ↦ ⊎_elim (λ rose. inr (rose_behind b mid_b new_b later_b rose)) (λ (last : (last_epoch ≤ two) × Rose mid_a new_a). inl (rose_behind a mid_a new_a later_a last.1)) (second less)
  | inr le ↦ ⊎_elim (λ rose. inl (rose_behind a mid_a new_a later_a rose)) (λ (last : (last_epoch ≤ one) × Rose mid_b new_b). inr (rose_behind b mid_b new_b later_b last.1)) (first le)
]
