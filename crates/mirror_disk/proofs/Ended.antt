-- How a call on both sides ends.
use Rattle.mirror_disk.proofs.{Words.{◌≡◌, ◌≢◌, inl, ⊎_elim, ℕ, ◌+◌, ◌≤◌, Bool, true, List, ◌∷◌, take, Some, None, sym, ◌∙◌, arith, DiskState, IsLawful, TornFrom, TellsTorn, LeavesOnly, take-torn, at_end, weakened, Slot, Both, Broken, BothAsked, HasEnded, IsHeader, epoch, slot_epoch, IsMarked, KeepsBody, place, ArePair, AreBoth, FromA, FromB}, Calls.elapses_pair, Epochs.slot-torn, Stands.{header_torn, GoesOnTelling, epoch_of_torn, from_a, from_b, meets_both, now_from_a, now_from_b, pair_on, some_told}}

-- a disk that fails in a write, or does it, goes on telling
pub tells_on : {old new : DiskState} {k n : ℕ} → TellsTorn k n old new → GoesOnTelling old new
tells_on {old = old} tells told none = let c = some_told old.contents told in let d = tells.told c.0 c.1 in absurd (cc (none, d.1))

pub keeps_on : {old new : DiskState} → KeepsBody old new → GoesOnTelling old new
keeps_on {old = old} keeps told none = let c = some_told old.contents told in let d = keeps.told c.0 c.1 in absurd (cc (none, d.1))

below : (s : Slot) → place s + 16 ≤ 64
below s = grind arith

-- a side that was called has its mark yet
pub marked_on : {d new : DiskState} (s : Slot) (e at n : ℕ) → IsLawful d → IsLawful new → ((x : List ℕ) → d.now x → epoch x ≡ e) → ((x : List ℕ) → d.now x → slot_epoch (place s) x ≡ e)
    → ((x c : List ℕ) → d.now x → d.contents ≡ Some c → take 64 x ≡ take 64 c) → ((x : List ℕ) → d.now x → d.contents ≢ None) → ((x : List ℕ) → d.now x → IsHeader x) → GoesOnTelling d new → LeavesOnly d new (TornFrom (64 + at) n d.now) → IsMarked s e new
marked_on {d = d} {new = new} s e at n laws laws' epochs slots fronts told headers on run = record {
  each = λ x now. let t = at_end laws' run x now in record { epoch_is = epoch_of_torn at n t ∙ epochs t.old t.was; slot_is = slot-torn t.torn (place s) (inl (omega (arith, below s))) ∙ slots t.old t.was; header = header_torn at n headers t };
  fronts = λ x c now is.
      let t = at_end laws' run x now in
      let u = at_end laws' run c (laws'.reads_as_image c is) in
      let k = some_told d.contents (told t.old t.was) in
      take-torn t.torn 64 (omega arith) ∙ fronts t.old k.0 t.was k.1 ∙ sym (fronts u.old k.0 u.was k.1) ∙ sym (take-torn u.torn 64 (omega arith));
  told = λ x now. let t = at_end laws' run x now in some_told new.contents (on (told t.old t.was));
}

module _ {a b new_a new_b : DiskState} (past : List (ℕ × ℕ)) (e : ℕ) (one two : Slot) (at n : ℕ) (law_a : IsLawful a) (law_b : IsLawful b) (law_a' : IsLawful new_a) (law_b' : IsLawful new_b) {p q : Bool}
    (asked : BothAsked a b new_a new_b past e one two at n p q) where
  pub from_now_a : (x : List ℕ) → a.now x → FromA a b past x
  from_now_a = now_from_a past law_a law_b asked.pair.rising

  pub from_now_b : (y : List ℕ) → b.now y → FromB a b past y
  from_now_b = now_from_b past law_a law_b asked.pair.rising

  headed_a : (x : List ℕ) → a.now x → IsHeader x
  headed_a x now = asked.pair.first_header x (from_now_a x now)

  headed_b : (y : List ℕ) → b.now y → IsHeader y
  headed_b y now = asked.pair.second_header y (from_now_b y now)

  -- each image has a header yet
  pub heads_a : LeavesOnly a new_a IsHeader
  heads_a = weakened asked.run_a (λ x t. header_torn at n headed_a t)

  pub heads_b : LeavesOnly b new_b IsHeader
  heads_b = weakened asked.run_b (λ y t. header_torn at n headed_b t)

  pub mark_a : IsMarked one e new_a
  mark_a = marked_on one e at n law_a law_a' (λ x now. asked.both.first x (from_now_a x now)) asked.both.first_slot asked.both.first_front (λ x now. asked.pair.first_told x (from_now_a x now)) headed_a (tells_on asked.told_a) asked.run_a

  pub mark_b : IsMarked two e new_b
  mark_b = marked_on two e at n law_b law_b' (λ y now. asked.both.second y (from_now_b y now)) asked.both.second_slot asked.both.second_front (λ y now. asked.pair.second_told y (from_now_b y now)) headed_b (tells_on asked.told_b) asked.run_b

  pair_after : ArePair new_a new_b ((a.clock, b.clock) ∷ past)
  pair_after = pair_on asked.pair asked.run_a asked.run_b (λ x t. asked.pair.first_told t.old (from_now_a t.old t.was)) (λ y t. asked.pair.second_told t.old (from_now_b t.old t.was)) (tells_on asked.told_a) (tells_on asked.told_b) heads_a heads_b

  pub both_after : p ≡ true → q ≡ true → AreBoth new_a new_b ((a.clock, b.clock) ∷ past) e one two
  both_after is_p is_q = record {
    first = λ x from. ⊎_elim (asked.both.first x) (λ (t : TornFrom (64 + at) n a.now x). epoch_of_torn at n t ∙ asked.both.first t.old (from_now_a t.old t.was)) (from_a a b new_a new_b past asked.pair.rising asked.run_a x from);
    second = λ y from. ⊎_elim (asked.both.second y) (λ (t : TornFrom (64 + at) n b.now y). epoch_of_torn at n t ∙ asked.both.second t.old (from_now_b t.old t.was)) (from_b a b new_a new_b past asked.pair.rising asked.run_b y from);
    first_slot = λ x now. (mark_a.each x now).slot_is;
    second_slot = λ y now. (mark_b.each y now).slot_is;
    first_front = λ x c now is. mark_a.fronts x c now is;
    second_front = λ y c now is. mark_b.fronts y c now is;
    agree = asked.agree is_p is_q;
  }

  -- both did it
  pub ended_both : p ≡ true → q ≡ true → HasEnded a b new_a new_b Both past e one two at n
  ended_both is_p is_q = record {
    is_pair = ((λ is. cc is), (λ is. cc is));
    stands = record { pair = λ _. pair_after; both = λ _. both_after is_p is_q; first = λ is. absurd (cc is); second = λ is. absurd (cc is) };
    elapses = λ f g m. elapses_pair past f g m law_a law_b law_a' law_b' asked.pair.rising asked.run_a asked.run_b (meets_both law_a law_b asked.pair at n e one two asked.both);
  }

  -- none did it
  pub ended_none : HasEnded a b new_a new_b Broken past e one two at n
  ended_none = record {
    is_pair = ((λ is. cc is), (λ is. cc is));
    stands = record { pair = λ _. pair_after; both = λ is. absurd (cc is); first = λ is. absurd (cc is); second = λ is. absurd (cc is) };
    elapses = λ f g m. elapses_pair past f g m law_a law_b law_a' law_b' asked.pair.rising asked.run_a asked.run_b (meets_both law_a law_b asked.pair at n e one two asked.both);
  }
