-- What a mirror tells after a call on its sides in use, and why the call failed.
use Rattle.mirror_disk.proofs.{Words.{◌≡◌, ◌≢◌, ◌⊎◌, inl, inr, ⊎_elim, ℕ, ◌+◌, ◌-◌, ◌≤◌, Bool, true, false, List, ◌∷◌, length, take, drop, Option, Some, Result, Ok, Err, OnOk, is_ok, refl, sym, ◌∙◌, ap, arith, slice_range, drop-drop, DiskState, IsLawful, IsSettled, Torn, TellsTorn, Splices, spliced, length-contents, HasCause, Rose, Slot, Becomes, MirrorBecomes, Used, Plain, Both, OnlyFirst, OnlySecond, Broken, Unbound, SideCalled, BothAsked, HasEnded, AllFailed, CannotLeave, HasFailed, HasLeft, LeavesFailed, body, chosen, both_tell, chosen_told, mirrored, KeepsBody, ArePair, AreBoth, FirstLeads, SecondLeads}, Alone.{settled_both, settled_first, settled_second}, Epochs.{chosen_first, chosen_second}, Stands.{now_from_a, now_from_b}, Telling.{becomes_raised, becomes_spliced, becomes_torn, told_alike, told_first, told_second}}

-- a call that was done, or was not
pub by_done : {T E P : Type 0} (r : Result T E) → is_ok r ≡ true → OnOk r P → P
by_done (Ok x) is p = p
by_done (Err e) is p = absurd (cc is)

pub rose_of : {T E : Type 0} {m n : ℕ} (r : Result T E) → is_ok r ≡ false → HasCause m n r → Rose m n
rose_of (Ok x) is cause = absurd (cc is)
rose_of (Err e) is cause = cause.failed refl

-- a count that rose and then did not fall, or first did not fall
pub rose_before : (l m n : ℕ) → Rose l m → m ≤ n → Rose l n
rose_before l m n rose le = omega (arith, rose, le)

pub rose_behind : (l m n : ℕ) → l ≤ m → Rose m n → Rose l n
rose_behind l m n le rose = omega (arith, rose, le)

-- a side that failed in the call, or in the raise after it
pub rose_in_all : {old mid : DiskState} {at n : ℕ} {turn : List ℕ → List ℕ} {p : Bool} (new : DiskState) → SideCalled at n turn old mid p → mid.faults ≤ new.faults → HasFailed p mid new → Rose old.faults new.faults
rose_in_all new side later failed = ⊎_elim (λ not. rose_before _ _ _ (side.failed not) later) (λ rose. rose_behind _ _ _ side.later rose) failed

module _ {a b mid_a mid_b new_a new_b : DiskState} {at n : ℕ} {turn : List ℕ → List ℕ} {used : Used} {e : ℕ} {p q : Bool} (first : SideCalled at n turn a mid_a p) (second : SideCalled at n turn b mid_b q) (left : HasLeft mid_a mid_b new_a new_b used e p q) where
  pub breaks : used ≡ Broken → AllFailed Both a.faults new_a.faults b.faults new_b.faults ⊎ CannotLeave Both e a.faults new_a.faults b.faults new_b.faults
  breaks is =
      let why = left.broken is in
      ⊎_elim
      (λ last. inr (refl, last, ⊎_elim (λ not. inl (rose_before _ _ _ (first.failed not) left.later_a)) (λ not. inr (rose_before _ _ _ (second.failed not) left.later_b)) why.0))
      (λ all. inl (rose_in_all new_a first left.later_a all.0, rose_in_all new_b second left.later_b all.1))
      why.1

  -- a side that was left out has failed
  pub leaves : LeavesFailed Both used a.faults new_a.faults b.faults new_b.faults
  leaves = record {
    first = λ _ is. rose_before _ _ _ (first.failed (left.first_failed is)) left.later_a;
    second = λ _ is. rose_before _ _ _ (second.failed (left.second_failed is)) left.later_b;
    stays = λ other. absurd (other refl);
  }

becomes_kept : {old new : DiskState} → KeepsBody old new → Becomes (λ c d. d ≡ c) old.contents new.contents
becomes_kept keeps = record { told = keeps.told; untold = keeps.untold }

pub becomes_same : {o p : Option (List ℕ)} → p ≡ o → Becomes (λ c d. d ≡ c) o p
becomes_same same = record { told = λ x is. (x, same ∙ is, refl); untold = λ is. same ∙ is }

-- a write of no bytes
pub contents_of : (o p : Option (List ℕ)) → MirrorBecomes (Torn 0 0) o p → p ≡ o
contents_of o p becomes = grind arith

pub torn_nowhere : {old new : DiskState} → TellsTorn 0 0 old new → new.contents ≡ old.contents
torn_nowhere {old = old} {new = new} tells = contents_of old.contents new.contents (record { told = tells.told; untold = tells.untold })

-- who is chosen of what the sides tell, by which of them leads
module _ {a b : DiskState} {past : List (ℕ × ℕ)} (law_a : IsLawful a) (law_b : IsLawful b) (pair : ArePair a b past) where
  since_a : (x : List ℕ) → a.contents ≡ Some x → a.left (Rattle.mirror_disk.specs.Pairs.pair_at past (a.clock, b.clock) 0).0 x
  since_a x is = now_from_a past law_a law_b pair.rising x (law_a.reads_as_image x is)

  since_b : (y : List ℕ) → b.contents ≡ Some y → b.left (Rattle.mirror_disk.specs.Pairs.pair_at past (a.clock, b.clock) 0).1 y
  since_b y is = now_from_b past law_a law_b pair.rising y (law_b.reads_as_image y is)

  pub first_chosen : (e : ℕ) → FirstLeads a b past e → (x y : List ℕ) → a.contents ≡ Some x → b.contents ≡ Some y → chosen x y ≡ body x
  first_chosen e leads x y is is' = let p = leads.first x (since_a x is) in let q = leads.second y (since_b y is') in chosen_first x y (omega (arith, p, q))

  pub second_chosen : (e : ℕ) → SecondLeads a b past e → (x y : List ℕ) → a.contents ≡ Some x → b.contents ≡ Some y → chosen x y ≡ body y
  second_chosen e leads x y is is' = let p = leads.first x (since_a x is) in let q = leads.second y (law_b.reads_as_image y is') in chosen_second x y (omega (arith, p, q))

  pub both_chosen : (e : ℕ) (one two : Slot) → AreBoth a b past e one two → (x y : List ℕ) → a.contents ≡ Some x → b.contents ≡ Some y → chosen x y ≡ body x
  both_chosen e one two both x y is is' = let p = both.first x (since_a x is) in let q = both.second y (since_b y is') in chosen_first x y (omega (arith, p, q))

-- one side is in use, and was asked
pub alone_first : {a b new : DiskState} {R : List ℕ → List ℕ → Type 0} {past : List (ℕ × ℕ)} {e : ℕ} {one two : Slot} {at n : ℕ} → IsLawful a → IsLawful b → IsLawful new → ArePair a b past → FirstLeads a b past e
    → HasEnded a b new b OnlyFirst past e one two at n → Becomes R a.contents new.contents → MirrorBecomes R (chosen_told a.contents b.contents) (chosen_told new.contents b.contents)
alone_first {b = b} {e = e} law_a law_b law_new pair leads ended becomes =
    told_first becomes (becomes_same refl) (first_chosen law_a law_b pair e leads) (first_chosen law_new law_b (ended.stands.pair ended.is_pair) e (ended.stands.first refl))

pub alone_second : {a b new : DiskState} {R : List ℕ → List ℕ → Type 0} {past : List (ℕ × ℕ)} {e : ℕ} {one two : Slot} {at n : ℕ} → IsLawful a → IsLawful b → IsLawful new → ArePair a b past → SecondLeads a b past e
    → HasEnded a b a new OnlySecond past e one two at n → Becomes R b.contents new.contents → MirrorBecomes R (chosen_told a.contents b.contents) (chosen_told a.contents new.contents)
alone_second {a = a} {e = e} law_a law_b law_new pair leads ended becomes =
    told_second (becomes_same refl) becomes (second_chosen law_a law_b pair e leads) (second_chosen law_a law_new (ended.stands.pair ended.is_pair) e (ended.stands.second refl))

module _ {a b mid_a mid_b new_a new_b : DiskState} (past : List (ℕ × ℕ)) (e : ℕ) (one two : Slot) (at n : ℕ) {p q : Bool} (asked : BothAsked a b mid_a mid_b past e one two at n p q) {used : Used} (left : HasLeft mid_a mid_b new_a new_b used e p q) where
  torn_a : Becomes (Torn at n) a.contents new_a.contents
  torn_a = becomes_raised (becomes_torn a mid_a at n asked.told_a) (becomes_kept left.body_a)

  torn_b : Becomes (Torn at n) b.contents new_b.contents
  torn_b = becomes_raised (becomes_torn b mid_b at n asked.told_b) (becomes_kept left.body_b)

  -- whatever comes of it, other bytes stay
  pub both_torn : MirrorBecomes (Torn at n) (chosen_told a.contents b.contents) (chosen_told new_a.contents new_b.contents)
  both_torn = told_alike torn_a torn_b asked.both.agree

module _ {a b mid_a mid_b new_a new_b : DiskState} (past : List (ℕ × ℕ)) (e : ℕ) (one two : Slot) (at n : ℕ) {turn : List ℕ → List ℕ} (law_a : IsLawful a) (law_b : IsLawful b) (law_a' : IsLawful new_a) (law_b' : IsLawful new_b) {p q : Bool}
    (asked : BothAsked a b mid_a mid_b past e one two at n p q) (did_a : p ≡ true → Becomes (λ c d. d ≡ turn c) a.contents mid_a.contents) (did_b : q ≡ true → Becomes (λ c d. d ≡ turn c) b.contents mid_b.contents) where
  -- one side at least did it, and the other one was left out if it did not
  pub both_did : (used : Used) → HasLeft mid_a mid_b new_a new_b used e p q → HasEnded a b new_a new_b used past e one two at n → used ≢ Broken → MirrorBecomes (λ c d. d ≡ turn c) (chosen_told a.contents b.contents) (chosen_told new_a.contents new_b.contents)
  both_did Both left ended not =
      let done = left.both refl in
      told_alike (becomes_raised (did_a done.0) (becomes_kept left.body_a)) (becomes_raised (did_b done.1) (becomes_kept left.body_b)) asked.both.agree
  both_did OnlyFirst left ended not =
      told_first (becomes_raised (did_a (left.first refl)) (becomes_kept left.body_a)) (torn_b past e one two at n asked left)
      (both_chosen law_a law_b asked.pair e one two asked.both) (first_chosen law_a' law_b' (ended.stands.pair ended.is_pair) e (ended.stands.first refl))
  both_did OnlySecond left ended not =
      told_second (torn_a past e one two at n asked left) (becomes_raised (did_b (left.second refl)) (becomes_kept left.body_b))
      (λ x y is is'. both_chosen law_a law_b asked.pair e one two asked.both x y is is' ∙ asked.both.agree x y is is') (second_chosen law_a' law_b' (ended.stands.pair ended.is_pair) e (ended.stands.second refl))
  both_did Broken left ended not = absurd (not refl)
  both_did Plain left ended not = absurd (ended.is_pair.0 refl)
  both_did Unbound left ended not = absurd (ended.is_pair.1 refl)

-- a side that was written
pub written_of : {T E : Type 0} (old new : DiskState) (at : ℕ) (bytes : List ℕ) → IsLawful old → 64 + at + length bytes ≤ old.size → (r : Result T E) → OnOk r (Splices (64 + at) bytes old new) → is_ok r ≡ true → Becomes (λ c d. d ≡ spliced c at bytes) old.contents new.contents
written_of old new at bytes laws fits r written done = becomes_spliced old new at bytes (λ c is. let len = length-contents laws c is in omega (arith, fits, len)) (by_done r done written)

-- a mirror whose sides in use are settled
pub left_settled : (a b mid_a mid_b new_a new_b : DiskState) (past : List (ℕ × ℕ)) (e : ℕ) (one two : Slot) (at n : ℕ) {p q : Bool} → IsLawful new_a → IsLawful new_b → (p ≡ true → IsSettled mid_a) → (q ≡ true → IsSettled mid_b)
    → (used : Used) → HasLeft mid_a mid_b new_a new_b used e p q → HasEnded a b new_a new_b used past e one two at n → used ≢ Broken → IsSettled (mirrored new_a new_b ((a.clock, b.clock) ∷ past) 0 0)
left_settled a b mid_a mid_b new_a new_b past e one two at n law_a law_b first second Both left ended not =
    settled_both new_a new_b ((a.clock, b.clock) ∷ past) 0 0 (left.settled_a (inl refl) (first (left.both refl).0)) (left.settled_b (inl refl) (second (left.both refl).1))
left_settled a b mid_a mid_b new_a new_b past e one two at n law_a law_b first second OnlyFirst left ended not =
    settled_first new_a new_b ((a.clock, b.clock) ∷ past) 0 0 e law_a law_b (ended.stands.pair ended.is_pair) (ended.stands.first refl) (left.settled_a (inr refl) (first (left.first refl)))
left_settled a b mid_a mid_b new_a new_b past e one two at n law_a law_b first second OnlySecond left ended not =
    settled_second new_a new_b ((a.clock, b.clock) ∷ past) 0 0 e law_a law_b (ended.stands.pair ended.is_pair) (ended.stands.second refl) (left.settled_b (inr refl) (second (left.second refl)))
left_settled a b mid_a mid_b new_a new_b past e one two at n law_a law_b first second Broken left ended not = absurd (not refl)
left_settled a b mid_a mid_b new_a new_b past e one two at n law_a law_b first second Plain left ended not = absurd (ended.is_pair.0 refl)
left_settled a b mid_a mid_b new_a new_b past e one two at n law_a law_b first second Unbound left ended not = absurd (ended.is_pair.1 refl)

-- a range after the header
pub range_behind : (x : List ℕ) (at m len : ℕ) → m ≡ len → slice_range x (64 + at) (64 + at + m) ≡ slice_range (body x) at (at + len)
range_behind x at m len same =
    let count : 64 + at + m - (64 + at) ≡ at + len - at = omega (arith, same) in
    (λ i. take (count i) (drop (64 + at) x)) ∙ ap (take (at + len - at)) (sym (drop-drop at 64 x))

-- what was read of a side that is chosen
pub read_chosen : (o p : Option (List ℕ)) (into : List ℕ) (at m len : ℕ) (either : List ℕ → List ℕ → List ℕ) → m ≡ len → ((x y : List ℕ) → o ≡ Some x → p ≡ Some y → chosen x y ≡ body (either x y))
    → ((x y : List ℕ) → o ≡ Some x → p ≡ Some y → into ≡ slice_range (either x y) (64 + at) (64 + at + m)) → (c : List ℕ) → chosen_told o p ≡ Some c → into ≡ slice_range c at (at + len)
read_chosen o p into at m len either same which read c told =
    let t = both_tell o p c told in
    read t.first t.second t.of_first t.of_second ∙ range_behind (either t.first t.second) at m len same ∙ ap (λ (l : List ℕ). slice_range l at (at + len)) (sym (t.is ∙ which t.first t.second t.of_first t.of_second))
