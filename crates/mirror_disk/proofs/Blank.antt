-- Two sides that were just made.
use Rattle.mirror_disk.proofs.{Words.{◌≡◌, inl, inr, refl, ℕ, ◌+◌, ◌-◌, List, [], ◌++◌, drop, replicate, Option, Some, None, sym, ◌∙◌, ap, subst, arith, IfNone, IfSome, ForSome, cases_lt, drop-replicate, DiskState, IsLawful, IsSettled, Splices, settled_write, First, Used, blank_header, body, chosen, epoch, both_tell, ChosenOf, chosen_told, mirrored, HasEpoch, ArePair, AreBoth, IsPair, state_in}, Adopted.both_alike, Alone.first_pair, Mirrored.state_pair, Epochs.{chosen_first, chosen_second}}
use Rattle.std.specs.Prelude.{IsSome, is_some}

-- a blank header has epoch 1 in the first slot
pub blank_mark : (rest : List ℕ) → HasEpoch First 1 (blank_header ++ rest)
blank_mark rest = grind arith

-- an image of a side that was made
pub blank_image : (mid new : DiskState) (w : ℕ) → ForSome mid.contents (λ c. c ≡ replicate (w + 64) 0) → Splices 0 blank_header mid new → IsSettled new → (x : List ℕ) → new.now x → x ≡ blank_header ++ replicate w 0
blank_image mid new w blank written settled x now =
    let d = settled_write mid new 0 blank_header written settled x now in
    d.2 ∙ ap (λ (l : List ℕ). blank_header ++ l) (ap (λ (l : List ℕ). drop 64 l) (blank d.0 d.1) ∙ rest w)
  where
    rest : (w : ℕ) → drop {A = ℕ} 64 (replicate (w + 64) 0) ≡ replicate w 0
    rest w = drop-replicate 64 (w + 64) 0 ∙ (let left : w + 64 - 64 ≡ w = omega arith in ap (λ (n : ℕ). replicate n 0) left)

module _ (a b : DiskState) (w : ℕ) (law_a : IsLawful a) (law_b : IsLawful b) (settled_a : IsSettled a) (settled_b : IsSettled b) (size_a : a.size ≡ w + 64) (size_b : b.size ≡ w + 64)
    (image_a : (x : List ℕ) → a.now x → x ≡ blank_header ++ replicate w 0) (image_b : (y : List ℕ) → b.now y → y ≡ blank_header ++ replicate w 0) where
  mark_a : (x : List ℕ) → a.now x → HasEpoch First 1 x
  mark_a x now = subst (HasEpoch First 1) (sym (image_a x now)) (blank_mark (replicate w 0))

  mark_b : (y : List ℕ) → b.now y → HasEpoch First 1 y
  mark_b y now = subst (HasEpoch First 1) (sym (image_b y now)) (blank_mark (replicate w 0))

  pub blank_pair : ArePair a b []
  blank_pair = first_pair a b law_a law_b (size_b ∙ sym size_a) (omega (arith, size_a)) settled_a settled_b (λ x now. (mark_a x now).header) (λ y now. (mark_b y now).header)

  pub blank_both : AreBoth a b [] 1 First First
  blank_both = both_alike a b 1 First First law_a law_b settled_a (record {
    first = mark_a;
    second = mark_b;
    settled = settled_b;
    agree = λ x y told told'. ap body (image_a x (law_a.reads_as_image x told) ∙ sym (image_b y (law_b.reads_as_image y told')));
  })

  either : (x y : List ℕ) → a.now x → b.now y → chosen x y ≡ replicate w 0
  either x y now now' = elim (cases_lt (epoch x) (epoch y)) [
    | inl less ↦ chosen_second x y less ∙ ap body (image_b y now')
    | inr not ↦ chosen_first x y not ∙ ap body (image_a x now)
  ]

  pub blank_now : (c : List ℕ) → ChosenOf a.now b.now c → c ≡ replicate w 0
  blank_now c of = of.is ∙ either of.first of.second of.of_first of.of_second

  pub blank_told : ForSome (chosen_told a.contents b.contents) (λ c. c ≡ replicate w 0)
  blank_told c told = let t = both_tell a.contents b.contents c told in t.is ∙ either t.first t.second (law_a.reads_as_image t.first t.of_first) (law_b.reads_as_image t.second t.of_second)

-- what both names name is what both sides tell, once they were bound and adopted
pub named_taken : (o p m n q r : Option (List ℕ)) → ForSome o (λ c. m ≡ Some c) → ForSome p (λ c. n ≡ Some c) → chosen_told q r ≡ chosen_told m n → ForSome (chosen_told o p) (λ c. chosen_told q r ≡ Some c)
named_taken o p m n q r first second same c told = grind arith

-- so it is told where both names have bytes that are told
pub told_taken : (o p : Option (List ℕ)) → ForSome o (λ c. p ≡ Some c) → IsSome o → IsSome p
told_taken (Some x) p is some = ap is_some (is x refl)
told_taken None p is some = absurd (cc some)

module _ (used : Used) (is : IsPair used) (a b : DiskState) (past : List (ℕ × ℕ)) (f m : ℕ) where
  -- the state of a mirror that was bound, with a size or with none
  pub bound_blank : (want : Option ℕ) → IfSome want (λ w. (c : List ℕ) → ChosenOf a.now b.now c → c ≡ replicate w 0) → IfSome want (λ w. (c : List ℕ) → (state_in used a b past f m).now c → c ≡ replicate w 0)
  bound_blank (Some w) blank = state_pair used is a b past f m (λ (d : DiskState). (c : List ℕ) → d.now c → c ≡ replicate w 0) blank
  bound_blank None blank = tt

  pub bound_settled : (want : Option ℕ) → IsSettled (mirrored a b [] 0 0) → IfNone want (IsSettled (state_in used a b past f m))
  bound_settled (Some w) settled = tt
  bound_settled None settled = state_pair used is a b past f m (λ (d : DiskState). IsSettled d) settled
