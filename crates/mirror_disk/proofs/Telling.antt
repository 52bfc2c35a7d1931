-- What a mirror tells after a call.
use Rattle.mirror_disk.proofs.{Words.{arith, ◌≡◌, inl, inr, ℕ, ◌+◌, ◌≤◌, List, length, take, Option, Some, None, refl, sym, ◌∙◌, ap, subst, option_map, same_Some, cases_lt, drop-drop, DiskState, Torn, TellsTorn, Splices, spliced, spliced_torn, take-drop-spliced, torn_whole, Becomes, MirrorBecomes, body, chosen, epoch, both_tell, chosen_told}, Epochs.{chosen_first, chosen_second}, Meets.torn_body}

-- bytes laid after the header are laid in the mirrored bytes
pub body-spliced : (c : List ℕ) (at : ℕ) (bytes : List ℕ) → 64 + at + length bytes ≤ length c → body (spliced c (64 + at) bytes) ≡ spliced (body c) at bytes
body-spliced c at bytes fits = torn_whole bytes (torn_body at (length bytes) (spliced_torn c (64 + at) bytes fits)) (ap (take (length bytes)) (drop-drop at 64 (spliced c (64 + at) bytes)) ∙ take-drop-spliced c (64 + at) bytes fits)

none_told : {o p o' p' : Option (List ℕ)} {R S : List ℕ → List ℕ → Type 0} → Becomes R o o' → Becomes S p p' → chosen_told o p ≡ None → chosen_told o' p' ≡ None
none_told {o = o} {p = p} {o' = o'} {p' = p'} one two none = by_cases o p refl refl none
  where
    no_second : (r : Option (List ℕ)) → chosen_told r None ≡ None
    no_second (Some x) = refl
    no_second None = refl

    by_cases : (q r : Option (List ℕ)) → o ≡ q → p ≡ r → chosen_told q r ≡ None → chosen_told o' p' ≡ None
    by_cases (Some x) (Some y) is is' none = absurd (cc none)
    by_cases (Some x) None is is' none = ap (chosen_told o') (two.untold is') ∙ no_second o'
    by_cases None r is is' none = ap (λ (q : Option (List ℕ)). chosen_told q p') (one.untold is)

-- what the chosen sides tell, before and after
told_by : {o p o' p' : Option (List ℕ)} {Q R S : List ℕ → List ℕ → Type 0} → Becomes R o o' → Becomes S p p'
    → ((x y x' y' : List ℕ) → o ≡ Some x → p ≡ Some y → o' ≡ Some x' → p' ≡ Some y' → R (body x) (body x') → S (body y) (body y') → Q (chosen x y) (chosen x' y')) → MirrorBecomes Q (chosen_told o p) (chosen_told o' p')
told_by {o = o} {p = p} {Q = Q} one two leads = record {
  told = λ c is.
      let t = both_tell o p c is in
      let x = one.told t.first t.of_first in
      let y = two.told t.second t.of_second in
      (chosen x.0 y.0, (λ i. chosen_told (x.1 i) (y.1 i)), subst (λ (l : List ℕ). Q l (chosen x.0 y.0)) (sym t.is) (leads t.first t.second x.0 y.0 t.of_first t.of_second x.1 y.1 x.2 y.2));
  untold = none_told one two;
}

-- the first side is chosen before and after
pub told_first : {o p o' p' : Option (List ℕ)} {R S : List ℕ → List ℕ → Type 0} → Becomes R o o' → Becomes S p p'
    → ((x y : List ℕ) → o ≡ Some x → p ≡ Some y → chosen x y ≡ body x) → ((x y : List ℕ) → o' ≡ Some x → p' ≡ Some y → chosen x y ≡ body x) → MirrorBecomes R (chosen_told o p) (chosen_told o' p')
told_first {R = R} {S = S} one two before after = told_by {Q = R} {R = R} {S = S} one two (λ x y x' y' is is' new new' r s. rw (before x y is is', after x' y' new new') r)

-- the second side is, or before the call the first one, which told the same
pub told_second : {o p o' p' : Option (List ℕ)} {R S : List ℕ → List ℕ → Type 0} → Becomes S o o' → Becomes R p p'
    → ((x y : List ℕ) → o ≡ Some x → p ≡ Some y → chosen x y ≡ body y) → ((x y : List ℕ) → o' ≡ Some x → p' ≡ Some y → chosen x y ≡ body y) → MirrorBecomes R (chosen_told o p) (chosen_told o' p')
told_second {R = R} {S = S} one two before after = told_by {Q = R} {R = S} {S = R} one two (λ x y x' y' is is' new new' s r. rw (before x y is is', after x' y' new new') r)

-- both sides told the same, and each becomes so: whichever is chosen
pub told_alike : {o p o' p' : Option (List ℕ)} {R : List ℕ → List ℕ → Type 0} → Becomes R o o' → Becomes R p p' → ((x y : List ℕ) → o ≡ Some x → p ≡ Some y → body x ≡ body y) → MirrorBecomes R (chosen_told o p) (chosen_told o' p')
told_alike {R = R} one two agree = told_by {Q = R} {R = R} {S = R} one two (λ x y x' y' is is' new new' r s.
    let same = agree x y is is' in
    rw (either x y same) (of_both (body x) x' y' r (subst (λ (l : List ℕ). R l (body y')) (sym same) s)))
  where
    either : (x y : List ℕ) → body x ≡ body y → chosen x y ≡ body x
    either x y same = elim (cases_lt (epoch x) (epoch y)) [
      | inl less ↦ chosen_second x y less ∙ sym same
      | inr not ↦ chosen_first x y not
    ]

    of_both : (c x y : List ℕ) → R c (body x) → R c (body y) → R c (chosen x y)
    of_both c x y one two = elim (cases_lt (epoch x) (epoch y)) [
      | inl less ↦ subst (R c) (sym (chosen_second x y less)) two
      | inr not ↦ subst (R c) (sym (chosen_first x y not)) one
    ]

-- a call that was done turns what is told
pub turned_of : (turn : List ℕ → List ℕ) (o p : Option (List ℕ)) → MirrorBecomes (λ c d. d ≡ turn c) o p → p ≡ option_map turn o
turned_of turn (Some c) p becomes = let t = becomes.told c refl in t.1 ∙ ap Some t.2
turned_of turn None p becomes = becomes.untold refl

-- what was told before it
pub came_from : {R : List ℕ → List ℕ → Type 0} (o p : Option (List ℕ)) → Becomes R o p → (y : List ℕ) → p ≡ Some y → (x : List ℕ) × (o ≡ Some x) × R (body x) (body y)
came_from {R = R} (Some x) p becomes y is = let t = becomes.told x refl in (x, refl, subst (λ (l : List ℕ). R (body x) (body l)) (same_Some t.0 y (sym t.1 ∙ is)) t.2)
came_from None p becomes y is = absurd (cc (is, becomes.untold refl))

-- a side that did a write after its header
pub becomes_spliced : (old new : DiskState) (at : ℕ) (bytes : List ℕ) → ((c : List ℕ) → old.contents ≡ Some c → 64 + at + length bytes ≤ length c) → Splices (64 + at) bytes old new → Becomes (λ c d. d ≡ spliced c at bytes) old.contents new.contents
becomes_spliced old new at bytes fits written = grind (arith, body-spliced)

-- one that failed in it
pub becomes_torn : (old new : DiskState) (at n : ℕ) → TellsTorn (64 + at) n old new → Becomes (Torn at n) old.contents new.contents
becomes_torn old new at n tells = record { told = λ x is. let d = tells.told x is in (d.0, d.1, torn_body at n d.2); untold = tells.untold }

-- one that was raised, after such a call
pub becomes_raised : {o p q : Option (List ℕ)} {R : List ℕ → List ℕ → Type 0} → Becomes R o p → Becomes (λ c d. d ≡ c) p q → Becomes R o q
becomes_raised {R = R} one two = record {
  told = λ x is. let y = one.told x is in let z = two.told y.0 y.1 in (z.0, z.1, subst (R (body x)) (sym z.2) y.2);
  untold = λ is. two.untold (one.untold is);
}
