-- A mirror keeps the laws of a disk.
use Rattle.std.{specs.Prelude.{◌≡◌, ℕ, ◌+◌, ◌-◌, ◌<◌, ◌≤◌, List, [], ◌∷◌, length, slice_index, Option, Some, None, nat_lt, refl}, proofs.Common.{ap, subst, sym, ◌∙◌, arith, length-drop, inl, inr}, proofs.lemmas.Bool.{cases_lt, cond-true, cond-false, lt-ltb, le-ltb}, proofs.lemmas.List.get_or-drop, proofs.lemmas.Option.same_Some}
use Rattle.iso_disk.specs.Disk.{DiskState, IsLawful}
use Rattle.mirror_disk.specs.{Header.{epoch, body, chosen}, Pairs.{ChosenOf, IsRising, chosen_told, mirrored, pair_at}}

-- at its last moment a mirror's sides are at theirs of now
pub at_now : (past : List (ℕ × ℕ)) (now : ℕ × ℕ) (t : ℕ) → length past ≤ t → pair_at past now t ≡ now
at_now [] now t le = refl
at_now (p ∷ past) now t le = cond-true (nat_lt (length past) t) now (pair_at past p t) (lt-ltb _ _ (omega (arith, le)))

-- a call more leaves the earlier moments
pub at_before : (past : List (ℕ × ℕ)) (p now : ℕ × ℕ) (t : ℕ) → t ≤ length past → pair_at (p ∷ past) now t ≡ pair_at past p t
at_before past p now t le = cond-false (nat_lt (length past) t) now (pair_at past p t) (le-ltb _ _ le)

-- no moment is after that of now
pub at_most : (past : List (ℕ × ℕ)) (now : ℕ × ℕ) → IsRising past now → (t : ℕ) → ((pair_at past now t).0 ≤ now.0) × ((pair_at past now t).1 ≤ now.1)
at_most past now rising t =
    let later = rising t (t + length past) (omega arith) in
    let is = at_now past now (t + length past) (omega arith) in
    (omega (arith, later.0, ap (λ (m : ℕ × ℕ). m.0) is), omega (arith, later.1, ap (λ (m : ℕ × ℕ). m.1) is))

-- before the first call
pub rising_first : (now : ℕ × ℕ) → IsRising [] now
rising_first now t u le = (omega arith, omega arith)

-- one call more
pub rising_more : (past : List (ℕ × ℕ)) (p now : ℕ × ℕ) → IsRising past p → p.0 ≤ now.0 → p.1 ≤ now.1 → IsRising (p ∷ past) now
rising_more past p now rising le le' t u before = elim (cases_lt (length past) u) [
  | inl last ↦
      let is = at_now (p ∷ past) now u (omega (arith, last)) in
      let most : ((pair_at (p ∷ past) now t).0 ≤ now.0) × ((pair_at (p ∷ past) now t).1 ≤ now.1) = elim (cases_lt (length past) t) [
        | inl too ↦ let here = at_now (p ∷ past) now t (omega (arith, too)) in (omega (arith, ap (λ (m : ℕ × ℕ). m.0) here), omega (arith, ap (λ (m : ℕ × ℕ). m.1) here))
        | inr old ↦
            let here = at_before past p now t old in
            let low = at_most past p rising t in
            (omega (arith, le, low.0, ap (λ (m : ℕ × ℕ). m.0) here), omega (arith, le', low.1, ap (λ (m : ℕ × ℕ). m.1) here))
      ] in
      (omega (arith, most.0, ap (λ (m : ℕ × ℕ). m.0) is), omega (arith, most.1, ap (λ (m : ℕ × ℕ). m.1) is))
  | inr old ↦
      let one = at_before past p now t (omega (arith, before, old)) in
      let two = at_before past p now u old in
      let steps = rising t u before in
      (omega (arith, steps.0, ap (λ (m : ℕ × ℕ). m.0) one, ap (λ (m : ℕ × ℕ). m.0) two), omega (arith, steps.1, ap (λ (m : ℕ × ℕ). m.1) one, ap (λ (m : ℕ × ℕ). m.1) two))
]

-- more images give more pairs
pub chosen_more : {P Q P' Q' : List ℕ → Type 0} {c : List ℕ} → ((x : List ℕ) → P x → P' x) → ((y : List ℕ) → Q y → Q' y) → ChosenOf P Q c → ChosenOf P' Q' c
chosen_more first second of = record { first = of.first; second = of.second; of_first = first of.first of.of_first; of_second = second of.second of.of_second; is = of.is }

length-chosen : (n : ℕ) (x y : List ℕ) → length x ≡ n → length y ≡ n → length (chosen x y) ≡ n - 64
length-chosen n x y one two = elim (cases_lt (epoch x) (epoch y)) [
  | inl less ↦ ap length (cond-true _ (body y) (body x) (lt-ltb _ _ less)) ∙ (let len = length-drop 64 y in omega (arith, len, two))
  | inr not ↦ ap length (cond-false _ (body y) (body x) (le-ltb _ _ not)) ∙ (let len = length-drop 64 x in omega (arith, len, one))
]

bytes-chosen : (x y : List ℕ) → ((i : ℕ) → slice_index x i < 256) → ((i : ℕ) → slice_index y i < 256) → (i : ℕ) → slice_index (chosen x y) i < 256
bytes-chosen x y one two i = elim (cases_lt (epoch x) (epoch y)) [
  | inl less ↦ subst (λ (l : List ℕ). slice_index l i < 256) (sym (cond-true _ (body y) (body x) (lt-ltb _ _ less))) (subst (λ (n : ℕ). n < 256) (sym (get_or-drop 64 y i 0)) (two (64 + i)))
  | inr not ↦ subst (λ (l : List ℕ). slice_index l i < 256) (sym (cond-false _ (body y) (body x) (le-ltb _ _ not))) (subst (λ (n : ℕ). n < 256) (sym (get_or-drop 64 x i 0)) (one (64 + i)))
]

-- what two sides tell, where a mirror tells it
pub record BothTell (o p : Option (List ℕ)) (c : List ℕ) : Type 0 where
  pub first : List ℕ
  pub second : List ℕ
  pub of_first : o ≡ Some first
  pub of_second : p ≡ Some second
  pub is : c ≡ chosen first second

pub both_tell : (o p : Option (List ℕ)) (c : List ℕ) → chosen_told o p ≡ Some c → BothTell o p c
both_tell (Some x) (Some y) c told = record { first = x; second = y; of_first = refl; of_second = refl; is = sym (same_Some _ _ told) }
both_tell (Some x) None c told = absurd (cc told)
both_tell None p c told = absurd (cc told)

pub lawful : {a b : DiskState} (past : List (ℕ × ℕ)) (faults binds : ℕ) → IsLawful a → IsLawful b → b.size ≡ a.size → IsRising past (a.clock, b.clock) → IsLawful (mirrored a b past faults binds)
lawful {a = a} {b = b} past faults binds one two sizes rising = record {
  reads_as_image = λ c told. let t = both_tell a.contents b.contents c told in record { first = t.first; second = t.second; of_first = one.reads_as_image t.first t.of_first; of_second = two.reads_as_image t.second t.of_second; is = t.is };
  counts_now = λ t c le now. let most = at_most past (a.clock, b.clock) rising t in chosen_more (λ x image. one.counts_now _ x most.0 image) (λ y image. two.counts_now _ y most.1 image) now;
  only_now = λ c left.
      let is = at_now past (a.clock, b.clock) (length past) (omega arith) in
      chosen_more (λ x image. one.only_now x (subst (λ (m : ℕ × ℕ). a.left m.0 x) is image)) (λ y image. two.only_now y (subst (λ (m : ℕ × ℕ). b.left m.1 y) is image)) left;
  counts_later = λ t u c le left. let steps = rising t u le in chosen_more (λ x image. one.counts_later _ _ x steps.0 image) (λ y image. two.counts_later _ _ y steps.1 image) left;
  image_size = λ t c left. ap length left.is ∙ length-chosen a.size left.first left.second (one.image_size _ left.first left.of_first) (two.image_size _ left.second left.of_second ∙ sizes);
  told_bytes = λ c told i.
      let t = both_tell a.contents b.contents c told in
      subst (λ (l : List ℕ). slice_index l i < 256) (sym t.is) (bytes-chosen t.first t.second (one.told_bytes t.first t.of_first) (two.told_bytes t.second t.of_second) i);
}
