-- A call of a mirror: what its sides do, and what comes of it.
use Rattle.mirror_disk.proofs.Words.{◌≡◌, ◌⊎◌, inl, inr, ⊎_elim, ℕ, ◌-◌, ◌≤◌, List, ◌∷◌, length, refl, sym, ◌∙◌, ap, subst, arith, option_map, DiskState, IsLawful, Elapses, LeavesOnly, at_end, chosen, ChosenOf, IsRising, mirrored, pair_at, shorter, at_before, at_most, chosen_more}

-- What is chosen of an image from before a call and one during it is among the images of the call, or was chosen before it.
-- Where both images are of the call it is among them.
pub record Meet (a b : DiskState) (past : List (ℕ × ℕ)) (P Q images : List ℕ → Type 0) : Type 0 where
  pub both : (x y : List ℕ) → P x → Q y → images (chosen x y)
  pub first_before : (x y : List ℕ) → a.left (pair_at past (a.clock, b.clock) 0).0 x → Q y → images (chosen x y) ⊎ ((z : List ℕ) × b.now z × (chosen x y ≡ chosen x z))
  pub second_before : (x y : List ℕ) → P x → b.left (pair_at past (a.clock, b.clock) 0).1 y → images (chosen x y) ⊎ ((z : List ℕ) × a.now z × (chosen x y ≡ chosen z y))

-- the images since the moments of both sides at this moment of the mirror
abbrev At : (past : List (ℕ × ℕ)) → (now : ℕ × ℕ) → DiskState → DiskState → ℕ → List ℕ → Type 0
At past now d e t = ChosenOf (d.left (pair_at past now t).0) (e.left (pair_at past now t).1)

pub elapses_pair : {a b new_a new_b : DiskState} {P Q images : List ℕ → Type 0} (past : List (ℕ × ℕ)) (faults faults' binds : ℕ)
    → IsLawful a → IsLawful b → IsLawful new_a → IsLawful new_b → IsRising past (a.clock, b.clock) → LeavesOnly a new_a P → LeavesOnly b new_b Q → Meet a b past P Q images
    → Elapses (mirrored a b past faults binds) (mirrored new_a new_b ((a.clock, b.clock) ∷ past) faults' binds) images
elapses_pair {a = a} {b = b} {new_a = new_a} {new_b = new_b} {P = P} {Q = Q} {images = images} past faults faults' binds one two new_one new_two rising run_a run_b meet = record {
  same_size = ap (λ (n : ℕ). n - 64) run_a.same_size;
  same_bound = ap (option_map (λ (m : ℕ × List ℕ). (0, shorter m.1))) run_a.same_bound;
  same_binds = refl;
  later = omega arith;
  after = λ c image. subst images (sym image.is) (meet.both image.first image.second (at_end new_one run_a image.first image.of_first) (at_end new_two run_b image.second image.of_second));
  during = λ t c le left. during t c le (at_old t c le left);
  keeps = λ t c le left. at_new t c le (chosen_more (λ x image. run_a.keeps _ x (at_most past now rising t).0 image) (λ y image. run_b.keeps _ y (at_most past now rising t).1 image) left);
}
  where
    now : ℕ × ℕ
    now = (a.clock, b.clock)

    at_old : (t : ℕ) (c : List ℕ) → t ≤ length past → ChosenOf (new_a.left (pair_at ((a.clock, b.clock) ∷ past) (new_a.clock, new_b.clock) t).0) (new_b.left (pair_at ((a.clock, b.clock) ∷ past) (new_a.clock, new_b.clock) t).1) c → At past (a.clock, b.clock) new_a new_b t c
    at_old t c le left = subst (λ (m : ℕ × ℕ). ChosenOf (new_a.left m.0) (new_b.left m.1) c) (at_before past now (new_a.clock, new_b.clock) t le) left

    at_new : (t : ℕ) (c : List ℕ) → t ≤ length past → At past (a.clock, b.clock) new_a new_b t c → ChosenOf (new_a.left (pair_at ((a.clock, b.clock) ∷ past) (new_a.clock, new_b.clock) t).0) (new_b.left (pair_at ((a.clock, b.clock) ∷ past) (new_a.clock, new_b.clock) t).1) c
    at_new t c le left = subst (λ (m : ℕ × ℕ). ChosenOf (new_a.left m.0) (new_b.left m.1) c) (sym (at_before past now (new_a.clock, new_b.clock) t le)) left

    during : (t : ℕ) (c : List ℕ) → t ≤ length past → At past (a.clock, b.clock) new_a new_b t c → At past (a.clock, b.clock) a b t c ⊎ images c
    during t c le left =
        let m = pair_at past (a.clock, b.clock) t in
        let most = at_most past now rising t in
        let from = rising 0 t (omega arith) in
        ⊎_elim
        (λ (old_x : a.left m.0 left.first). ⊎_elim
        (λ (old_y : b.left m.1 left.second). inl (record { first = left.first; second = left.second; of_first = old_x; of_second = old_y; is = left.is }))
        (λ (new_y : Q left.second). ⊎_elim
        (λ (image : images (chosen left.first left.second)). inr (subst images (sym left.is) image))
        (λ (z : (z : List ℕ) × b.now z × (chosen left.first left.second ≡ chosen left.first z)). inl (record { first = left.first; second = z.0; of_first = old_x; of_second = two.counts_now m.1 z.0 most.1 z.1; is = left.is ∙ z.2 }))
        (meet.first_before left.first left.second (one.counts_later _ _ left.first from.0 old_x) new_y))
        (run_b.before m.1 left.second most.1 left.of_second))
        (λ (new_x : P left.first). ⊎_elim
        (λ (old_y : b.left m.1 left.second). ⊎_elim
        (λ (image : images (chosen left.first left.second)). inr (subst images (sym left.is) image))
        (λ (z : (z : List ℕ) × a.now z × (chosen left.first left.second ≡ chosen z left.second)). inl (record { first = z.0; second = left.second; of_first = one.counts_now m.0 z.0 most.0 z.1; of_second = old_y; is = left.is ∙ z.2 }))
        (meet.second_before left.first left.second new_x (two.counts_later _ _ left.second from.1 old_y)))
        (λ (new_y : Q left.second). inr (subst images (sym left.is) (meet.both left.first left.second new_x new_y)))
        (run_b.before m.1 left.second most.1 left.of_second))
        (run_a.before m.0 left.first most.0 left.of_first)
