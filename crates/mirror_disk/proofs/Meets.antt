-- Which images meet in a call, by the epochs of the sides.
use Rattle.mirror_disk.proofs.{Words.{◌≡◌, ◌⊎◌, inl, inr, ⊎_elim, ℕ, ◌+◌, ◌<◌, ◌≤◌, List, drop, refl, sym, ◌∙◌, ap, subst, arith, length-drop, drop-take, drop-drop, DiskState, Torn, body, epoch, pair_at}, Calls.Meet, Epochs.{chosen_first, chosen_second}}

-- what is torn after the header is torn in the mirrored bytes
pub torn_body : (at n : ℕ) {x y : List ℕ} → Torn (64 + at) n x y → Torn at n (body x) (body y)
torn_body at n {x = x} {y = y} torn = record {
  before = sym (drop-take 64 at y) ∙ ap (drop 64) torn.before ∙ drop-take 64 at x;
  after = drop-drop (at + n) 64 y ∙ after ∙ sym (drop-drop (at + n) 64 x);
  size = omega (arith, length-drop 64 x, length-drop 64 y, torn.size);
}
  where
    after : drop (64 + (at + n)) y ≡ drop (64 + (at + n)) x
    after = (let same : 64 + (at + n) ≡ 64 + at + n = omega arith in ap (λ (m : ℕ). drop m y) same) ∙ torn.after ∙ (let same : 64 + at + n ≡ 64 + (at + n) = omega arith in ap (λ (m : ℕ). drop m x) same)

-- the images of either side since the first moment of the mirror
abbrev pub FromA : DiskState → DiskState → List (ℕ × ℕ) → List ℕ → Type 0
FromA a b past x = a.left (pair_at past (a.clock, b.clock) 0).0 x

abbrev pub FromB : DiskState → DiskState → List (ℕ × ℕ) → List ℕ → Type 0
FromB a b past y = b.left (pair_at past (a.clock, b.clock) 0).1 y

-- there is an image of now
abbrev pub Some_b : DiskState → ℕ → Type 0
Some_b b e = (z : List ℕ) × b.now z × (epoch z ≤ e)

abbrev pub Some_a : DiskState → Type 0
Some_a a = (z : List ℕ) × a.now z

module _ (a b : DiskState) (past : List (ℕ × ℕ)) {P Q images : List ℕ → Type 0} (e : ℕ) where
  -- no image of the second side has a larger epoch
  pub meet_first : ((x : List ℕ) → FromA a b past x → e ≤ epoch x) → ((y : List ℕ) → FromB a b past y → (epoch y ≤ e) × Some_b b e)
      → ((x : List ℕ) → P x → e ≤ epoch x) → ((y : List ℕ) → Q y → (epoch y ≤ e) × Some_b b e) → ((x z : List ℕ) → P x → b.now z → epoch z ≤ e → images (body x)) → Meet a b past P Q images
  meet_first old_x old_y new_x new_y image = record {
    both = λ x y p q. let s = new_y y q in subst images (sym (chosen_first x y (omega (arith, new_x x p, s.0)))) (image x s.1.0 p s.1.1 s.1.2);
    first_before = λ x y old q.
        let s = new_y y q in
        let le = old_x x old in
        inr (s.1.0, s.1.1, chosen_first x y (omega (arith, le, s.0)) ∙ sym (chosen_first x s.1.0 (omega (arith, le, s.1.2))));
    second_before = λ x y p old. let s = old_y y old in inl (subst images (sym (chosen_first x y (omega (arith, new_x x p, s.0)))) (image x s.1.0 p s.1.1 s.1.2));
  }

  -- each image that the second side may leave now has a larger epoch than those of the first, which is not called
  pub meet_second : ((x : List ℕ) → FromA a b past x → (epoch x ≤ e) × Some_a a) → ((x : List ℕ) → P x → a.now x × (epoch x ≤ e))
      → ((y : List ℕ) → Q y → e < epoch y) → ((z y : List ℕ) → a.now z → Q y → images (body y)) → Meet a b past P Q images
  meet_second old_x new_x new_y image = record {
    both = λ x y p q. let s = new_x x p in subst images (sym (chosen_second x y (omega (arith, s.1, new_y y q)))) (image x y s.0 q);
    first_before = λ x y old q. let s = old_x x old in inl (subst images (sym (chosen_second x y (omega (arith, s.0, new_y y q)))) (image s.1.0 y s.1.1 q));
    second_before = λ x y p old. inr (x, (new_x x p).0, refl);
  }

  -- the second side comes to a larger epoch in the call
  pub meet_over : ((x : List ℕ) → FromA a b past x → (epoch x ≡ e) × Some_a a) → ((y : List ℕ) → FromB a b past y → (epoch y ≡ e) × Some_b b e)
      → ((x : List ℕ) → P x → (epoch x ≡ e) × Some_a a) → ((y : List ℕ) → Q y → Some_b b e) → ((z y : List ℕ) → a.now z → Q y → (epoch y ≡ e) ⊎ ((e < epoch y) × images (body y)))
      → ((x z : List ℕ) → P x → b.now z → epoch z ≤ e → images (body x)) → Meet a b past P Q images
  meet_over old_x old_y new_x some_y new_y image = record {
    both = λ x y p q.
        let s = new_x x p in
        let t = some_y y q in
        ⊎_elim
        (λ (same : epoch y ≡ e). subst images (sym (chosen_first x y (omega (arith, s.0, same)))) (image x t.0 p t.1 t.2))
        (λ (more : (e < epoch y) × images (body y)). subst images (sym (chosen_second x y (omega (arith, s.0, more.0)))) more.1)
        (new_y s.1.0 y s.1.1 q);
    first_before = λ x y old q.
        let s = old_x x old in
        let t = some_y y q in
        ⊎_elim
        (λ (same : epoch y ≡ e). inr (t.0, t.1, chosen_first x y (omega (arith, s.0, same)) ∙ sym (chosen_first x t.0 (omega (arith, s.0, t.2)))))
        (λ (more : (e < epoch y) × images (body y)). inl (subst images (sym (chosen_second x y (omega (arith, s.0, more.0)))) more.1))
        (new_y s.1.0 y s.1.1 q);
    second_before = λ x y p old.
        let s = new_x x p in
        let t = old_y y old in
        inl (subst images (sym (chosen_first x y (omega (arith, s.0, t.0)))) (image x t.1.0 p t.1.1 t.1.2));
  }
