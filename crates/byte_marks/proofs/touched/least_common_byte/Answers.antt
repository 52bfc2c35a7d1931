-- The entry of the earlier block, or two of one block that do not meet, meet nothing of what is left.
use Rattle.byte_marks.proofs.{Words.{◌≡◌, ℕ, ◌+◌, ◌<◌, ◌&&◌, false, ◌∙◌, ap, subst, arith, List, ◌∷◌, and_left, Extent, has, touches, RisesFrom}, Blocks.{rises_earlier, none_before_block, pass_entry, pass_entry_right, pass_both}}
use Rattle.byte_marks.proofs.touched.least_common_byte.Goals as goal

-- two lists and the first entry of each
module _ (x y : ℕ × List Extent) (xs ys a c : List (ℕ × List Extent)) (a_is : a ≡ x ∷ xs) (c_is : c ≡ y ∷ ys) (a_rises : RisesFrom 0 a) (c_rises : RisesFrom 0 c) where
  rises_a : RisesFrom 0 (x ∷ xs)
  rises_a = subst (λ (l : List (ℕ × List Extent)). RisesFrom 0 l) a_is a_rises

  rises_c : RisesFrom 0 (y ∷ ys)
  rises_c = subst (λ (l : List (ℕ × List Extent)). RisesFrom 0 l) c_is c_rises

  rest_a : RisesFrom 0 xs
  rest_a = rises_earlier 0 (x.0 + 1) xs (omega arith) rises_a.1

  rest_c : RisesFrom 0 ys
  rest_c = rises_earlier 0 (y.0 + 1) ys (omega arith) rises_c.1

  before_first : (b p : ℕ) → b < x.0 → (touches a b p && touches c b p) ≡ false
  before_first b p lt = and_left _ _ (ap (λ (l : List (ℕ × List Extent)). touches l b p) a_is ∙ none_before_block x.0 b p (x ∷ xs) lt ((omega arith), rises_a.1))

  pass_first : x.0 < y.0 → (b p : ℕ) → (touches a b p && touches c b p) ≡ (touches xs b p && touches c b p)
  pass_first lt b p = grind (arith, pass_entry)

  pass_second : y.0 < x.0 → (b p : ℕ) → (touches a b p && touches c b p) ≡ (touches a b p && touches ys b p)
  pass_second lt b p = grind (arith, pass_entry_right)

  pass_two : x.0 ≡ y.0 → (b p : ℕ) → (has x.1 p && has y.1 p) ≡ false → (touches a b p && touches c b p) ≡ (touches xs b p && touches ys b p)
  pass_two same b p apart = (λ i. touches (a_is i) b p && touches (c_is i) b p) ∙ pass_both b p x y xs ys apart rises_a.1 rises_c.1 same

  -- nor has one of them an earlier byte of the block
  before_byte : x.0 ≡ y.0 → (p : ℕ) → (has x.1 p && has y.1 p) ≡ false → (touches a x.0 p && touches c x.0 p) ≡ false
  before_byte same p apart = pass_two same x.0 p apart ∙ and_left _ _ (none_before_block (x.0 + 1) x.0 p xs (omega arith) rises_a.1)

pub returns-in-Some-clause-least_block : goal.returns-in-Some-clause-least_block
returns-in-Some-clause-least_block c b p lt =
    let w = c.in-Some-Some in
    let was = c.loop-x.invariant in
    was.same b p ∙ before_first w.x.now w.y.now w.xs.now w.ys.now _ _ w.ensures.cases.0 w.ensures'.cases.0 was.a was.b b p lt

pub returns-in-Some-clause-least_byte : goal.returns-in-Some-clause-least_byte
returns-in-Some-clause-least_byte c p lt =
    let w = c.in-Some-Some in
    let was = c.loop-x.invariant in
    was.same w.x.now.0 p ∙ before_byte w.x.now w.y.now w.xs.now w.ys.now _ _ w.ensures.cases.0 w.ensures'.cases.0 was.a was.b (omega arith) p (c.in-Some.ensures.least p lt)

pub loop-x-preserved-then-x-y : goal.loop-x-preserved-then-x-y
loop-x-preserved-then-x-y c =
    let w = c.in-Some-Some in
    let was = c.loop-x.invariant in
    record {
      a = rest_a w.x.now w.y.now w.xs.now w.ys.now _ _ w.ensures.cases.0 w.ensures'.cases.0 was.a was.b;
      b = was.b;
      same = λ b p. was.same b p ∙ pass_first w.x.now w.y.now w.xs.now w.ys.now _ _ w.ensures.cases.0 w.ensures'.cases.0 was.a was.b (omega arith) b p;
    }

pub loop-x-preserved-then-y-x : goal.loop-x-preserved-then-y-x
loop-x-preserved-then-y-x c =
    let w = c.in-Some-Some in
    let was = c.loop-x.invariant in
    record {
      a = was.a;
      b = rest_c w.x.now w.y.now w.xs.now w.ys.now _ _ w.ensures.cases.0 w.ensures'.cases.0 was.a was.b;
      same = λ b p. was.same b p ∙ pass_second w.x.now w.y.now w.xs.now w.ys.now _ _ w.ensures.cases.0 w.ensures'.cases.0 was.a was.b (omega arith) b p;
    }

pub loop-x-preserved : goal.loop-x-preserved
loop-x-preserved c =
    let w = c.in-Some-Some in
    let was = c.loop-x.invariant in
    record {
      a = rest_a w.x.now w.y.now w.xs.now w.ys.now _ _ w.ensures.cases.0 w.ensures'.cases.0 was.a was.b;
      b = rest_c w.x.now w.y.now w.xs.now w.ys.now _ _ w.ensures.cases.0 w.ensures'.cases.0 was.a was.b;
      same = λ b p. was.same b p ∙ pass_two w.x.now w.y.now w.xs.now w.ys.now _ _ w.ensures.cases.0 w.ensures'.cases.0 was.a was.b (omega arith) b p (c.in_default-first_meet.ensures.none p);
    }
