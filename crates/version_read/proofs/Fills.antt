-- One stretch more of a block is filled, and what follows it was seen.
use Rattle.version_read.proofs.{Words.{◌≡◌, ◌∙◌, sym, refl, ap, ℕ, ◌+◌, ◌-◌, ◌<◌, ◌≤◌, Bool, true, false, ◌&&◌, ◌||◌, not, cond, nat_le, nat_lt, List, length, get_or, arith, and_parts, leb-true, ltb-true, and-false, is_seen, in_bytes, in_split, IsFilled}, Overlays.{part_at, with_part}, Wanted.{unseen, unseen_all, unseen_none, unseen_split}}

taken : (a b s : Bool) (x y z : ℕ) → (a ≡ true → s ≡ false) → (a ≡ true → y ≡ x) → cond a y (cond (b && not s) x z) ≡ cond ((a || b) && not s) x z
taken true b s x y z fresh same = same refl ∙ sym (ap (λ (t : Bool). cond (not t) x z) (fresh refl))
taken false b s x y z fresh same = refl

passed : (a b s : Bool) (x z : ℕ) → (a ≡ true → s ≡ true) → cond (b && not s) x z ≡ cond ((a || b) && not s) x z
passed true b s x z done = ap (λ (t : Bool). cond (b && not t) x z) (done refl) ∙ ap (λ (t : Bool). cond t x z) (and-false b) ∙ sym (ap (λ (t : Bool). cond (not t) x z) (done refl))
passed false b s x z done = refl

in_bounds : (off len p : ℕ) → in_bytes off len p ≡ true → (off ≤ p) × (p < off + len)
in_bounds off len p is = let both = and_parts (nat_le off p) (nat_lt p (off + len)) is in (leb-true off p both.0, ltb-true p (off + len) both.1)

-- nothing is filled at first
pub filled_none : (image : List ℕ) (place off : ℕ) (seen block : List ℕ) → IsFilled image place off (off - off) seen block block
filled_none image place off seen block p below =
    let none : off - off ≡ 0 = omega arith in
    none_step (in_bytes off (off - off) p) (not (is_seen seen p)) (get_or image (place + (p - off)) 0) (get_or block p 0) (λ is. let b = in_bounds off (off - off) p is in absurd (omega (arith, b, none)))
  where
    none_step : (a s : Bool) (x z : ℕ) → (a ≡ true → ⊥) → z ≡ cond (a && s) x z
    none_step true s x z never = absurd (never refl)
    none_step false s x z _ = refl

module _ (image : List ℕ) (place off : ℕ) (seen before now : List ℕ) (at to : ℕ) (first : off ≤ at) (second : at ≤ to) (filled : IsFilled image place off (at - off) seen before now) where
  -- a stretch that was wanted
  pub filled_more : to ≤ length now → length now ≡ length before → place + (at - off) + (to - at) ≤ length image → ((k : ℕ) → at ≤ k → k < to → is_seen seen k ≡ false)
      → IsFilled image place off (to - off) seen before (with_part image (place + (at - off)) at (to - at) now)
  filled_more fits same inside wanted p below =
      let room : at + (to - at) ≤ length now = omega (arith, fits, second) in
      part_at image now (place + (at - off)) at (to - at) room inside p (nat_le at p) (nat_lt p (at + (to - at))) refl refl
      ∙ ap (λ (z : ℕ). cond (in_bytes at (to - at) p) (get_or image (place + (at - off) + (p - at)) 0) z) (filled p below)
      ∙ taken (in_bytes at (to - at) p) (in_bytes off (at - off) p) (is_seen seen p) (get_or image (place + (p - off)) 0) (get_or image (place + (at - off) + (p - at)) 0) (get_or before p 0)
      (λ is. let b = in_bounds at (to - at) p is in wanted p b.0 (omega (arith, b, second)))
      (λ is. let b = in_bounds at (to - at) p is in let e : place + (at - off) + (p - at) ≡ place + (p - off) = omega (arith, b, first) in ap (λ (k : ℕ). get_or image k 0) e)
      ∙ ap (λ (b : Bool). cond (b && not (is_seen seen p)) (get_or image (place + (p - off)) 0) (get_or before p 0)) (sym (in_split off at to p first second))

  -- bytes that were seen
  pub filled_passed : ((k : ℕ) → at ≤ k → k < to → is_seen seen k ≡ true) → IsFilled image place off (to - off) seen before now
  filled_passed done p below =
      filled p below ∙ passed (in_bytes at (to - at) p) (in_bytes off (at - off) p) (is_seen seen p) (get_or image (place + (p - off)) 0) (get_or before p 0)
      (λ is. let b = in_bounds at (to - at) p is in done p b.0 (omega (arith, b, second)))
      ∙ ap (λ (b : Bool). cond (b && not (is_seen seen p)) (get_or image (place + (p - off)) 0) (get_or before p 0)) (sym (in_split off at to p first second))

-- how many were wanted before the next stretch
pub count_more : (seen : List ℕ) (off at to next count : ℕ) → off ≤ at → at ≤ to → to ≤ next → count ≡ unseen seen off (at - off) → ((k : ℕ) → at ≤ k → k < to → is_seen seen k ≡ false)
    → ((k : ℕ) → to ≤ k → k < next → is_seen seen k ≡ true) → count + (to - at) ≡ unseen seen off (next - off)
count_more seen off at to next count first second third is wanted done =
    let whole : at - off + (to - at + (next - to)) ≡ next - off = omega (arith, first, second, third) in
    let here : off + (at - off) ≡ at = omega (arith, first) in
    let there : at + (to - at) ≡ to = omega (arith, second) in
    let split : unseen seen off (next - off) ≡ unseen seen off (at - off) + (unseen seen at (to - at) + unseen seen to (next - to)) =
    ap (unseen seen off) (sym whole) ∙ unseen_split seen off (at - off) (to - at + (next - to))
    ∙ ap (λ (k : ℕ). unseen seen off (at - off) + unseen seen k (to - at + (next - to))) here
    ∙ ap (λ (k : ℕ). unseen seen off (at - off) + k) (unseen_split seen at (to - at) (next - to) ∙ ap (λ (k : ℕ). unseen seen at (to - at) + unseen seen k (next - to)) there) in
    let some : unseen seen at (to - at) ≡ to - at = unseen_all seen at (to - at) (λ p from below. wanted p from (omega (arith, below, second))) in
    let none : unseen seen to (next - to) ≡ 0 = unseen_none seen to (next - to) (λ p from below. done p from (omega (arith, below, third))) in
    omega (arith, split, some, none, is)
