-- A search that halves what is left.
use Rattle.mv_index.proofs.Words.{◌≡◌, ◌<◌, ◌≤◌, ◌+◌, ◌-◌, ◌*◌, ◌^◌, ◌/◌, ℕ, List, length, ◌∙◌, ap, arith, add-one, mul-le-mul_left, pow-succ', Version, number_at, Rise}

pub record IsSearched (versions : List Version) (at steps low high : ℕ) : Type 0 where
  pub order : low ≤ high
  pub inside : high ≤ length versions
  pub below : (k : ℕ) → k < low → number_at versions k ≤ at
  pub above : (k : ℕ) → high ≤ k → k < length versions → at < number_at versions k
  pub left : 2 ^ steps * (high - low) ≤ length versions
  pub cost : 2 ^ steps ≤ 2 * length versions + 1

twice : (steps more : ℕ) → more ≡ steps + 1 → 2 ^ more ≡ 2 * 2 ^ steps
twice steps more is = ap (λ (k : ℕ). 2 ^ k) (is ∙ add-one steps) ∙ pow-succ' 2 steps

halved : (q s half n : ℕ) → q * s ≤ n → 2 * half ≤ s → 2 * q * half ≤ n
halved q s half n le short = let more = mul-le-mul_left q short in omega (arith, le, more)

once : (q s n : ℕ) → q * s ≤ n → 1 ≤ s → 2 * q ≤ 2 * n + 1
once q s n le some = let more = mul-le-mul_left q some in omega (arith, le, more)

module _ (versions : List Version) (at steps low high mid more : ℕ) (rise : Rise versions) (was : IsSearched versions at steps low high) (lt : low < high) (mid_is : mid ≡ low + (high - low) / 2) (more_is : more ≡ steps + 1) where
  bounds : (low ≤ mid) × (mid < high)
  bounds = (omega arith, omega arith)

  pub searched_right : number_at versions mid ≤ at → IsSearched versions at more (mid + 1) high
  searched_right le =
      let two : 2 ^ more ≡ 2 * 2 ^ steps = twice steps more more_is in
      record {
        order = omega (arith, bounds);
        inside = was.inside;
        below = λ k below. let before : number_at versions k ≤ number_at versions mid = rise k mid (omega arith) (omega (arith, bounds, was.inside)) in omega (arith, before, le);
        above = was.above;
        left = rw two (halved (2 ^ steps) (high - low) (high - (mid + 1)) (length versions) was.left (omega arith));
        cost = rw two (once (2 ^ steps) (high - low) (length versions) was.left (omega arith));
      }

  pub searched_left : at < number_at versions mid → IsSearched versions at more low mid
  searched_left le =
      let two : 2 ^ more ≡ 2 * 2 ^ steps = twice steps more more_is in
      record {
        order = omega (arith, bounds);
        inside = omega (arith, bounds, was.inside);
        below = was.below;
        above = λ k from to. let behind : number_at versions mid ≤ number_at versions k = rise mid k from to in omega (arith, behind, le);
        left = rw two (halved (2 ^ steps) (high - low) (mid - low) (length versions) was.left (omega arith));
        cost = rw two (once (2 ^ steps) (high - low) (length versions) was.left (omega arith));
      }
