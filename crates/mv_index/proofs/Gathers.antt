-- A list that is gathered from its end: what still shows a byte is kept.
use Rattle.mv_index.proofs.Words.{rules, ◌≡◌, ◌≢◌, ◌∙◌, sym, refl, ap, ℕ, zero, suc, ◌+◌, ◌-◌, ◌*◌, ◌<◌, ◌≤◌, Bool, true, false, ◌&&◌, ◌||◌, not, cond, nat_le, nat_lt, List, ◌∷◌, length, drop, get_or, arith, set, length-set, drop_more, drop-set, get_or-set_other, list_any, range_with_len, Version, is_seen, AreWithin, has, hides, no_version, shown_since, still_shows}

-- The versions from left on have been looked at, those that show a byte stand from kept on, and the bytes that they hide are seen.
pub record IsGathered (whole versions : List Version) (seen : List ℕ) (t left kept : ℕ) : Type 0 where
  pub order : left ≤ kept
  pub inside : kept ≤ length whole
  pub size : length versions ≡ length whole
  pub same : (k : ℕ) → k < left → get_or versions k no_version ≡ get_or whole k no_version
  pub shown : drop kept versions ≡ shown_since t (drop left whole)
  pub hidden : (p : ℕ) → p < 64 * length seen → is_seen seen p ≡ hides t p (drop left whole)

-- the same test of each of the bytes
pub any_same : (f h : ℕ → Bool) (off len : ℕ) → ((p : ℕ) → off ≤ p → p < off + len → f p ≡ h p) → list_any f (range_with_len off len) ≡ list_any h (range_with_len off len)
any_same f h off zero same = refl
any_same f h off (suc len) same =
    let first : f off ≡ h off = same off (omega arith) (omega arith) in
    let rest = any_same f h (off + 1) len (λ p from to. same p (omega arith) (omega arith)) in
    λ i. first i || rest i

module _ (whole versions : List Version) (old new : List ℕ) (t left kept next : ℕ) (was : IsGathered whole versions old t left kept) (some : 0 < left) (next_is : next ≡ left - 1)
    (within : AreWithin (64 * length old) whole) (same_length : length new ≡ length old)
    (marked : (p : ℕ) → p < 64 * length old → is_seen new p ≡ ((nat_le (get_or versions next no_version).number t && has p (get_or versions next no_version)) || is_seen old p)) where
  it : Version
  it = get_or whole next no_version

  pub it_is : get_or versions next no_version ≡ get_or whole next no_version
  it_is = was.same next (omega arith)

  split : drop next whole ≡ get_or whole next no_version ∷ drop left whole
  split = grind (arith, drop_more)

  hidden_now : (p : ℕ) → p < 64 * length new → is_seen new p ≡ hides t p (drop next whole)
  hidden_now p below =
      let lt : p < 64 * length old = omega (arith, same_length, below) in
      marked p lt ∙ (λ i. (nat_le (it_is i).number t && has p (it_is i)) || was.hidden p lt i) ∙ ap (hides t p) (sym split)

  -- what the look says is whether it still shows
  pub shows_is : (nat_lt t (get_or versions next no_version).number || list_any (λ p. not (is_seen old p)) (range_with_len (get_or versions next no_version).off (get_or versions next no_version).len)) ≡ still_shows t (get_or whole next no_version) (drop left whole)
  shows_is = search (rules, arith, not, it_is, any_same)

  pub gathered_kept : (place : ℕ) → place ≡ kept - 1 → (nat_lt t (get_or versions next no_version).number || list_any (λ p. not (is_seen old p)) (range_with_len (get_or versions next no_version).off (get_or versions next no_version).len)) ≡ true
      → IsGathered whole (set versions place (get_or versions next no_version)) new t next place
  gathered_kept place place_is shows =
      let room : place < length versions = omega (arith, was.order, was.inside, was.size) in
      let e : place + 1 ≡ kept = omega (arith, was.order) in
      record {
        order = omega (arith, was.order);
        inside = omega (arith, was.inside);
        size = length-set versions place (get_or versions next no_version) ∙ was.size;
        same = λ k below. let other : k ≢ place = omega (arith, was.order) in get_or-set_other versions place k (get_or versions next no_version) no_version other ∙ was.same k (omega arith);
        shown = drop-set versions place (get_or versions next no_version) room
            ∙ (λ i. it_is i ∷ drop (e i) versions)
            ∙ ap (λ (l : List Version). get_or whole next no_version ∷ l) was.shown
            ∙ ap (λ (b : Bool). cond b (get_or whole next no_version ∷ shown_since t (drop left whole)) (shown_since t (drop left whole))) (sym (sym shows_is ∙ shows))
            ∙ ap (shown_since t) (sym split);
        hidden = hidden_now;
      }

  pub gathered_passed : (nat_lt t (get_or versions next no_version).number || list_any (λ p. not (is_seen old p)) (range_with_len (get_or versions next no_version).off (get_or versions next no_version).len)) ≡ false
      → IsGathered whole versions new t next kept
  gathered_passed shows =
      record {
        order = omega (arith, was.order);
        inside = was.inside;
        size = was.size;
        same = λ k below. was.same k (omega arith);
        shown = was.shown
            ∙ ap (λ (b : Bool). cond b (get_or whole next no_version ∷ shown_since t (drop left whole)) (shown_since t (drop left whole))) (sym (sym shows_is ∙ shows))
            ∙ ap (shown_since t) (sym split);
        hidden = hidden_now;
      }
