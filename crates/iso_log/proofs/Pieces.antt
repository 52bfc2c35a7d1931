-- Bytes of an image that are read piece by piece.
use Rattle.iso_log.proofs.Words.{◌≡◌, ◌≤◌, ◌+◌, ◌-◌, ℕ, List, ◌++◌, length, take, drop, sym, ◌∙◌, ap, arith, length-drop, slice_range, drop-drop, drop-take, length-take-le, take-take, take-plus, StandAt}

-- one piece more
pub stand_more : (place have want : ℕ) (old new c : List ℕ) → length old ≡ have → have ≤ want → place + want ≤ length c → StandAt place old c
    → new ≡ old ++ slice_range c (place + have) (place + have + (want - have)) → StandAt place new c
stand_more place have want old new c count le fits stands is =
    let front : old ≡ take have (drop place c) = stands ∙ ap (λ (n : ℕ). take n (drop place c)) count in
    let more : place + have + (want - have) - (place + have) ≡ want - have = omega arith in
    let all : have + (want - have) ≡ want = omega arith in
    let behind : slice_range c (place + have) (place + have + (want - have)) ≡ take (want - have) (drop have (drop place c)) =
    ap (λ (n : ℕ). take n (drop (place + have) c)) more ∙ ap (take (want - have)) (sym (drop-drop have place c)) in
    let whole : new ≡ take want (drop place c) =
    is ∙ (λ i. front i ++ behind i) ∙ sym (take-plus have (want - have) (drop place c) (omega (arith, length-drop place c))) ∙ ap (λ (n : ℕ). take n (drop place c)) all in
    let size : length new ≡ want = ap length whole ∙ length-take-le want (drop place c) (omega (arith, length-drop place c)) in
    whole ∙ ap (λ (n : ℕ). take n (drop place c)) (sym size)

-- how many bytes a range has
pub range_size : (from end : ℕ) (l : List ℕ) → end ≤ length l → length (slice_range l from end) ≡ end - from
range_size from end l within = length-take-le (end - from) (drop from l) (omega (arith, within, length-drop from l))

-- the range after the first of its bytes
pub range_behind : (from end n : ℕ) (l : List ℕ) → from + n ≤ end → slice_range l (from + n) end ≡ drop n (slice_range l from end)
range_behind from end n l le =
    let far : end - from ≡ n + (end - (from + n)) = omega (arith, le) in
    sym (ap (λ (k : ℕ). drop n (take k (drop from l))) far ∙ drop-take n (end - (from + n)) (drop from l) ∙ ap (take (end - (from + n))) (drop-drop n from l))

-- the front of what is there
pub stand_front : (place n : ℕ) (bytes c : List ℕ) → n ≤ length bytes → StandAt place bytes c → StandAt place (take n bytes) c
stand_front place n bytes c le stands =
    ap (take n) stands ∙ take-take n (length bytes) (drop place c) le ∙ ap (λ (k : ℕ). take k (drop place c)) (sym (length-take-le n bytes le))

-- what is after it
pub stand_behind : (place n : ℕ) (bytes c : List ℕ) → n ≤ length bytes → StandAt place bytes c → StandAt (place + n) (drop n bytes) c
stand_behind place n bytes c le stands =
    let far : length bytes ≡ n + (length bytes - n) = omega arith in
    let left : length (drop n bytes) ≡ length bytes - n = length-drop n bytes in
    ap (drop n) (stands ∙ ap (λ (k : ℕ). take k (drop place c)) far) ∙ drop-take n (length bytes - n) (drop place c)
    ∙ ap (take (length bytes - n)) (drop-drop n place c) ∙ ap (λ (k : ℕ). take k (drop (place + n) c)) (sym left)
