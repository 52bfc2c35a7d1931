-- Records that are added to the log of the current half.
use Rattle.iso_image.proofs.{Words.{◌≡◌, ◌⊎◌, inl, inr, ◌<◌, ◌≤◌, ◌+◌, ℕ, List, [], ◌∷◌, ◌++◌, length, take, drop, sym, ◌∙◌, ap, arith, length-append, subst, AllByRecursion, length-take, take-take, Geometry, LAST, log_place, IsRecord, Written, records, spliced, Torn, get_or-torn, slice-torn, spliced_torn, torn_same, IsClosed, IsOpen, Half, IsHeld, HasLog, MayFollow, last_told, next_gate, told_bytes, with_records, Appending, InLog}, Appends.appending_gate, Frames.{frame, held_half, log_inside}, Logs.{has_log, log_front, log_gate, log_step, log_whole, records-append}}

-- the log of the half that an image holds
pub held_log : (g : Geometry) (x : Half) (c : List ℕ) → IsHeld g x c → HasLog (log_place g x.at) g.log g (x.base + 1) x.told c
held_log g x c has = grind arith

pub log_in_image : (g : Geometry) (x : Half) (c : List ℕ) → IsHeld g x c → log_place g x.at + g.log ≤ length c
log_in_image g x c has = omega (arith, has.image.size, log_inside g x.at (held_half g x c has))

-- its records
pub held_each : (g : Geometry) (x : Half) (c : List ℕ) → IsHeld g x c → AllByRecursion (IsRecord g) x.told
held_each g x c has = subst (AllByRecursion (IsRecord g)) has.told_is has.image.each

pub held_last : (g : Geometry) (x : Half) (c : List ℕ) → IsHeld g x c → last_told x ≤ LAST
held_last g x c has = grind arith

all_append : (g : Geometry) (xs ys : List Written) → AllByRecursion (IsRecord g) xs → AllByRecursion (IsRecord g) ys → AllByRecursion (IsRecord g) (xs ++ ys)
all_append g [] ys a b = b
all_append g (x ∷ xs) ys a b = (a.0, all_append g xs ys a.1 b)

-- what may follow, as the log's lemmas ask for it
module _ (g : Geometry) (x : Half) (more : List Written) (bytes old : List ℕ) (may : MayFollow g x more) (is : bytes ≡ records g (last_told x + 1) more ++ 0 ∷ []) (has : IsHeld g x old) where
  spelled : bytes ≡ records g (x.base + 1 + length x.told) more ++ 0 ∷ []
  spelled = let n : last_told x + 1 ≡ x.base + 1 + length x.told = omega arith in is ∙ ap (λ (k : ℕ). records g k more ++ 0 ∷ []) n

  short : length (told_bytes g x) + length bytes ≤ g.log
  short =
      let all = ap length (records-append g (x.base + 1) x.told more) in
      omega (arith, may.room, all, ap length spelled, length-append (records g (x.base + 1 + length x.told) more) (0 ∷ []), length-append (told_bytes g x) (records g (x.base + 1 + length x.told) more))

  in_log : (new : List ℕ) → Torn (next_gate g x) (length bytes) old new → InLog g x.at old new
  in_log new torn = record { from = next_gate g x; count = length bytes; starts = omega arith; ends = omega (arith, short); torn = torn }

  each_more : AllByRecursion (IsRecord g) (x.told ++ more)
  each_more = all_append g x.told more (held_each g x old has) may.each

  last_more : x.base + length (x.told ++ more) ≤ LAST
  last_more = omega (arith, may.numbers, length-append x.told more)

-- Through the append of records an image holds what it held, or that with the records.
pub adding : (g : Geometry) (x : Half) (more : List Written) (bytes old new : List ℕ) → MayFollow g x more → bytes ≡ records g (last_told x + 1) more ++ 0 ∷ []
    → IsHeld g x old → Appending (next_gate g x) bytes old new → IsHeld g x new ⊎ IsHeld g (with_records more x) new
adding g x more bytes old new may is has step =
    let change = in_log g x more bytes old may is has new step.torn in
    elim (log_step (log_place g x.at) g.log g (x.base + 1) x.told more bytes old new (spelled g x more bytes old may is has) (log_in_image g x old has) (short g x more bytes old may is has) (held_log g x old has) step) [
      | inl same ↦ inl (frame g x old new has change x.told (held_each g x old has) (held_last g x old has) same)
      | inr grown ↦ inr (frame g x old new has change (x.told ++ more) (each_more g x more bytes old may is has) (last_more g x more bytes old may is has) grown)
    ]

-- Where they stand whole, the image holds that with the records.
pub added : (g : Geometry) (x : Half) (more : List Written) (bytes old new : List ℕ) → MayFollow g x more → bytes ≡ records g (last_told x + 1) more ++ 0 ∷ []
    → IsHeld g x old → new ≡ spliced old (next_gate g x) bytes → IsHeld g (with_records more x) new
added g x more bytes old new may is has whole =
    let inside = log_in_image g x old has in
    let less = short g x more bytes old may is has in
    let enough : next_gate g x + length bytes ≤ length old = omega (arith, inside, less) in
    let torn : Torn (next_gate g x) (length bytes) old new = subst (Torn (next_gate g x) (length bytes) old) (sym whole) (spliced_torn old (next_gate g x) bytes enough) in
    frame g x old new has (in_log g x more bytes old may is has new torn) (x.told ++ more) (each_more g x more bytes old may is has) (last_more g x more bytes old may is has)
    (log_whole (log_place g x.at) g.log g (x.base + 1) x.told more bytes old new (spelled g x more bytes old may is has) inside less (held_log g x old has) whole)

-- Where their bodies stand after the gate and it opens, too.
pub added_by_gate : (g : Geometry) (x : Half) (more : List Written) (body old new : List ℕ) → MayFollow g x more → 1 ∷ body ≡ records g (last_told x + 1) more ++ 0 ∷ []
    → IsHeld g x old → take (length body) (drop (next_gate g x + 1) old) ≡ body → Torn (next_gate g x) 1 old new → IsOpen (next_gate g x) new
    → IsHeld g (with_records more x) new
added_by_gate g x more body old new may is has stands torn opened =
    let inside = log_in_image g x old has in
    let less = short g x more (1 ∷ body) old may is has in
    let step = appending_gate (next_gate g x) body old old new (omega (arith, inside, less)) (torn_same (next_gate g x + 1) (length body) old) stands torn in
    elim step.state [
      | inl closed ↦ absurd (closed opened)
      | inr whole ↦ added g x more (1 ∷ body) old new may is has whole
    ]

-- Bytes after the gate of the next record are free.
pub free_behind : (g : Geometry) (x : Half) (from count : ℕ) (old new : List ℕ) → IsHeld g x old → next_gate g x < from → from + count ≤ log_place g x.at + g.log
    → Torn from count old new → IsHeld g x new
free_behind g x from count old new has starts ends torn =
    let inside = log_in_image g x old has in
    let size : length new ≡ length old = torn.size in
    let short : length (told_bytes g x) < g.log = omega (arith, starts, ends) in
    let log = held_log g x old has in
    let front : take (length (told_bytes g x)) (drop (log_place g x.at) new) ≡ told_bytes g x =
    slice-torn torn (log_place g x.at) (length (told_bytes g x)) (inl (omega (arith, starts)))
    ∙ sym (take-take (length (told_bytes g x)) g.log (drop (log_place g x.at) old) (omega (arith, short)))
    ∙ log_front (log_place g x.at) g.log g (x.base + 1) x.told old log in
    let closed : IsClosed (next_gate g x) new = λ is. log_gate (log_place g x.at) g.log g (x.base + 1) x.told old log (sym (get_or-torn torn (next_gate g x) 0 (inl starts)) ∙ is) in
    frame g x old new has (record { from = from; count = count; starts = omega (arith, starts); ends = ends; torn = torn }) x.told (held_each g x old has) (held_last g x old has)
    (has_log (log_place g x.at) g.log g (x.base + 1) x.told new (omega (arith, inside, size)) short front closed)

-- the gate of the next record is closed
pub next_closed : (g : Geometry) (x : Half) (c : List ℕ) → IsHeld g x c → IsClosed (next_gate g x) c
next_closed g x c has = log_gate (log_place g x.at) g.log g (x.base + 1) x.told c (held_log g x c has)

-- and lies in the log
pub next_inside : (g : Geometry) (x : Half) (c : List ℕ) → IsHeld g x c → length (told_bytes g x) < g.log
next_inside g x c has =
    let (gate, rest, closed, is) = held_log g x c has in
    omega (arith, ap length is, length-append (told_bytes g x) (gate ∷ rest), length-take g.log (drop (log_place g x.at) c))
