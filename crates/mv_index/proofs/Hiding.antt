-- What it means that a version is hidden.
use Rattle.mv_index.proofs.{Words.{◌≡◌, ◌≢◌, ◌∙◌, refl, ap, ℕ, zero, suc, ◌+◌, ◌<◌, ◌≤◌, Bool, true, false, ◌&&◌, ◌||◌, not, nat_le, nat_lt, List, [], ◌∷◌, length, get_or, arith, list_any, range_with_len, ltb-false, le-ltb, Version, IsHidden, has, hides, no_version, still_shows, or-true}, Again.{hidden_at, or_parts}, Orders.has_it}

-- a later version that has the byte
pub record IsCover (t p : ℕ) (later : List Version) (i : ℕ) : Type 0 where
  pub below : i < length later
  pub upto : (get_or later i no_version).number ≤ t
  pub from : (get_or later i no_version).off ≤ p
  pub to : p < (get_or later i no_version).off + (get_or later i no_version).len

cover_step : (t p : ℕ) (v : Version) (later : List Version) → (hides t p later ≡ true → (i : ℕ) × IsCover t p later i) → (b : Bool) → (nat_le v.number t && has p v) ≡ b → (b || hides t p later) ≡ true → (i : ℕ) × IsCover t p (v ∷ later) i
cover_step t p v later rest true is any = grind arith
cover_step t p v later rest false is any =
    let one = rest any in
    (suc one.0, record { below = omega (arith, one.1.below); upto = one.1.upto; from = one.1.from; to = one.1.to })

cover_of : (t p : ℕ) (later : List Version) → hides t p later ≡ true → (i : ℕ) × IsCover t p later i
cover_of t p [] any = cc
cover_of t p (v ∷ later) any = cover_step t p v later (cover_of t p later) (nat_le v.number t && has p v) refl any

hides_of : (t p i : ℕ) (later : List Version) → IsCover t p later i → hides t p later ≡ true
hides_of t p i [] one = absurd (omega (arith, one.below))
hides_of t p zero (v ∷ later) one = grind (arith, has_it)
hides_of t p (suc i) (v ∷ later) one =
    let rest : hides t p later ≡ true = hides_of t p i later (record { below = omega (arith, one.below); upto = one.upto; from = one.from; to = one.to }) in
    ap (λ (b : Bool). (nat_le v.number t && has p v) || b) rest ∙ or-true (nat_le v.number t && has p v)

is_false : (b : Bool) → b ≢ true → b ≡ false
is_false b wrong = grind arith

not_both : (b : Bool) → b ≡ false → b ≢ true
not_both true is wrong = cc
not_both false is wrong = cc

pub hidden_of : (t : ℕ) (v : Version) (later : List Version) → still_shows t v later ≢ true → IsHidden t v later
hidden_of t v later wrong =
    let parts = or_parts (nat_lt t v.number) (list_any (λ p. not (hides t p later)) (range_with_len v.off v.len)) (is_false (still_shows t v later) wrong) in
    record {
      upto = ltb-false t v.number parts.0;
      covered = λ p from to.
          let one = cover_of t p later (hidden_at t v later p parts.1 (has_it p v from to)) in
          (one.0, one.1.below, one.1.upto, one.1.from, one.1.to);
    }

any_false : (f : ℕ → Bool) (a n : ℕ) → ((i : ℕ) → a ≤ i → i < a + n → f i ≡ false) → list_any f (range_with_len a n) ≡ false
any_false f a zero none = refl
any_false f a (suc n) none =
    let first : f a ≡ false = none a (omega arith) (omega arith) in
    let rest = any_false f (a + 1) n (λ i from to. none i (omega (arith, from)) (omega (arith, to))) in
    λ k. first k || rest k

pub of_hidden : (t : ℕ) (v : Version) (later : List Version) → IsHidden t v later → still_shows t v later ≢ true
of_hidden t v later is =
    let under : nat_lt t v.number ≡ false = le-ltb t v.number is.upto in
    let none : list_any (λ p. not (hides t p later)) (range_with_len v.off v.len) ≡ false =
    any_false (λ p. not (hides t p later)) v.off v.len (λ p from to. let one = is.covered p from to in ap not (hides_of t p one.0 later (record { below = one.1; upto = one.2; from = one.3; to = one.4 }))) in
    let all : still_shows t v later ≡ false = λ k. under k || none k in
    not_both (still_shows t v later) all
