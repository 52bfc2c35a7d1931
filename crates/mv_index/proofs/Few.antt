-- There are at most two pieces a version: each begins where another version begins or ends.
use Rattle.mv_index.proofs.{Words.{◌≡◌, inl, inr, sym, refl, ap, ℕ, ◌+◌, ◌-◌, ◌*◌, ◌<◌, ◌≤◌, Bool, true, false, ◌||◌, ◌==◌, List, [], ◌∷◌, length, map, arith, subst, AllByRecursion, IsDistinct, IsEquivalence, length-le_from_is_member, length-map, list_any, cases_eq, eq-eqb, eqb-true, ne_eqb, ArePieces, Follow, IsStart, Version, or_right}, Showing.newest_in, Sublists.all_weaker}

abbrev ends_of : List Version → List ℕ
ends_of [] = []
ends_of (v ∷ versions) = v.off ∷ (v.off + v.len) ∷ ends_of versions

length-ends_of : (versions : List Version) → length (ends_of versions) ≡ 2 * length versions
length-ends_of [] = refl
length-ends_of (v ∷ versions) = omega (arith, length-ends_of versions)

same_test : (x y z : ℕ) → (b : Bool) → (x == y) ≡ b → (y == x) ≡ b
same_test x y z true is = eq-eqb y x (sym (eqb-true x y is))
same_test x y z false is = elim (cases_eq y x) [ inl same ↦ (let wrong = eq-eqb x y (sym same) in cc) | inr other ↦ ne_eqb y x other ]

is_equal : IsEquivalence ◌==◌
is_equal = grind (arith, same_test)

abbrev Has : List ℕ → ℕ → Type 0
Has ends s = list_any (λ e. s == e) ends ≡ true

all_ends : (ends : List ℕ) (versions : List Version) → ((s : ℕ) → Has (ends_of versions) s → Has ends s) → AllByRecursion (λ v. Has ends v.off × Has ends (v.off + v.len)) versions
all_ends ends [] more = tt
all_ends ends (v ∷ versions) more = (
  (
    more v.off (ap (λ (b : Bool). b || ((v.off == (v.off + v.len)) || list_any (λ e. v.off == e) (ends_of versions))) (eq-eqb v.off v.off refl)),
    more (v.off + v.len) (or_right ((v.off + v.len) == v.off) (((v.off + v.len) == (v.off + v.len)) || list_any (λ e. (v.off + v.len) == e) (ends_of versions)) (ap (λ (b : Bool). b || list_any (λ e. (v.off + v.len) == e) (ends_of versions)) (eq-eqb (v.off + v.len) (v.off + v.len) refl))),
  ),
  all_ends ends versions (λ s is. more s (or_right (s == v.off) ((s == (v.off + v.len)) || list_any (λ e. s == e) (ends_of versions)) (or_right (s == (v.off + v.len)) (list_any (λ e. s == e) (ends_of versions)) is))),
)

one_step : (ends xs : List ℕ) (s x : ℕ) → Has ends x → (Has xs s → Has ends s) → (b : Bool) → (s == x) ≡ b → (b || list_any (λ e. s == e) xs) ≡ true → Has ends s
one_step ends xs s x here later true is found = subst (Has ends) (sym (eqb-true s x is)) here
one_step ends xs s x here later false is found = later found

each_of : (ends : List ℕ) (pieces : List Version) (s : ℕ) → AllByRecursion (λ q. Has ends q.off) pieces → Has (map (λ q. q.off) pieces) s → Has ends s
each_of ends [] s all found = cc
each_of ends (q ∷ pieces) s all found = one_step ends (map (λ q. q.off) pieces) s q.off all.0 (each_of ends pieces s all.1) (s == q.off) refl found

later_off : (x y : ℕ) (pieces : List Version) → x < y → Follow y pieces → AllByRecursion (λ e. (x == e) ≡ false) (map (λ q. q.off) pieces)
later_off x y [] lt order = tt
later_off x y (q ∷ pieces) lt order = (ne_eqb x q.off (λ same. omega (arith, same, lt, order.0)), later_off x (q.off + q.len) pieces (omega (arith, lt, order.0)) order.2)

distinct : (y : ℕ) (pieces : List Version) → Follow y pieces → IsDistinct ◌==◌ (map (λ q. q.off) pieces)
unfolding IsDistinct
distinct y [] order = tt
distinct y (q ∷ pieces) order = (later_off q.off (q.off + q.len) pieces (omega (arith, order.1)) order.2, distinct (q.off + q.len) pieces order.2)

start_in : (versions : List Version) (s : ℕ) → IsStart versions s → Has (ends_of versions) s
start_in versions s start =
    let all = all_ends (ends_of versions) versions (λ s is. is) in
    let each = newest_in (λ v. Has (ends_of versions) v.off × Has (ends_of versions) (v.off + v.len)) versions in
    elim start.1 [
      | inl at ↦ subst (Has (ends_of versions)) at.1 (each s start.0 all at.0).0.0
      | inr at ↦ subst (Has (ends_of versions)) at.1 (each (s - 1) start.0 all at.0).0.1
    ]

pub pieces_few : (pieces versions : List Version) → ArePieces pieces versions → length pieces ≤ 2 * length versions
pieces_few pieces versions are =
    let all = all_weaker (λ q. IsStart versions q.off) (λ q. Has (ends_of versions) q.off) pieces (λ q. start_in versions q.off) are.start in
    let most = length-le_from_is_member is_equal (map (λ (q : Version). q.off) pieces) (ends_of versions) (distinct 0 pieces are.order) (λ s. each_of (ends_of versions) pieces s all) in
    omega (arith, most, length-map pieces (λ (q : Version). q.off), length-ends_of versions)
