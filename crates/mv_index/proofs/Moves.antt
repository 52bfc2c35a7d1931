-- Versions that are moved show what they showed, and their pieces are moved with them.
use Rattle.mv_index.proofs.{Words.{◌≡◌, ◌⊎◌, inl, inr, ◌∙◌, sym, refl, ap, ℕ, suc, ◌+◌, ◌-◌, ◌^◌, ◌<◌, ◌≤◌, Bool, true, false, cond, nat_lt, List, [], ◌∷◌, None, Option, Some, length, map, get_or, arith, option_map, AllByRecursion, filter, cases_eq, cases_lt, lt-leb, ltb-true, or_else, AreSplit, ArePieces, Follow, IsRow, IsStart, AllLie, Lies, Version, moved, moved_to, newest_with, no_version, place_in, has}, Layers.{or_else_none, place_is}, Orders.{has_it, inside_of, none_before, some_at, sooner}, Showing.{IsFrom, from_piece, newest_in}, Sublists.{Rises, all_at, all_left, all_of, rise_of, rises_of}}

abbrev kept : ℕ → List Version → List Version
kept from versions = filter (λ v. nat_lt from v.place) versions

all_moved : (P Q : Version → Type 0) (from to : ℕ) (versions : List Version) → ((v : Version) → from < v.place → P v → Q (moved from to v)) → AllByRecursion P versions → AllByRecursion Q (moved_to from to versions)
all_moved P Q from to versions each = all_left P Q (λ v. nat_lt from v.place) (moved from to) versions (λ v test. each v (ltb-true from v.place test))

rises_step : (from to : ℕ) (v : Version) (xs : List Version) → AllByRecursion (λ w. v.number ≤ w.number) (map (moved from to) xs) → Rises (map (moved from to) xs) → (b : Bool) → Rises (map (moved from to) (cond b (v ∷ xs) xs))
rises_step from to v xs all rest true = (all, rest)
rises_step from to v xs all rest false = rest

rises_moved : (from to : ℕ) (versions : List Version) → Rises versions → Rises (moved_to from to versions)
rises_moved from to [] rises = tt
rises_moved from to (v ∷ versions) rises =
    rises_step from to v (kept from versions) (all_moved (λ w. v.number ≤ w.number) (λ w. v.number ≤ w.number) from to versions (λ w behind le. le) rises.0) (rises_moved from to versions rises.1) (nat_lt from v.place)

-- a version if it is after the place
abbrev if_behind : ℕ → Option Version → Option Version
if_behind from None = None
if_behind from (Some v) = cond (nat_lt from v.place) (Some v) None

-- where a version after the place has a byte, the later ones before the place have it not
abbrev IsClear : ℕ → List Version → Type 0
IsClear from [] = Unit {0}
IsClear from (v ∷ versions) = ((p : ℕ) (w : Version) → from < v.place → has p v ≡ true → newest_with versions p ≡ Some w → from < w.place) × IsClear from versions

clear_last : (from : ℕ) (versions : List Version) → ((i j : ℕ) → i ≤ j → j < length versions → from < (get_or versions i no_version).place → from < (get_or versions j no_version).place) → IsClear from versions
clear_last from [] order = tt
clear_last from (v ∷ versions) order = (
  λ p w behind own found. (newest_in (λ u. from < u.place) versions p w (all_of (λ u. from < u.place) no_version versions (λ i below. order 0 (suc i) (omega arith) (omega (arith, below)) behind)) found).0,
  clear_last from versions (λ i j le below. order (suc i) (suc j) (omega (arith, le)) (omega (arith, below))),
)

clear_order : (from y : ℕ) (pieces : List Version) → Follow y pieces → IsClear from pieces
clear_order from y [] order = tt
clear_order from y (q ∷ pieces) order = (
  λ p w behind own found. (
      let none = (none_before (q.off + q.len) p pieces order.2 (inside_of p q own).1).0 in
      let wrong : None ≡ Some (w.place + (p - w.off)) = sym none ∙ place_is pieces p ∙ ap (option_map (λ (v : Version). v.place + (p - v.off))) found in
      cc),
  clear_order from (q.off + q.len) pieces order.2,
)

stays_step : (from to : ℕ) (v : Version) (N : Option Version) (h : Bool) → nat_lt from v.place ≡ true → ((w : Version) → h ≡ true → N ≡ Some w → from < w.place)
    → or_else (option_map (moved from to) (if_behind from N)) (cond h (Some (moved from to v)) None) ≡ option_map (moved from to) (if_behind from (or_else N (cond h (Some v) None)))
stays_step from to v None true behind clear = sym (ap (λ (b : Bool). option_map (moved from to) (cond b (Some v) None)) behind)
stays_step from to v None false behind clear = refl
stays_step from to v (Some w) true behind clear = grind arith
stays_step from to v (Some w) false behind clear = or_else_none (option_map (moved from to) (if_behind from (Some w)))

drops_step : (from : ℕ) (v : Version) (N : Option Version) → nat_lt from v.place ≡ false → (h : Bool) → if_behind from N ≡ if_behind from (or_else N (cond h (Some v) None))
drops_step from v None before true = sym (ap (λ (b : Bool). cond b (Some v) None) before)
drops_step from v None before false = refl
drops_step from v (Some w) before h = refl

newest_step : (from to p : ℕ) (v : Version) (xs : List Version) (N : Option Version) → newest_with (map (moved from to) xs) p ≡ option_map (moved from to) (if_behind from N)
    → ((w : Version) → from < v.place → has p v ≡ true → N ≡ Some w → from < w.place) → (b : Bool) → nat_lt from v.place ≡ b
    → newest_with (map (moved from to) (cond b (v ∷ xs) xs)) p ≡ option_map (moved from to) (if_behind from (or_else N (cond (has p v) (Some v) None)))
newest_step from to p v xs N rest clear true is = grind (arith, stays_step)
newest_step from to p v xs N rest clear false is = rest ∙ ap (option_map (moved from to)) (drops_step from v N is (has p v))

newest_moved : (from to p : ℕ) (versions : List Version) → IsClear from versions → newest_with (moved_to from to versions) p ≡ option_map (moved from to) (if_behind from (newest_with versions p))
newest_moved from to p [] clear = refl
newest_moved from to p (v ∷ versions) clear = newest_step from to p v (kept from versions) (newest_with versions p) (newest_moved from to p versions clear.1) (clear.0 p) (nat_lt from v.place) refl

moved_is : (from to p : ℕ) (versions : List Version) (v : Version) → IsClear from versions → newest_with versions p ≡ Some v → from < v.place → newest_with (moved_to from to versions) p ≡ Some (moved from to v)
moved_is from to p versions v clear is behind = grind (arith, newest_moved)

-- a version that has one byte, and is the last one with another
none_step : (v : Version) (o : Option Version) (b : Bool) → or_else o (cond b (Some v) None) ≡ None → (o ≡ None) × (b ≡ false)
none_step v None true none = cc
none_step v None false none = (refl, refl)
none_step v (Some x) b none = cc

some_step : (u w : Version) (o : Option Version) (h b : Bool) → (o ≡ Some w → ⊥) → or_else o (cond h (Some u) None) ≡ Some w → (u ≡ w → b ≡ true) → b ≡ false → ⊥
some_step u w None true b later is own off = (let same : u ≡ w = cc in let wrong : true ≡ false = sym (own same) ∙ off in cc)
some_step u w None false b later is own off = cc
some_step u w (Some x) h b later is own off = later is

has_newest : (versions : List Version) (p s : ℕ) (w : Version) → newest_with versions s ≡ Some w → has p w ≡ true → newest_with versions p ≡ None → ⊥
has_newest [] p s w is own none = cc
has_newest (u ∷ versions) p s w is own none =
    let both = none_step u (newest_with versions p) (has p u) none in
    some_step u w (newest_with versions s) (has s u) (has p u) (λ is. has_newest versions p s w is own both.0) is (λ same. ap (has p) same ∙ own) both.1

-- where a byte is whose version is moved
abbrev shifted : (from to : ℕ) → Option ℕ → Option ℕ
shifted from to None = None
shifted from to (Some x) = cond (nat_lt from x) (Some (to + (x - from))) None

abbrev IsApart : ℕ → Version → Type 0
IsApart from v = (v.place + v.len ≤ from) ⊎ (from < v.place)

shift_step : (from to p : ℕ) (v : Version) → IsApart from v → (v.off ≤ p) × (p < v.off + v.len)
    → option_map (λ (w : Version). w.place + (p - w.off)) (option_map (moved from to) (if_behind from (Some v))) ≡ shifted from to (Some (v.place + (p - v.off)))
shift_step from to p v (inl before) own = grind arith
shift_step from to p v (inr behind) own = grind arith

place_step : (from to p : ℕ) (versions : List Version) → AllByRecursion (IsApart from) versions → (N : Option Version) → newest_with versions p ≡ N
    → option_map (λ (w : Version). w.place + (p - w.off)) (option_map (moved from to) (if_behind from N)) ≡ shifted from to (option_map (λ (w : Version). w.place + (p - w.off)) N)
place_step from to p versions all None is = refl
place_step from to p versions all (Some v) is = let one = newest_in (IsApart from) versions p v all is in shift_step from to p v one.0 (inside_of p v one.1)

place_moved : (from to p : ℕ) (versions : List Version) → AllByRecursion (IsApart from) versions → IsClear from versions → place_in (moved_to from to versions) p ≡ shifted from to (place_in versions p)
place_moved from to p versions all clear =
    place_is (moved_to from to versions) p ∙ ap (option_map (λ (w : Version). w.place + (p - w.off))) (newest_moved from to p versions clear)
    ∙ place_step from to p versions all (newest_with versions p) refl ∙ ap (shifted from to) (sym (place_is versions p))

order_step : (from to y : ℕ) (q : Version) (xs : List Version) → y ≤ q.off → 0 < q.len → Follow (q.off + q.len) (map (moved from to) xs) → (b : Bool) → Follow y (map (moved from to) (cond b (q ∷ xs) xs))
order_step from to y q xs le some rest true = (le, some, rest)
order_step from to y q xs le some rest false = sooner (q.off + q.len) y (map (moved from to) xs) (omega (arith, le)) rest

order_moved : (from to y : ℕ) (pieces : List Version) → Follow y pieces → Follow y (moved_to from to pieces)
order_moved from to y [] order = tt
order_moved from to y (q ∷ pieces) order = order_step from to y q (kept from pieces) order.0 order.1 (order_moved from to (q.off + q.len) pieces order.2) (nat_lt from q.place)

module _ (from to : ℕ) (versions pieces : List Version) (split : AreSplit from versions) (are : ArePieces pieces versions) where
  clear : IsClear from versions
  clear = clear_last from versions split.order

  all_apart : AllByRecursion (IsApart from) versions
  all_apart = all_of (IsApart from) no_version versions split.apart

  -- the version that shows the first byte of a piece, or another one of it
  shows : (i p : ℕ) → i < length pieces → (get_or pieces i no_version).off ≤ p → p < (get_or pieces i no_version).off + (get_or pieces i no_version).len
      → IsFrom (IsApart from) versions p ((get_or pieces i no_version).place + (p - (get_or pieces i no_version).off))
  shows i p below = from_piece (IsApart from) pieces versions i p all_apart are below

  pieces_apart : AllByRecursion (IsApart from) pieces
  pieces_apart = all_of (IsApart from) no_version pieces (λ i below. elim (cases_lt from (get_or pieces i no_version).place) [
    | inl lt ↦ inr lt
    | inr le ↦ elim (cases_lt from ((get_or pieces i no_version).place + (get_or pieces i no_version).len)) [
      | inl over ↦
          let one = shows i ((get_or pieces i no_version).off + (from - (get_or pieces i no_version).place)) below (omega arith) (omega (arith, over, le)) in
          absurd (elim one.each [ inl before ↦ omega (arith, before, one.there, one.from, one.to, le) | inr behind ↦ omega (arith, behind, one.there, le) ])
      | inr short ↦ inl short
    ]
  ])

  start_step : (s : ℕ) (u v : Version) → newest_with versions s ≡ Some u → from < u.place → (u.off ≤ s) × (s < u.off + u.len) → ((newest_with versions s ≡ Some v) × (v.off ≡ s)) ⊎ ((newest_with versions (s - 1) ≡ Some v) × (v.off + v.len ≡ s))
      → IsStart (moved_to from to versions) s
  start_step s u v is behind own (inl at) =
      let same : v ≡ u = (let both : Some v ≡ Some u = sym at.0 ∙ is in cc) in
      (moved from to u, inl (moved_is from to s versions u clear is behind, ap (λ (w : Version). w.off) (sym same) ∙ at.1))
  start_step s u v is behind own (inr at) = elim (cases_lt from v.place) [
    | inl lt ↦ (moved from to v, inr (moved_is from to (s - 1) versions v clear at.0 lt, at.1))
    | inr le ↦ elim (cases_eq u.off s) [
      | inl here ↦ (moved from to u, inl (moved_is from to s versions u clear is behind, here))
      | inr other ↦
          let none : newest_with (moved_to from to versions) (s - 1) ≡ None = newest_moved from to (s - 1) versions clear ∙ ap (λ (o : Option Version). option_map (moved from to) (if_behind from o)) at.0
          ∙ ap (λ (b : Bool). option_map (moved from to) (cond b (Some v) None)) (lt-leb (suc from) v.place (omega (arith, le))) in
          absurd (has_newest (moved_to from to versions) (s - 1) s (moved from to u) (moved_is from to s versions u clear is behind) (has_it (s - 1) u (omega (arith, own, other)) (omega (arith, own))) none)
    ]
  ]

  start_moved : (i : ℕ) → i < length pieces → from < (get_or pieces i no_version).place → IsStart (moved_to from to versions) (get_or pieces i no_version).off
  start_moved i below behind =
      let some = (some_at 0 i no_version pieces are.order below).1 in
      let one = shows i (get_or pieces i no_version).off below (omega arith) (omega (arith, some)) in
      let start = all_at (λ q. IsStart versions q.off) no_version pieces are.start i below in
      let after : from < one.v.place = elim one.each [ inl before ↦ absurd (omega (arith, before, behind, one.there, one.from, one.to)) | inr over ↦ over ] in
      start_step (get_or pieces i no_version).off one.v start.0 one.newest after (one.from, one.to) start.1

  pieces_moved : ArePieces (moved_to from to pieces) (moved_to from to versions)
  pieces_moved = record {
    order = order_moved from to 0 pieces are.order;
    place = λ p. place_moved from to p pieces pieces_apart (clear_order from 0 pieces are.order) ∙ ap (shifted from to) (are.place p) ∙ sym (place_moved from to p versions all_apart clear);
    start = all_moved (λ q. from < q.place → IsStart (moved_to from to versions) q.off) (λ q. IsStart (moved_to from to versions) q.off) from to pieces (λ q behind start. start behind)
        (all_of (λ q. from < q.place → IsStart (moved_to from to versions) q.off) no_version pieces start_moved);
  }

pub row_moved : (from to block size : ℕ) (versions pieces : List Version) → AreSplit from versions → AllLie block size versions → to + size < 2 ^ 64 → IsRow versions pieces → IsRow (moved_to from to versions) (moved_to from to pieces)
row_moved from to block size versions pieces split lie fits row = record {
  rise = rise_of (moved_to from to versions) (rises_moved from to versions (rises_of versions row.rise));
  placed = all_at (Lies 4096 (2 ^ 64 - 1)) no_version (moved_to from to versions)
      (all_moved (λ v. (v.off + v.len ≤ 4096) × (v.place + v.len ≤ size)) (Lies 4096 (2 ^ 64 - 1)) from to versions (λ v behind both. record { fits = both.0; inside = omega (arith, both.1, fits, behind) })
      (all_of (λ v. (v.off + v.len ≤ 4096) × (v.place + v.len ≤ size)) no_version versions (λ i below. ((row.placed i below).fits, (lie i below).inside))));
  pieces_of = pieces_moved from to versions pieces split row.pieces_of;
}
