-- What the pieces of a block's versions show, and where they lie.
use Rattle.mv_index.proofs.{Words.{◌≡◌, inl, inr, ◌∙◌, sym, refl, ap, ℕ, ◌+◌, ◌-◌, ◌^◌, ◌<◌, ◌≤◌, Bool, true, false, cond, List, [], ◌∷◌, ◌++◌, None, Option, Some, length, get_or, arith, subst, option_map, AllByRecursion, cases_lt, get_or_append_left, get_or_push, length_push, or_else, AllLie, AreAtMost, ArePieces, IsRow, Lies, Rise, Version, has, newest_with, no_version, place_in, shown_since}, Laid.pieces_kept, Layers.{newest_kept, place_is}, Orders.{has_it, inside_of, own_at, some_at}, Sublists.{all_append, all_at, all_of, all_shown, shown_rise}}

-- the newest version with a byte is one of the versions, and has it
newest_step : (P : Version → Type 0) (u : Version) (p : ℕ) (v : Version) (o : Option Version) → (o ≡ Some v → P v × (has p v ≡ true)) → P u → (b : Bool) → has p u ≡ b → or_else o (cond b (Some u) None) ≡ Some v → P v × (has p v ≡ true)
newest_step P u p v None later one true is found = let same : u ≡ v = cc in subst (λ (w : Version). P w × (has p w ≡ true)) same (one, is)
newest_step P u p v None later one false is found = cc
newest_step P u p v (Some w) later one b is found = later found

pub newest_in : (P : Version → Type 0) (versions : List Version) (p : ℕ) (v : Version) → AllByRecursion P versions → newest_with versions p ≡ Some v → P v × (has p v ≡ true)
newest_in P [] p v all found = cc
newest_in P (u ∷ versions) p v all found = newest_step P u p v (newest_with versions p) (newest_in P versions p v all.1) all.0 (has p u) refl found

-- the version that has the byte which is at a place
pub record IsFrom (P : Version → Type 0) (versions : List Version) (p x : ℕ) : Type 0 where
  pub v : Version
  pub newest : newest_with versions p ≡ Some v
  pub each : P v
  pub from : v.off ≤ p
  pub to : p < v.off + v.len
  pub there : v.place + (p - v.off) ≡ x

from_step : (P : Version → Type 0) (versions : List Version) (p x : ℕ) → AllByRecursion P versions → (o : Option Version) → newest_with versions p ≡ o → option_map (λ (v : Version). v.place + (p - v.off)) o ≡ Some x → IsFrom P versions p x
from_step P versions p x all None is found = cc
from_step P versions p x all (Some v) is found =
    let one = newest_in P versions p v all is in
    let both = inside_of p v one.1 in
    record { v = v; newest = is; each = one.0; from = both.0; to = both.1; there = cc }

pub from_place : (P : Version → Type 0) (versions : List Version) (p x : ℕ) → AllByRecursion P versions → place_in versions p ≡ Some x → IsFrom P versions p x
from_place P versions p x all is = from_step P versions p x all (newest_with versions p) refl (sym (place_is versions p) ∙ is)

-- the version that shows a byte of a piece
pub from_piece : (P : Version → Type 0) (pieces versions : List Version) (i p : ℕ) → AllByRecursion P versions → ArePieces pieces versions → i < length pieces → (get_or pieces i no_version).off ≤ p → p < (get_or pieces i no_version).off + (get_or pieces i no_version).len
    → IsFrom P versions p ((get_or pieces i no_version).place + (p - (get_or pieces i no_version).off))
from_piece P pieces versions i p all are below from to = grind (arith, from_place, own_at, has_it)

-- Where the versions lie in an image, their pieces do.
pub pieces_lie : (pieces versions : List Version) (block size : ℕ) → ArePieces pieces versions → AllLie block size versions → AllLie block size pieces
pieces_lie pieces versions block size are lie i below =
    let some = (some_at 0 i no_version pieces are.order below).1 in
    let one = from_piece (Lies block size) pieces versions i ((get_or pieces i no_version).off + (get_or pieces i no_version).len - 1) (all_of (Lies block size) no_version versions lie) are below (omega (arith, some)) (omega (arith, some)) in
    record { fits = omega (arith, some, one.each.fits, one.to); inside = omega (arith, some, one.each.inside, one.there, one.from, one.to) }

pub row_trimmed : (t : ℕ) (versions pieces : List Version) → IsRow versions pieces → IsRow (shown_since t versions) pieces
row_trimmed t versions pieces row = record {
  rise = shown_rise t versions row.rise;
  placed = all_at (Lies 4096 (2 ^ 64 - 1)) no_version (shown_since t versions) (all_shown (Lies 4096 (2 ^ 64 - 1)) t versions (all_of (Lies 4096 (2 ^ 64 - 1)) no_version versions row.placed));
  pieces_of = pieces_kept pieces versions (shown_since t versions) (λ p. newest_kept t p versions) row.pieces_of;
}

-- a version more, with a number that is not below the others
rise_push : (versions : List Version) (v : Version) → Rise versions → AreAtMost v.number versions → Rise (versions ++ v ∷ [])
rise_push versions v rise most i j le below = elim (cases_lt j (length versions)) [
  | inl lt ↦
      let first = get_or_append_left versions (v ∷ []) no_version i (omega (arith, le, lt)) in
      let second = get_or_append_left versions (v ∷ []) no_version j lt in
      omega (arith, ap (λ (w : Version). w.number) first, ap (λ (w : Version). w.number) second, rise i j le lt)
  | inr over ↦
      let last = get_or_push versions v no_version j (omega (arith, over, below, length_push versions v)) in
      elim (cases_lt i (length versions)) [
        | inl lt ↦
            let first = get_or_append_left versions (v ∷ []) no_version i lt in
            omega (arith, ap (λ (w : Version). w.number) first, ap (λ (w : Version). w.number) last, most i lt)
        | inr same ↦
            let first = get_or_push versions v no_version i (omega (arith, same, le, below, length_push versions v)) in
            omega (arith, ap (λ (w : Version). w.number) first, ap (λ (w : Version). w.number) last)
      ]
]

pub row_more : (versions pieces new : List Version) (v : Version) → IsRow versions pieces → AreAtMost v.number versions → Lies 4096 (2 ^ 64 - 1) v → ArePieces new (versions ++ v ∷ []) → IsRow (versions ++ v ∷ []) new
row_more versions pieces new v row most lies are = record {
  rise = rise_push versions v row.rise most;
  placed = all_at (Lies 4096 (2 ^ 64 - 1)) no_version (versions ++ v ∷ []) (all_append (Lies 4096 (2 ^ 64 - 1)) versions (v ∷ []) (all_of (Lies 4096 (2 ^ 64 - 1)) no_version versions row.placed) (lies, tt));
  pieces_of = are;
}
