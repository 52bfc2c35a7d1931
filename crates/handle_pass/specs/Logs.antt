-- The entries that a session made, by their places.
use Rattle.std.specs.Prelude.{◌≡◌, ℕ, ◌+◌, List, [], ◌∷◌, ◌++◌, length, map, slice_index_or}
use mathlib.Core.List.{IsPrefix}
use Rattle.iso_shared.specs.{declared.entry.Entry.Entry, Legal.IsLegal, States.Start}
use Rattle.iso_shared.specs.declared.entry.Entry.TheVariants as entry
use Rattle.turn_lock.specs.{declared.view.View.View, Lists.{hit, times, AllBelow, RisesFrom}}
use Rattle.handle_pass.specs.Sessions.{SessionState, count}

-- the entries at these places
abbrev pub entries_at : List Entry → List ℕ → List Entry
entries_at E ps = map (λ p. slice_index_or E p (entry.Abort 0)) ps

-- F are the entries of the list at the places that are counted once each, in rising order
pub record Log (count : ℕ → ℕ) (E F : List Entry) : Type 0 where
  pub places : List ℕ
  pub rises : RisesFrom 0 places
  pub below : AllBelow (length E) places
  pub counts : (p : ℕ) → times p places ≡ count p
  pub reads : entries_at E places ≡ F

-- from the one state to the other the session made these entries, after all others of its own
pub record Moves (s t : SessionState) (es : List Entry) : Type 0 where
  pub known : IsPrefix s.seen t.seen
  pub log : (F : List Entry) → Log (count s) s.seen F → Log (count t) t.seen (F ++ es)
  pub units : t.units ≡ s.units

-- how often a place is the session's own, or that of a port that was split off it
abbrev pub count_with : SessionState → View Entry → ℕ → ℕ
count_with s v p = count s p + times p v.mine

-- Through a port that was split off the session, which stayed as it was, these entries were made from the one view to the other,
-- after all others of the two.
pub record MovesThrough (s : SessionState) (v w : View Entry) (es : List Entry) : Type 0 where
  pub known : IsPrefix v.seen w.seen
  pub log : (F : List Entry) → Log (count_with s v) v.seen F → Log (count_with s w) w.seen (F ++ es)

-- The entry was made after all that had been seen, and has been seen then. It is legal there, and its place came to the own ones.
pub record Next (A : Start) (old : List Entry) (mine : ℕ → ℕ) (e : Entry) (new : List Entry) (after : ℕ → ℕ) : Type 0 where
  pub before : List Entry
  pub told : IsPrefix old before
  pub known : IsPrefix (before ++ e ∷ []) new
  pub legal : IsLegal A (before ++ e ∷ [])
  pub places : (p : ℕ) → after p ≡ mine p + hit (length before) p

-- these entries were made one after the other
abbrev pub AreNext : Start → (old : List Entry) → (mine : ℕ → ℕ) → (es : List Entry) → (new : List Entry) → (after : ℕ → ℕ) → Type 0
AreNext A old mine [] new after = IsPrefix old new × ((p : ℕ) → after p ≡ mine p)
AreNext A old mine (e ∷ es) new after = (seen : List Entry) × (now : ℕ → ℕ) × Next A old mine e seen now × AreNext A seen now es new after
