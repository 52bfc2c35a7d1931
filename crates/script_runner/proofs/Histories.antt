-- What an image shows stays true while the history grows.
use Rattle.script_runner.proofs.Words.{inl, inr, ℕ, List, sym, arith, subst, Geometry, last, Shows, World, IsWorld, LeadsTo, shows_any_form, shows_longer, longer, DiskState, LeavesOnly, joined, weakened, ShowsEither, ShowsBetween}

pub shows_on : (W V : World) (bytes : List ℕ) (p : ℕ) → IsWorld W → LeadsTo W V → Shows bytes W.geometry W.history p → Shows bytes V.geometry V.history p
shows_on W V bytes p is leads shown =
    subst (λ (g : Geometry). Shows bytes g V.history p) (sym leads.geometry.same)
    (shows_any_form bytes W.geometry V.geometry.form V.history p (shows_longer bytes W.geometry W.history V.history p is.history.first leads.history shown))

-- at the last commit
pub shows_last : (W : World) (c : List ℕ) → Shows c W.geometry W.history (last W.history) → ShowsBetween W W c
shows_last W c shown = record { at = last W.history; from = omega arith; to = omega arith; shows = shown }

-- one step of a run
pub step_between : (W V : World) → IsWorld W → LeadsTo W V → (c : List ℕ) → ShowsEither W V c → ShowsBetween W V c
step_between W V is leads c (inl before) = record { at = last W.history; from = omega arith; to = longer W V leads; shows = shows_on W V c (last W.history) is leads before }
step_between W V is leads c (inr after) = record { at = last V.history; from = longer W V leads; to = omega arith; shows = after }

-- where the run goes on
pub between_on : (W V U : World) → IsWorld V → LeadsTo V U → (c : List ℕ) → ShowsBetween W V c → ShowsBetween W U c
between_on W V U is leads c shown = record { at = shown.at; from = shown.from; to = omega (arith, shown.to, longer V U leads); shows = shows_on V U c shown.at is leads shown.shows }

-- where it began earlier
pub between_since : (W V U : World) → LeadsTo W V → (c : List ℕ) → ShowsBetween V U c → ShowsBetween W U c
between_since W V U leads c shown = record { at = shown.at; from = omega (arith, shown.from, longer W V leads); to = shown.to; shows = shown.shows }

-- Two runs, one after the other, are one.
pub runs_joined : (W V U : World) → LeadsTo W V → LeadsTo V U → {old mid new : DiskState}
    → LeavesOnly old mid (ShowsBetween W V) → LeavesOnly mid new (ShowsBetween V U) → LeavesOnly old new (ShowsBetween W U)
runs_joined W V U first second one two = joined (weakened one (between_on W V U first.world second)) (weakened two (between_since W V U first))
