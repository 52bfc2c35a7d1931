-- Events of several clients, put together.
use Rattle.store_scripts.{proofs.ThreadWords.{◌≡◌, ◌∙◌, sym, refl, ap, subst, cond, AreLines, ℕ, ◌==◌, Bool, true, false, List, [], ◌∷◌, ◌++◌, eq-eqb, eqb-true, IsOp, Event, Made, entries_in, events_of, lines_in}, specs.Trace.{Done, Step}}

-- lines of good operations
abbrev pub AreOps : List Event → Type 0
AreOps [] = Unit {0}
AreOps (Made c e ∷ events) = AreOps events
AreOps (Done c s ∷ events) = IsOp s.line.1.op × AreOps events

pub entries_joined : (xs ys : List Event) → entries_in (xs ++ ys) ≡ entries_in xs ++ entries_in ys
entries_joined [] ys = refl
entries_joined (Made c e ∷ xs) ys = ap (λ l. e ∷ l) (entries_joined xs ys)
entries_joined (Done c s ∷ xs) ys = entries_joined xs ys

pub ops_front : (xs ys : List Event) → AreOps (xs ++ ys) → AreOps xs
ops_front [] ys all = tt
ops_front (Made c e ∷ xs) ys all = ops_front xs ys all
ops_front (Done c s ∷ xs) ys all = (all.0, ops_front xs ys all.1)

pub ops_at : (xs ys : List Event) (c : ℕ) (s : Step) → AreOps (xs ++ Done c s ∷ ys) → IsOp s.line.1.op
ops_at [] ys c s all = all.0
ops_at (Made d e ∷ xs) ys c s all = ops_at xs ys c s all
ops_at (Done d r ∷ xs) ys c s all = ops_at xs ys c s all.1

-- good lines, of all events and of each client's
pub ops_lines : (events : List Event) → AreLines (lines_in events) → AreOps events
ops_lines [] all = tt
ops_lines (Made c e ∷ events) all = ops_lines events all
ops_lines (Done c s ∷ events) all = (all.0, ops_lines events all.1)

pub ops_each : (events : List Event) → ((c : ℕ) → AreOps (events_of c events)) → AreOps events
ops_each [] all = tt
ops_each (Made c e ∷ events) all = ops_each events (λ d. by d (c == d) (all d))
  where
    by : (d : ℕ) (b : Bool) → AreOps (cond b (Made c e ∷ events_of d events) (events_of d events)) → AreOps (events_of d events)
    by d true of = of
    by d false of = of
ops_each (Done c s ∷ events) all = ((subst (λ b. AreOps (cond b (Done c s ∷ events_of c events) (events_of c events))) (eq-eqb c c refl) (all c)).0, ops_each events (λ d. by d (c == d) (all d)))
  where
    by : (d : ℕ) (b : Bool) → AreOps (cond b (Done c s ∷ events_of d events) (events_of d events)) → AreOps (events_of d events)
    by d true of = of.1
    by d false of = of

-- two clients that differ, the other way round
pub swapped : (c d : ℕ) → (c == d) ≡ false → (d == c) ≡ false
swapped c d differ = by (d == c) refl
  where
    by : (b : Bool) → (d == c) ≡ b → (d == c) ≡ false
    by false is = is
    by true is = absurd (cc (sym differ ∙ eq-eqb c d (sym (eqb-true d c is))))
