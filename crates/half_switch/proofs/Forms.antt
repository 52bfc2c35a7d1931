-- A half that is filled from another, in whatever form.
use Rattle.half_switch.proofs.Words.{◌≡◌, ◌<◌, ◌≤◌, ◌+◌, ◌-◌, ℕ, zero, suc, List, [], ◌∷◌, take, drop, IsTrue, sym, arith, length-drop, AllByRecursion, Geometry, Run, LAST, is_valid, History, AreRuns, IsRecord, Written, IsHistory, held_array, MaySwitch, Half, IsHeld, in_form, last_told, held_each, held_last, held_half, later_records, refilled}
use Rattle.iso_image.specs.Half.{half_of}

runs_form : (g : Geometry) (form : ℕ) (parts : List Run) → AreRuns g parts → AreRuns (in_form form g) parts
runs_form g form [] all = tt
runs_form g form (x ∷ []) all = record { block = all.block; some = all.some; fits = all.fits }
runs_form g form (x ∷ y ∷ parts) all = (record { block = all.0.block; some = all.0.some; fits = all.0.fits }, all.1, runs_form g form (y ∷ parts) all.2)

-- records are records in a later form
pub each_form : (g : Geometry) (form : ℕ) (told : List Written) → (form ≡ 1 → g.form ≡ 1) → AllByRecursion (IsRecord g) told → AllByRecursion (IsRecord (in_form form g)) told
each_form g form [] rises all = tt
each_form g form (w ∷ told) rises all =
    (record { some = all.0.some; runs = runs_form g form w.parts all.0.runs; mode = λ is. all.0.mode (rises is) }, each_form g form told rises all.1)

pub all_take : (g : Geometry) (k : ℕ) (told : List Written) → AllByRecursion (IsRecord g) told → AllByRecursion (IsRecord g) (take k told)
all_take g zero told each = tt
all_take g (suc k) [] each = tt
all_take g (suc k) (w ∷ told) each = (each.0, all_take g k told each.1)

all_drop : (g : Geometry) (k : ℕ) (told : List Written) → AllByRecursion (IsRecord g) told → AllByRecursion (IsRecord g) (drop k told)
all_drop g zero told each = each
all_drop g (suc k) [] each = tt
all_drop g (suc k) (w ∷ told) each = all_drop g k told each.1

-- The half may come after the one that it was filled from.
pub may_switch : (g : Geometry) (form generation base : ℕ) (x : Half) (bytes : List ℕ) → IsHeld g x bytes → IsTrue (is_valid (in_form form g)) → (form ≡ 1 → g.form ≡ 1)
    → x.generation < generation → generation ≤ LAST → x.base ≤ base → base ≤ last_told x → MaySwitch g form x (refilled g generation base x)
may_switch g form generation base x bytes has valid rises later small from until =
    let half = held_half g x bytes has in
    let last = held_last g x bytes has in
    record {
      both = omega (arith, half);
      later = later;
      generation = small;
      numbers = omega (arith, last, from, until, length-drop (base - x.base) x.told);
      valid = valid;
      each = each_form g form (drop (base - x.base) x.told) rises (all_drop g (base - x.base) x.told (held_each g x bytes has));
    }

-- Filled from the half of a history it is that of the same history.
pub refilled_history : (g : Geometry) (at generation next b c : ℕ) (H : History) → IsHistory g H → H.first ≤ b + 1 → b ≤ c
    → refilled g next c (half_of g at generation b H) ≡ half_of g (1 - at) next c H
refilled_history g at generation next b c H history since up =
    let array = held_array g b c H history since up in
    let told = sym (later_records g at generation next b c H since up) in
    λ i. record { at = 1 - at; generation = next; base = c; array = array i; told = told i }
