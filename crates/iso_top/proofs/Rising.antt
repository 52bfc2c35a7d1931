-- The count of faults along a legal list.
use Rattle.iso_top.proofs.{Words.{◌≡◌, ◌⊎◌, inl, inr, ℕ, ◌≤◌, Bool, true, false, cond, List, [], ◌∷◌, ◌++◌, Option, Some, None, IsSome, refl, sym, subst, arith, list_any, Rose, Commit, Line, Call, Cause, Entry, Fits, LegalFrom, MayRefuse, Start, State, after_all, after_fault, after_refusal, opened, state_at, status_of, stopped, wants, Told, Part}, Stops.{Blames, HasBlame, blame_left, parts_blame}}
use Rattle.iso_shared.specs.declared.entry.Call.TheVariants as call
use Rattle.iso_shared.specs.declared.entry.Cause.TheVariants as cause
use Rattle.iso_shared.specs.declared.entry.Entry.TheVariants as entry
use Rattle.iso_shared.specs.States.{after}

-- an entry leaves the count and whether the device is down, or it tells of a fault
abbrev Quiet : State → State → Type 0
Quiet S T = (T.faults ≡ S.faults) × (T.lost ≡ S.lost)

abbrev Failed : State → State → Type 0
Failed S T = Rose S.faults T.faults × (S.faults ≤ T.faults)

fault_count : (S : State) (c : Call) (k : ℕ) → (after_fault S c k).faults ≡ k
fault_count S (call.Begin named) k = refl
fault_count S c k = refl

failed_by : (f b k : ℕ) → f ≤ b → Rose b k → b ≤ k → Rose f k × (f ≤ k)
failed_by f b k low rose later = (omega arith, omega arith)

refusal_step : (S : State) (c : Call) (why : Cause) → MayRefuse S c why → Quiet S (after_refusal S c why) ⊎ Failed S (after_refusal S c why)
refusal_step S c cause.Down may = inl (refl, refl)
refusal_step S c cause.TooManyTx may = inl (refl, refl)
refusal_step S c (cause.LogFull need free) may = inl (refl, refl)
refusal_step S c (cause.Disk before now) (may, low, rose, later) =
    inr (subst (λ (k : ℕ). Rose S.faults k × (S.faults ≤ k)) (sym (fault_count S c now)) (failed_by S.faults before now low rose later))
refusal_step S c cause.Memory may = inl (refl, refl)
refusal_step S c cause.Worn may = inl (refl, refl)
refusal_step S c cause.ModeFixed may = inl (refl, refl)
refusal_step S c cause.LabelTaken may = inl (refl, refl)

step_of : (S : State) (e : Entry) → Fits S e → Quiet S (after S e) ⊎ Failed S (after S e)
step_of S (entry.Begin n at mode) fits = inl (refl, refl)
step_of S (entry.Fetch n block bytes) fits = inl (refl, refl)
step_of S (entry.End n accesses reply) fits = inl (refl, refl)
step_of S (entry.EndGroup ends) fits = inl (refl, refl)
step_of S (entry.Abort n) fits = inl (refl, refl)
step_of S (entry.Trim n) fits = inl (refl, refl)
step_of S (entry.Compact n) fits = inl (refl, refl)
step_of S (entry.Upgrade n) fits = inl (refl, refl)
step_of S (entry.Stat numbers) fits = inl (refl, refl)
step_of S (entry.Post n label accesses) fits = inl (refl, refl)
step_of S (entry.Look label found) fits = inl (refl, refl)
step_of S (entry.Sweep None) fits = inl (refl, refl)
step_of S (entry.Sweep (Some n)) fits = inl (refl, refl)
step_of S (entry.Recent n upto) fits = inl (refl, refl)
step_of S (entry.Refused c why) fits = refusal_step S c why fits.answers.1

-- the count is at least f, and rose above it where the device is down
abbrev Kept : ℕ → State → Type 0
Kept f S = (f ≤ S.faults) × (IsSome S.lost → Rose f S.faults)

rose_on : (f : ℕ) (S T : State) → Quiet S T ⊎ Failed S T → Rose f S.faults → Rose f T.faults
rose_on f S T (inl quiet) rose = subst (Rose f) (sym quiet.0) rose
rose_on f S T (inr failed) rose = let later : S.faults ≤ T.faults = failed.1 in omega arith

kept_on : (f : ℕ) (S T : State) → Quiet S T ⊎ Failed S T → Kept f S → Kept f T
kept_on f S T (inl quiet) kept =
    let same = quiet.0 in
    let low = kept.0 in
    (omega arith, λ some. subst (Rose f) (sym same) (kept.1 (subst (λ (o : Option (List Commit)). IsSome o) quiet.1 some)))
kept_on f S T (inr failed) kept =
    let low = kept.0 in
    let rose = failed.0 in
    let later = failed.1 in
    (omega arith, λ some. omega arith)

blamed_here : (f : ℕ) (S : State) (e : Entry) → Fits S e → Blames e → Kept f S → Rose f (after S e).faults
blamed_here f S (entry.Refused c (cause.Disk before now)) fits b kept = by fits.answers.1
  where
    by : MayRefuse S c (cause.Disk before now) → Rose f (after_fault S c now).faults
    by (may, low, rose, later) = let least = kept.0 in subst (Rose f) (sym (fault_count S c now)) (omega arith)
blamed_here f S (entry.Refused c cause.Down) fits b kept = kept.1 fits.answers.1.1
blamed_here f S e fits b kept = absurd b

rose_all : (f : ℕ) (es : List Entry) (S : State) → LegalFrom S es → Rose f S.faults → Rose f (after_all S es).faults
rose_all f [] S legal rose = rose
rose_all f (e ∷ es) S legal rose = rose_all f es (after S e) legal.1 (rose_on f S (after S e) (step_of S e legal.0) rose)

blamed_all : (f : ℕ) (es : List Entry) (S : State) → LegalFrom S es → HasBlame es → Kept f S → Rose f (after_all S es).faults
blamed_all f [] S legal b kept = absurd b
blamed_all f (e ∷ es) S legal (inl here) kept = rose_all f es (after S e) legal.1 (blamed_here f S e legal.0 here kept)
blamed_all f (e ∷ es) S legal (inr b) kept = blamed_all f es (after S e) legal.1 b (kept_on f S (after S e) (step_of S e legal.0) kept)

-- the status that tells of wanting memory, and of a stop by the disk
abbrev pub status_by : (wants stops : Bool) → ℕ
status_by wants stops = cond wants 8 (cond stops 5 0)

of_5 : (v s : Bool) → status_by v s ≡ 5 → (v ≡ false) × (s ≡ true)
of_5 true s e = absurd (omega (arith, e))
of_5 false true e = (refl, refl)
of_5 false false e = absurd (omega (arith, e))

-- where the disk stopped a client, its count of faults rose
pub fault_rose : (A : Start) (lines : List (ℕ × Line)) (parts : List Part) (entries : List Entry) → Told A lines parts entries → status_of parts ≡ 5 → Rose A.faults (state_at A entries).faults
fault_rose A lines parts entries told five =
    let (none, one) = of_5 (list_any (λ (p : Part). wants p.stop) parts) (list_any (λ (p : Part). stopped p.stop) parts) five in
    let here : HasBlame told.made = parts_blame A.world.geometry A.tells told.made lines told.owners parts told.told none one in
    let all : HasBlame entries = subst HasBlame (sym told.are) (blame_left (told.made ++ told.swept) (entry.Sweep None ∷ []) (blame_left told.made told.swept here)) in
    blamed_all A.faults entries (opened A) told.legal all (omega arith, λ some. absurd (cc some))
