-- What is under the lock after a call that needs no transaction.
use Rattle.iso_shared.proofs.{Words.{clock_of, ◌≡◌, ◌⊎◌, ◌≢◌, inl, ap, refl, ℕ, List, [], ◌∷◌, ◌++◌, Result, Ok, Err, IfOk, IfErr, IsErrOf, OnOk, AreHeld, BlamesDisk, Commit, Core, CoreError, CoreReply, DiskState, Entry, Call, Holds, LeavesOnly, Posted, Refuses, ShowsLast, StandsAt, StandsFor, Start, State, StaysTold, World, after_switch, after_trim, disk_of, down, entry_of, faults_of, floor, state_at, switch_answer, switch_step, trim_entry, tx_in, up}, Cores.{Did, Switches, by_lost, did_trim}, Giving.{KeepsRack, Lends, moved_last, stands_answer}, Standings.MayLeave}
use Rattle.iso_model.specs.declared.core_error.CoreError.TheVariants as error
use Rattle.iso_model.specs.declared.core_reply.CoreReply.TheVariants as reply
use Rattle.iso_shared.specs.declared.entry.Call.TheVariants as call
use Rattle.iso_shared.specs.declared.entry.Entry.TheVariants as entry

module _ {D : Type 0} {disk : D → DiskState} {A : Start} {first : DiskState} {lent : Core D} {items : List (List ℕ × Posted)} {es : List Entry} {ms : List ℕ} {holds : List ℕ} (l : Lends disk A first lent items es ms holds) {shot new : Core D} (copied : shot ≡ lent) where
  pub trimmed_stands : (r : Result ℕ CoreError) → ((W : World) → StandsFor disk lent W up → (r ≡ Ok (floor W)) × StandsFor disk new (after_trim W) up)
      → ((W : World) (lost : List Commit) → StandsFor disk lent W (down lost) → (r ≡ Err error.Down) × (new ≡ lent)) → disk_of new ≡ disk_of lent
      → StandsAt disk A first new items (es ++ trim_entry (faults_of disk shot) (faults_of disk new) r ∷ []) (ms ++ clock_of disk new ∷ [])
  trimmed_stands r trimmed fallen same =
      stands_answer l shot new call.Trim (λ n. entry.Trim n) r copied (λ n. (tt, tt)) tt (λ n T. refl) (inl same) (did_trim disk (state_at A es) lent new (faults_of disk lent) (faults_of disk new) r l.at.core trimmed fallen same)

  -- a switch to the other half, with an image of this form, and the entry that it leaves
  module _ (form : ℕ) (c : Call) (made : ℕ → Entry) (may : (n : ℕ) → MayLeave holds (made n)) (held : AreHeld (tx_in c) holds) (keeps : (n : ℕ) → KeepsRack (made n)) (r : Result ℕ CoreError) where
    pub switched_stands : (Holds disk lent (state_at A es) → Switches disk (state_at A es) lent new form r → Did disk (state_at A es) new (entry_of (faults_of disk lent) (faults_of disk new) c made r))
        → Switches disk (state_at A es) lent new form r → (StandsFor disk lent (state_at A es).world up → LeavesOnly (disk (disk_of lent)) (disk (disk_of new)) (ShowsLast (state_at A es).world))
        → StandsAt disk A first new items (es ++ entry_of (faults_of disk shot) (faults_of disk new) c made r ∷ []) (ms ++ clock_of disk new ∷ [])
    switched_stands did so run =
        let answers = did l.at.core so in
        stands_answer l shot new c made r copied may held keeps
        (by_lost disk (state_at A es) lent _ l.at.core
        (λ is stands. moved_last disk A es (entry_of (faults_of disk lent) (faults_of disk new) c made r) lent new l.at.legal l.at.core.world.kept_of.world.history.first answers.0 is (run stands))
        (λ lost is stands. inl (ap disk_of (so.fallen lost stands).1)))
        answers

-- the clauses of such a call, at one world
pub switches : {D : Type 0} {disk : D → DiskState} {S : State} {old new : Core D} {form : ℕ} {r : Result ℕ CoreError}
    → (StandsFor disk old S.world up → IfOk r (λ n. (n ≡ floor S.world) × ((answer : CoreReply) → switch_step S.world form answer ≡ (answer, after_switch S.world form)) × StandsFor disk new (after_switch S.world form) up))
    → (StandsFor disk old S.world up → IfErr r (λ e. (e ≡ error.Disk) ⊎ Refuses (switch_answer S.world form) e))
    → (StandsFor disk old S.world up → IfErr r (λ e. e ≢ error.Disk → StandsFor disk new S.world up))
    → ((lost : List Commit) → StandsFor disk old S.world (down lost) → (r ≡ Err error.Down) × (new ≡ old))
    → (StandsFor disk old S.world up → IsErrOf r error.Disk → StandsFor disk new S.world (down []))
    → (StandsFor disk old S.world up → IsErrOf r error.Disk → switch_answer S.world form ≡ reply.Done)
    → OnOk r (StaysTold (disk (disk_of old)) (disk (disk_of new))) → IfErr r (λ e. e ≢ error.Disk → StaysTold (disk (disk_of old)) (disk (disk_of new))) → BlamesDisk (faults_of disk old) (faults_of disk new) r
    → Switches disk S old new form r
switches switched refused same fallen lost unworn told still cause = record { switched = switched; refused = refused; same = same; fallen = fallen; lost = lost; unworn = unworn; told = told; still = still; cause = cause }
