-- What no legal list holds that a looser word would let in, and what the rows of the other file leave.
use Rattle.iso_shared.proofs.{Words.{◌≡◌, ℕ, ◌+◌, ◌-◌, zero, suc, true, false, List, [], ◌∷◌, ◌++◌, Some, None, ap, length, replicate, refl, sym, ◌∙◌, arith, length-replicate, Access, Committed, ReadOnly, Serial, Snapshot, LAST, CoreReply, put, clash, runs, begin_step, commit_step, end_step, read_access, switch_step, write_access, versions, empty_history, fresh, Entry, Numbers, Fits, MayRefuse, numbers_at, IsIsolatedAt, most_steps, Start, opened, state_at}, Rows.{fallen, one_ended, one_put, posted, small, start, two_begun}}
use Rattle.iso_disk.specs.Disk.{DiskState, IsLawful}
use Rattle.iso_shared.proofs.Standings.{told_now, told_since}
use Rattle.iso_shared.specs.Standing.{HaveEnded, ShowsFrom}
use mathlib.Core.List.{IsPrefix}
use Rattle.iso_model.specs.declared.core_reply.CoreReply.TheVariants as reply
use Rattle.iso_shared.specs.declared.entry.Call.TheVariants as call
use Rattle.iso_shared.specs.declared.entry.Cause.TheVariants as cause
use Rattle.iso_shared.specs.declared.entry.Entry.TheVariants as entry

-- where the disk tells nothing, a fetch may have any bytes
abbrev untold : Start
untold = record start { tells = false }

any_bytes : Fits (state_at untold two_begun) (entry.Fetch 2 3 [])
any_bytes = record { needs = (refl, tt); takes = tt; answers = (refl, omega arith, λ tells. absurd (cc tells)) }

not_any_bytes : Fits (state_at start two_begun) (entry.Fetch 2 3 []) → ⊥
not_any_bytes f = let e : 0 ≡ 64 = ap (λ (l : List ℕ). length l) (f.answers.2 refl) in absurd (cc e)

-- in a list that is down nothing is that a call of the core answered
no_end : Fits (state_at start fallen) (entry.End 2 [] ReadOnly) → ⊥
no_end f = cc (f.answers.0)

no_trim : Fits (state_at start fallen) (entry.Trim 0) → ⊥
no_trim f = cc (f.answers.0)

no_compact : Fits (state_at start fallen) (entry.Compact 0) → ⊥
no_compact f = cc (f.answers.0)

no_upgrade : Fits (state_at start fallen) (entry.Upgrade 0) → ⊥
no_upgrade f = cc (f.answers.0)

no_recent : Fits (state_at start fallen) (entry.Recent 2 0) → ⊥
no_recent f = cc (f.answers.0)

-- a fetch takes no memory, and a post is refused as down nowhere
no_memory_for_a_fetch : MayRefuse (state_at start two_begun) (call.Fetch 1 0) cause.Memory → ⊥
no_memory_for_a_fetch may = may

no_down_for_a_post : MayRefuse (state_at start fallen) (call.Post 2 (97 ∷ []) []) cause.Down → ⊥
no_down_for_a_post may = may.0

-- a refusal that names a transaction needs it too, live and under no label
not_under_a_label : Fits (state_at start posted) (entry.Refused (call.Recent 2) cause.Memory) → ⊥
not_under_a_label f = cc (f.needs.0)

not_after_its_end : Fits (state_at start one_ended) (entry.Refused (call.Fetch 1 0) (cause.Disk 3 4)) → ⊥
not_after_its_end f = cc (f.needs.0)

-- an end that conflicts calls no disk
no_disk_in_conflict : MayRefuse (state_at start one_ended) (call.End 2 (read_access 2 ∷ one_put ∷ [])) (cause.Disk 3 4) → ⊥
unfolding put clash runs end_step commit_step
no_disk_in_conflict may = cc (may.0.1)

-- no end has accesses that no transaction of the image may have made
no_access_outside : Fits (state_at start two_begun) (entry.End 1 (write_access 4 (replicate 64 0) ∷ []) (Committed 1)) → ⊥
no_access_outside f = let inside = f.answers.1.each.0.block in absurd (omega arith)

no_short_write : Fits (state_at start two_begun) (entry.End 1 (write_access 3 [] ∷ []) (Committed 1)) → ⊥
no_short_write f = let e = f.answers.1.each.0.bytes refl in absurd (cc e)

-- each fault carries counts from those of the faults before it on
abbrev one_fault : List Entry
one_fault = two_begun ++ entry.Refused (call.Fetch 1 0) (cause.Disk 4 6) ∷ []

later_counts : MayRefuse (state_at start one_fault) (call.Fetch 2 0) (cause.Disk 6 7)
later_counts = (refl, omega arith, omega arith, omega arith)

no_earlier_counts : MayRefuse (state_at start one_fault) (call.Fetch 2 0) (cause.Disk 5 7) → ⊥
no_earlier_counts may = let since = may.1 in absurd (omega arith)

-- the log is full by these two numbers, and no others
abbrev whole_block : Access
whole_block = write_access 1 (replicate 64 5)

abbrev two_blocks : List Entry
two_blocks =
    entry.Begin 1 0 Serial
    ∷ entry.End 1 (whole_block ∷ []) (Committed 1)
    ∷ entry.Begin 2 1 Serial
    ∷ entry.End 2 (whole_block ∷ []) (Committed 2)
    ∷ entry.Begin 3 2 Serial
    ∷ []

abbrev wanted : CoreReply → ℕ
wanted (reply.LogFull need free) = need
wanted answer = 0

log_is_full : MayRefuse (state_at start two_blocks) (call.End 3 (whole_block ∷ [])) (cause.LogFull 93 72)
unfolding put clash runs end_step commit_step
log_is_full = (refl, refl)

no_other_need : MayRefuse (state_at start two_blocks) (call.End 3 (whole_block ∷ [])) (cause.LogFull 92 72) → ⊥
no_other_need may = next_apart 92 (ap wanted (sym (log_is_full.1) ∙ may.1))
  where
    next_apart : (n : ℕ) → suc n ≡ n → ⊥
    next_apart n e = absurd (omega arith)

abbrev full_numbers : Numbers
full_numbers = record { last = 2; base = 0; trim = 0; live = 1; used = 184; versions = 2; down = false }

its_numbers : numbers_at (state_at start two_blocks) ≡ full_numbers
unfolding put runs versions
its_numbers = refl

-- a compaction answers the floor; it is worn at the last generation, and then blames no disk
compacts : Fits (state_at start two_blocks) (entry.Compact 2)
unfolding switch_step
compacts = record { needs = tt; takes = tt; answers = (refl, refl, refl) }

not_beyond_the_floor : Fits (state_at start two_begun) (entry.Compact 1) → ⊥
not_beyond_the_floor f = cc (f.answers.1)

abbrev last_half : Start
last_half = record { world = fresh small LAST (empty_history small); faults = 3; tells = true }

worn : MayRefuse (opened last_half) call.Compact cause.Worn
unfolding switch_step
worn = (refl, refl)

blames_no_disk : MayRefuse (opened last_half) call.Compact (cause.Disk 3 4) → ⊥
unfolding switch_step
blames_no_disk may = cc (may.0.1)

not_worn_before : MayRefuse (opened start) call.Upgrade cause.Worn → ⊥
unfolding switch_step
not_worn_before may = cc (may.1)

-- after an upgrade a begin in the other mode is answered
upgraded : Fits (state_at start (entry.Upgrade 0 ∷ [])) (entry.Begin 1 0 Snapshot)
unfolding begin_step
upgraded = record { needs = tt; takes = tt; answers = (refl, refl, refl) }

-- a sweep takes the one that was posted first since it was last taken out, though it began later
abbrev posted_again : List Entry
posted_again =
    two_begun
    ++ entry.Post 1 (97 ∷ []) []
    ∷ entry.Post 2 (98 ∷ []) []
    ∷ entry.Look (97 ∷ []) (Some (record { number = 1; begin = 0; mode = Serial; accesses = [] }))
    ∷ entry.Post 1 (97 ∷ []) []
    ∷ []

sweeps_the_second : Fits (state_at start posted_again) (entry.Sweep (Some 2))
sweeps_the_second = record { needs = tt; takes = tt; answers = refl }

not_the_first : Fits (state_at start posted_again) (entry.Sweep (Some 1)) → ⊥
not_the_first f = cc (f.answers)

not_no_sweep : Fits (state_at start posted_again) (entry.Sweep None) → ⊥
not_no_sweep f = cc (f.answers)

-- thirteen commits by others after a transaction began: it was checked against ten of them, or against none
abbrev commits : (from count : ℕ) → List Entry
commits from zero = []
commits from (suc n) = entry.Begin (from + 1) (from - 1) Serial ∷ entry.End (from + 1) (one_put ∷ []) (Committed from) ∷ commits (from + 1) n

abbrev thirteen : List Entry
thirteen = entry.Begin 1 0 Serial ∷ commits 1 13

three_steps : (most_steps start thirteen 10 ≡ 3) × (most_steps start thirteen 0 ≡ 13)
three_steps = (refl, refl)

-- upkeep answers the floor, a look at later commits the last one, and by a transaction that is live
not_another_floor : Fits (state_at start two_begun) (entry.Trim 1) → ⊥
not_another_floor f = cc (f.answers.1)

no_upgrade_beyond : Fits (state_at start two_begun) (entry.Upgrade 1) → ⊥
no_upgrade_beyond f = cc (f.answers.1)

not_another_last : Fits (state_at start one_ended) (entry.Recent 2 0) → ⊥
not_another_last f = cc (f.answers.1)

not_recent_unbegun : Fits (opened start) (entry.Recent 1 0) → ⊥
not_recent_unbegun f = cc (f.needs.0)

-- a stat tells the numbers there
abbrev no_numbers : Numbers
no_numbers = record { last = 0; base = 0; trim = 0; live = 0; used = 0; versions = 0; down = false }

not_other_numbers : Fits (state_at start two_begun) (entry.Stat no_numbers) → ⊥
not_other_numbers f = let e : 0 ≡ 2 = ap (λ (n : Numbers). n.live) f.answers in absurd (cc e)

-- no fault is in a call that calls no disk
no_fault_of_a_begin : MayRefuse (opened start) (call.Begin None) (cause.Disk 3 4) → ⊥
no_fault_of_a_begin may = may.0

no_fault_of_a_trim : MayRefuse (opened start) call.Trim (cause.Disk 3 4) → ⊥
no_fault_of_a_trim may = may.0

no_fault_of_a_post : MayRefuse (state_at start two_begun) (call.Post 1 (97 ∷ []) []) (cause.Disk 3 4) → ⊥
no_fault_of_a_post may = may.0

no_fault_of_a_recent : MayRefuse (state_at start two_begun) (call.Recent 1) (cause.Disk 3 4) → ⊥
no_fault_of_a_recent may = may.0

-- nor in one on a device that is down
no_fault_of_a_fetch_down : MayRefuse (state_at start fallen) (call.Fetch 2 3) (cause.Disk 4 5) → ⊥
no_fault_of_a_fetch_down may = cc (may.0)

no_fault_of_an_end_down : MayRefuse (state_at start fallen) (call.End 2 (one_put ∷ [])) (cause.Disk 4 5) → ⊥
no_fault_of_an_end_down may = cc (may.0.0)

no_fault_of_an_upgrade_down : MayRefuse (state_at start fallen) call.Upgrade (cause.Disk 4 5) → ⊥
no_fault_of_an_upgrade_down may = cc (may.0.0)

-- nor want of memory there
no_memory_of_an_end_down : MayRefuse (state_at start fallen) (call.End 2 []) cause.Memory → ⊥
no_memory_of_an_end_down may = cc may

no_memory_of_a_compact_down : MayRefuse (state_at start fallen) call.Compact cause.Memory → ⊥
no_memory_of_a_compact_down may = cc may

no_memory_of_an_upgrade_down : MayRefuse (state_at start fallen) call.Upgrade cause.Memory → ⊥
no_memory_of_an_upgrade_down may = cc may

no_memory_of_a_recent_down : MayRefuse (state_at start fallen) (call.Recent 2) cause.Memory → ⊥
no_memory_of_a_recent_down may = cc may

-- nothing but a post finds a label taken, and a begin is refused for what it is
not_taken_of_a_begin : MayRefuse (state_at start posted) (call.Begin None) cause.LabelTaken → ⊥
not_taken_of_a_begin may = may

not_taken_of_an_end : MayRefuse (state_at start posted) (call.End 1 []) cause.LabelTaken → ⊥
not_taken_of_an_end may = may

not_too_many : MayRefuse (opened start) (call.Begin None) cause.TooManyTx → ⊥
unfolding begin_step
not_too_many may = cc (may.1)

not_mode_fixed : MayRefuse (opened start) (call.Begin None) cause.ModeFixed → ⊥
unfolding begin_step
not_mode_fixed may = cc (may.1)

-- a call that is refused has arguments that it may have
no_refusal_outside : Fits (state_at start two_begun) (entry.Refused (call.Fetch 1 4) (cause.Disk 3 4)) → ⊥
no_refusal_outside f = let inside = f.answers.0 in absurd (omega arith)

no_refused_end_outside : Fits (state_at start two_begun) (entry.Refused (call.End 1 (write_access 3 [] ∷ [])) cause.Memory) → ⊥
no_refused_end_outside f = let e = f.answers.0.each.0.bytes refl in absurd (cc e)

-- nor more accesses than a transaction may have
abbrev one_too_many : List Access
one_too_many = replicate 4097 (read_access 1)

no_access_too_many : Fits (state_at start two_begun) (entry.End 1 one_too_many ReadOnly) → ⊥
no_access_too_many f = absurd (omega (arith, f.answers.1.count, length-replicate 4097 (read_access 1)))

no_refused_end_too_many : Fits (state_at start two_begun) (entry.Refused (call.End 1 one_too_many) cause.Memory) → ⊥
no_refused_end_too_many f = absurd (omega (arith, f.answers.0.count, length-replicate 4097 (read_access 1)))

-- nor does a fetch find a label taken
not_taken_of_a_fetch : MayRefuse (state_at start posted) (call.Fetch 1 0) cause.LabelTaken → ⊥
not_taken_of_a_fetch may = may

-- a list in which both commit, though the second has read what the first then wrote, leads to no isolated history
abbrev lost_read : List Entry
lost_read = one_ended ++ entry.End 2 (read_access 2 ∷ one_put ∷ []) (Committed 2) ∷ []

some_number : (n : ℕ) → 0 ≡ suc n → ⊥
some_number n e = cc e

not_isolated : IsIsolatedAt start lost_read → ⊥
unfolding put
not_isolated is = some_number 169 ((is 2 (omega arith) (omega arith)).isolated 0 0 refl)

-- a store that syncs what it answered only as it closes: the image of a crash at the turn's end has not its commit
not_synced_at_the_close : {D : Type 0} {disk : D → DiskState} {A : Start} {first d : DiskState} (es : List Entry) (e : Entry) (moments : List ℕ) → IsLawful d → HaveEnded disk A first d (es ++ e ∷ []) moments
    → (c : List ℕ) → d.now c → (ShowsFrom A (es ++ e ∷ []) (es ++ e ∷ []) c → ⊥) → ⊥
not_synced_at_the_close es e moments laws have c here lacks = lacks (told_now es e moments laws have c here)

-- one that syncs it as the next turn begins: an image that was left since the moment at which the turn ended has not its commit
not_synced_at_the_next_turn : {D : Type 0} {disk : D → DiskState} {A : Start} {first d : DiskState} {es : List Entry} {moments : List ℕ} → HaveEnded disk A first d es moments → (before : List Entry) (e : Entry) (past : List ℕ) (t : ℕ)
    → IsPrefix (before ++ e ∷ []) es → IsPrefix (past ++ t ∷ []) moments → length past ≡ length before → (c : List ℕ) → d.left t c → (ShowsFrom A (before ++ e ∷ []) es c → ⊥) → ⊥
not_synced_at_the_next_turn have before e past t front gone same c left lacks = lacks ((told_since have before e past t front gone same).1 c left)
