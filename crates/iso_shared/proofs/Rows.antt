-- What the definitions of legal lists compute on small lists, and what no legal list holds.
use Rattle.iso_shared.proofs.Words.{◌≡◌, true, false, List, [], ◌∷◌, ◌++◌, Some, None, ap, length, replicate, refl, arith, is_some, option_map, Access, Committed, Geometry, Serial, Snapshot, clash, put, runs, begin_step, commit_step, end_step, put_access, read_access, empty_history, fresh, is_out, Entry, Posting, Fits, IsGroup, MayRefuse, answer_to, end_answer, handed, numbers_at, returned, Start, is_loose, opened, state_at, ◌∙◌, length-map, length-replicate, GroupReply, write_access, Member, MemberEnd, group_answers, last, lost_commits, member_of}
use Rattle.iso_model.specs.declared.core_reply.CoreReply.TheVariants as reply
use Rattle.iso_shared.specs.declared.entry.Call.TheVariants as call
use Rattle.iso_shared.specs.declared.entry.Cause.TheVariants as cause
use Rattle.iso_shared.specs.declared.entry.Entry.TheVariants as entry
use Rattle.iso_model.specs.declared.access.GroupReply.TheVariants as member

abbrev pub small : Geometry
small = record { block = 64; blocks = 4; log = 256; mode = Serial; hash = 0; tree = 0; form = 1 }

abbrev pub start : Start
start = record { world = fresh small 1 (empty_history small); faults = 3; tells = true }

-- a write of one byte of block 2, and a read of that block
abbrev pub one_put : Access
one_put = put_access 64 2 0 (170 ∷ [])

abbrev pub two_begun : List Entry
two_begun = entry.Begin 1 0 Serial ∷ entry.Begin 2 0 Serial ∷ []

abbrev pub one_ended : List Entry
one_ended = two_begun ++ entry.End 1 (one_put ∷ []) (Committed 1) ∷ []

-- a first begin has number 1 and begins at commit 0
begins_at_none : Fits (opened start) (entry.Begin 1 0 Serial)
unfolding begin_step
begins_at_none = record { needs = tt; takes = tt; answers = (refl, refl, refl) }

-- no other number, and no other begin
no_other_number : Fits (opened start) (entry.Begin 2 0 Serial) → ⊥
no_other_number f = cc (f.answers.1)

no_other_begin : Fits (opened start) (entry.Begin 1 1 Serial) → ⊥
unfolding begin_step
no_other_begin f = cc (f.answers.2)

-- in form 1 a begin in the other mode is refused so, and not for its number
other_mode : answer_to start.world (call.Begin (Some Snapshot)) ≡ reply.ModeFixed
unfolding begin_step
other_mode = refl

-- a fetch of a block of zeros, by a transaction that has begun
reads_zeros : Fits (state_at start two_begun) (entry.Fetch 2 3 (replicate 64 0))
reads_zeros = record { needs = (refl, tt); takes = tt; answers = (refl, omega arith, λ tells. refl) }

-- not by one that has not, and of no block outside
none_has_begun : Fits (state_at start two_begun) (entry.Fetch 3 3 (replicate 64 0)) → ⊥
none_has_begun f = cc (f.needs.0)

no_block_outside : Fits (state_at start two_begun) (entry.Fetch 2 4 (replicate 64 0)) → ⊥
no_block_outside f = let inside = f.answers.1 in absurd (omega arith)

-- the first end commits; the second, which has read the byte, conflicts with it
first_commits : end_answer (state_at start two_begun).world 1 (one_put ∷ []) ≡ reply.Committed 1
unfolding put clash runs end_step commit_step
first_commits = refl

second_conflicts : end_answer (state_at start one_ended).world 2 (read_access 2 ∷ one_put ∷ []) ≡ reply.Conflict (record { commit = 1; block = 2; at = 0 })
unfolding put clash runs end_step commit_step
second_conflicts = refl

-- it sees the array at its begin all the while, and the next one the commit
sees_its_begin : Fits (state_at start one_ended) (entry.Fetch 2 2 (replicate 64 0))
unfolding put
sees_its_begin = record { needs = (refl, tt); takes = tt; answers = (refl, omega arith, λ tells. refl) }

next_begins_at_one : Fits (state_at start one_ended) (entry.Begin 3 1 Serial)
unfolding begin_step
next_begins_at_one = record { needs = tt; takes = tt; answers = (refl, refl, refl) }

-- an end from the opening state is not legal there
not_from_the_start : Fits (state_at start one_ended) (entry.Begin 3 0 Serial) → ⊥
unfolding begin_step
not_from_the_start f = cc (f.answers.2)

-- who has ended has no more calls, and is not out
has_ended : (is_loose 1 (state_at start one_ended) ≡ false) × (is_out handed returned 1 one_ended ≡ false) × (is_out handed returned 2 one_ended ≡ true)
has_ended = (refl, refl, refl)

-- a post under a label, which is "a", and the look that takes it out
abbrev pub posted : List Entry
posted = two_begun ++ entry.Post 2 (97 ∷ []) (one_put ∷ []) ∷ []

looks_it_up : Fits (state_at start posted) (entry.Look (97 ∷ []) (Some (record { number = 2; begin = 0; mode = Serial; accesses = one_put ∷ [] })))
looks_it_up = record { needs = tt; takes = tt; answers = refl }

not_another : Fits (state_at start posted) (entry.Look (97 ∷ []) (Some (record { number = 1; begin = 0; mode = Serial; accesses = one_put ∷ [] }))) → ⊥
not_another f = let e : Some 1 ≡ Some 2 = ap (option_map (λ (p : Posting). p.number)) f.answers in absurd (cc e)

not_without_its_accesses : Fits (state_at start posted) (entry.Look (97 ∷ []) (Some (record { number = 2; begin = 0; mode = Serial; accesses = [] }))) → ⊥
not_without_its_accesses f = let e : Some 0 ≡ Some 1 = ap (option_map (λ (p : Posting). length p.accesses)) f.answers in absurd (cc e)

not_none : Fits (state_at start posted) (entry.Look (97 ∷ []) None) → ⊥
not_none f = cc (f.answers)

-- with the begin that it has, which is not always the first
abbrev pub posted_late : List Entry
posted_late = one_ended ++ entry.Begin 3 1 Serial ∷ entry.Post 3 (97 ∷ []) [] ∷ []

looks_up_its_begin : Fits (state_at start posted_late) (entry.Look (97 ∷ []) (Some (record { number = 3; begin = 1; mode = Serial; accesses = [] })))
looks_up_its_begin = record { needs = tt; takes = tt; answers = refl }

-- a label is held once: another post is refused so, and not for want of memory
held_once : Fits (state_at start posted) (entry.Post 1 (97 ∷ []) []) → ⊥
held_once f = cc (f.answers)

taken : Fits (state_at start posted) (entry.Refused (call.Post 1 (97 ∷ []) []) cause.LabelTaken)
taken = record { needs = (refl, tt); takes = tt; answers = (tt, refl) }

not_for_memory : MayRefuse (state_at start posted) (call.Post 1 (97 ∷ []) []) cause.Memory → ⊥
not_for_memory may = cc may

-- one under a label has no calls, until it is swept
no_calls : Fits (state_at start posted) (entry.Abort 2) → ⊥
no_calls f = cc (f.takes.0)

swept : Fits (state_at start posted) (entry.Sweep (Some 2))
swept = record { needs = tt; takes = tt; answers = refl }

-- a trim never wants memory, and an up device never answers Down
never_memory : MayRefuse (opened start) call.Trim cause.Memory → ⊥
never_memory may = may

never_down : MayRefuse (opened start) call.Trim cause.Down → ⊥
never_down may = cc (may.1)

-- a fault of an end carries counts from those of the start on
abbrev pub fallen : List Entry
fallen = two_begun ++ entry.Refused (call.End 1 (one_put ∷ [])) (cause.Disk 3 4) ∷ []

may_fail : MayRefuse (state_at start two_begun) (call.End 1 (one_put ∷ [])) (cause.Disk 3 4)
unfolding put clash runs end_step commit_step
may_fail = ((refl, refl), omega arith, omega arith, omega arith)

not_uncounted : MayRefuse (state_at start two_begun) (call.End 1 (one_put ∷ [])) (cause.Disk 3 3) → ⊥
not_uncounted may = let rose = may.2 in absurd (omega arith)

not_counted_before : MayRefuse (state_at start two_begun) (call.End 1 (one_put ∷ [])) (cause.Disk 2 3) → ⊥
not_counted_before may = let since = may.1 in absurd (omega arith)

-- an end without a write calls no disk
no_disk : MayRefuse (state_at start two_begun) (call.End 1 []) (cause.Disk 3 4) → ⊥
unfolding end_step
no_disk may = cc (may.0.1)

-- then the device is down: the transaction is gone, and nothing but an abort, a stat and the calls on labels is answered
is_down : (is_some (state_at start fallen).lost ≡ true) × (is_loose 1 (state_at start fallen) ≡ false) × (is_loose 2 (state_at start fallen) ≡ true) × ((numbers_at (state_at start fallen)).down ≡ true)
is_down = (refl, refl, refl, refl)

-- with it a commit that would have begun where the transaction did and had its accesses; with a switch none
abbrev pub fallen_late : List Entry
fallen_late = one_ended ++ entry.Begin 3 1 Serial ∷ entry.Refused (call.End 3 (one_put ∷ [])) (cause.Disk 3 4) ∷ []

is_lost : (state_at start fallen_late).lost ≡ Some (record { begin = 1; mode = Serial; accesses = one_put ∷ [] } ∷ [])
is_lost = refl

compact_falls : (state_at start (entry.Refused call.Compact (cause.Disk 3 4) ∷ [])).lost ≡ Some []
compact_falls = refl

upgrade_falls : (state_at start (entry.Refused call.Upgrade (cause.Disk 3 4) ∷ [])).lost ≡ Some []
upgrade_falls = refl

no_begin : Fits (state_at start fallen) (entry.Begin 3 0 Serial) → ⊥
no_begin f = cc (f.answers.0)

no_fetch : Fits (state_at start fallen) (entry.Fetch 2 3 (replicate 64 0)) → ⊥
no_fetch f = cc (f.answers.0)

no_want_of_memory : MayRefuse (state_at start fallen) (call.Begin None) cause.Memory → ⊥
no_want_of_memory may = cc may

refuses : Fits (state_at start fallen) (entry.Refused (call.Fetch 2 3) cause.Down)
refuses = record { needs = (refl, tt); takes = tt; answers = (omega arith, (tt, refl)) }

still_aborts : Fits (state_at start fallen) (entry.Abort 2)
still_aborts = record { needs = tt; takes = (refl, tt); answers = tt }

-- ---- what a group computes on small lists, and what no legal list holds of groups

-- a write of the next byte of the same block
abbrev other_put : Access
other_put = put_access 64 2 1 (187 ∷ [])

abbrev one : List Access → Member
one accesses = record { number = 1; accesses = accesses }

abbrev two : List Access → Member
two accesses = record { number = 2; accesses = accesses }

abbrev ended_as : Member → GroupReply → MemberEnd
ended_as m reply = record { number = m.number; accesses = m.accesses; reply = reply }

-- two that write different bytes both commit, in order
abbrev both : List Member
both = one (one_put ∷ []) ∷ two (other_put ∷ []) ∷ []

both_commit : group_answers (state_at start two_begun).world both ≡ member.Committed 1 ∷ member.Committed 2 ∷ []
unfolding put clash runs end_step commit_step
both_commit = refl

abbrev both_ended : List Entry
both_ended = two_begun ++ entry.EndGroup (ended_as (one (one_put ∷ [])) (member.Committed 1) ∷ ended_as (two (other_put ∷ [])) (member.Committed 2) ∷ []) ∷ []

-- both are in the history then, and neither is out
behind_both : (last (state_at start both_ended).world.history ≡ 2) × (is_loose 1 (state_at start both_ended) ≡ false) × (is_loose 2 (state_at start both_ended) ≡ false)
    × (is_out handed returned 1 both_ended ≡ false) × (is_out handed returned 2 both_ended ≡ false)
unfolding put clash runs end_step commit_step
behind_both = (refl, refl, refl, refl, refl)

next_begins_at_two : Fits (state_at start both_ended) (entry.Begin 3 2 Serial)
unfolding put clash runs begin_step end_step commit_step
next_begins_at_two = record { needs = tt; takes = tt; answers = (refl, refl, refl) }

not_at_the_first : Fits (state_at start both_ended) (entry.Begin 3 1 Serial) → ⊥
unfolding put clash runs begin_step end_step commit_step
not_at_the_first f = cc (f.answers.2)

-- one that has read what an earlier member writes conflicts with that member's commit
later_conflicts : group_answers (state_at start two_begun).world (one (one_put ∷ []) ∷ two (read_access 2 ∷ one_put ∷ []) ∷ [])
    ≡ member.Committed 1 ∷ member.Conflict (record { commit = 1; block = 2; at = 0 }) ∷ []
unfolding put clash runs end_step commit_step
later_conflicts = refl

-- in the other order both commit
earlier_commits : group_answers (state_at start two_begun).world (two (read_access 2 ∷ other_put ∷ []) ∷ one (one_put ∷ []) ∷ []) ≡ member.Committed 1 ∷ member.Committed 2 ∷ []
unfolding put clash runs end_step commit_step
earlier_commits = refl

-- one for which the log has no room is aborted, and a smaller one after it commits
abbrev whole_block : Access
whole_block = write_access 1 (replicate 64 5)

abbrev four_begun : List Entry
four_begun = two_begun ++ entry.Begin 3 0 Serial ∷ entry.Begin 4 0 Serial ∷ []

abbrev three : List Access → Member
three accesses = record { number = 3; accesses = accesses }

abbrev four : List Access → Member
four accesses = record { number = 4; accesses = accesses }

one_is_full : group_answers (state_at start four_begun).world (one (whole_block ∷ []) ∷ two (whole_block ∷ []) ∷ three (whole_block ∷ []) ∷ four (one_put ∷ []) ∷ [])
    ≡ member.Committed 1 ∷ member.Committed 2 ∷ member.Full 93 72 ∷ member.Committed 3 ∷ []
unfolding put clash runs end_step commit_step
one_is_full = refl

-- members without a write read only
abbrev no_writes : List Member
no_writes = one [] ∷ two [] ∷ []

are_a_group : IsGroup (state_at start two_begun).world no_writes
are_a_group = grind arith

bare_ones : Fits (state_at start two_begun) (entry.EndGroup (ended_as (one []) member.ReadOnly ∷ ended_as (two []) member.ReadOnly ∷ []))
unfolding end_step
bare_ones = grind (arith, are_a_group)

-- no other replies, and one for each member
not_another_reply : Fits (state_at start two_begun) (entry.EndGroup (ended_as (one []) member.ReadOnly ∷ ended_as (two []) (member.Committed 1) ∷ [])) → ⊥
unfolding end_step
not_another_reply f = cc (f.answers.2)

not_the_first_order : Fits (state_at start two_begun) (entry.EndGroup (ended_as (one (one_put ∷ [])) (member.Committed 2) ∷ ended_as (two (other_put ∷ [])) (member.Committed 1) ∷ [])) → ⊥
unfolding put clash runs end_step commit_step
not_the_first_order f = cc (f.answers.2)

not_without_the_conflict : Fits (state_at start two_begun) (entry.EndGroup (ended_as (one (one_put ∷ [])) (member.Committed 1) ∷ ended_as (two (read_access 2 ∷ one_put ∷ [])) (member.Committed 2) ∷ [])) → ⊥
unfolding put clash runs end_step commit_step
not_without_the_conflict f = cc (f.answers.2)

-- none of them twice, none at all, and not more than sixty-four
not_twice : Fits (state_at start two_begun) (entry.EndGroup (ended_as (one []) member.ReadOnly ∷ ended_as (one []) member.ReadOnly ∷ [])) → ⊥
not_twice f = cc (f.answers.1.distinct.0)

not_of_none : Fits (opened start) (entry.EndGroup []) → ⊥
not_of_none f = let some = f.answers.1.some in absurd (omega arith)

abbrev sixty_five : List MemberEnd
sixty_five = replicate 65 (ended_as (one []) member.ReadOnly)

not_of_sixty_five : Fits (state_at start two_begun) (entry.EndGroup sixty_five) → ⊥
not_of_sixty_five f = absurd (omega (arith, f.answers.1.most, length-map sixty_five member_of ∙ length-replicate 65 (ended_as (one []) member.ReadOnly)))

-- each member is live and under no label
not_of_one_unbegun : Fits (state_at start two_begun) (entry.EndGroup (ended_as (record { number = 3; accesses = [] }) member.ReadOnly ∷ [])) → ⊥
not_of_one_unbegun f = cc (f.takes.0)

not_of_one_labelled : Fits (state_at start posted) (entry.EndGroup (ended_as (one []) member.ReadOnly ∷ ended_as (two []) member.ReadOnly ∷ [])) → ⊥
not_of_one_labelled f = cc (f.takes.1.0)

-- with accesses that it may have made
not_of_short_writes : Fits (state_at start two_begun) (entry.EndGroup (ended_as (one (write_access 3 [] ∷ [])) (member.Committed 1) ∷ [])) → ⊥
not_of_short_writes f = let e = f.answers.1.each.0.each.0.bytes refl in absurd (cc e)

-- a refused group names each of its members
refused_for_memory : Fits (state_at start two_begun) (entry.Refused (call.EndGroup no_writes) cause.Memory)
refused_for_memory = grind (arith, are_a_group)

not_refused_unbegun : Fits (state_at start two_begun) (entry.Refused (call.EndGroup (one [] ∷ three [] ∷ [])) cause.Memory) → ⊥
not_refused_unbegun f = cc (f.needs.1.0)

not_refused_twice : Fits (state_at start two_begun) (entry.Refused (call.EndGroup (one [] ∷ one [] ∷ [])) cause.Memory) → ⊥
not_refused_twice f = cc (f.answers.0.distinct.0)

-- it is refused for want of memory where the device is up, and as down where it is down
no_memory_down : MayRefuse (state_at start fallen) (call.EndGroup (two [] ∷ [])) cause.Memory → ⊥
no_memory_down may = cc may

not_down_up : MayRefuse (state_at start two_begun) (call.EndGroup no_writes) cause.Down → ⊥
not_down_up may = cc (may.1)

down_down : MayRefuse (state_at start fallen) (call.EndGroup (two [] ∷ [])) cause.Down
down_down = (tt, refl)

not_answered_down : Fits (state_at start fallen) (entry.EndGroup (ended_as (two []) member.ReadOnly ∷ [])) → ⊥
not_answered_down f = cc (f.answers.0)

-- a member that the log has no room for is told, and the group is not refused
not_full : MayRefuse (state_at start four_begun) (call.EndGroup (one (whole_block ∷ []) ∷ [])) (cause.LogFull 93 72) → ⊥
not_full may = cc (may.1)

not_worn : MayRefuse (state_at start two_begun) (call.EndGroup no_writes) cause.Worn → ⊥
not_worn may = cc (may.1)

not_taken : MayRefuse (state_at start posted) (call.EndGroup (one [] ∷ [])) cause.LabelTaken → ⊥
not_taken may = may

-- the disk may fail where one of them commits, and else it is not called
group_may_fail : MayRefuse (state_at start two_begun) (call.EndGroup (one [] ∷ two (one_put ∷ []) ∷ [])) (cause.Disk 3 4)
unfolding put clash runs end_step commit_step
group_may_fail = ((refl, omega arith), omega arith, omega arith, omega arith)

group_no_disk : MayRefuse (state_at start two_begun) (call.EndGroup no_writes) (cause.Disk 3 4) → ⊥
unfolding end_step
group_no_disk may = let some = may.0.1 in absurd (omega arith)

no_disk_in_conflict : MayRefuse (state_at start one_ended) (call.EndGroup (two (read_access 2 ∷ one_put ∷ []) ∷ [])) (cause.Disk 3 4) → ⊥
unfolding put clash runs end_step commit_step
no_disk_in_conflict may = let some = may.0.1 in absurd (omega arith)

no_disk_down : MayRefuse (state_at start fallen) (call.EndGroup (two (one_put ∷ []) ∷ [])) (cause.Disk 4 5) → ⊥
no_disk_down may = cc (may.0.0)

no_earlier_counts : MayRefuse (state_at start two_begun) (call.EndGroup both) (cause.Disk 2 4) → ⊥
no_earlier_counts may = let since = may.1 in absurd (omega arith)

-- then no member is live, the device is down, and what may stand after the others is all commits of the group
abbrev group_fallen : List Entry
group_fallen = two_begun ++ entry.Refused (call.EndGroup both) (cause.Disk 3 4) ∷ []

lost_both : ((state_at start group_fallen).lost ≡ Some (lost_commits (state_at start two_begun).world both)) × (length (lost_commits (state_at start two_begun).world both) ≡ 2)
    × (last (state_at start group_fallen).world.history ≡ 0) × (is_loose 1 (state_at start group_fallen) ≡ false) × (is_loose 2 (state_at start group_fallen) ≡ false)
    × (is_out handed returned 1 group_fallen ≡ false) × (is_out handed returned 2 group_fallen ≡ false) × ((numbers_at (state_at start group_fallen)).down ≡ true)
unfolding put clash runs end_step commit_step
lost_both = (refl, refl, refl, refl, refl, refl, refl, refl)

-- a group that was refused so at first ends them only then: want of memory leaves them
still_there : (is_loose 1 (state_at start (two_begun ++ entry.Refused (call.EndGroup both) cause.Memory ∷ [])) ≡ true)
    × (is_out handed returned 2 (two_begun ++ entry.Refused (call.EndGroup both) cause.Memory ∷ []) ≡ true)
still_there = (refl, refl)
