-- Which entry a call leaves.
use Rattle.std.specs.Prelude.{ℕ, List, Result, Ok, Err, Option, map, option_map, unwrap_or}
use Rattle.iso_core.specs.{declared.answers.Begun.Begun, declared.answers.Recent.Recent, declared.answers.Stat.Stat, declared.group_end.GroupEnd.GroupEnd}
use Rattle.iso_model.specs.{declared.access.Access.Access, declared.access.EndReply.EndReply, declared.access.Mode.Mode, declared.core_error.CoreError.CoreError}
use Rattle.iso_model.specs.declared.access.GroupReply.TheVariants as member
use Rattle.iso_model.specs.declared.core_error.CoreError.TheVariants as error
use Rattle.tx_table.specs.{declared.rack.PostError.PostError, Work.Doing}
use Rattle.tx_table.specs.declared.rack.PostError.TheVariants as post
use Rattle.iso_shared.specs.{declared.entry.Call.Call, declared.entry.Cause.Cause, declared.entry.Entry.Entry, declared.entry.Member.Member, declared.entry.MemberEnd.MemberEnd, declared.entry.Numbers.Numbers, declared.entry.Posting.Posting, declared.guarded.Posted.Posted, declared.tx.Tx.Tx, declared.told.Told.Told, Standing.posting_in}
use Rattle.iso_shared.specs.declared.entry.Call.TheVariants as call
use Rattle.iso_shared.specs.declared.entry.Cause.TheVariants as cause
use Rattle.iso_shared.specs.declared.entry.Entry.TheVariants as entry
use Rattle.iso_shared.specs.declared.told.Told.TheVariants as told

-- why a core refuses, with the counts of faults before and after the call
abbrev pub cause_of : (before now : ℕ) → CoreError → Cause
cause_of before now error.Down = cause.Down
cause_of before now error.TooManyTx = cause.TooManyTx
cause_of before now (error.LogFull need free) = cause.LogFull need free
cause_of before now error.Disk = cause.Disk before now
cause_of before now error.Memory = cause.Memory
cause_of before now (error.Worn at) = cause.Worn
cause_of before now error.ModeFixed = cause.ModeFixed

abbrev pub post_cause : PostError → Cause
post_cause post.LabelTaken = cause.LabelTaken
post_cause post.Memory = cause.Memory

-- the entry of a call of the core, by its answer
abbrev pub entry_of : {T : Type 0} → (before now : ℕ) → Call → (T → Entry) → Result T CoreError → Entry
entry_of before now c made (Ok answer) = made answer
entry_of before now c made (Err e) = entry.Refused c (cause_of before now e)

abbrev pub begin_entry : (before now : ℕ) → Option Mode → Result Begun CoreError → Entry
begin_entry before now named r = entry_of before now (call.Begin named) (λ b. entry.Begin b.tx b.at b.mode) r

abbrev pub fetch_entry : (before now : ℕ) → (tx block : ℕ) → List ℕ → Result (Unit {0}) CoreError → Entry
fetch_entry before now tx block bytes r = entry_of before now (call.Fetch tx block) (λ done. entry.Fetch tx block bytes) r

abbrev pub end_entry : (before now : ℕ) → (tx : ℕ) → List Access → Result EndReply CoreError → Entry
end_entry before now tx accesses r = entry_of before now (call.End tx accesses) (λ reply. entry.End tx accesses reply) r

-- the members that the core was handed, and how each of them ended
abbrev pub members_at : List GroupEnd → List Member
members_at ends = map (λ g. record { number = g.tx; accesses = g.work.accesses }) ends

abbrev pub ends_at : List GroupEnd → List MemberEnd
ends_at ends = map (λ g. record { number = g.tx; accesses = g.work.accesses; reply = unwrap_or g.reply member.ReadOnly }) ends

abbrev pub group_entry : (before now : ℕ) → List GroupEnd → Result (Unit {0}) CoreError → Entry
group_entry before now ends r = entry_of before now (call.EndGroup (members_at ends)) (λ done. entry.EndGroup (ends_at ends)) r

-- transactions as members of a group, and the entry of one that is refused before the core was asked
abbrev pub members_in : {D O : Type 0} → List (Tx D O) → List Member
members_in group = map (λ t. record { number = t.number; accesses = t.work.accesses }) group

abbrev pub wanting_entry : {D O : Type 0} → List (Tx D O) → CoreError → Entry
wanting_entry group e = entry.Refused (call.EndGroup (members_in group)) (cause_of 0 0 e)

abbrev pub trim_entry : (before now : ℕ) → Result ℕ CoreError → Entry
trim_entry before now r = entry_of before now call.Trim (λ n. entry.Trim n) r

abbrev pub compact_entry : (before now : ℕ) → Result ℕ CoreError → Entry
compact_entry before now r = entry_of before now call.Compact (λ n. entry.Compact n) r

abbrev pub upgrade_entry : (before now : ℕ) → Result ℕ CoreError → Entry
upgrade_entry before now r = entry_of before now call.Upgrade (λ n. entry.Upgrade n) r

abbrev pub recent_entry : (before now : ℕ) → (tx : ℕ) → Result Recent CoreError → Entry
recent_entry before now tx r = entry_of before now (call.Recent tx) (λ recent. entry.Recent tx recent.upto) r

abbrev pub numbers_of : Stat → Numbers
numbers_of s = record { last = s.last; base = s.base; trim = s.trim; live = s.live; used = s.used; versions = s.versions; down = s.down }

abbrev pub post_entry : List ℕ → Posted → Result (Unit {0}) PostError → Entry
post_entry label p (Ok done) = entry.Post p.number label p.work.accesses
post_entry label p (Err e) = entry.Refused (call.Post p.number label p.work.accesses) (post_cause e)

abbrev pub told_entry : (before now : ℕ) → Told → Entry
told_entry before now (told.Begin named r) = begin_entry before now named r
told_entry before now (told.Fetch tx block bytes r) = fetch_entry before now tx block bytes.now r
told_entry before now (told.End tx work r) = end_entry before now tx work.now.accesses r
told_entry before now (told.EndGroup ends r) = group_entry before now ends.now r
told_entry before now (told.Abort tx) = entry.Abort tx
told_entry before now (told.Trim r) = trim_entry before now r
told_entry before now (told.Compact r) = compact_entry before now r
told_entry before now (told.Upgrade r) = upgrade_entry before now r
told_entry before now (told.Stat s) = entry.Stat (numbers_of s)
told_entry before now (told.Post label p r) = post_entry label.value p.value r
told_entry before now (told.Look label found) = entry.Look label.now (option_map posting_in found.now)
told_entry before now (told.Sweep found) = entry.Sweep found
told_entry before now (told.Recent tx r) = recent_entry before now tx r.now

-- what a look tells of the transaction that it found
abbrev pub posting_of_tx : (tx : ℕ) → Doing → Posting
posting_of_tx tx work = posting_in (record { number = tx; work = work })
