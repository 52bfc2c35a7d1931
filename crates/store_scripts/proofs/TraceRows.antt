-- Worked examples: whose entries may stand in a trace, what the lines of a client are in it, and of which commits and reads something is told.
use Rattle.store_scripts.{proofs.ThreadWords.{◌≡◌, inl, inr, refl, ℕ, true, List, [], ◌∷◌, Option, Some, None, Geometry, Serial, Access, look_access, GroupReply, Op, Reply, MemberEnd, Own, Part, step, EachBare, EachCommit, put_at, Event, IsOfOwn, IsOneOf, Made, Runs, client_of, events_of, found_in, lines_in, told_in}, specs.Trace.Done}
use Rattle.iso_model.specs.declared.access.EndReply.TheVariants as ends
use Rattle.iso_model.specs.declared.access.GroupReply.TheVariants as member
use Rattle.iso_shared.specs.declared.entry.Entry.TheVariants as entry
use Rattle.script_model.specs.declared.script.Op.TheVariants as op
use Rattle.script_model.specs.declared.script.Reply.TheVariants as reply

abbrev small : Geometry
small = record { block = 64; blocks = 4; log = 256; mode = Serial; hash = 0; tree = 0; form = 1 }

abbrev looks : List Access
looks = look_access 1 [] ∷ []

abbrev begun : Own
begun = record { number = 3; begin = 1; mode = Serial; accesses = [] }

abbrev own : Own
own = record begun { accesses = looks }

abbrev a : List ℕ
a = 97 ∷ []

abbrev ended : (number : ℕ) → GroupReply → MemberEnd
ended n answer = record { number = n; accesses = looks; reply = answer }

abbrev line : (number client : ℕ) → Op → Reply → (before after : Option Own) → Event
line number client x r before after = Done client (record { line = (number, record { client = client; op = x }); reply = r; before = before; after = after })

-- ---- an entry that is a transaction's is of the client's own, with its accesses, and a group has those that its looks found

of_its_own : IsOfOwn (Some own) [] (entry.Fetch 3 2 []) × IsOfOwn (Some own) [] (entry.Post 3 a looks) × IsOfOwn (Some own) [] (entry.End 3 looks (ends.Committed 2)) × IsOfOwn None [] (entry.Begin 9 0 Serial)
of_its_own = (refl, (refl, refl), (refl, refl), tt)

not_of_another : IsOfOwn (Some own) [] (entry.Fetch 4 2 []) → ⊥
not_of_another of = cc of

not_without_one : IsOfOwn None [] (entry.End 3 looks ends.ReadOnly) → ⊥
not_without_one of = of

not_posted_with_others : IsOfOwn (Some own) [] (entry.Post 3 a []) → ⊥
not_posted_with_others of = cc (of.1)

not_ended_with_others : IsOfOwn (Some own) [] (entry.End 3 [] ends.ReadOnly) → ⊥
not_ended_with_others of = cc (of.1)

no_sweep : IsOfOwn None [] (entry.Sweep None) → ⊥
no_sweep of = of

of_what_was_found : IsOfOwn None (entry.Look a (Some own) ∷ entry.Look a None ∷ []) (entry.EndGroup (ended 3 (member.Committed 2) ∷ []))
of_what_was_found = refl

not_of_less : IsOfOwn None (entry.Look a (Some own) ∷ []) (entry.EndGroup []) → ⊥
not_of_less of = cc of

-- ---- a line begins with what the one before it left, and is answered by the entries between the two

begins : Runs small true None [] (Made 1 (entry.Begin 3 1 Serial) ∷ line 1 1 (op.Begin None) (reply.Began 1) None (Some begun) ∷ line 2 1 (op.Begin None) reply.InTx (Some begun) (Some begun) ∷ [])
unfolding step
begins = (tt, (refl, inl (refl, refl, refl), (refl, inl (refl, refl, refl), tt)))

not_from_another : Runs small true None [] (line 1 1 (op.Begin None) reply.InTx (Some begun) (Some begun) ∷ []) → ⊥
not_from_another runs = cc (runs.0)

not_answered_otherwise : Runs small true None [] (Made 1 (entry.Begin 3 1 Serial) ∷ line 1 1 (op.Begin None) (reply.Began 2) None (Some begun) ∷ []) → ⊥
not_answered_otherwise (of, (before, inl does, rest)) = cc (does.1)
not_answered_otherwise (of, (before, inr wants, rest)) = cc (wants.0)

not_by_older_entries : Runs small true None [] (Made 1 (entry.Begin 3 1 Serial) ∷ line 1 1 (op.Begin None) (reply.Began 1) None (Some begun) ∷ line 2 1 op.Abort reply.Done (Some begun) None ∷ []) → ⊥
not_by_older_entries (of, (none, did, (before, inl does, rest))) = does
not_by_older_entries (of, (none, did, (before, inr wants, rest))) = cc (wants.1)

-- ---- the events of one client, the lines that were answered, what was told, and the transactions that looks found

abbrev first_line : Event
first_line = line 4 2 (op.Takeover a) (reply.Began 1) None (Some own)

abbrev of_two : List Event
of_two = Made 2 (entry.Look a (Some own)) ∷ Made 1 (entry.Look a None) ∷ first_line ∷ line 5 1 op.Abort reply.NotInTx None None ∷ []

its_events : events_of 2 of_two ≡ Made 2 (entry.Look a (Some own)) ∷ first_line ∷ []
its_events = refl

its_lines : lines_in of_two ≡ (4, record { client = 2; op = op.Takeover a }) ∷ (5, record { client = 1; op = op.Abort }) ∷ []
its_lines = refl

its_replies : told_in of_two ≡ (4, reply.Began 1) ∷ (5, reply.NotInTx) ∷ []
its_replies = refl

its_finds : found_in (entry.Look a None ∷ entry.Trim 2 ∷ entry.Look a (Some own) ∷ []) ≡ own ∷ []
its_finds = refl

its_client : (client_of first_line ≡ 2) × (client_of (Made 3 (entry.Trim 2)) ≡ 3)
its_client = (refl, refl)

-- the clients are those that were told something
abbrev parts : List Part
parts = record { client = 2; told = []; stop = None } ∷ record { client = 5; told = []; stop = None } ∷ []

one_of_them : IsOneOf parts 2 × IsOneOf parts 5
one_of_them = (refl, refl)

none_of_them : IsOneOf parts 3 → ⊥
none_of_them is = cc is

-- ---- of the members of a group each commit has what is told of it by its number, and each read what is told by the transaction's

abbrev three_ends : List MemberEnd
three_ends = ended 7 (member.Committed 2) ∷ ended 8 member.ReadOnly ∷ ended 9 (member.Committed 3) ∷ []

each_commit : EachCommit {T = ℕ} (λ k told. k ≡ told) three_ends (2 ∷ 0 ∷ 3 ∷ [])
each_commit = (refl, (tt, (refl, tt)))

not_of_another_commit : EachCommit {T = ℕ} (λ k told. k ≡ told) three_ends (2 ∷ 3 ∷ 0 ∷ []) → ⊥
not_of_another_commit each = cc (each.1.1.0)

-- nor is one left out for which nothing is told
no_commit_is_left_out : EachCommit {T = ℕ} (λ k told. k ≡ told) (ended 7 (member.Committed 2) ∷ []) [] → ⊥
no_commit_is_left_out each = each

each_read : EachBare {T = ℕ} (λ n told. n ≡ told) three_ends (0 ∷ 8 ∷ 0 ∷ [])
each_read = (tt, (refl, (tt, tt)))

not_of_another_read : EachBare {T = ℕ} (λ n told. n ≡ told) three_ends (8 ∷ 0 ∷ 0 ∷ []) → ⊥
not_of_another_read each = cc (each.1.0)

-- and none is left out for which nothing is told
not_more_reads : EachBare {T = ℕ} (λ n told. n ≡ told) (ended 8 member.ReadOnly ∷ []) [] → ⊥
not_more_reads each = each

-- what is told of one client is told of no other
put_for_one : (put_at 2 9 (λ c. c) 2 ≡ 9) × (put_at 2 9 (λ c. c) 3 ≡ 3)
put_for_one = (refl, refl)
