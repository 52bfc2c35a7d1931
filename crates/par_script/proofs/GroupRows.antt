-- Lines that end the transactions under labels as a group: what they may make, and what is refused.
use Rattle.par_script.proofs.Words.{◌≡◌, ℕ, ◌<◌, true, List, [], ◌∷◌, Some, None, ap, inl, inr, length, refl, sym, arith, Ok, Err, slice_index, Access, Geometry, Serial, GroupReply, Reply, put_access, Cause, Entry, Member, MemberEnd, commit_by, Own, Did, Does, members_for}
use Rattle.iso_model.specs.declared.access.GroupReply.TheVariants as member
use Rattle.script_model.specs.declared.script.Op.TheVariants as op
use Rattle.script_model.specs.declared.script.Reply.TheVariants as reply
use Rattle.iso_shared.specs.declared.entry.Call.TheVariants as call
use Rattle.iso_shared.specs.declared.entry.Cause.TheVariants as cause
use Rattle.iso_shared.specs.declared.entry.Entry.TheVariants as entry
use Rattle.script_model.specs.declared.stop.Stop.TheVariants as stop

abbrev small : Geometry
small = record { block = 64; blocks = 4; log = 256; mode = Serial; hash = 0; tree = 0; form = 1 }

abbrev a : List ℕ
a = 97 ∷ []

abbrev b : List ℕ
b = 98 ∷ []

abbrev put_aa : Access
put_aa = put_access 64 0 0 (170 ∷ [])

abbrev put_bb : Access
put_bb = put_access 64 1 0 (187 ∷ [])

-- the transaction under label a, the one under label b, and the client's own one
abbrev at_a : Own
at_a = record { number = 1; begin = 0; mode = Serial; accesses = put_aa ∷ [] }

abbrev at_b : Own
at_b = record { number = 2; begin = 0; mode = Serial; accesses = put_bb ∷ [] }

abbrev mine : Own
mine = record { number = 3; begin = 0; mode = Serial; accesses = [] }

abbrev ended : Own → GroupReply → MemberEnd
ended t answer = record { number = t.number; accesses = t.accesses; reply = answer }

abbrev finds_a : Entry
finds_a = entry.Look a (Some at_a)

abbrev finds_b : Entry
finds_b = entry.Look b (Some at_b)

abbrev commits_both : Entry
commits_both = entry.EndGroup (ended at_a (member.Committed 1) ∷ ended at_b (member.Committed 2) ∷ [])

abbrev refuses_both : Cause → Entry
refuses_both why = entry.Refused (call.EndGroup (members_for (at_a ∷ at_b ∷ []))) why

abbrev two_commits : Reply
two_commits = reply.Grouped (Some (member.Committed 1) ∷ Some (member.Committed 2) ∷ [])

-- two that both commit: for a client without a transaction, and for one in a transaction, which stays as it is
commits_two : Did small true None (op.Group (a ∷ b ∷ [])) (finds_a ∷ finds_b ∷ commits_both ∷ []) (Ok two_commits) None
commits_two = inl ((refl, (refl, inl (omega arith, refl, refl))), refl)

commits_two_in_tx : Did small true (Some mine) (op.Group (a ∷ b ∷ [])) (finds_a ∷ finds_b ∷ commits_both ∷ []) (Ok two_commits) (Some mine)
commits_two_in_tx = inl ((refl, (refl, inl (omega arith, refl, refl))), refl)

-- a label under which nothing is found has no member; where none is found at all, nothing is ended
ends_the_one : Did small true None (op.Group (a ∷ b ∷ [])) (entry.Look a None ∷ finds_b ∷ entry.EndGroup (ended at_b (member.Committed 1) ∷ []) ∷ [])
    (Ok (reply.Grouped (None ∷ Some (member.Committed 1) ∷ []))) None
ends_the_one = inl ((refl, (refl, inl (omega arith, refl, refl))), refl)

ends_none : Did small true None (op.Group (a ∷ b ∷ [])) (entry.Look a None ∷ entry.Look b None ∷ []) (Ok (reply.Grouped (None ∷ None ∷ []))) None
ends_none = inl ((refl, (refl, inl (refl, refl))), refl)

-- a label that is named twice is held at its first look alone
named_twice : Did small true None (op.Group (a ∷ a ∷ [])) (finds_a ∷ entry.Look a None ∷ entry.EndGroup (ended at_a member.ReadOnly ∷ []) ∷ [])
    (Ok (reply.Grouped (Some member.ReadOnly ∷ None ∷ []))) None
named_twice = inl ((refl, (refl, inl (omega arith, refl, refl))), refl)

-- a group that is refused: its members are aborted, but a fault of the disk has ended them
refused_for_memory : Did small true None (op.Group (a ∷ b ∷ [])) (finds_a ∷ finds_b ∷ refuses_both cause.Memory ∷ entry.Abort 1 ∷ entry.Abort 2 ∷ []) (Err stop.Memory) None
refused_for_memory = inl ((refl, (refl, inl (omega arith, refl, refl, refl))), refl)

refused_when_down : Did small true None (op.Group (a ∷ b ∷ [])) (finds_a ∷ finds_b ∷ refuses_both cause.Down ∷ entry.Abort 1 ∷ entry.Abort 2 ∷ []) (Err stop.Down) None
refused_when_down = inl ((refl, (refl, inl (omega arith, refl, refl, refl))), refl)

refused_by_the_disk : Did small true None (op.Group (a ∷ b ∷ [])) (finds_a ∷ finds_b ∷ refuses_both (cause.Disk 0 1) ∷ []) (Err stop.Disk) None
refused_by_the_disk = inl ((refl, (refl, inl (omega arith, refl, refl, refl))), refl)

-- memory is wanting before the turn of the group: after all looks, after some, and before the first
wants_after_all : Did small true None (op.Group (a ∷ b ∷ [])) (finds_a ∷ finds_b ∷ entry.Abort 1 ∷ entry.Abort 2 ∷ []) (Err stop.Memory) None
wants_after_all = inl ((refl, (refl, inr (refl, refl))), refl)

wants_after_one : Did small true None (op.Group (a ∷ b ∷ [])) (finds_a ∷ entry.Abort 1 ∷ []) (Err stop.Memory) None
wants_after_one = inl ((refl, (refl, refl)), refl)

wants_at_once : Did small true (Some mine) (op.Group (a ∷ b ∷ [])) [] (Err stop.Memory) (Some mine)
wants_at_once = inl ((refl, refl), refl)

-- What is refused: an end without a member that was found, members in another order, one without the accesses of its post, an end
-- where nothing was found, and none where something was.
not_equal : (m n : ℕ) → m < n → m ≡ n → ⊥
not_equal m n less same = absurd (omega arith)

abbrev first_number : List Member → ℕ
first_number [] = 0
first_number (m ∷ members) = m.number

abbrev first_count : List Member → ℕ
first_count [] = 0
first_count (m ∷ members) = length m.accesses

not_without_a_member : Does small true None (op.Group (a ∷ b ∷ [])) (finds_a ∷ finds_b ∷ entry.EndGroup (ended at_a (member.Committed 1) ∷ []) ∷ [])
    (Ok (reply.Grouped (Some (member.Committed 1) ∷ None ∷ []))) None → ⊥
not_without_a_member ((la, (lb, inl e)), own) = not_equal 1 2 (omega arith) (ap length (e.1))
not_without_a_member ((la, (lb, inr w)), own) = cc (w.1)

not_in_another_order : Does small true None (op.Group (a ∷ b ∷ [])) (finds_a ∷ finds_b ∷ entry.EndGroup (ended at_b (member.Committed 1) ∷ ended at_a (member.Committed 2) ∷ []) ∷ [])
    (Ok two_commits) None → ⊥
not_in_another_order ((la, (lb, inl e)), own) = not_equal 1 2 (omega arith) (ap first_number (sym (e.1)))
not_in_another_order ((la, (lb, inr w)), own) = cc (w.1)

not_with_other_accesses : Does small true None (op.Group (a ∷ [])) (finds_a ∷ entry.EndGroup (ended (record at_a { accesses = [] }) member.ReadOnly ∷ []) ∷ [])
    (Ok (reply.Grouped (Some member.ReadOnly ∷ []))) None → ⊥
not_with_other_accesses ((la, inl e), own) = not_equal 0 1 (omega arith) (ap first_count (e.1))
not_with_other_accesses ((la, inr w), own) = cc (w.1)

not_of_none : Does small true None (op.Group (a ∷ [])) (entry.Look a None ∷ entry.EndGroup [] ∷ []) (Ok (reply.Grouped (None ∷ []))) None → ⊥
not_of_none ((la, inl e), own) = not_equal 0 0 e.0 refl
not_of_none ((la, inr w), own) = cc (w.1)

not_left_alone : Does small true None (op.Group (a ∷ [])) (finds_a ∷ []) (Ok (reply.Grouped (Some member.ReadOnly ∷ []))) None → ⊥
not_left_alone ((la, inl e), own) = cc (e.0)
not_left_alone ((la, inr w), own) = cc (w.1)

-- a reply of another member, one at a label that found nothing, and one that is left out
not_the_others_reply : Does small true None (op.Group (a ∷ b ∷ [])) (finds_a ∷ finds_b ∷ commits_both ∷ []) (Ok (reply.Grouped (Some (member.Committed 2) ∷ Some (member.Committed 1) ∷ []))) None → ⊥
not_the_others_reply ((la, (lb, inl e)), own) = cc (e.2)
not_the_others_reply ((la, (lb, inr w)), own) = cc (w.1)

not_at_another_label : Does small true None (op.Group (a ∷ b ∷ [])) (entry.Look a None ∷ finds_b ∷ entry.EndGroup (ended at_b (member.Committed 1) ∷ []) ∷ [])
    (Ok (reply.Grouped (Some (member.Committed 1) ∷ None ∷ []))) None → ⊥
not_at_another_label ((la, (lb, inl e)), own) = cc (e.2)
not_at_another_label ((la, (lb, inr w)), own) = cc (w.1)

-- looks in another order, and an end before the last look
not_the_second_first : Does small true None (op.Group (a ∷ b ∷ [])) (finds_b ∷ finds_a ∷ commits_both ∷ []) (Ok two_commits) None → ⊥
not_the_second_first does = not_equal (slice_index a 0) (slice_index b 0) (omega arith) (ap (λ l. slice_index l 0) (sym (does.0.0)))

not_before_all_looks : Does small true None (op.Group (a ∷ b ∷ [])) (finds_a ∷ entry.EndGroup (ended at_a (member.Committed 1) ∷ []) ∷ [])
    (Ok (reply.Grouped (Some (member.Committed 1) ∷ []))) None → ⊥
not_before_all_looks does = cc (does.0.1.1)

-- no abort after Memory, aborts in another order, and one after a fault of the disk
not_left_live : Does small true None (op.Group (a ∷ [])) (finds_a ∷ entry.Refused (call.EndGroup (members_for (at_a ∷ []))) cause.Memory ∷ []) (Err stop.Memory) None → ⊥
not_left_live ((la, inl e), own) = cc (e.2)
not_left_live ((la, inr w), own) = cc (w.0)

not_aborted_in_another_order : Does small true None (op.Group (a ∷ b ∷ [])) (finds_a ∷ finds_b ∷ refuses_both cause.Down ∷ entry.Abort 2 ∷ entry.Abort 1 ∷ []) (Err stop.Down) None → ⊥
not_aborted_in_another_order ((la, (lb, inl e)), own) = cc (e.2)
not_aborted_in_another_order ((la, (lb, inr w)), own) = cc (w.0)

not_aborted_after_a_fault : Does small true None (op.Group (a ∷ [])) (finds_a ∷ entry.Refused (call.EndGroup (members_for (at_a ∷ []))) (cause.Disk 0 1) ∷ entry.Abort 1 ∷ []) (Err stop.Disk) None → ⊥
not_aborted_after_a_fault ((la, inl e), own) = cc (e.2)
not_aborted_after_a_fault ((la, inr w), own) = cc (w.0)

-- where memory is wanting before the turn, what was found is aborted, and the client stops
not_kept_unaborted : Did small true None (op.Group (a ∷ b ∷ [])) (finds_a ∷ []) (Err stop.Memory) None → ⊥
not_kept_unaborted (inl does) = cc (does.0.1.0)
not_kept_unaborted (inr wants) = cc (wants.0)

not_answered_over_a_want : Does small true None (op.Group (a ∷ b ∷ [])) (finds_a ∷ entry.Abort 1 ∷ []) (Ok (reply.Grouped (None ∷ None ∷ []))) None → ⊥
not_answered_over_a_want does = cc (does.0.1.1)

-- the client's own transaction is no member, and stays
not_lost : Does small true (Some mine) (op.Group (b ∷ [])) (entry.Look b None ∷ []) (Ok (reply.Grouped (None ∷ []))) None → ⊥
not_lost does = cc (does.1)

-- in the text each commit of the group names the line of the group
names_its_line : commit_by 3 9 (reply.Grouped (Some (member.Committed 1) ∷ None ∷ Some member.ReadOnly ∷ Some (member.Committed 2) ∷ []))
    ≡ record { number = 1; client = 3; line = 9 } ∷ record { number = 2; client = 3; line = 9 } ∷ []
names_its_line = refl

-- a refusal of the group of others, and another reply where nothing was found
not_of_other_members : Does small true None (op.Group (a ∷ [])) (finds_a ∷ entry.Refused (call.EndGroup []) cause.Memory ∷ entry.Abort 1 ∷ []) (Err stop.Memory) None → ⊥
not_of_other_members ((la, inl e), own) = cc (e.1)
not_of_other_members ((la, inr w), own) = cc (w.0)

not_unanswered : Does small true None (op.Group (a ∷ [])) (entry.Look a None ∷ []) (Ok (reply.Grouped [])) None → ⊥
not_unanswered ((la, inl e), own) = cc (e.1)
not_unanswered ((la, inr w), own) = cc (w.1)
