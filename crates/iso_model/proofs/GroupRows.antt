-- Worked examples of groups, by computation.
use Rattle.iso_model.proofs.{Words.{codes, arith, Clash, CoreReply, Follow, GroupReply, LAST, Live, Place, World, client, clash, commit_step, end_step, fresh, group, group_step, label, looks, member_reply, numbers_told, put_access, read_access, runs, unattached, Serial}, Rows.{commit_put, history, small}}
use Rattle.iso_model.specs.declared.access.GroupReply.TheVariants as member
use Rattle.iso_model.specs.declared.core_reply.CoreReply.TheVariants as reply
use Rattle.std.specs.Prelude.{◌≡◌, ℕ, ◌+◌, List, [], ◌∷◌, None, Some, Option, map, refl}

-- a live transaction that writes one byte of block 0, and one that reads the block
abbrev writer : (number : ℕ) → Place → (off byte : ℕ) → Live
writer number place off byte = record { number = number; begin = 0; mode = Serial; accesses = put_access 64 0 off (byte ∷ []) ∷ []; place = place }

abbrev reader : (number : ℕ) → Place → Live
reader number place = record { number = number; begin = 0; mode = Serial; accesses = read_access 0 ∷ []; place = place }

-- the small image with two transactions under labels, and one at a client
abbrev asked : World
asked = record (fresh small 1 (history [])) { live = writer 1 (label (codes "a")) 0 170 ∷ writer 2 (label (codes "b")) 1 187 ∷ writer 3 (client 7) 2 1 ∷ []; next = 4 }

-- The members are ended in the order of their labels, whatever the order in which they began; a label that nobody holds ends nobody,
-- also between two that are held.
pub answers_in_the_order_of_the_labels :
    (group_step asked (codes "b" ∷ codes "zz" ∷ codes "a" ∷ [])).0 ≡ Some (member.Committed 1) ∷ None ∷ Some (member.Committed 2) ∷ []
unfolding clash runs commit_step end_step group_step
answers_in_the_order_of_the_labels = refl

-- Their commits stand in that order after the history, none of them is live, and whoever is at a client is left.
pub commits_in_the_order_of_the_labels :
    (group_step asked (codes "b" ∷ codes "zz" ∷ codes "a" ∷ [])).1
    ≡ record asked { history = history (commit_put 0 0 1 (187 ∷ []) ∷ commit_put 0 0 0 (170 ∷ []) ∷ []); live = writer 3 (client 7) 2 1 ∷ [] }
unfolding clash runs commit_step end_step group_step
commits_in_the_order_of_the_labels = refl

-- A look takes who is found off the label, so a second look finds nobody there; who was found is at no client and under no label then.
pub found_by_each_look :
    (looks asked (codes "b" ∷ codes "b" ∷ codes "a" ∷ [])).0 ≡ Some (writer 2 (label (codes "b")) 1 187) ∷ None ∷ Some (writer 1 (label (codes "a")) 0 170) ∷ []
found_by_each_look = refl

pub places_behind_the_looks :
    (looks asked (codes "b" ∷ codes "b" ∷ codes "a" ∷ [])).1.live ≡ writer 1 unattached 0 170 ∷ writer 2 unattached 1 187 ∷ writer 3 (client 7) 2 1 ∷ []
places_behind_the_looks = refl

-- the small image at the last number, with a transaction that writes and one that reads
abbrev worn_out : World
worn_out = record (fresh small 1 (record (history []) { first = LAST + 1 })) { live = writer 1 unattached 0 170 ∷ reader 2 unattached ∷ []; next = 3 }

-- At the last number a member that writes is worn out and one that reads alone is not; neither is live afterwards.
pub members_at_the_last_number :
    group worn_out (writer 1 unattached 0 170 ∷ reader 2 unattached ∷ []) ≡ (member.Worn ∷ member.ReadOnly ∷ [], record worn_out { live = [] })
unfolding clash runs commit_step end_step
members_at_the_last_number = refl

-- What an end is answered, a member is.
pub answers_of_members :
    map member_reply (reply.Committed 3 ∷ reply.Conflict (record { commit = 2; block = 1; at = 9 }) ∷ reply.LogFull 31 29 ∷ reply.Worn ∷ reply.ReadOnly ∷ [])
    ≡ member.Committed 3 ∷ member.Conflict (record { commit = 2; block = 1; at = 9 }) ∷ member.Full 31 29 ∷ member.Worn ∷ member.ReadOnly ∷ []
answers_of_members = refl

-- The numbers that replies tell, in order.
pub numbers_of_replies :
    numbers_told (member.ReadOnly ∷ member.Committed 3 ∷ member.Conflict (record { commit = 2; block = 1; at = 9 }) ∷ member.Full 31 29 ∷ member.Committed 4 ∷ member.Worn ∷ []) ≡ 3 ∷ 4 ∷ []
numbers_of_replies = refl

-- Numbers with a gap do not follow, nor does a first one that is not the next.
pub numbers_with_a_gap_do_not_follow : Follow 2 (3 ∷ 5 ∷ []) → ⊥
numbers_with_a_gap_do_not_follow is = let next : 5 ≡ 4 = is.1.0 in omega (arith, next)

pub another_first_number_does_not_follow : Follow 2 (4 ∷ []) → ⊥
another_first_number_does_not_follow is = let next : 4 ≡ 3 = is.0 in omega (arith, next)
