-- Lines that end a client's transaction: what they may make, and what is refused.
use Rattle.par_script.proofs.Words.{◌≡◌, ℕ, ◌<◌, true, List, [], ◌∷◌, Option, Some, None, ap, inl, inr, length, refl, arith, Ok, Err, Access, Committed, ReadOnly, Geometry, Serial, Snapshot, clash, runs, get_access, put_access, empty_history, Own, Does}
use Rattle.iso_model.{proofs.Clashes.{no_clash, some_clash}, specs.History.History, specs.declared.access.Clash.Clash}
use Rattle.script_model.specs.declared.script.Op.TheVariants as op
use Rattle.script_model.specs.declared.script.Reply.TheVariants as reply
use Rattle.iso_shared.specs.declared.entry.Call.TheVariants as call
use Rattle.iso_shared.specs.declared.entry.Cause.TheVariants as cause
use Rattle.iso_shared.specs.declared.entry.Entry.TheVariants as entry
use Rattle.script_model.specs.declared.stop.Stop.TheVariants as stop

abbrev small : Geometry
small = record { block = 64; blocks = 4; log = 256; mode = Serial; hash = 0; tree = 0; form = 1 }

abbrev put_aa : Access
put_aa = put_access 64 0 0 (170 ∷ [])

abbrev get_both : Access
get_both = get_access 0 0 2

-- one that only put, one that only read, and one that did both
abbrev writer : Own
writer = record { number = 1; begin = 0; mode = Serial; accesses = put_aa ∷ [] }

abbrev reader : Own
reader = record { number = 2; begin = 1; mode = Serial; accesses = get_both ∷ [] }

abbrev both : Own
both = record { number = 3; begin = 0; mode = Serial; accesses = get_both ∷ put_aa ∷ [] }

-- a history whose one commit wrote the first byte of block 0
abbrev written : History
written = record (empty_history small) { commits = record { begin = 0; mode = Serial; accesses = put_aa ∷ [] } ∷ [] }

-- an end asks for the later commits first
asks : Does small true (Some both) op.End (entry.Recent 3 0 ∷ entry.End 3 (get_both ∷ put_aa ∷ []) (Committed 1) ∷ []) (Ok (reply.Committed 1)) None
asks = inl (refl, (refl, refl, refl, refl))

-- it may come at once where the transaction read nothing, or wrote nothing
no_clash_without_a_read : (H : History) → clash small H Serial 0 (put_aa ∷ []) ≡ None
no_clash_without_a_read H = by (clash small H Serial 0 (put_aa ∷ [])) refl
  where
    by : (o : Option Clash) → clash small H Serial 0 (put_aa ∷ []) ≡ o → o ≡ None
    by None is = refl
    by (Some c) is = cc ((some_clash small H Serial 0 (put_aa ∷ []) c is).0.guarded)

ends_without_a_read : Does small true (Some writer) op.End (entry.End 1 (put_aa ∷ []) (Committed 1) ∷ []) (Ok (reply.Committed 1)) None
ends_without_a_read = inr (no_clash_without_a_read, (refl, refl, refl, refl))

ends_without_a_write : Does small true (Some reader) op.End (entry.End 2 (get_both ∷ []) ReadOnly ∷ []) (Ok reply.ReadOnly) None
ends_without_a_write = inr (λ H. no_clash small H Serial 1 (get_both ∷ []) refl, (refl, refl, refl, refl))

-- it may not where a commit can clash: the transaction read and wrote, or wrote in snapshot mode
not_unasked : Does small true (Some both) op.End (entry.End 3 (get_both ∷ put_aa ∷ []) (Committed 1) ∷ []) (Ok (reply.Committed 1)) None → ⊥
unfolding clash runs
not_unasked (inl does) = does
not_unasked (inr does) = cc (does.0 written)

not_unasked_in_snapshot_mode : Does small true (Some (record writer { mode = Snapshot })) op.End (entry.End 1 (put_aa ∷ []) (Committed 1) ∷ []) (Ok (reply.Committed 1)) None → ⊥
unfolding clash runs
not_unasked_in_snapshot_mode (inl does) = does
not_unasked_in_snapshot_mode (inr does) = cc (does.0 written)

-- an end that comes at once is one entry: the own transaction's, with its accesses, and it ends the transaction
not_without_an_entry : Does small true (Some writer) op.End [] (Err stop.Memory) (Some writer) → ⊥
not_without_an_entry (inl does) = does
not_without_an_entry (inr does) = does.1

not_twice : Does small true (Some writer) op.End (entry.End 1 (put_aa ∷ []) (Committed 1) ∷ entry.End 1 (put_aa ∷ []) (Committed 1) ∷ []) (Ok (reply.Committed 1)) None → ⊥
not_twice (inl does) = does
not_twice (inr does) = does.1

not_anothers_end_at_once : Does small true (Some writer) op.End (entry.End 2 (put_aa ∷ []) (Committed 1) ∷ []) (Ok (reply.Committed 1)) None → ⊥
not_anothers_end_at_once (inl does) = does
not_anothers_end_at_once (inr does) = cc (does.1.0)

not_equal : (m n : ℕ) → m < n → m ≡ n → ⊥
not_equal m n less same = absurd (omega arith)

not_without_accesses_at_once : Does small true (Some writer) op.End (entry.End 1 [] ReadOnly ∷ []) (Ok reply.ReadOnly) None → ⊥
not_without_accesses_at_once (inl does) = does
not_without_accesses_at_once (inr does) = not_equal 0 1 (omega arith) (ap (λ (l : List Access). length l) (does.1.1))

not_another_reply_at_once : Does small true (Some writer) op.End (entry.End 1 (put_aa ∷ []) (Committed 1) ∷ []) (Ok reply.ReadOnly) None → ⊥
not_another_reply_at_once (inl does) = does
not_another_reply_at_once (inr does) = cc (does.1.2)

not_kept_at_once : Does small true (Some writer) op.End (entry.End 1 (put_aa ∷ []) (Committed 1) ∷ []) (Ok (reply.Committed 1)) (Some writer) → ⊥
not_kept_at_once (inl does) = does
not_kept_at_once (inr does) = cc (does.1.3)

-- one that is refused is so as an end: a fault of the disk ends the transaction, and what else refuses it leaves it
stops_at_once : Does small true (Some writer) op.End (entry.Refused (call.End 1 (put_aa ∷ [])) (cause.Disk 0 1) ∷ []) (Err stop.Disk) None
stops_at_once = inr (no_clash_without_a_read, (refl, refl, refl))

not_kept_by_a_fault_at_once : Does small true (Some writer) op.End (entry.Refused (call.End 1 (put_aa ∷ [])) (cause.Disk 0 1) ∷ []) (Err stop.Disk) (Some writer) → ⊥
not_kept_by_a_fault_at_once (inl does) = cc (does.0)
not_kept_by_a_fault_at_once (inr does) = cc (does.1.2)

not_lost_by_want_of_memory : Does small true (Some writer) op.End (entry.Refused (call.End 1 (put_aa ∷ [])) cause.Memory ∷ []) (Err stop.Memory) None → ⊥
not_lost_by_want_of_memory (inl does) = cc (does.0)
not_lost_by_want_of_memory (inr does) = cc (does.1.2)

-- an end that asks is of the own transaction, with its accesses, is answered by its entry, and ends it
not_read_only : Does small true (Some both) op.End (entry.Recent 3 0 ∷ entry.End 3 (get_both ∷ put_aa ∷ []) (Committed 1) ∷ []) (Ok reply.ReadOnly) None → ⊥
not_read_only (inl does) = cc (does.1.2)
not_read_only (inr does) = does.1

not_anothers_recent : Does small true (Some reader) op.End (entry.Recent 1 1 ∷ entry.End 2 (get_both ∷ []) ReadOnly ∷ []) (Ok reply.ReadOnly) None → ⊥
not_anothers_recent (inl does) = cc (does.0)
not_anothers_recent (inr does) = does.1

not_anothers_end : Does small true (Some reader) op.End (entry.Recent 2 1 ∷ entry.End 1 (get_both ∷ []) ReadOnly ∷ []) (Ok reply.ReadOnly) None → ⊥
not_anothers_end (inl does) = cc (does.1.0)
not_anothers_end (inr does) = does.1

not_without_accesses : Does small true (Some reader) op.End (entry.Recent 2 1 ∷ entry.End 2 [] ReadOnly ∷ []) (Ok reply.ReadOnly) None → ⊥
not_without_accesses (inl does) = not_equal 0 1 (omega arith) (ap (λ (l : List Access). length l) (does.1.1))
not_without_accesses (inr does) = does.1

-- a fault of its end: the client stops, and has nothing to abort
stops_without : Does small true (Some writer) op.End (entry.Recent 1 0 ∷ entry.Refused (call.End 1 (put_aa ∷ [])) (cause.Disk 0 1) ∷ []) (Err stop.Disk) None
stops_without = inl (refl, (refl, refl, refl))

not_kept_by_a_fault : Does small true (Some writer) op.End (entry.Recent 1 0 ∷ entry.Refused (call.End 1 (put_aa ∷ [])) (cause.Disk 0 1) ∷ []) (Err stop.Disk) (Some writer) → ⊥
not_kept_by_a_fault (inl does) = cc (does.1.2)
not_kept_by_a_fault (inr does) = does.1

not_answered_over_a_fault : Does small true (Some writer) op.End (entry.Recent 1 0 ∷ entry.Refused (call.End 1 (put_aa ∷ [])) (cause.Disk 0 1) ∷ []) (Ok reply.ReadOnly) None → ⊥
not_answered_over_a_fault (inl does) = cc (does.1.1)
not_answered_over_a_fault (inr does) = does.1

-- where the question is refused, or memory is wanting after it, the client stops and keeps its transaction
not_anothers_recent_refused : Does small true (Some writer) op.End (entry.Refused (call.Recent 2) cause.Memory ∷ []) (Err stop.Memory) (Some writer) → ⊥
not_anothers_recent_refused (inl does) = cc (does.0)
not_anothers_recent_refused (inr does) = cc (does.1.0)

not_lost_by_a_refused_recent : Does small true (Some writer) op.End (entry.Refused (call.Recent 1) cause.Memory ∷ []) (Err stop.Memory) None → ⊥
not_lost_by_a_refused_recent (inl does) = cc (does.2)
not_lost_by_a_refused_recent (inr does) = cc (does.1.0)

not_ended_unasked : Does small true (Some writer) op.End (entry.Recent 1 0 ∷ []) (Ok reply.ReadOnly) (Some writer) → ⊥
not_ended_unasked (inl does) = cc (does.1.0)
not_ended_unasked (inr does) = does.1

not_lost_unasked : Does small true (Some writer) op.End (entry.Recent 1 0 ∷ []) (Err stop.Memory) None → ⊥
not_lost_unasked (inl does) = cc (does.1.1)
not_lost_unasked (inr does) = does.1
