-- The words that the proofs of this crate cite from elsewhere.
pub use Rattle.std.{proofs.Common.{Bool, Err, IfOk, IsTrue, List, None, Ok, Option, Result, Some, ap, append_assoc, arith, cond, drop, eq-eqb, false, get_or, inl, inr, length, length-append, nat_le, ne_eqb, not, refl, replicate, subst, suc, sym, take, true, zero, zero-add, ℕ, [], ◌&&◌, ◌++◌, ◌+◌, ◌-◌, ◌/◌, ◌<◌, ◌==◌, ◌∙◌, ◌∷◌, ◌≡◌, ◌≢◌, ◌≤◌, ◌⊎◌}, proofs.Math.Seq.take-nil, proofs.lemmas.Bool.{and_from, both_ways, cases_Bool, cases_eq, cases_lt, or_left, or_right}, proofs.lemmas.Bool.Decides.nat_tests, proofs.lemmas.List.{append-nil, drop-replicate, drop-take, drop_at, ext_get_or, get_or-append-add, get_or-drop, get_or-take, get_or_append_left, get_or_at, get_or_past, length-drop, length-replicate, length-take, length-take-le, take-replicate, take-take, take_at, take_more}, specs.List.{AllByRecursion, list_all}, specs.Option.ForSome}
pub use Rattle.counts.specs.Count.{Rose}
pub use Rattle.iso_model.{proofs.Bytes.{length-block_own, length-block_put, length-merged, length-put, merged_at, merged_kept, other_block, put_at}, proofs.Marked.marked_last, specs.Array.{Array, byte_at, covered, in_span, merged, put}, specs.Effect.{covers, is_write, own}, specs.Marks.{is_outside, marked, marks_fault}, specs.Premises.{IsSpan, block_at}, specs.declared.access.Access.Access, specs.declared.access.Kind.TheVariants.Read, specs.declared.access.Span.Span}
pub use Rattle.store_model.{proofs.Laying.length-laid_at, specs.Cells.{is_zero, is_part, text_of, part_of, laid_at, block_with}, specs.FreeMap.{bit_place, bit_mark, map_mark, map_bytes}, specs.HashCalls.at_cell, specs.Stores.{Agree, AreReads, Done, IsLocal, Look, LookWhole, Program, Reserve, SameShape, Store, accesses_of, after, answer_of, bytes_in, depends, further_bytes, look_access, outcome, store_access, then_do, with_further}, specs.declared.stores.Area.Area, specs.declared.stores.StoreError.StoreError, specs.declared.stores.TxError.TxError}
pub use Rattle.tx_blocks.specs.{Runs.{Began, Behaves, Ends, HasEnded, HasRead, HasRun, IsCause, IsCut, IsLocalCall, IsStoreCause, IsUnwritten, Passed, Ran, Stopped, WantsMemory}, Tx.{Device, IsLater, IsRefused, IsTx, Tx, access_refusal, added, mark_refusal, room_of, with_accesses}}
