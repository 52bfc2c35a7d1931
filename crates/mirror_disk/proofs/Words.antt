-- The words that the proofs of this crate cite from elsewhere.
pub use Rattle.std.{proofs.Common.{Bool, Err, List, None, Ok, OnErr, OnOk, Option, Result, Some, ap, arith, drop, false, get_or, inl, inr, is_ok, length, length-append, length-drop, length-take-le, lit<, refl, replicate, subst, suc, sym, take, true, zero, ℕ, [], ⊎_elim, ◌++◌, ◌+◌, ◌-◌, ◌<◌, ◌∙◌, ◌∷◌, ◌≡◌, ◌≢◌, ◌≤◌, ◌⊎◌}, proofs.Math.Seq.{take-add, take-length}, proofs.lemmas.Bool.{cases_Bool, cases_eq, cases_lt, cond-false, cond-true, eq-eqb, eqb-true, le-ltb, lt-ltb}, proofs.lemmas.List.{drop-drop, drop-replicate, drop-take, get_or-take, take-take}, proofs.lemmas.Nat.from_be_bytes-to_be_bytes_8, proofs.lemmas.Option.same_Some, proofs.lemmas.Result.on_ok_weaker, proofs.lemmas.Str.{IsUtf8-append, IsUtf8-from_ascii}, specs.Cmp.Lexicographic.{other_text, same_text}, specs.Int.{from_be_bytes, w64}, specs.List.slice_range, specs.Option.{ForSome, option_map}, specs.Prelude.{IfNone, IfSome, cond, nat_lt, slice_index, ◌==◌, ◌^◌}, specs.Str.{IsAscii, IsUtf8}}
pub use Rattle.commit_gate.specs.Gate.{IsClosed, IsOpen}
pub use Rattle.counts.specs.Count.{HasCause, Rose}
pub use Rattle.iso_disk.{proofs.Bytes.{drop-torn, get_or-torn, slice-torn, spliced_torn, take-drop-spliced, take-spliced, take-torn, torn_same, torn_twice, torn_whole, torn_wider}, proofs.Images.{length-contents, settled_write, tells_spliced, torn_from_old}, proofs.Moments.{at_end, called, joined, joined_unwritten, lasts, started, starts_unwritten, stays_settled, weakened}, proofs.Ranges.runs_inside, specs.Disk.{DiskState, Elapses, IsLawful, IsSettled, LeavesOnly, Splices, TellsTorn, Torn, TornFrom, WritesNothing, spliced}}
pub use Rattle.mirror_disk.specs.{Adopting.{AdoptsFrom, AreAdopted, AreAlike, AreChosen, Copies, FailsByChoice, IsCopied, IsCopiedIn, LeavesAlike, MakesAlike, OfChosen, OfOther, Settles, ShowsHeader, TellsNoHeader, TellsOn, WhereSame}, Becoming.{Becomes, MirrorBecomes}, Called.{Called, ChangesSides, LeavesOut, ReadsSides, SideCalled, SyncsSides}, Ended.{BothAsked, HasEnded}, Failing.{AllFailed, CannotLeave, HasFailed, HasLeft, LeavesFailed}, Header.{IsHeader, IsSlot, blank_header, body, chosen, epoch, larger, last_epoch, number_at, slot_body, slot_epoch}, Laws.{at_before, at_most, both_tell, chosen_more, rising_first, rising_more}, Pairs.{ChosenOf, IsRising, chosen_told, first_name, mirrored, pair_at, second_name, shorter}, Raised.{HasEpoch, HasMark, HoldsEpoch, IsMarked, KeepsBody, Raising, Still}, Slots.{other, place}, Standing.{AreBoth, ArePair, FirstLeads, FromA, FromB, IsPair, SecondLeads, Stands, StandsBy, sides_in, state_in}, declared.marks.Marks.Marks, declared.slot.Mark.Mark, declared.slot.Slot.Slot, declared.slot.Slot.TheVariants.{First, Second}, declared.used.Used.Used, declared.used.Used.TheVariants.{Both, Broken, OnlyFirst, OnlySecond, Plain, Unbound}}
