-- The words that the proofs of this crate cite from elsewhere.
pub use Rattle.std.{proofs.Common.{Bool, List, Option, Some, Vec, ap, arith, drop, false, get_or, if◌then◌else◌, inl, inr, is_ok, length, length-append, length-drop, length-take, refl, replicate, rules, slice_get, subst, suc, sym, take, take-append-drop, true, zero, ℕ, [], ⊎_elim, ◌++◌, ◌+◌, ◌-◌, ◌<◌, ◌∙◌, ◌∷◌, ◌≡◌, ◌≤◌, ◌⊎◌}, proofs.lemmas.Grind.common_steps, proofs.lemmas.List.{drop_more, length-replicate, take-append-le, take_all, take_more, take_rest, with_items_is}, proofs.lemmas.Option.{same_Some, slice_get-get_or, slice_get_within}, proofs.lemmas.Slice.{drop-put_mid, take-put_mid_below}, specs.Option.option_map, specs.declared.alloc.Global.Global}
pub use Rattle.iso_disk.{proofs.Bytes.{length-spliced, spliced_torn, torn_same}, proofs.Images.torn_from_old, specs.Disk.{Elapses, IsSettled, Torn, TornFrom, spliced}}
pub use Rattle.iso_model.{proofs.ByteLists.{bytes_append, bytes_drop, bytes_take}, specs.Premises.AreBytes}
pub use Rattle.iso_memdisk.specs.{Held.held, MemDisk.{Appends, IsUntouched, Starts, bytes_of, contents_of, now_of, state_of}, Record.{AllFit, NoSync, TornBy, images_after, synced, written}, Replay.{AllFit-take, written-image}, Replayed.{images, images_since, replayed}, declared.disk.MemDisk.MemDisk, declared.failures.Failures.Failures, declared.record.Call.Call, declared.record.Call.TheVariants.{Sync, Write}}
