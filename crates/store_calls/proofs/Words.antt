-- The words that the proofs of this crate cite from elsewhere.
pub use Rattle.std.proofs.{Common.{Bool, Err, IfErr, IsTrue, List, None, Ok, OnOk, Option, Result, Some, ap, append-nil, arith, cond, eq-eqb, false, inl, inr, nat_lt, refl, subst, sym, take, true, ℕ, [], ◌&&◌, ◌*◌, ◌+◌, ◌-◌, ◌==◌, ◌||◌, ◌∙◌, ◌∷◌, ◌≡◌, ◌≢◌, ◌≤◌, ◌⊎◌}, lemmas.Bool.{cases_lt, eqb-false, false≢true, ltb-false, or_parts}, lemmas.Bool.Decides.nat_tests}
pub use Rattle.iso_model.{proofs.Bounds.limits, specs.Array.Array, specs.Effect.own, specs.Geometry.is_valid, specs.declared.access.Access.Access, specs.declared.access.Geometry.Geometry}
pub use Rattle.iso_fs.specs.Ends.{HasRefused, HasRun, IsFsCause, areas_of}
pub use Rattle.script_model.specs.{FilesArea.{blocks_behind, file_blocks, files_area}, Step.{file_refusal, found_reply, pairs_reply, removed_reply, store_refusal, store_reply}, declared.script.Op.Op, declared.script.Op.TheVariants.{Abort, Await, Begin, Compact, End, FileDelete, FileMove, FileNew, FileRead, FileWrite, Fill, Get, Group, HashDelete, HashGet, HashPut, Mark, Put, Read, Release, Stat, Takeover, TreeDelete, TreeGet, TreePut, TreeScan, Trim, Upgrade, Write}, declared.script.Reply.Reply, declared.stop.Stop.Stop}
pub use Rattle.store_model.{proofs.HashAccesses.hash_area_is, proofs.TreeAccesses.tree_area_is, specs.FileCalls.{Call, create_program, least, read_program, remove_program, rename_program, write_program}, specs.FileRegion.AreFileAreas, specs.HashCalls.{del_program, get_program, is_key, put_program}, specs.Stores.{Done, Program, outcome}, specs.TreeCalls.{Scanned, scan_below, with_head}, specs.declared.files.FsError.FsError, specs.declared.stores.Area.Area, specs.declared.stores.StoreError.StoreError, specs.declared.stores.TxError.TxError, specs.declared.stores.StoreError.TheVariants.BadKey}
unfoldable pub use Rattle.store_model.specs.TreeCalls.{scan_program}
pub use Rattle.tx_blocks.specs.{Runs.{Began, Ends, HasEnded, IsCut, IsStoreCause, Passed, Ran, WantsMemory, area_of}, Tx.{Device, Tx, room_of, with_accesses}}
pub use Rattle.store_calls.specs.Calls.{AreStoreAreas, HasCalled, Stops, file_refusal_of, filed, of_store, refusal_of, refused_access, replied, store_areas, store_blocks, stored, told}
