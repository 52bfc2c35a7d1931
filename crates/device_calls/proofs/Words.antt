-- The words that the proofs of this crate cite from elsewhere.
pub use Rattle.std.proofs.Common.{Bool, Err, IfErr, IfSome, Ok, OnErr, Option, Result, Some, ap, arith, false, refl, subst, sym, ℕ, ◌∙◌, ◌≡◌}
pub use Rattle.iso_core.specs.contracts.core_itself.Core.{the_row}
pub use Rattle.iso_disk.specs.declared.disk.Disk.{Ghosts}
pub use Rattle.iso_model.{proofs.Bounds.limits, specs.Array.Array, specs.World.World, specs.declared.access.EndReply.EndReply}
pub use Rattle.iso_shared.specs.States.{Start}
pub use Rattle.handle_pass.specs.{Accesses.tx_on, Calls.HasEnded, Visits.{IsVisit, Seen, Visited, base_in, base_of, seen_by}, Sessions.SessionState}
pub use Rattle.store_model.{proofs.HashAccesses.hash_area_is, proofs.TreeAccesses.tree_area_is, specs.declared.stores.StoreError.StoreError}
pub use Rattle.tx_blocks.specs.{Runs.{HasRead, IsUnwritten}, Tx.{Device, Tx}}
pub use mathlib.Core.List.{List, [], ◌++◌, ◌∷◌}
pub use seplogic.Ra.Ura.{Ura}
pub use mir.{MapTy.inst_fn, Syntax.{Dict, Fn, a_type, dcons, dnil}, Val.{Val, vnil, vptr, vstruct}}
pub use base.{Fml.Fml, Logic.{SProp, ent, fst∗, snd∗, via}}
pub use prog.{Memory.Memory, Routine.Routine, Wp.{Calls, Loops, Tables, WpFn}}
pub use types.{ByLocal.{alloc_all, free_all, look_at, pass_all, sets}, Kit.{done, fjoin, join, keep, move, qed, raw, split, suffices, use0, !, ‵, ◌$◌, ◌∵◌, ◌⊛◌}, Logic.{Logic, sem}, Part.agg, Run.{enter, no_more, returns}}
pub use contract.{BorrowLft.◌⊑◌, Lifetimes.lft_at, Monad.{Fun, fact, fact_use}, Running.tables}
unfoldable pub use contract.Running.{tables_of}
pub use sound.WpLaws.{WpFn-mono}
pub use denote.{Builtin.RefOf, Exit.yes, Laws.{Are, Ises, owns_show, showss}, Param.{bounded, param}, Param.Laws.Laws, RattleType.{RattleType, owns}, Shadow.makes_shadow, Signature.{plain, type_at, types_at}, Steps.{heard, nothing}, Triple.Clauses.{Clauses, closing}, Triple.Entry.{alive, on_entry}, Triple.Spec.{Meets, triple_of}, Triple.Table.entered, Triple.Walked.{Goes-dropped, Stays, ends_at, says, stay_dropped, walk_Meets, walk_of}}
pub use Rattle.device_calls.specs.{Beginnings.BeginsAt, Visits.{HasCalled, calm}, contracts.beginning.beginning_of.{clauses, ended}, contracts.beginning.beginning_of.Key.{name as #self}}
