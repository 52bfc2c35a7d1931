-- The words that the proofs of this crate cite from elsewhere.
pub use Rattle.std.{proofs.Common.{Bool, List, None, Option, Some, ap, arith, cond, drop, get_or, inl, inr, length, length-drop, min, refl, replicate, rules, set, subst, suc, sym, take, zero, ℕ, [], ⊎_elim, ◌%◌, ◌++◌, ◌+◌, ◌-◌, ◌<◌, ◌==◌, ◌∙◌, ◌∷◌, ◌≡◌, ◌≤◌, ◌⊎◌}, proofs.Math.Nat.{mod-add-div, mod-lt}, proofs.Math.Seq.{take-add, take-length}, proofs.lemmas.Bool.{cases_eq, cases_lt, ne_eqb}, proofs.lemmas.List.{drop-append-le, drop-drop, drop-replicate, drop-take, drop_all, drop_at, get_or_read, get_or-set_other, get_or-set_same, length-set, length-take, length-take-le, take-append-le, take-replicate, take-take, take_all, take_at, take_min, take_rest}, proofs.lemmas.List.Sums.sum_by-set, proofs.lemmas.Option.same_Some, proofs.lemmas.Result.on_ok_weaker, proofs.lemmas.Slice.put_mid-paste, proofs.lemmas.Slice.Eq.bytes_eq-Decides, specs.List.slice_get, specs.Option.{ForSome, option_map}, specs.Str.bytes_eq}
pub use Rattle.iso_disk.{proofs.Causes.{all_passed, failed_behind}, proofs.Bytes.{drop-torn, length-spliced, slice-torn, spliced_behind, spliced_torn, take-drop-spliced, take-spliced, torn_whole}, proofs.Images.length-contents, specs.Disk.{DiskState, Elapses, Torn, spliced}}
pub use borrow.Rule.Slice.PartMut.{put_mid}
pub use Rattle.kept_disk.specs.{Pages.{AreLaid, HasPage, HoldsRange, IsBlank, IsHeld, Stand, StandsFor, end_of, from_of, page_at, page_of, start_of}, declared.pages.Pages.Pages}
