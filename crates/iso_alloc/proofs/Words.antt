-- The words that the proofs of this crate cite from elsewhere.
pub use Rattle.std.{proofs.Common.{Bool, List, None, Option, Some, ap, arith, cond, drop, eq-eqb, false, get_or, inl, inr, length, max, min, ne_eqb, not, refl, subst, suc, sym, take, true, zero, ℕ, [], ◌%◌, ◌&&◌, ◌++◌, ◌+◌, ◌-◌, ◌/◌, ◌<◌, ◌==◌, ◌^◌, ◌||◌, ◌∙◌, ◌∷◌, ◌≡◌, ◌≢◌, ◌≤◌, ◌⊎◌, eqb, map, nat_le, w8, ◌*◌}, proofs.Math.ListN.replicate, proofs.lemmas.Bool.{and_from, and_parts, cases_Bool, cases_eq, eqb-true, false_from_ne_true, leb-true}, proofs.lemmas.Bool.Decides.nat_tests, proofs.lemmas.Grind.common_steps, proofs.lemmas.List.{drop_at, get_or-set_other, get_or-set_same, get_or-take, length-take-le, take_at, drop-drop, drop-take, get_or-drop, take_rest}, proofs.lemmas.Nat.Bits.{bit_at-lt, bit_at-pow_other, bit_at-pow_same, bit_at_and, bit_at_or, bit_at_xor}, proofs.Math.Nat.div-one, proofs.lemmas.Nat.{shr-shr, shr_le}, proofs.lemmas.Simd.{bitmask_splat, length-chunk}, proofs.lemmas.Slice.Eq.bytes_eq-Decides, specs.Cmp.Lexicographic.{lists_ties, slice_cmp}, specs.FinMap.find, specs.Int.bit_at, specs.List.list_all, specs.Ordering.{eq_by_cmp, nat_cmp}, specs.Prelude.bit_and, specs.Str.bytes_eq}
pub use Rattle.iso_model.specs.{Conflict.first_from, Effect.or_else}
pub use Rattle.store_model.specs.{Cells.{all_from, are_key_parts, cell_count, cell_with, is_part, is_unused, is_zero, key_at, key_mark, laid_at, text_of, unused_cell}, FreeMap.{bit_place, clear_bit, free_count, lowest_free, map_bit, map_bytes, map_mark, set_bit, with_bit, without_bit}, HashCalls.is_alone, HashRegion.IsIn, Stores.bytes_in}
pub use lib.Lanes.{chunk, mask_l}
