-- The places from `from` up to `to` have the new bytes and their bits set, and the others what they had.
use Rattle.merge_write.proofs.{Words.{rules, ◌≡◌, ◌∙◌, ap, sym, ℕ, ◌<◌, ◌&&◌, ◌||◌, List, Option, Some, None, cond, length, get_or, nat_le, nat_lt, arith, with_items_is, with_items, is_set, values_from}, Values.{length-values_from, ranged_values}}
use Rattle.merge_write.proofs.patch.Patch.set_range.Goals as goal

pub copy_range-requires-clause-bytes : goal.copy_range-requires-clause-bytes
copy_range-requires-clause-bytes c = omega (arith, c.requires.bytes, c.requires.range)

pub copy_range-requires-clause-into : goal.copy_range-requires-clause-into
copy_range-requires-clause-into c = search (rules, arith, length-values_from)

pub set_bits-requires-clause-row : goal.set_bits-requires-clause-row
set_bits-requires-clause-row c = search (rules, arith, length-values_from)

pub returns-clause-len : goal.returns-clause-len
returns-clause-len c =
    let vec = c.self.inside.bytes in
    let new = c.copy_range.new.into in
    let size : length new ≡ vec.len = c.copy_range.auto.into ∙ ap length c.deref_mut.ensures.value ∙ sym vec.ok.0 in
    length-values_from (with_items c.self.inside.masks c.set_bits.new.masks).items 0 (with_items vec new).items
    ∙ ap length (with_items_is vec new size)
    ∙ c.copy_range.auto.into
    ∙ ap length c.deref_mut.ensures.value
    ∙ sym (length-values_from c.self.inside.masks.items 0 c.self.inside.bytes.items)
    ∙ ap length c.self.view_is

pub returns-clause-values : goal.returns-clause-values
returns-clause-values c k below =
    let masks = c.self.inside.masks.items in
    let bytes = c.self.inside.bytes.items in
    let new_bytes = c.copy_range.new.into in
    let new_masks = c.set_bits.new.masks in
    let t = nat_le c.args.from k && nat_lt k c.args.to in
    let x = get_or c.args.bytes.now k 0 in
    let long : length c.args.self.now ≡ length bytes = sym (ap length c.self.view_is) ∙ length-values_from masks 0 bytes in
    let bytes_are : c.deref_mut.result.now ≡ bytes = c.deref_mut.ensures.value in
    let masks_are : c.deref_mut-2.result.now ≡ masks = c.deref_mut-2.ensures.value in
    let same : length new_bytes ≡ length bytes = c.copy_range.auto.into ∙ ap length bytes_are in
    let inside : k < length bytes = omega arith in
    let within : k < length new_bytes = omega arith in
    let bit : is_set new_masks k ≡ (t || is_set masks k) = c.set_bits.ensures k ∙ ap (λ (l : List ℕ). t || is_set l k) masks_are in
    let byte : get_or new_bytes k 0 ≡ cond t x (get_or bytes k 0) = c.copy_range.ensures k ∙ ap (λ (l : List ℕ). cond t x (get_or l k 0)) bytes_are in
    let whole : (with_items c.self.inside.bytes new_bytes).items ≡ new_bytes = with_items_is c.self.inside.bytes new_bytes (same ∙ sym c.self.inside.bytes.ok.0) in
    let row : (with_items c.self.inside.masks new_masks).items ≡ new_masks =
    with_items_is c.self.inside.masks new_masks (c.set_bits.auto.masks ∙ ap length masks_are ∙ sym c.self.inside.masks.ok.0) in
    ap (λ (l : List ℕ). get_or (values_from (with_items c.self.inside.masks new_masks).items 0 l) k None) whole
    ∙ ap (λ (l : List ℕ). get_or (values_from l 0 new_bytes) k None) row
    ∙ ranged_values masks new_masks bytes new_bytes k x t inside within bit byte
    ∙ ap (λ (l : List (Option ℕ)). cond t (Some x) (get_or l k None)) c.self.view_is
