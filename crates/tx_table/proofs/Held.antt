-- Patches in their slots: which block has which, and what clearing leaves.
use Rattle.tx_table.proofs.{Words.{◌≡◌, ◌≢◌, ◌∙◌, sym, ap, ℕ, ◌<◌, ◌≤◌, Bool, true, false, ◌==◌, ◌||◌, List, [], ◌∷◌, refl, length, get_or, arith, Option, None, replicate, length-replicate, AllByRecursion, has_patch, patch_at, AreBlankFrom, AreSlots, RisesFrom, entries_of}, Blocks.{found_at, found_none}, Slots.{all_from, all_there, entry_is, key_at, length-entries, rises_entries, slot_below}}

-- the block of a place has the patch in its slot
held_at : (size b s i : ℕ) (slots : List (List (Option ℕ))) (order : List (ℕ × ℕ)) → RisesFrom 0 order → i < length order → get_or order i (b, s) ≡ (b, s)
    → (has_patch b (entries_of [] slots order) ≡ true) × (patch_at size b (entries_of [] slots order) ≡ get_or slots s [])
held_at size b s i slots order rises lt at =
    let es = entries_of [] slots order in
    let here : get_or es i (b, []) ≡ (b, get_or slots s []) = entry_is [] slots i b s order (b, []) lt at in
    let inside : i < length es = omega (arith, length-entries {A = List (Option ℕ)} [] slots order) in
    let found = found_at 0 size b i es (b, []) (rises_entries [] slots 0 order rises) inside (ap (λ (x : ℕ × List (Option ℕ)). x.0) here) in
    (found.0, found.1 ∙ ap (λ (x : ℕ × List (Option ℕ)). x.1) here)

-- the slot of a block that has one
pub record HasSlot (block slot : ℕ) (slots : List (List (Option ℕ))) (order : List (ℕ × ℕ)) : Type 0 where
  pub place : ℕ
  pub within : place < length order
  pub at : get_or order place (block, slot) ≡ (block, slot)
  pub below : slot < length order
  pub inside : slot < length slots
  pub held : has_patch block (entries_of [] slots order) ≡ true
  pub patch : (size : ℕ) → patch_at size block (entries_of [] slots order) ≡ get_or slots slot []

pub has_slot : (block slot : ℕ) (slots : List (List (Option ℕ))) (order seen : List (ℕ × ℕ)) → seen ≡ order → RisesFrom 0 order → AreSlots (length order) order → length order ≤ length slots
    → (i : ℕ) × (i < length seen) × (get_or seen i (block, slot) ≡ (block, slot)) → HasSlot block slot slots order
has_slot block slot slots order seen same rises are within in_seen =
    let found = rw same at in_seen in
    let below : slot < length order = slot_below (length order) found.0 block slot order are found.1 found.2 in
    record {
      place = found.0;
      within = found.1;
      at = found.2;
      below = below;
      inside = omega (arith, below, within);
      held = (held_at 0 block slot found.0 slots order rises found.1 found.2).0;
      patch = λ size. (held_at size block slot found.0 slots order rises found.1 found.2).1;
    }

-- the block of no place has none
pub held_none : (size b : ℕ) (slots : List (List (Option ℕ))) (order : List (ℕ × ℕ)) → ((k : ℕ) → (d : ℕ × ℕ) → k < length order → (get_or order k d).0 ≢ b)
    → (has_patch b (entries_of [] slots order) ≡ false) × (patch_at size b (entries_of [] slots order) ≡ replicate size None)
held_none size b slots order other =
    found_none size b (entries_of [] slots order)
    (λ k d lt same. other k (d.0, 0) (omega (arith, length-entries {A = List (Option ℕ)} [] slots order)) (sym (key_at [] slots k 0 order d) ∙ same))

-- which blocks have one is told by the order alone
pub has_entries : (b : ℕ) (slots others : List (List (Option ℕ))) (order : List (ℕ × ℕ)) → has_patch b (entries_of [] slots order) ≡ has_patch b (entries_of [] others order)
has_entries b slots others [] = refl
has_entries b slots others (e ∷ order) = ap (λ (t : Bool). (e.0 == b) || t) (has_entries b slots others order)

-- the first slots cleared, and none set after them
pub cleared_slots : (size n : ℕ) (old new : List (List (Option ℕ))) → n ≤ length old → length new ≡ length old
    → ((k : ℕ) → k < n → get_or new k [] ≡ replicate (length (get_or old k [])) None) → ((k : ℕ) → n ≤ k → get_or new k [] ≡ get_or old k [])
    → AllByRecursion (λ slot. length slot ≡ size) old → AreBlankFrom size n old → AreBlankFrom size 0 new
cleared_slots size n old new within same cleared kept sizes blank k le lt = grind (arith, all_there)

pub blank_sizes : (size : ℕ) (slots : List (List (Option ℕ))) → AreBlankFrom size 0 slots → AllByRecursion (λ slot. length slot ≡ size) slots
blank_sizes size slots blank =
    all_from (λ (slot : List (Option ℕ)). length slot ≡ size) slots [] (λ i lt. ap (length {A = Option ℕ}) (blank i (omega arith) lt) ∙ length-replicate size None)
