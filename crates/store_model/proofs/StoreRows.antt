-- Worked rows of programs and of the operations on the maps, and a trap.
use Rattle.std.specs.{Prelude.{◌≡◌, ℕ, length, List, [], ◌∷◌, None, Some, true, false, refl, replicate}, FinMap.{get, get-insert, get-remove}, Ordering.{eq_by_cmp, nat_cmp}, Cmp.Lexicographic.slice_cmp}
use Rattle.std.proofs.lemmas.{Cmp.nat_list_cmp_total, Map.Text.is_eq-slice_cmp, Slice.Eq.bytes_eq-Decides}
use Rattle.store_model.specs.{HashRegion.{Pairs, del_op, put_op}, FileCalls.create_op}
use Rattle.std.proofs.Common.{arith, cond, ◌∙◌, ap}
use Rattle.iso_model.specs.{declared.access.Access.Access, declared.access.Kind.TheVariants.{Read, Write}, Array.Array}
use Rattle.store_model.specs.{Stores.{SameShape, Program, Done, Reserve, depends, look_access, outcome, store_access, then_do}, FreeMap.{clear_bit, set_bit}, FileCalls.written}

abbrev read : Access
read = look_access 0 []

abbrev write : Access
write = store_access 0 [] (replicate 64 1)

-- what was read before it was written is depended on, and what was written first is not
a_read_before_a_write : depends (read ∷ write ∷ []) 0 3 ≡ true
a_read_before_a_write = refl

a_read_behind_a_write : depends (write ∷ read ∷ []) 0 3 ≡ false
a_read_behind_a_write = refl

-- a reservation in the first of two programs is one of both
a_reservation_first : (A : Array) → outcome {R = ℕ} 0 (then_do {R = ℕ} (Reserve 1 (Done 5)) (λ n. Done n)) A ≡ ([], None)
a_reservation_first A = refl

a_reservation_that_fits : (A : Array) → outcome {R = ℕ} 1 (then_do {R = ℕ} (Reserve 1 (Done 5)) (λ n. Done n)) A ≡ ([], Some 5)
a_reservation_that_fits A = refl

-- arrays of one block and of two have not one shape
one_block_is_not_two : (A B : Array) → length A ≡ 1 → length B ≡ 2 → SameShape A B → ⊥
one_block_is_not_two A B one two same = let blocks : length B ≡ length A = same.blocks in omega (arith, one, two, blocks)

-- a bit that is clear stays clear, and one that is set stays set
bits_stay : (clear_bit 1 3 ≡ 1) × (clear_bit 9 3 ≡ 1) × (set_bit 9 3 ≡ 9) × (set_bit 1 3 ≡ 9)
bits_stay = (refl, refl, refl, refl)

-- bytes in the middle of a file, and past its end
a_byte_in_the_middle : written 1 (9 ∷ []) (1 ∷ 2 ∷ 3 ∷ []) ≡ 1 ∷ 9 ∷ 3 ∷ []
a_byte_in_the_middle = refl

bytes_past_the_end : written 2 (8 ∷ 9 ∷ []) (1 ∷ 2 ∷ 3 ∷ []) ≡ 1 ∷ 2 ∷ 8 ∷ 9 ∷ []
bytes_past_the_end = refl

-- once deleted a key has no value; once put it has its own; a new file is empty
own_key : (k : List ℕ) → eq_by_cmp (slice_cmp nat_cmp) k k ≡ true
own_key k = is_eq-slice_cmp k k ∙ (bytes_eq-Decides k k).1 refl

deleted_is_gone : (m : Pairs) (k : List ℕ) → get (del_op k m).1 k ≡ None
deleted_is_gone m k = get-remove nat_list_cmp_total m k k ∙ ap (λ t. cond t None (get m k)) (own_key k)

put_is_there : (m : Pairs) (k v : List ℕ) → get (put_op k v m).1 k ≡ Some v
put_is_there m k v = get-insert nat_list_cmp_total m k v k ∙ ap (λ t. cond t (Some v) (get m k)) (own_key k)

a_new_file_is_empty : (m : Pairs) (name : List ℕ) → get (create_op name m).1 name ≡ Some []
a_new_file_is_empty m name = get-insert nat_list_cmp_total m name [] name ∙ ap (λ t. cond t (Some []) (get m name)) (own_key name)
