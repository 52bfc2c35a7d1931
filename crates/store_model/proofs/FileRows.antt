-- Worked examples of the file store, by computation.
use Rattle.store_model.{proofs.Words.{Ok, Err, map, Access, Span, Kind, Read, Write, Array, zeros, put, own, is_node, accesses_of, answer_of, BadRange, Exists, FileAreas, is_file, Call, create_program, read_program, write_program, rename_program, remove_program}, specs.TreeCalls.{get_program, put_program, del_program}}
use Rattle.iso_model.specs.Array.{byte_at}
use Rattle.std.specs.Prelude.{◌≡◌, ℕ, List, [], ◌∷◌, None, Some, true, refl}

abbrev place : FileAreas
place = record { tree = record { size = 256; start = 0; blocks = 4 }; files = record { size = 256; start = 4; blocks = 12 } }

abbrev done : {X : Type 0} → Call X → Array → Array
done p A = own A (accesses_of p A)

abbrev blank : Array
blank = zeros 256 16

abbrev shape : List Access → List (Kind × ℕ × List Span)
shape accesses = map (λ a. (a.kind, a.block, a.spans)) accesses

abbrev one : Array
one = done (create_program place (97 ∷ [])) blank

abbrev two : Array
two = done (write_program place (97 ∷ []) 0 (1 ∷ 2 ∷ [])) one

create_makes_a_file : answer_of (create_program place (97 ∷ [])) blank ≡ Ok tt
unfolding create_program get_program put_program put is_node is_file
create_makes_a_file = refl

create_shape : shape (accesses_of (create_program place (97 ∷ [])) blank) ≡ ((Read, 0, record { off = 0; len = 8 } ∷ []) ∷ (Read, 4, record { off = 0; len = 66 } ∷ []) ∷ (Read, 0, record { off = 0; len = 8 } ∷ []) ∷ (Read, 0, record { off = 0; len = 65 } ∷ []) ∷ (Write, 0, record { off = 64; len = 1 } ∷ record { off = 0; len = 8 } ∷ []) ∷ (Write, 1, []) ∷ (Write, 4, record { off = 64; len = 1 } ∷ []) ∷ (Write, 5, []) ∷ [])
unfolding create_program get_program put_program put is_node is_file
create_shape = refl

write_puts_bytes : answer_of (write_program place (97 ∷ []) 0 (1 ∷ 2 ∷ [])) one ≡ Ok true
unfolding create_program write_program get_program put_program put is_node is_file
write_puts_bytes = refl

write_past_the_end : answer_of (write_program place (97 ∷ []) 3 (1 ∷ [])) two ≡ Err BadRange
unfolding create_program write_program get_program put_program put is_node is_file
write_past_the_end = refl

read_ends_with_the_file : answer_of (read_program place (97 ∷ []) 1 9) two ≡ Ok (Some (2 ∷ []))
unfolding create_program write_program read_program get_program put_program put is_node is_file
read_ends_with_the_file = refl

no_file_twice : answer_of (create_program place (97 ∷ [])) two ≡ Err Exists
unfolding create_program write_program get_program put_program put is_node is_file
no_file_twice = refl

abbrev three : Array
three = done (rename_program place (97 ∷ []) (98 ∷ [])) two

renamed : answer_of (rename_program place (97 ∷ []) (98 ∷ [])) two ≡ Ok true
unfolding create_program write_program rename_program get_program put_program del_program put is_node is_file
renamed = refl

old_name_has_none : answer_of (read_program place (97 ∷ []) 0 1) three ≡ Ok None
unfolding create_program write_program read_program rename_program get_program put_program del_program put is_node is_file
old_name_has_none = refl

new_name_has_it : answer_of (read_program place (98 ∷ []) 0 2) three ≡ Ok (Some (1 ∷ 2 ∷ []))
unfolding create_program write_program read_program rename_program get_program put_program del_program put is_node is_file
new_name_has_it = refl

-- a name that another file has is not taken from it
taken_name : answer_of (rename_program place (97 ∷ []) (98 ∷ [])) (done (create_program place (98 ∷ [])) two) ≡ Err Exists
unfolding create_program write_program rename_program get_program put_program del_program put is_node is_file
taken_name = refl

no_byte_is_asked_for : answer_of (read_program place (97 ∷ []) 0 0) two ≡ Err BadRange
unfolding create_program write_program read_program get_program put_program put is_node is_file
no_byte_is_asked_for = refl

removed : answer_of (remove_program place (98 ∷ [])) three ≡ Ok true
unfolding create_program write_program remove_program rename_program get_program put_program del_program put is_node is_file
removed = refl

-- the file block and the data block are free again
removed_blocks_are_free : (byte_at three 4 64 ≡ 6) × (byte_at (done (remove_program place (98 ∷ [])) three) 4 64 ≡ 0)
unfolding create_program write_program remove_program rename_program get_program put_program del_program put is_node is_file
removed_blocks_are_free = (refl, refl)

remove_shape : shape (accesses_of (remove_program place (98 ∷ [])) three) ≡ ((Read, 0, record { off = 0; len = 8 } ∷ []) ∷ (Read, 1, record { off = 0; len = 157 } ∷ record { off = 157; len = 33 } ∷ []) ∷ (Read, 5, []) ∷ (Read, 4, record { off = 0; len = 66 } ∷ []) ∷ (Read, 0, record { off = 0; len = 8 } ∷ []) ∷ (Read, 1, record { off = 0; len = 157 } ∷ []) ∷ (Read, 1, []) ∷ (Write, 1, []) ∷ (Write, 4, record { off = 64; len = 1 } ∷ []) ∷ [])
unfolding create_program write_program remove_program rename_program get_program put_program del_program put is_node is_file
remove_shape = refl

-- Two clients that write different bytes of one file write under their marks alone; one that appends writes the file block.
write_shape : shape (accesses_of (write_program place (97 ∷ []) 0 (170 ∷ [])) two) ≡ ((Read, 0, record { off = 0; len = 8 } ∷ []) ∷ (Read, 1, record { off = 0; len = 157 } ∷ record { off = 157; len = 33 } ∷ []) ∷ (Read, 5, []) ∷ (Write, 6, record { off = 0; len = 1 } ∷ []) ∷ [])
unfolding create_program write_program get_program put_program put is_node is_file
write_shape = refl

append_shape : shape (accesses_of (write_program place (97 ∷ []) 2 (1 ∷ [])) two) ≡ ((Read, 0, record { off = 0; len = 8 } ∷ []) ∷ (Read, 1, record { off = 0; len = 157 } ∷ record { off = 157; len = 33 } ∷ []) ∷ (Read, 5, []) ∷ (Write, 5, []) ∷ (Write, 6, record { off = 2; len = 1 } ∷ []) ∷ [])
unfolding create_program write_program get_program put_program put is_node is_file
append_shape = refl
