-- Worked examples of the hash store, by computation: four blocks of 256 bytes, so block 0, one bucket of three cells in block 1, and
-- two blocks after it.
use Rattle.store_model.proofs.Words.{Ok, Err, map, Access, Span, Kind, Read, Write, Area, Broken, Array, put, zeros, own, compress, digest_bytes, first_words, hash_after, rounds, schedule, sha256, bucket_of, is_linked, walk, get_program, put_program, del_program, accesses_of, answer_of, outcome}
use Rattle.std.specs.Prelude.{◌≡◌, ℕ, List, [], ◌∷◌, None, Some, true, false, refl, replicate}

abbrev area : Area
area = record { start = 0; blocks = 4; size = 256 }

abbrev span : ℕ → ℕ → Span
span off len = record { off = off; len = len }

-- the kinds, blocks and marks of accesses
abbrev shape : List Access → List (Kind × ℕ × List Span)
shape accesses = map (λ a. (a.kind, a.block, a.spans)) accesses

-- the array after puts of keys of one byte, each with a value of one byte
abbrev puts : List (ℕ × ℕ) → Array → Array
puts [] A = A
puts (p ∷ ps) A = puts ps (own A (accesses_of (put_program area (p.0 ∷ []) (p.1 ∷ [])) A))

abbrev deleted : ℕ → Array → Array
deleted key A = own A (accesses_of (del_program area (key ∷ [])) A)

abbrev three : Array
three = puts ((97, 49) ∷ (98, 50) ∷ (99, 51) ∷ []) (zeros 256 4)

abbrev four : Array
four = puts ((100, 52) ∷ []) three

-- the bucket of a key is its digest's first eight bytes, the high one first, modulo the number of buckets, which here is seven
a_key_has_its_bucket : bucket_of (record { start = 0; blocks = 16; size = 256 }) (97 ∷ []) ≡ 4
unfolding bucket_of sha256 digest_bytes hash_after compress rounds schedule first_words
a_key_has_its_bucket = refl

-- a new key: the head and the keys are read, and the key and its value are written
a_new_key : shape (accesses_of (put_program area (97 ∷ []) (49 ∷ [])) (zeros 256 4)) ≡ (Read, 1, span 0 157 ∷ []) ∷ (Write, 1, span 64 31 ∷ span 157 33 ∷ []) ∷ []
unfolding put_program walk bucket_of is_linked sha256 digest_bytes hash_after compress rounds schedule first_words put
a_new_key = refl

-- a key that is there: its value alone
an_old_key : shape (accesses_of (put_program area (97 ∷ []) (50 ∷ [])) three) ≡ (Read, 1, span 0 157 ∷ []) ∷ (Write, 1, span 157 33 ∷ []) ∷ []
unfolding put_program walk bucket_of is_linked sha256 digest_bytes hash_after compress rounds schedule first_words put
an_old_key = refl

-- the fourth key: a block of the free map, which is read and marked, the new block whole, and the link to it
a_key_behind_a_full_block : shape (accesses_of (put_program area (100 ∷ []) (52 ∷ [])) three)
    ≡ (Read, 1, span 0 157 ∷ []) ∷ (Read, 0, span 0 65 ∷ []) ∷ (Write, 0, span 64 1 ∷ []) ∷ (Write, 2, []) ∷ (Write, 1, span 0 4 ∷ []) ∷ []
unfolding put_program walk bucket_of is_linked sha256 digest_bytes hash_after compress rounds schedule first_words put
a_key_behind_a_full_block = refl

-- with room for four more accesses alone it writes nothing, and has no answer
too_little_room : ((outcome 4 (put_program area (100 ∷ []) (52 ∷ [])) three).1 ≡ None) × (shape (outcome 4 (put_program area (100 ∷ []) (52 ∷ [])) three).0 ≡ (Read, 1, span 0 157 ∷ []) ∷ (Read, 0, span 0 65 ∷ []) ∷ [])
unfolding put_program walk bucket_of is_linked sha256 digest_bytes hash_after compress rounds schedule first_words put
too_little_room = (refl, refl)

-- a get reads the value where the key is, after the keys of the blocks before
a_get_of_the_fourth : shape (accesses_of (get_program area (100 ∷ [])) four) ≡ (Read, 1, span 0 157 ∷ []) ∷ (Read, 2, span 0 157 ∷ span 157 33 ∷ []) ∷ []
unfolding get_program put_program walk bucket_of is_linked sha256 digest_bytes hash_after compress rounds schedule first_words put
a_get_of_the_fourth = refl

its_value : answer_of (get_program area (100 ∷ [])) four ≡ Ok (Some (52 ∷ []))
unfolding get_program put_program walk bucket_of is_linked sha256 digest_bytes hash_after compress rounds schedule first_words put
its_value = refl

-- the last key of a block after the bucket's: the block goes back to the free map, and the link to it is cut
a_delete_that_frees_a_block : shape (accesses_of (del_program area (100 ∷ [])) four)
    ≡ (Read, 1, span 0 157 ∷ []) ∷ (Read, 2, span 0 157 ∷ []) ∷ (Read, 0, span 0 65 ∷ []) ∷ (Write, 0, span 64 1 ∷ []) ∷ (Write, 1, span 0 4 ∷ []) ∷ []
unfolding del_program put_program walk bucket_of is_linked sha256 digest_bytes hash_after compress rounds schedule first_words put
a_delete_that_frees_a_block = refl

and_then_it_is_gone : (answer_of (del_program area (100 ∷ [])) four ≡ Ok true) × (answer_of (get_program area (100 ∷ [])) (deleted 100 four) ≡ Ok None) × (answer_of (del_program area (100 ∷ [])) (deleted 100 four) ≡ Ok false)
unfolding get_program del_program put_program walk bucket_of is_linked sha256 digest_bytes hash_after compress rounds schedule first_words put
and_then_it_is_gone = (refl, refl, refl)

-- it needs room for two writes behind its three reads
too_little_room_to_free : (shape (outcome 4 (del_program area (100 ∷ [])) four).0 ≡ (Read, 1, span 0 157 ∷ []) ∷ (Read, 2, span 0 157 ∷ []) ∷ (Read, 0, span 0 65 ∷ []) ∷ [])
    × ((outcome 5 (del_program area (100 ∷ [])) four).1 ≡ Some (Ok true))
unfolding del_program put_program walk bucket_of is_linked sha256 digest_bytes hash_after compress rounds schedule first_words put
too_little_room_to_free = (refl, refl)

-- a key that was deleted leaves its cell to the next new one
a_cell_is_used_again : shape (accesses_of (put_program area (101 ∷ []) (53 ∷ [])) (deleted 98 three)) ≡ (Read, 1, span 0 157 ∷ []) ∷ (Write, 1, span 95 31 ∷ span 190 33 ∷ []) ∷ []
unfolding del_program put_program walk bucket_of is_linked sha256 digest_bytes hash_after compress rounds schedule first_words put
a_cell_is_used_again = refl

-- seven keys, of which one of the bucket's block and one of the block after it are deleted: the next new key gets the first of the
-- two cells, once the whole chain is read
abbrev seven : Array
seven = puts ((101, 53) ∷ (102, 54) ∷ (103, 55) ∷ []) four

a_cell_of_the_first_block : shape (accesses_of (put_program area (104 ∷ []) (56 ∷ [])) (deleted 101 (deleted 98 seven)))
    ≡ (Read, 1, span 0 157 ∷ []) ∷ (Read, 2, span 0 157 ∷ []) ∷ (Read, 3, span 0 157 ∷ []) ∷ (Write, 1, span 95 31 ∷ span 190 33 ∷ []) ∷ []
unfolding del_program put_program walk bucket_of is_linked sha256 digest_bytes hash_after compress rounds schedule first_words put
a_cell_of_the_first_block = refl

-- a block in the middle of a chain stays in it, also where its last key goes
a_block_in_the_middle_stays : shape (accesses_of (del_program area (102 ∷ [])) (deleted 101 (deleted 100 seven))) ≡ (Read, 1, span 0 157 ∷ []) ∷ (Read, 2, span 0 157 ∷ []) ∷ (Write, 2, span 126 31 ∷ span 223 33 ∷ []) ∷ []
unfolding del_program put_program walk bucket_of is_linked sha256 digest_bytes hash_after compress rounds schedule first_words put
a_block_in_the_middle_stays = refl

-- a head has zeros behind its three numbers
abbrev marked_head : Array
marked_head = own three (record { kind = Write; block = 1; spans = span 12 1 ∷ []; bytes = replicate 256 33 } ∷ [])

a_head_that_is_broken : answer_of (get_program area (97 ∷ [])) marked_head ≡ Err (Broken 1)
unfolding get_program put_program walk bucket_of is_linked sha256 digest_bytes hash_after compress rounds schedule first_words put
a_head_that_is_broken = refl

-- a value whose length is none: the get that reads it finds the block broken, and a put writes it anew
abbrev too_long : Array
too_long = own three (record { kind = Write; block = 1; spans = span 157 1 ∷ []; bytes = replicate 256 33 } ∷ [])

a_value_that_is_broken : (answer_of (get_program area (97 ∷ [])) too_long ≡ Err (Broken 1)) × (answer_of (put_program area (97 ∷ []) (54 ∷ [])) too_long ≡ Ok tt)
unfolding get_program put_program walk bucket_of is_linked sha256 digest_bytes hash_after compress rounds schedule first_words put
a_value_that_is_broken = (refl, refl)
