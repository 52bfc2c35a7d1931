-- Worked examples of the tree store, by computation.
use Rattle.store_model.{proofs.Words.{Ok, Err, map, Access, Span, Kind, Read, Write, Area, NoBlocks, Array, zeros, own, accesses_of, answer_of, scan_program, tree_pairs, tree_nodes}, specs.TreeCalls.{get_program, put_program, del_program}}
use Rattle.std.specs.Prelude.{◌≡◌, ℕ, List, [], ◌∷◌, None, Some, refl}

abbrev area : ℕ → Area
area blocks = record { start = 0; blocks = blocks; size = 256 }

abbrev puts : Area → List (ℕ × ℕ) → Array → Array
puts a [] A = A
puts a (p ∷ ps) A = puts a ps (own A (accesses_of (put_program a (p.0 ∷ []) (p.1 ∷ [])) A))

abbrev three : Array
three = puts (area 3) ((97, 49) ∷ (98, 50) ∷ (99, 51) ∷ []) (zeros 256 3)

-- the kinds, blocks and marks of accesses
abbrev shape : List Access → List (Kind × ℕ × List Span)
shape accesses = map (λ a. (a.kind, a.block, a.spans)) accesses

refused_without_two_blocks : answer_of (put_program (area 3) (100 ∷ []) (52 ∷ [])) three ≡ Err (NoBlocks 2 1)
unfolding put_program get_program scan_program del_program Rattle.iso_model.specs.Array.put Rattle.store_model.specs.TreeNodes.is_node
refused_without_two_blocks = refl

get_after_a_refusal : answer_of (get_program (area 3) (99 ∷ [])) three ≡ Ok (Some (51 ∷ []))
unfolding put_program get_program scan_program del_program Rattle.iso_model.specs.Array.put Rattle.store_model.specs.TreeNodes.is_node
get_after_a_refusal = refl

abbrev four : Array
four = puts (area 4) ((97, 49) ∷ (98, 50) ∷ (99, 51) ∷ (100, 52) ∷ []) (zeros 256 4)

scan_after_a_split : answer_of (scan_program (area 4) (97 ∷ []) (122 ∷ []) 10) four ≡ Ok ((97 ∷ [], 49 ∷ []) ∷ (98 ∷ [], 50 ∷ []) ∷ (99 ∷ [], 51 ∷ []) ∷ (100 ∷ [], 52 ∷ []) ∷ [])
unfolding put_program get_program scan_program del_program Rattle.iso_model.specs.Array.put Rattle.store_model.specs.TreeNodes.is_node
scan_after_a_split = refl

-- a scan has its first key and not its last; where that is the lower one it finds none
scan_of_one_key : answer_of (scan_program (area 4) (99 ∷ []) (100 ∷ []) 10) four ≡ Ok ((99 ∷ [], 51 ∷ []) ∷ [])
unfolding put_program get_program scan_program del_program Rattle.iso_model.specs.Array.put Rattle.store_model.specs.TreeNodes.is_node
scan_of_one_key = refl

scan_backwards : answer_of (scan_program (area 4) (100 ∷ []) (97 ∷ []) 10) four ≡ Ok []
unfolding put_program get_program scan_program del_program Rattle.iso_model.specs.Array.put Rattle.store_model.specs.TreeNodes.is_node
scan_backwards = refl

pairs_after_a_split : tree_pairs (area 4) four ≡ ((97 ∷ [], 49 ∷ []) ∷ (98 ∷ [], 50 ∷ []) ∷ (99 ∷ [], 51 ∷ []) ∷ (100 ∷ [], 52 ∷ []) ∷ [])
unfolding put_program get_program scan_program del_program Rattle.iso_model.specs.Array.put Rattle.store_model.specs.TreeNodes.is_node
pairs_after_a_split = refl

split_nodes : tree_nodes (area 4) four ≡ (3 ∷ 1 ∷ 2 ∷ [])
unfolding put_program get_program scan_program del_program Rattle.iso_model.specs.Array.put Rattle.store_model.specs.TreeNodes.is_node
split_nodes = refl

split_shape : shape (accesses_of (put_program (area 4) (100 ∷ []) (52 ∷ [])) (puts (area 4) ((97, 49) ∷ (98, 50) ∷ (99, 51) ∷ []) (zeros 256 4))) ≡ ((Read, 0, record { off = 0; len = 8 } ∷ []) ∷ (Read, 1, record { off = 0; len = 157 } ∷ []) ∷ (Read, 0, record { off = 0; len = 65 } ∷ []) ∷ (Read, 1, []) ∷ (Write, 0, record { off = 64; len = 1 } ∷ record { off = 0; len = 8 } ∷ []) ∷ (Write, 1, []) ∷ (Write, 2, []) ∷ (Write, 3, []) ∷ [])
unfolding put_program get_program scan_program del_program Rattle.iso_model.specs.Array.put Rattle.store_model.specs.TreeNodes.is_node
split_shape = refl

abbrev two : Array
two = puts (area 3) ((97, 49) ∷ (98, 50) ∷ []) (zeros 256 3)

found_key_marks_its_value : shape (accesses_of (put_program (area 3) (97 ∷ []) (57 ∷ [])) two) ≡ ((Read, 0, record { off = 0; len = 8 } ∷ []) ∷ (Read, 1, record { off = 0; len = 157 } ∷ []) ∷ (Write, 1, record { off = 157; len = 33 } ∷ []) ∷ [])
unfolding put_program get_program scan_program del_program Rattle.iso_model.specs.Array.put Rattle.store_model.specs.TreeNodes.is_node
found_key_marks_its_value = refl

new_key_reads_its_leaf_again : shape (accesses_of (put_program (area 3) (99 ∷ []) (51 ∷ [])) two) ≡ ((Read, 0, record { off = 0; len = 8 } ∷ []) ∷ (Read, 1, record { off = 0; len = 157 } ∷ []) ∷ (Read, 1, []) ∷ (Write, 1, []) ∷ [])
unfolding put_program get_program scan_program del_program Rattle.iso_model.specs.Array.put Rattle.store_model.specs.TreeNodes.is_node
new_key_reads_its_leaf_again = refl

del_gone : answer_of (get_program (area 4) (98 ∷ [])) (own four (accesses_of (del_program (area 4) (98 ∷ [])) four)) ≡ Ok None
unfolding put_program get_program scan_program del_program Rattle.iso_model.specs.Array.put Rattle.store_model.specs.TreeNodes.is_node
del_gone = refl

scan_most : shape (accesses_of (scan_program (area 4) (97 ∷ []) (122 ∷ []) 2) four) ≡ ((Read, 0, record { off = 0; len = 8 } ∷ []) ∷ (Read, 3, record { off = 0; len = 157 } ∷ record { off = 157; len = 66 } ∷ []) ∷ (Read, 1, record { off = 0; len = 157 } ∷ record { off = 157; len = 66 } ∷ []) ∷ [])
unfolding put_program get_program scan_program del_program Rattle.iso_model.specs.Array.put Rattle.store_model.specs.TreeNodes.is_node
scan_most = refl

abbrev five : Array
five = puts (area 8) ((97, 49) ∷ (98, 50) ∷ (99, 51) ∷ (100, 52) ∷ (101, 53) ∷ []) (zeros 256 8)

split_below : shape (accesses_of (put_program (area 8) (102 ∷ []) (54 ∷ [])) five) ≡ ((Read, 0, record { off = 0; len = 8 } ∷ []) ∷ (Read, 3, record { off = 0; len = 157 } ∷ record { off = 190; len = 33 } ∷ []) ∷ (Read, 2, record { off = 0; len = 157 } ∷ []) ∷ (Read, 0, record { off = 0; len = 65 } ∷ []) ∷ (Read, 2, []) ∷ (Read, 3, []) ∷ (Write, 0, record { off = 64; len = 1 } ∷ []) ∷ (Write, 2, []) ∷ (Write, 4, []) ∷ (Write, 3, []) ∷ [])
unfolding put_program get_program scan_program del_program Rattle.iso_model.specs.Array.put Rattle.store_model.specs.TreeNodes.is_node
split_below = refl

split_below_scan : answer_of (scan_program (area 8) (98 ∷ []) (102 ∷ []) 10) (puts (area 8) ((102, 54) ∷ []) five) ≡ Ok ((98 ∷ [], 50 ∷ []) ∷ (99 ∷ [], 51 ∷ []) ∷ (100 ∷ [], 52 ∷ []) ∷ (101 ∷ [], 53 ∷ []) ∷ [])
unfolding put_program get_program scan_program del_program Rattle.iso_model.specs.Array.put Rattle.store_model.specs.TreeNodes.is_node
split_below_scan = refl
