-- The calls of the file store, each as a program of calls of the tree store and of its own reads and writes.
use Rattle.std.specs.{Prelude.{ℕ, zero, suc, ◌+◌, ◌-◌, ◌/◌, ◌%◌, Bool, true, false, ◌&&◌, cond, List, [], ◌∷◌, ◌++◌, Option, Some, None, Result, Ok, Err, nat_le, nat_lt, is_some, length, slice_index, take, drop}, FinMap.{get, insert, remove}, Int.{w32, to_be_bytes}}
use Rattle.iso_model.specs.declared.access.Span.{Span}
use Rattle.store_model.specs.{declared.stores.Area.Area, declared.stores.StoreError.StoreError, declared.stores.StoreError.TheVariants.{Broken, NoBlocks}, Stores.{Program, Done, Look, LookWhole, Store, bytes_in, then_do}, Cells.block_with, FreeMap.{map_mark, bit_mark, bit_place, set_bit, without_bit, free_count, lowest_free}, HashCalls.is_key, HashRegion.Pairs, TreeCalls.{get_program, put_program, del_program, free_list, first_write}, declared.files.FsError.FsError, declared.files.FileAreas.FileAreas, FileNodes.{bytes_of, data_count, entry_at, entries_of, blocks_for, most_bytes, is_file, is_number, number_of, file_block, piece_mark, piece_len}}
use Rattle.store_model.specs.declared.files.FsError.TheVariants as fs

abbrev pub Call : Type 0 → Type 0
Call X = Program (Result X FsError)

-- a refusal
abbrev pub refuse : {X : Type 0} → FsError → Call X
refuse e = Done (Err e)

abbrev pub broken : {X : Type 0} → (block : ℕ) → Call X
broken block = Done (Err (fs.Store (Broken block)))

-- A call goes on where a tree call has answered, and is refused as it was.
abbrev pub goes_on : {X Y : Type 0} → (X → Call Y) → Result X StoreError → Call Y
goes_on next (Ok x) = next x
goes_on next (Err e) = refuse (fs.Store e)

abbrev pub in_tree : {X Y : Type 0} → Program (Result X StoreError) → (X → Call Y) → Call Y
in_tree p next = then_do p (goes_on next)

-- whether a call may read or write `count` bytes
abbrev pub is_many : (count : ℕ) → Bool
is_many count = nat_le 1 count && nat_le count 4096

-- the file block of this number, once it was tested
abbrev pub numbered : {Y : Type 0} → Area → (ℕ → List ℕ → Call Y) → (number : ℕ) → Call Y
numbered a next number = LookWhole (a.start + number) (λ file. cond (is_file a file) (next number file) (broken (a.start + number)))

-- the file block that a value of the tree names
abbrev pub with_file : {Y : Type 0} → FileAreas → (ℕ → List ℕ → Call Y) → (value : List ℕ) → Call Y
with_file a next value = cond (is_number a.files value) (numbered a.files next (number_of value)) (broken a.tree.start)

-- what is done with the file of a name, and the answer where there is none
abbrev pub at_file : {Y : Type 0} → FileAreas → Y → (ℕ → List ℕ → Call Y) → Option (List ℕ) → Call Y
at_file a none next None = Done (Ok none)
at_file a none next (Some value) = with_file a next value

abbrev pub look_map : {Y : Type 0} → Area → (List ℕ → Call Y) → Call Y
look_map a next = Look a.start (map_mark a.blocks) (λ first. None) (λ first none. next first)

-- CREATE
-- the writes of a new file, with the byte of the map that has the block's bit
abbrev pub empty_writes : FileAreas → (block byte : ℕ) → Call (Unit {0})
empty_writes a block byte =
    Store a.files.start (bit_mark block ∷ []) (block_with a.files.size (bit_place block) (byte ∷ []))
    (Store (a.files.start + block) [] (file_block a.files.size 0 []) (Done (Ok tt)))

-- the name, and then these writes
abbrev pub name_file : FileAreas → (name : List ℕ) → (block byte : ℕ) → Call (Unit {0})
name_file a name block byte = in_tree (put_program a.tree name (to_be_bytes w32 block)) (λ put. empty_writes a block byte)

-- a new file in a block
abbrev pub create_at : FileAreas → (name first : List ℕ) → Option ℕ → Call (Unit {0})
create_at a name first None = refuse (fs.Store (NoBlocks 1 0))
create_at a name first (Some block) = name_file a name block (set_bit (slice_index first (bit_place block)) block)

abbrev pub create_new : FileAreas → (name : List ℕ) → Option (List ℕ) → Call (Unit {0})
create_new a name (Some value) = refuse fs.Exists
create_new a name None = look_map a.files (λ first. create_at a name first (lowest_free first 1 (a.files.blocks - 1)))

unfoldable pub create_program : FileAreas → (name : List ℕ) → Call (Unit {0})
create_program a name = cond (is_key name) (in_tree (get_program a.tree name) (create_new a name)) (refuse fs.BadName)

-- READ
-- the bytes of the file from one on and before another, piece by piece; there are at most `most` pieces
abbrev pub read_pieces : Area → (file : List ℕ) → (most from to : ℕ) → (found : List ℕ) → Call (Option (List ℕ))
read_pieces a file zero from to found = Done (Ok (Some found))
read_pieces a file (suc most) from to found =
    cond (nat_lt from to)
    (Look (a.start + entry_at file (from / a.size)) (piece_mark a.size from to) (λ piece. None) (λ piece none. read_pieces a file most (from + piece_len a.size from to) to (found ++ piece))) (Done (Ok (Some found)))

-- the lesser of two numbers
abbrev pub least : ℕ → ℕ → ℕ
least m n = cond (nat_lt m n) m n

abbrev pub read_from : Area → (off len : ℕ) → (number : ℕ) → (file : List ℕ) → Call (Option (List ℕ))
read_from a off len number file = cond (nat_le off (bytes_of file)) (read_pieces a file len off (least (off + len) (bytes_of file)) []) (refuse fs.BadRange)

unfoldable pub read_program : FileAreas → (name : List ℕ) → (off len : ℕ) → Call (Option (List ℕ))
read_program a name off len =
    cond (is_key name) (cond (is_many len) (in_tree (get_program a.tree name) (at_file a None (read_from a.files off len))) (refuse fs.BadRange)) (refuse fs.BadName)

-- WRITE
-- The writes of the data blocks, piece by piece; the first `old` blocks are old ones.
abbrev pub write_pieces : Area → (entries : List ℕ) → (old most from to : ℕ) → (bytes : List ℕ) → Call Bool
write_pieces a entries old zero from to bytes = Done (Ok true)
write_pieces a entries old (suc most) from to bytes =
    cond (nat_lt from to)
    (Store (a.start + slice_index entries (from / a.size)) (cond (nat_lt (from / a.size) old) (piece_mark a.size from to ∷ []) []) (block_with a.size (from % a.size) (take (piece_len a.size from to) bytes))
    (write_pieces a entries old most (from + piece_len a.size from to) to (drop (piece_len a.size from to) bytes))) (Done (Ok true))

-- the write of the file block where the size changes, and then those of the data
abbrev pub write_sized : Area → (off : ℕ) → (bytes : List ℕ) → (number : ℕ) → (file : List ℕ) → (news : List ℕ) → Call Bool
write_sized a off bytes number file news =
    cond (nat_lt (bytes_of file) (off + length bytes))
    (Store (a.start + number) [] (file_block a.size (off + length bytes) (entries_of a.size file ++ news))
    (write_pieces a (entries_of a.size file ++ news) (data_count a.size file) (length bytes) off (off + length bytes) bytes))
    (write_pieces a (entries_of a.size file) (data_count a.size file) (length bytes) off (off + length bytes) bytes)

-- `need` new blocks, lowest first
abbrev pub with_new : {Y : Type 0} → Area → (need : ℕ) → (List ℕ → Call Y) → Call Y
with_new a zero next = next []
with_new a (suc more) next = look_map a (λ first.
    cond (nat_lt (free_count first 1 (a.blocks - 1)) (suc more)) (refuse (fs.Store (NoBlocks (suc more) (free_count first 1 (a.blocks - 1)))))
    (first_write a first (take (suc more) (free_list a first)) None (next (take (suc more) (free_list a first)))))

abbrev pub write_to : Area → (off : ℕ) → (bytes : List ℕ) → (number : ℕ) → (file : List ℕ) → Call Bool
write_to a off bytes number file =
    cond (nat_le off (bytes_of file) && nat_le (off + length bytes) (most_bytes a.size))
    (with_new a (blocks_for a.size (off + length bytes) - data_count a.size file) (write_sized a off bytes number file)) (refuse fs.BadRange)

unfoldable pub write_program : FileAreas → (name : List ℕ) → (off : ℕ) → (bytes : List ℕ) → Call Bool
write_program a name off bytes =
    cond (is_key name) (cond (is_many (length bytes)) (in_tree (get_program a.tree name) (at_file a false (write_to a.files off bytes))) (refuse fs.BadRange)) (refuse fs.BadName)

-- RENAME
abbrev pub rename_free : FileAreas → (old new value : List ℕ) → Option (List ℕ) → Call Bool
rename_free a old new value (Some other) = refuse fs.Exists
rename_free a old new value None = in_tree (put_program a.tree new value) (λ put. in_tree (del_program a.tree old) (λ there. Done (Ok true)))

abbrev pub rename_found : FileAreas → (old new : List ℕ) → Option (List ℕ) → Call Bool
rename_found a old new None = Done (Ok false)
rename_found a old new (Some value) = in_tree (get_program a.tree new) (rename_free a old new value)

unfoldable pub rename_program : FileAreas → (old new : List ℕ) → Call Bool
rename_program a old new = cond (is_key old && is_key new) (in_tree (get_program a.tree old) (rename_found a old new)) (refuse fs.BadName)

-- REMOVE
-- the first and the last byte of the map with the bit of one of these blocks
abbrev pub low_place : (x : ℕ) → List ℕ → ℕ
low_place x [] = bit_place x
low_place x (y ∷ ys) = cond (nat_lt (bit_place x) (low_place y ys)) (bit_place x) (low_place y ys)

abbrev pub high_place : (x : ℕ) → List ℕ → ℕ
high_place x [] = bit_place x
high_place x (y ∷ ys) = cond (nat_lt (high_place y ys) (bit_place x)) (bit_place x) (high_place y ys)

abbrev pub bits_mark : (x : ℕ) → List ℕ → Span
bits_mark x xs = record { off = low_place x xs; len = high_place x xs + 1 - low_place x xs }

-- the map without the bits of these blocks
abbrev pub without_bits : (first : List ℕ) → List ℕ → List ℕ
without_bits first [] = first
without_bits first (k ∷ blocks) = without_bits (without_bit first k) blocks

-- the write of the map after the removal of the name
abbrev pub remove_writes : Area → (number : ℕ) → (file first : List ℕ) → Bool → Call Bool
remove_writes a number file first there =
    Store a.start (bits_mark number (entries_of a.size file) ∷ [])
    (block_with a.size (low_place number (entries_of a.size file)) (bytes_in (bits_mark number (entries_of a.size file)) (without_bits first (number ∷ entries_of a.size file)))) (Done (Ok true))

abbrev pub remove_file : FileAreas → (name : List ℕ) → (number : ℕ) → (file : List ℕ) → Call Bool
remove_file a name number file = look_map a.files (λ first. in_tree (del_program a.tree name) (remove_writes a.files number file first))

unfoldable pub remove_program : FileAreas → (name : List ℕ) → Call Bool
remove_program a name = cond (is_key name) (in_tree (get_program a.tree name) (at_file a false (remove_file a name))) (refuse fs.BadName)

-- THE OPERATIONS ON THE MAP
abbrev pub create_op : (name : List ℕ) → Pairs → (Unit {0}) × Pairs
create_op name m = (tt, insert m name [])

abbrev pub read_of : (off len : ℕ) → Option (List ℕ) → Option (List ℕ)
read_of off len None = None
read_of off len (Some bytes) = Some (take len (drop off bytes))

abbrev pub read_op : (name : List ℕ) → (off len : ℕ) → Pairs → Option (List ℕ) × Pairs
read_op name off len m = (read_of off len (get m name), m)

-- the file with bytes in their place, which may pass its end
abbrev pub written : (off : ℕ) → (bytes file : List ℕ) → List ℕ
written off bytes file = take off file ++ (bytes ++ drop (off + length bytes) file)

abbrev pub write_in : (name : List ℕ) → (off : ℕ) → (bytes : List ℕ) → Pairs → Option (List ℕ) → Bool × Pairs
write_in name off bytes m None = (false, m)
write_in name off bytes m (Some file) = (true, insert m name (written off bytes file))

abbrev pub write_op : (name : List ℕ) → (off : ℕ) → (bytes : List ℕ) → Pairs → Bool × Pairs
write_op name off bytes m = write_in name off bytes m (get m name)

abbrev pub rename_in : (old new : List ℕ) → Pairs → Option (List ℕ) → Bool × Pairs
rename_in old new m None = (false, m)
rename_in old new m (Some file) = (true, remove (insert m new file) old)

abbrev pub rename_op : (old new : List ℕ) → Pairs → Bool × Pairs
rename_op old new m = rename_in old new m (get m old)

abbrev pub remove_op : (name : List ℕ) → Pairs → Bool × Pairs
remove_op name m = (is_some (get m name), remove m name)
