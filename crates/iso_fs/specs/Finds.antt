-- The file block of a name: what a look-up is, and what it leaves in the buffer.
use Rattle.std.specs.Prelude.{ℕ, ◌+◌, ◌-◌, ◌<◌, ◌≤◌, cond, nat_lt, Bool, false, true, List, [], ◌∷◌, Option, Some, None, Result, Ok, Err, IfOk, IfSome, IsTrue, option_map, take}
use Rattle.iso_model.specs.declared.access.Access.{Access}
use Rattle.store_model.specs.{declared.stores.Area.Area, declared.stores.StoreError.TheVariants.NoBlocks, declared.files.FsError.FsError, Cells.block_with, FreeMap.{free_count, map_bytes}, declared.files.FileAreas.FileAreas, Stores.{Done, bytes_in, store_access}, TreeCalls.{del_program, first_write, free_list, get_program}, FileCalls.{Call, at_file, bits_mark, in_tree, low_place, refuse, remove_writes, without_bits}, FileNodes.is_file}
use Rattle.store_model.specs.declared.files.FsError.TheVariants as fs
use Rattle.tx_blocks.specs.{Tx.{Device, Tx}, Runs.HasRead}
use Rattle.iso_fs.specs.Ends.{IsPart}

-- the number of a file block, and its bytes; none where the name has no file
abbrev pub Found : Type 0
Found = Option (ℕ × List ℕ)

abbrev pub found_file : (number : ℕ) → (file : List ℕ) → Call Found
found_file number file = Done (Ok (Some (number, file)))

-- the look-up of a name, and the read and the test of its file block
abbrev pub find_program : FileAreas → (name : List ℕ) → Call Found
find_program a name = in_tree (get_program a.tree name) (at_file a None found_file)

-- an answer with the bytes that are in the buffer
abbrev pub found_as : (file : List ℕ) → Result (Option ℕ) FsError → Result Found FsError
found_as file (Ok o) = Ok (option_map (λ number. (number, file)) o)
found_as file (Err e) = Err e

-- what a call does with the file block that was found, and its answer where there is none
abbrev pub on_found : {Y : Type 0} → Y → (ℕ → List ℕ → Call Y) → Result Found FsError → Call Y
on_found none next (Err e) = refuse e
on_found none next (Ok None) = Done (Ok none)
on_found none next (Ok (Some x)) = next x.0 x.1

-- where a file block is found, its number is one of the region, and the buffer has it, well formed
abbrev pub IsFound : Area → (file : List ℕ) → Result (Option ℕ) FsError → Type 0
IsFound a file result = IfOk result (λ o. IfSome o (λ number. (number < a.blocks) × IsTrue (is_file a file)))

-- the program of a look-up ran so, and wrote nothing
pub record HasFound (a : Area) (p : Call Found) (t u : Tx) (before now : Device) (file : List ℕ) (result : Result (Option ℕ) FsError) : Type 0 where
  pub part : IsPart false 1 p t u before now (found_as file result)
  pub found : IsFound a file result
  pub reads : HasRead t u

-- an answer with the first bytes of the buffer, as many as were read
abbrev pub got_as : (room : List ℕ) → Result (Option ℕ) FsError → Result (Option (List ℕ)) FsError
got_as room (Ok o) = Ok (option_map (λ n. take n room) o)
got_as room (Err e) = Err e

-- the removal of the old name, after the put of the new one
abbrev pub drop_name : FileAreas → (old : List ℕ) → Call Bool
drop_name a old = in_tree (del_program a.tree old) (λ there. Done (Ok true))

-- what a removal does once the map is read
abbrev pub with_dropped : FileAreas → (name : List ℕ) → (number : ℕ) → (file first : List ℕ) → Call Bool
with_dropped a name number file first = in_tree (del_program a.tree name) (remove_writes a.files number file first)

-- the write of the map without a file's block and its data blocks, where `first` are the bytes of the map
abbrev pub given_back : Area → (number : ℕ) → (entries first : List ℕ) → Access
given_back a number entries first = store_access a.start (bits_mark number entries ∷ []) (block_with a.size (low_place number entries) (bytes_in (bits_mark number entries) (without_bits first (number ∷ entries))))

-- what a write does that needs `need` new blocks, once the map is read
abbrev pub with_taken : {Y : Type 0} → Area → (need : ℕ) → (List ℕ → Call Y) → (first : List ℕ) → Call Y
with_taken a need next first =
    cond (nat_lt (free_count first 1 (a.blocks - 1)) need) (refuse (fs.Store (NoBlocks need (free_count first 1 (a.blocks - 1)))))
    (first_write a first (take need (free_list a first)) None (next (take need (free_list a first))))

-- the places of the blocks of a file, in order and inside of the block
pub record ArePlaces (a : Area) (low high : ℕ) : Type 0 where
  pub rising : low ≤ high
  pub inside : high < 64 + map_bytes a.blocks
  pub fits : 64 + map_bytes a.blocks ≤ a.size
