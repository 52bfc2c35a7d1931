-- The file store as a store over the blocks of its regions: those of its tree and those of its files.
use Rattle.std.specs.Prelude.{ℕ, Bool, ◌||◌, List, Option}
use Rattle.store_model.specs.{declared.files.FileAreas.FileAreas, HashRegion.Pairs, FileCalls.{create_op, read_op, remove_op, rename_op, write_op}, FileRegion.{AreFileRegions, files}}
use Rattle.store_laws.specs.{Calls.in_area, Region.{MapStore, pairs_store}}

-- a call on files
pub data FileCall : Type 0 where
  MakeFile : (name : List ℕ) → FileCall
  ReadFile : (name : List ℕ) → (off len : ℕ) → FileCall
  WriteFile : (name : List ℕ) → (off : ℕ) → (bytes : List ℕ) → FileCall
  RenameFile : (old new : List ℕ) → FileCall
  RemoveFile : (name : List ℕ) → FileCall

-- what a call that answered Ok answers
pub data FileAnswer : Type 0 where
  FileMade : FileAnswer
  FileRead : (bytes : Option (List ℕ)) → FileAnswer
  FileThere : (there : Bool) → FileAnswer

-- the operations on the map from names to bytes
abbrev pub file_act : FileCall → Pairs → FileAnswer × Pairs
file_act (MakeFile name) m = (FileMade, (create_op name m).1)
file_act (ReadFile name off len) m = (FileRead (read_op name off len m).0, (read_op name off len m).1)
file_act (WriteFile name off bytes) m = (FileThere (write_op name off bytes m).0, (write_op name off bytes m).1)
file_act (RenameFile old new) m = (FileThere (rename_op old new m).0, (rename_op old new m).1)
file_act (RemoveFile name) m = (FileThere (remove_op name m).0, (remove_op name m).1)

-- whether the block is one of the store
abbrev pub in_areas : FileAreas → ℕ → Bool
in_areas a b = in_area a.tree b || in_area a.files b

abbrev pub file_store : FileAreas → MapStore
file_store a = pairs_store FileCall FileAnswer (in_areas a) (AreFileRegions a) (files a) file_act
