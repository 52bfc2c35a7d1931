-- A call on files that a program answers Ok is local for the files of the image.
use Rattle.store_scripts.proofs.{Words.{◌≡◌, ◌≢◌, ℕ, ◌+◌, ◌&&◌, Bool, true, IsTrue, List, length, Option, Some, Ok, arith, Geometry, Array, is_valid, HasShape, is_key, accesses_of, outcome, answer_of, limits, spare_where_apart, SpareRegion, file_store, AreFileRegions, files, Call, file_blocks, files_area, image_hash, second_store, the_files, create_op, create_program, is_many, read_op, read_program, remove_op, remove_program, rename_op, rename_program, write_op, write_program, HaveBlocks, create_local, read_local, remove_local, rename_local, write_local, and_parts, FileMade, WasRead, FileThere, MakeFile, ReadFile, RemoveFile, RenameFile, WriteFile, WritesIn, create_in, read_in, remove_in, rename_in, write_in}, Blocks.{HasFiles, files_apart, has_files}, Locality.{call_is, if_local, passed}, Seconds.IsCallOf}
use Rattle.store_model.specs.declared.files.FsError.TheVariants as fs

module _ (g : Geometry) (valid : IsTrue (is_valid g)) (some : file_blocks g ≢ 0) (B : Array) (shape : HasShape g B) (room : ℕ) where
  is_there : HasFiles g
  is_there = has_files g valid some

  blocks : HaveBlocks (files_area g) B
  blocks = record {
    tree = λ k below. shape.bytes (g.hash + k) (let within = (limits g valid).regions in omega arith);
    files = λ k below. shape.bytes (g.hash + g.tree + k) (let within = is_there.behind in omega arith);
  }

  spares : {R : Type 0} (p : Call R) → WritesIn (files_area g) p → SpareRegion (image_hash g) (accesses_of p B)
  spares p writes = spare_where_apart (file_store (files_area g)) (image_hash g) (accesses_of p B) (files_apart g) (writes.within B)

  -- the arguments of a call that answered Ok are right
  create_key : (name : List ℕ) (r : Unit {0}) → answer_of (create_program (files_area g) name) B ≡ Ok r → is_key name ≡ true
  unfolding create_program
  create_key name r is = (passed (is_key name) _ fs.BadName B r is).0

  write_key : (name : List ℕ) (off : ℕ) (bytes : List ℕ) (r : Bool) → answer_of (write_program (files_area g) name off bytes) B ≡ Ok r → (is_key name ≡ true) × (is_many (length bytes) ≡ true)
  unfolding write_program
  write_key name off bytes r is = let one = passed (is_key name) _ fs.BadName B r is in (one.0, (passed (is_many (length bytes)) _ fs.BadRange B r one.1).0)

  read_key : (name : List ℕ) (off len : ℕ) (r : Option (List ℕ)) → answer_of (read_program (files_area g) name off len) B ≡ Ok r → (is_key name ≡ true) × (is_many len ≡ true)
  unfolding read_program
  read_key name off len r is = let one = passed (is_key name) _ fs.BadName B r is in (one.0, (passed (is_many len) _ fs.BadRange B r one.1).0)

  rename_keys : (from to : List ℕ) (r : Bool) → answer_of (rename_program (files_area g) from to) B ≡ Ok r → (is_key from ≡ true) × (is_key to ≡ true)
  unfolding rename_program
  rename_keys from to r is = and_parts (is_key from) (is_key to) (passed (is_key from && is_key to) _ fs.BadName B r is).0

  remove_key : (name : List ℕ) (r : Bool) → answer_of (remove_program (files_area g) name) B ≡ Ok r → is_key name ≡ true
  unfolding remove_program
  remove_key name r is = (passed (is_key name) _ fs.BadName B r is).0

  pub file_was_made : (name : List ℕ) (r : Unit {0}) → (outcome room (create_program (files_area g) name) B).1 ≡ Some (Ok r)
      → IsCallOf (second_store the_files g) (image_hash g) (MakeFile name) B (outcome room (create_program (files_area g) name) B).0 FileMade
  file_was_made name r is =
      call_is (second_store the_files g) (image_hash g) (MakeFile name) B room (create_program (files_area g) name) r FileMade is
      (λ answered.
      let right = create_key name r answered in
      if_local (file_blocks g) (AreFileRegions (files_area g)) (files (files_area g)) (λ done. FileMade) (create_op name) B _ r some (create_local (files_area g) name B r is_there.areas blocks right answered))
      (spares _ (create_in (files_area g) is_there.areas name))

  pub file_was_written : (name : List ℕ) (off : ℕ) (bytes : List ℕ) (r : Bool) → (outcome room (write_program (files_area g) name off bytes) B).1 ≡ Some (Ok r)
      → IsCallOf (second_store the_files g) (image_hash g) (WriteFile name off bytes) B (outcome room (write_program (files_area g) name off bytes) B).0 (FileThere r)
  file_was_written name off bytes r is =
      call_is (second_store the_files g) (image_hash g) (WriteFile name off bytes) B room (write_program (files_area g) name off bytes) r (FileThere r) is
      (λ answered.
      let right = write_key name off bytes r answered in
      if_local (file_blocks g) (AreFileRegions (files_area g)) (files (files_area g)) (λ there. FileThere there) (write_op name off bytes) B _ r some (write_local (files_area g) name off bytes B r is_there.areas blocks right.0 right.1 answered))
      (spares _ (write_in (files_area g) is_there.areas name off bytes))

  pub file_was_read : (name : List ℕ) (off len : ℕ) (r : Option (List ℕ)) → (outcome room (read_program (files_area g) name off len) B).1 ≡ Some (Ok r)
      → IsCallOf (second_store the_files g) (image_hash g) (ReadFile name off len) B (outcome room (read_program (files_area g) name off len) B).0 (WasRead r)
  file_was_read name off len r is =
      call_is (second_store the_files g) (image_hash g) (ReadFile name off len) B room (read_program (files_area g) name off len) r (WasRead r) is
      (λ answered.
      let right = read_key name off len r answered in
      if_local (file_blocks g) (AreFileRegions (files_area g)) (files (files_area g)) (λ bytes. WasRead bytes) (read_op name off len) B _ r some (read_local (files_area g) name off len B r is_there.areas right.0 right.1 answered))
      (spares _ (read_in (files_area g) name off len))

  pub file_was_renamed : (from to : List ℕ) (r : Bool) → (outcome room (rename_program (files_area g) from to) B).1 ≡ Some (Ok r)
      → IsCallOf (second_store the_files g) (image_hash g) (RenameFile from to) B (outcome room (rename_program (files_area g) from to) B).0 (FileThere r)
  file_was_renamed from to r is =
      call_is (second_store the_files g) (image_hash g) (RenameFile from to) B room (rename_program (files_area g) from to) r (FileThere r) is
      (λ answered.
      let right = rename_keys from to r answered in
      if_local (file_blocks g) (AreFileRegions (files_area g)) (files (files_area g)) (λ there. FileThere there) (rename_op from to) B _ r some (rename_local (files_area g) from to B r is_there.areas blocks.tree right.0 right.1 answered))
      (spares _ (rename_in (files_area g) is_there.areas from to))

  pub file_was_removed : (name : List ℕ) (r : Bool) → (outcome room (remove_program (files_area g) name) B).1 ≡ Some (Ok r)
      → IsCallOf (second_store the_files g) (image_hash g) (RemoveFile name) B (outcome room (remove_program (files_area g) name) B).0 (FileThere r)
  file_was_removed name r is =
      call_is (second_store the_files g) (image_hash g) (RemoveFile name) B room (remove_program (files_area g) name) r (FileThere r) is
      (λ answered.
      let right = remove_key name r answered in
      if_local (file_blocks g) (AreFileRegions (files_area g)) (files (files_area g)) (λ there. FileThere there) (remove_op name) B _ r some (remove_local (files_area g) name B r is_there.areas blocks right answered))
      (spares _ (remove_in (files_area g) is_there.areas name))
