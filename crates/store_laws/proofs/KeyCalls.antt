-- What the calls of the stores promise, under one type of answers for the calls at keys and one for those on files.
use Rattle.store_laws.proofs.Words.{arith, ℕ, Bool, List, Option, Array, Pairs, del_op, get_op, put_op, scan_op, IsLocalCall, Tx, Del, Found, Get, Got, Put, WasPut, WasThere, key_act, Scan, tree_act, create_op, read_op, remove_op, rename_op, write_op, FileMade, FileRead, FileThere, MakeFile, ReadFile, RemoveFile, RenameFile, WriteFile, file_act}

module _ (IsWellFormed : Array → Type 0) (map_of : Array → Pairs) where
  -- an operation whose answer is named
  named : {Answer R : Type 0} (name : R → Answer) (op : Pairs → R × Pairs) (t u : Tx) (r : R) → IsLocalCall IsWellFormed map_of op t u r
      → IsLocalCall IsWellFormed map_of (λ m. (name (op m).0, (op m).1)) t u (name r)
  named name op t u r local = grind arith steps 100000

  pub got_local : (key : List ℕ) (t u : Tx) (r : Option (List ℕ)) → IsLocalCall IsWellFormed map_of (get_op key) t u r → IsLocalCall IsWellFormed map_of (key_act (Get key)) t u (Got r)
  got_local key t u r = named (λ value. Got value) (get_op key) t u r

  pub put_local : (key value : List ℕ) (t u : Tx) (r : Unit {0}) → IsLocalCall IsWellFormed map_of (put_op key value) t u r → IsLocalCall IsWellFormed map_of (key_act (Put key value)) t u WasPut
  put_local key value t u r = named (λ done. WasPut) (put_op key value) t u r

  pub del_local : (key : List ℕ) (t u : Tx) (r : Bool) → IsLocalCall IsWellFormed map_of (del_op key) t u r → IsLocalCall IsWellFormed map_of (key_act (Del key)) t u (WasThere r)
  del_local key t u r = named (λ there. WasThere there) (del_op key) t u r

  pub scan_local : (from to : List ℕ) (most : ℕ) (t u : Tx) (r : List (List ℕ × List ℕ)) → IsLocalCall IsWellFormed map_of (scan_op from to most) t u r
      → IsLocalCall IsWellFormed map_of (tree_act (Scan from to most)) t u (Found r)
  scan_local from to most t u r = named (λ pairs. Found pairs) (scan_op from to most) t u r

  pub made_local : (name : List ℕ) (t u : Tx) (r : Unit {0}) → IsLocalCall IsWellFormed map_of (create_op name) t u r → IsLocalCall IsWellFormed map_of (file_act (MakeFile name)) t u FileMade
  made_local name t u r = named (λ done. FileMade) (create_op name) t u r

  pub read_local : (name : List ℕ) (off len : ℕ) (t u : Tx) (r : Option (List ℕ)) → IsLocalCall IsWellFormed map_of (read_op name off len) t u r → IsLocalCall IsWellFormed map_of (file_act (ReadFile name off len)) t u (FileRead r)
  read_local name off len t u r = named (λ bytes. FileRead bytes) (read_op name off len) t u r

  pub write_local : (name : List ℕ) (off : ℕ) (bytes : List ℕ) (t u : Tx) (r : Bool) → IsLocalCall IsWellFormed map_of (write_op name off bytes) t u r → IsLocalCall IsWellFormed map_of (file_act (WriteFile name off bytes)) t u (FileThere r)
  write_local name off bytes t u r = named (λ there. FileThere there) (write_op name off bytes) t u r

  pub rename_local : (old new : List ℕ) (t u : Tx) (r : Bool) → IsLocalCall IsWellFormed map_of (rename_op old new) t u r → IsLocalCall IsWellFormed map_of (file_act (RenameFile old new)) t u (FileThere r)
  rename_local old new t u r = named (λ there. FileThere there) (rename_op old new) t u r

  pub remove_local : (name : List ℕ) (t u : Tx) (r : Bool) → IsLocalCall IsWellFormed map_of (remove_op name) t u r → IsLocalCall IsWellFormed map_of (file_act (RemoveFile name)) t u (FileThere r)
  remove_local name t u r = named (λ there. FileThere there) (remove_op name) t u r
