-- The calls of the tree store write blocks of its area alone.
use Rattle.store_laws.proofs.{Words.{◌≡◌, ℕ, Bool, List, Option, Some, Ok, Area, Array, HasEnded, IsTreeArea, scan_program, Tx, added, get_reads, program_reads, tree_store, WriteWithin}, Programs.{ended_within, read_within}}
use Rattle.store_model.specs.TreeCalls.{del_program, get_program, put_program}
pub use Rattle.iso_tree.proofs.TreeWrites.{del_program_stores, put_program_stores}

pub get_within : (a : Area) (key : List ℕ) (A : Array) (t u : Tx) (r : Option (List ℕ)) → t.base ≡ Some A → HasEnded (get_program a key) t u (Ok r) → WriteWithin (tree_store a) (added t u)
get_within a key A t u r = read_within (tree_store a) (get_program a key) A t u r (get_reads a key)

pub scan_within : (a : Area) (from to : List ℕ) (most : ℕ) (A : Array) (t u : Tx) (r : List (List ℕ × List ℕ)) → t.base ≡ Some A → HasEnded (scan_program a from to most) t u (Ok r)
    → WriteWithin (tree_store a) (added t u)
scan_within a from to most A t u r = read_within (tree_store a) (scan_program a from to most) A t u r (program_reads a from to most)

pub put_within : (a : Area) (key value : List ℕ) (A : Array) (t u : Tx) (r : Unit {0}) → IsTreeArea a → t.base ≡ Some A → HasEnded (put_program a key value) t u (Ok r) → WriteWithin (tree_store a) (added t u)
put_within a key value A t u r area = ended_within (tree_store a) (put_program a key value) A t u r (put_program_stores a key value area)

pub del_within : (a : Area) (key : List ℕ) (A : Array) (t u : Tx) (r : Bool) → t.base ≡ Some A → HasEnded (del_program a key) t u (Ok r) → WriteWithin (tree_store a) (added t u)
del_within a key A t u r = ended_within (tree_store a) (del_program a key) A t u r (del_program_stores a key)
