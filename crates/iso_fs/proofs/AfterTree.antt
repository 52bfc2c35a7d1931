-- What a call of the file store does after a call of the tree store, and after the read of a file block.
use Rattle.iso_fs.proofs.Words.{arith, ◌≡◌, ◌∙◌, ap, ℕ, true, List, ◌++◌, Option, Some, None, Result, get, Access, Area, StoreError, Array, own, is_key, AreReads, Program, accesses_of, answer_of, then_do, get_program, IsTreeRegion, tree_map, AreWhole, accesses_then, answer_then, own_reads, reads_append, whole_reads, own_append, whole_append, get_answers, get_reads, cond_reads, FileAreas, is_file, is_number, number_of, Call, at_file, goes_on, in_tree, with_file, AreFileRegions, file_at}

-- the array after p and then f: p's accesses first, and those of f on that array
pub own_then : {R S : Type 0} (p : Program R) (f : R → Program S) (A : Array)
    → own A (accesses_of (then_do p f) A) ≡ own (own A (accesses_of p A)) (accesses_of (f (answer_of p A)) (own A (accesses_of p A)))
own_then p f A = ap (own A) (accesses_then p f A) ∙ own_append A (accesses_of p A) (accesses_of (f (answer_of p A)) (own A (accesses_of p A)))

-- after a get of the tree store, where its region is well formed
module _ {Y : Type 0} (a : Area) (A : Array) (region : IsTreeRegion a A) (name : List ℕ) (key : is_key name ≡ true) (next : Option (List ℕ) → Call Y) where
  abbrev reads : List Access
  reads = accesses_of (get_program a name) A

  abbrev found : Option (List ℕ)
  found = get (tree_map a A) name

  own_same : own A reads ≡ A
  own_same = own_reads A reads (get_reads a name A)

  pub answer_got : answer_of (in_tree (get_program a name) next) A ≡ answer_of (next found) A
  answer_got = answer_then (get_program a name) (goes_on next) A ∙ (λ i. answer_of (goes_on next (get_answers a A name region key i)) (own_same i))

  accesses_got : accesses_of (in_tree (get_program a name) next) A ≡ reads ++ accesses_of (next found) A
  accesses_got = accesses_then (get_program a name) (goes_on next) A ∙ (λ i. reads ++ accesses_of (goes_on next (get_answers a A name region key i)) (own_same i))

  pub own_got : own A (accesses_of (in_tree (get_program a name) next) A) ≡ own A (accesses_of (next found) A)
  own_got = ap (own A) accesses_got ∙ own_append A reads (accesses_of (next found) A) ∙ ap (λ (B : Array). own B (accesses_of (next found) A)) own_same

-- after a get of the tree store, on whatever array
module _ {Y : Type 0} (a : Area) (A : Array) (name : List ℕ) (next : Option (List ℕ) → Call Y) where
  abbrev gets : List Access
  gets = accesses_of (get_program a name) A

  abbrev result : Result (Option (List ℕ)) StoreError
  result = answer_of (get_program a name) A

  accesses_any : accesses_of (in_tree (get_program a name) next) A ≡ gets ++ accesses_of (goes_on next result) A
  accesses_any = accesses_then (get_program a name) (goes_on next) A ∙ ap (λ (B : Array). gets ++ accesses_of (goes_on next result) B) (own_reads A gets (get_reads a name A))

  pub reads_behind_get : ((o : Option (List ℕ)) → AreReads (accesses_of (next o) A)) → AreReads (accesses_of (in_tree (get_program a name) next) A)
  reads_behind_get each = grind (arith, accesses_any, reads_append, get_reads) steps 100000

  pub whole_behind_get : ((o : Option (List ℕ)) → AreWhole A (accesses_of (next o) A)) → AreWhole A (accesses_of (in_tree (get_program a name) next) A)
  whole_behind_get each = grind (arith, accesses_any, whole_append, whole_reads, get_reads) steps 100000

-- after the read of a file block, where the regions are well formed
module _ {Y : Type 0} (a : FileAreas) (A : Array) (regions : AreFileRegions a A) (name value : List ℕ) (named : get (tree_map a.tree A) name ≡ Some value) (next : ℕ → List ℕ → Call Y) where
  abbrev number : ℕ
  number = number_of value

  abbrev file : List ℕ
  file = file_at a A number

  good_number : is_number a.files value ≡ true
  good_number = regions.named name value named

  good_file : is_file a.files file ≡ true
  good_file = regions.files name number (ap (Rattle.std.proofs.Common.option_map number_of) named)

  pub answer_at_file : answer_of (with_file a next value) A ≡ answer_of (next number file) A
  answer_at_file = grind (arith, good_number, good_file) steps 100000

  pub own_at_file : own A (accesses_of (with_file a next value) A) ≡ own A (accesses_of (next number file) A)
  own_at_file = grind (arith, good_number, good_file) steps 100000

-- the accesses of a call that reads a file are reads, where those of what follows are, on whatever array
pub reads_behind_file : {Y : Type 0} (a : FileAreas) (A : Array) (none : Y) (next : ℕ → List ℕ → Call Y) → ((number : ℕ) (file : List ℕ) → AreReads (accesses_of (next number file) A))
    → (o : Option (List ℕ)) → AreReads (accesses_of (at_file a none next o) A)
reads_behind_file a A none next each None = tt
reads_behind_file a A none next each (Some value) = grind (arith, cond_reads) steps 100000
