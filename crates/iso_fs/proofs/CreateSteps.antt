-- A create, part by part.
use Rattle.iso_fs.proofs.{Words.{◌≡◌, ◌∙◌, sym, refl, ap, subst, ℕ, zero, suc, ◌+◌, ◌-◌, ◌%◌, ◌<◌, ◌≤◌, ◌==◌, Bool, true, false, not, cond, List, length, get_or, Option, Some, None, Result, Err, IfOk, arith, get_or-take, get_or-set_same, Array, first_from, own, bit_place, lowest_free, map_bytes, map_mark, set_bit, with_bit, is_key, bytes_in, get_program, put_program, Tx, IsTx, IsLocalCall, HasAccess, at_start, ran_at, blocks_in, FsError, FileAreas, FsRegion, Call, create_at, create_new, create_op, create_program, empty_writes, goes_on, in_tree, name_file, refuse, AreFileAreas, AreFileRegions, files, HasRun, areas_of}, CreateCalls.{HaveBlocks, create_local}, Ended.{has_then, call_local}, Finding.get_has}
use Rattle.store_model.specs.declared.stores.StoreError.TheVariants as store
use Rattle.store_model.specs.declared.files.FsError.TheVariants as fs

-- THE NAME
abbrev pub naming : FileAreas → (name : List ℕ) → (block byte : ℕ) → (value : List ℕ) → Call (Unit {0})
naming a name block byte value = in_tree (put_program a.tree name value) (λ put. empty_writes a block byte)

-- THE MAP
first_alike : (test other : ℕ → Bool) (i n : ℕ) → ((j : ℕ) → i ≤ j → j < i + n → test j ≡ other j) → first_from test i n ≡ first_from other i n
first_alike test other i zero same = refl
first_alike test other i (suc n) same =
    (λ k. cond (same i (omega arith) (omega arith) k) (Some i) (first_from test (i + 1) n))
    ∙ ap (λ (o : Option ℕ). cond (other i) (Some i) o) (first_alike test other (i + 1) n (λ j low high. same j (omega arith) (omega arith)))

lowest_alike : (blocks : ℕ) (block : List ℕ) (from n : ℕ) → from + n ≤ blocks → lowest_free (bytes_in (map_mark blocks) block) from n ≡ lowest_free block from n
lowest_alike blocks block from n inside = first_alike _ _ from n (λ j low high.
    ap (λ (x : ℕ). not (Rattle.std.specs.Int.bit_at x (j % 8) == 1)) (get_or-take (64 + map_bytes blocks) block (bit_place j) 0 (omega arith)))

abbrev pub with_map : FileAreas → (name first : List ℕ) → Call (Unit {0})
with_map a name first = create_at a name first (lowest_free first 1 (a.files.blocks - 1))

module _ (a : FileAreas) (areas : AreFileAreas a) (name bytes : List ℕ) where
  lowest : (o : Option ℕ) → o ≡ lowest_free bytes 1 (a.files.blocks - 1) → lowest_free (bytes_in (map_mark a.files.blocks) bytes) 1 (a.files.blocks - 1) ≡ o
  lowest o e = lowest_alike a.files.blocks bytes 1 (a.files.blocks - 1) (let l = areas.least in omega arith) ∙ sym e

  pub none_free : None ≡ lowest_free bytes 1 (a.files.blocks - 1) → with_map a name (bytes_in (map_mark a.files.blocks) bytes) ≡ refuse (fs.Store (store.NoBlocks 1 0))
  none_free none = ap (create_at a name (bytes_in (map_mark a.files.blocks) bytes)) (lowest None none)

  pub one_free : (block byte : ℕ) (new : List ℕ) → Some block ≡ lowest_free bytes 1 (a.files.blocks - 1) → block < a.files.blocks → length bytes ≡ a.files.size → 256 ≤ a.files.size
      → new ≡ with_bit bytes block → byte ≡ get_or new (bit_place block) 0 → with_map a name (bytes_in (map_mark a.files.blocks) bytes) ≡ name_file a name block byte
  one_free block byte new some inside long least new_is byte_is =
      let map = bytes_in (map_mark a.files.blocks) bytes in
      let fits : bit_place block < length bytes = (let m = areas.most in omega arith) in
      let x : byte ≡ set_bit (get_or map (bit_place block) 0) block =
      byte_is ∙ ap (λ (n : List ℕ). get_or n (bit_place block) 0) new_is ∙ get_or-set_same bytes (bit_place block) (set_bit (get_or bytes (bit_place block) 0) block) 0 fits
      ∙ ap (λ (y : ℕ). set_bit y block) (sym (get_or-take (64 + map_bytes a.files.blocks) bytes (bit_place block) 0 (omega arith))) in
      ap (create_at a name map) (lowest (Some block) some) ∙ ap (name_file a name block) (sym x)

-- THE WHOLE CALL
pub create_as : (a : FileAreas) (name : List ℕ) → is_key name ≡ true → create_program a name ≡ in_tree (get_program a.tree name) (create_new a name)
unfolding create_program
create_as a name key = ap (λ (k : Bool). cond k (in_tree (get_program a.tree name) (create_new a name)) (refuse fs.BadName)) key

pub bad_name : (a : FileAreas) (name : List ℕ) (t : Tx) → is_key name ≡ false → HasRun (create_program a name) t t (Err fs.BadName)
unfolding create_program
bad_name a name t not_key = rw not_key (ran_at (refuse fs.BadName) t t (Err fs.BadName) (at_start (refuse fs.BadName) t))

pub create_has : (a : FileAreas) (name : List ℕ) → is_key name ≡ true → HasAccess (create_program a name)
create_has a name key = subst (λ (p : Call (Unit {0})). HasAccess p) (sym (create_as a name key)) (has_then (get_program a.tree name) (goes_on (create_new a name)) (get_has a.tree name key))

-- LOCALITY
pub have_blocks : (t : Tx) (at : FsRegion) (A : Array) → IsTx t → AreFileAreas (areas_of t at) → at.files.start + at.files.size ≤ t.blocks → t.base ≡ Some A → HaveBlocks (areas_of t at) (own A t.accesses)
have_blocks t at A tx areas fits told =
    let a = areas_of t at in
    record {
      tree = blocks_in a.tree t A tx refl (let f = areas.follows in omega arith) told;
      files = blocks_in a.files t A tx refl fits told;
    }

pub create_call : (t u : Tx) (at : FsRegion) (name : List ℕ) (result : Result (Unit {0}) FsError) → IsTx t → AreFileAreas (areas_of t at) → at.files.start + at.files.size ≤ t.blocks → is_key name ≡ true
    → HasRun (create_program (areas_of t at) name) t u result → IfOk result (IsLocalCall (AreFileRegions (areas_of t at)) (files (areas_of t at)) (create_op name) t u)
create_call t u at name result tx areas fits key run =
    let a = areas_of t at in
    call_local (AreFileRegions a) (files a) (create_op name) (create_program a name) t u result run (λ A x told is. create_local a name (own A t.accesses) x areas (have_blocks t at A tx areas fits told) key is)
