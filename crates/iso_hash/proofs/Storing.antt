-- What puts and removals do where their walk ends.
use Rattle.iso_hash.proofs.{Words.{◌≡◌, ◌∙◌, sym, refl, ap, subst, ℕ, suc, ◌+◌, ◌-◌, ◌<◌, ◌≤◌, Bool, true, false, cond, List, [], ◌∷◌, length, get_or, Option, Some, None, Result, Ok, Err, IfOk, arith, get_or-take, get_or-set_same, ForSome, Access, Area, Spot, StoreError, TxError, own, block_at, Program, Done, Look, Reserve, Store, then_do, bytes_in, look_access, store_access, w32, to_be_bytes, replicate, next_mark, block_with, map_bytes, map_mark, bit_mark, bit_place, set_bit, clear_bit, with_bit, without_bit, lowest_free, walk, new_block, is_spent, put_new, put_at, put_program, del_at, del_program, is_key, is_value, bucket_of, buckets, last_position, IsHashArea, IsHashRegion, hash_map, put_op, del_op, Tx, Device, IsTx, with_accesses, room_of, Ran, HasRun, Behaves, IsLocalCall, IsAt, at_start, at_then, at_look, at_store, at_reserve, ran_at, ran_done, full_at_reserve, run_local, later_same, read_none, run_from, refused_so, HasWalked, blocks_of, lowest_alike}, Changes.{put_is, del_is, put_local, del_local, give_back_block, make_zero}, Getting.walk_error}
use Rattle.store_model.specs.declared.stores.StoreError.TheVariants as store
use Rattle.store_model.specs.declared.stores.TxError.TheVariants as error
use Rattle.store_model.specs.HashCalls as hash

-- a put that goes on from the end of its walk
pub put_from : (a : Area) (key value : List ℕ) (t u v : Tx) (w : hash.Walked) (result : Result (Unit {0}) StoreError) → is_key key ≡ true → is_value value ≡ true
    → Ran (walk a key false) t u w → HasRun (put_at a key value w) u v result → HasRun (put_program a key value) t v result
put_from a key value t u v w result is short ran run =
    let whole = then_do (walk a key false) (put_at a key value) in
    subst (λ (p : Program (Result (Unit {0}) StoreError)). HasRun p t v result) (sym (put_is a key value is short))
    (run_from whole (put_at a key value w) t u v result (at_then whole (walk a key false) (put_at a key value) t t u w (at_start whole t) ran) run)

pub del_from : (a : Area) (key : List ℕ) (t u v : Tx) (w : hash.Walked) (result : Result Bool StoreError) → is_key key ≡ true
    → Ran (walk a key false) t u w → HasRun (del_at a w) u v result → HasRun (del_program a key) t v result
del_from a key t u v w result is ran run =
    let whole = then_do (walk a key false) (del_at a) in
    subst (λ (p : Program (Result Bool StoreError)). HasRun p t v result) (sym (del_is a key is))
    (run_from whole (del_at a w) t u v result (at_then whole (walk a key false) (del_at a) t t u w (at_start whole t) ran) run)

pub put_error : (a : Area) (key value : List ℕ) (t u : Tx) (buffer : List ℕ) (e : StoreError) → is_key key ≡ true → is_value value ≡ true → HasWalked a key false t u buffer (Err e) → HasRun (put_program a key value) t u (Err e)
put_error a key value t u buffer e is short walked =
    subst (λ (p : Program (Result (Unit {0}) StoreError)). HasRun p t u (Err e)) (sym (put_is a key value is short)) (walk_error a key false (put_at a key value) t u buffer e (λ block. refl) walked)

pub del_error : (a : Area) (key : List ℕ) (t u : Tx) (buffer : List ℕ) (e : StoreError) → is_key key ≡ true → HasWalked a key false t u buffer (Err e) → HasRun (del_program a key) t u (Err e)
del_error a key t u buffer e is walked =
    subst (λ (p : Program (Result Bool StoreError)). HasRun p t u (Err e)) (sym (del_is a key is)) (walk_error a key false (del_at a) t u buffer e (λ block. refl) walked)

pub put_call : (a : Area) (key value : List ℕ) (t u : Tx) (result : Result (Unit {0}) StoreError) → IsHashArea a → is_key key ≡ true → is_value value ≡ true → IsTx t → t.size ≡ a.size → a.start + a.blocks ≤ t.blocks
    → HasRun (put_program a key value) t u result → IfOk result (IsLocalCall (IsHashRegion a) (hash_map a) (put_op key value) t u)
put_call a key value t u result area is short tx size fits run =
    run_local (IsHashRegion a) (hash_map a) (put_op key value) (put_program a key value) t u result (λ A x told answer. put_local a key value (own A t.accesses) x area is short (blocks_of a t A tx size fits told) answer) run

pub del_call : (a : Area) (key : List ℕ) (t u : Tx) (result : Result Bool StoreError) → IsHashArea a → is_key key ≡ true → IsTx t → t.size ≡ a.size → a.start + a.blocks ≤ t.blocks
    → HasRun (del_program a key) t u result → IfOk result (IsLocalCall (IsHashRegion a) (hash_map a) (del_op key) t u)
del_call a key t u result area is tx size fits run =
    run_local (IsHashRegion a) (hash_map a) (del_op key) (del_program a key) t u result (λ A x told answer. del_local a key (own A t.accesses) x area is (blocks_of a t A tx size fits told) answer) run

-- a reservation that does not fit
pub reserve_refused : {X : Type 0} (count : ℕ) (rest : Program (Result X StoreError)) (t : Tx) (d : Device) (e : TxError) → count ≤ 3 → (e ≡ error.TooManyAccesses) × (room_of t < count)
    → HasRun (Reserve count rest) t t (Err (store.Tx e)) × Behaves {R = X} t t count d d (Err (store.Tx e))
reserve_refused {X = X} count rest t d e small is =
    subst (λ (f : TxError). HasRun (Reserve count rest) t t (Err (store.Tx f)) × Behaves {R = X} t t count d d (Err (store.Tx f))) (sym is.0) (
      full_at_reserve (Reserve count rest) count rest t t t (at_start (Reserve count rest) t) refl is.1,
      refused_so t t count d d (store.Tx error.TooManyAccesses) (read_none t) (omega (arith, is.1), refl) (λ x. cc, λ x. cc) (later_same d d refl),
    )

-- the room after a write
pub room_less : (n : ℕ) (t v : Tx) (a : Access) → suc n ≤ room_of t → v ≡ with_accesses t (a ∷ []) → n ≤ room_of v
room_less n t v a room is =
    let long : length v.accesses ≡ length t.accesses + 1 = ap (λ (w : Tx). length w.accesses) is ∙ Rattle.std.proofs.Common.length-append t.accesses (a ∷ []) in
    omega arith

-- the writes of a put into a new block
abbrev pub third : Area → (block last : ℕ) → Program (Result (Unit {0}) StoreError)
third a block last = Store (a.start + last) (next_mark ∷ []) (block_with a.size 0 (to_be_bytes w32 block)) (Done (Ok tt))

abbrev pub second : Area → (block last position : ℕ) → (key value : List ℕ) → Program (Result (Unit {0}) StoreError)
second a block last position key value = Store (a.start + block) [] (new_block a.size (bucket_of a key) position key value) (third a block last)

abbrev pub first : Area → (block last position byte : ℕ) → (key value : List ℕ) → Program (Result (Unit {0}) StoreError)
first a block last position byte key value = Store a.start (bit_mark block ∷ []) (block_with a.size (bit_place block) (byte ∷ [])) (second a block last position key value)

abbrev pub growing : Area → (block last position byte : ℕ) → (key value : List ℕ) → Program (Result (Unit {0}) StoreError)
growing a block last position byte key value = Reserve 3 (first a block last position byte key value)

module _ (a : Area) (block last position byte : ℕ) (key value : List ℕ) (t : Tx) (room : 3 ≤ room_of t) where
  pub grow_at_first : IsAt (growing a block last position byte key value) (first a block last position byte key value) t t
  grow_at_first = at_reserve (growing a block last position byte key value) 3 (first a block last position byte key value) t t (at_start (growing a block last position byte key value) t) room

  pub grow_at_second : (u : Tx) → IsTx u → u ≡ with_accesses t (store_access a.start (bit_mark block ∷ []) (block_with a.size (bit_place block) (byte ∷ [])) ∷ [])
      → IsAt (growing a block last position byte key value) (second a block last position key value) t u
  grow_at_second u tx is = at_store (growing a block last position byte key value) a.start (bit_mark block ∷ []) (block_with a.size (bit_place block) (byte ∷ [])) (second a block last position key value) t t u grow_at_first tx.count is

  pub grow_at_third : (u v : Tx) → IsTx u → IsTx v → u ≡ with_accesses t (store_access a.start (bit_mark block ∷ []) (block_with a.size (bit_place block) (byte ∷ [])) ∷ [])
      → v ≡ with_accesses u (store_access (a.start + block) [] (new_block a.size (bucket_of a key) position key value) ∷ [])
      → IsAt (growing a block last position byte key value) (third a block last) t v
  grow_at_third u v tx tx2 is is2 =
      at_store (growing a block last position byte key value) (a.start + block) [] (new_block a.size (bucket_of a key) position key value) (third a block last) t u v (grow_at_second u tx is) tx2.count is2

-- the writes that give a block back
abbrev pub unlinked : Area → (before : ℕ) → Program (Result Bool StoreError)
unlinked a before = Store (a.start + before) (next_mark ∷ []) (replicate a.size 0) (Done (Ok true))

abbrev pub cleared : Area → (block before byte : ℕ) → Program (Result Bool StoreError)
cleared a block before byte = Store a.start (bit_mark block ∷ []) (block_with a.size (bit_place block) (byte ∷ [])) (unlinked a before)

abbrev pub shrinking : Area → (block before byte : ℕ) → Program (Result Bool StoreError)
shrinking a block before byte = Reserve 2 (cleared a block before byte)

module _ (a : Area) (block before byte : ℕ) (t : Tx) (room : 2 ≤ room_of t) where
  pub shrink_at_first : IsAt (shrinking a block before byte) (cleared a block before byte) t t
  shrink_at_first = at_reserve (shrinking a block before byte) 2 (cleared a block before byte) t t (at_start (shrinking a block before byte) t) room

  pub shrink_at_second : (u : Tx) → IsTx u → u ≡ with_accesses t (store_access a.start (bit_mark block ∷ []) (block_with a.size (bit_place block) (byte ∷ [])) ∷ [])
      → IsAt (shrinking a block before byte) (unlinked a before) t u
  shrink_at_second u tx is = at_store (shrinking a block before byte) a.start (bit_mark block ∷ []) (block_with a.size (bit_place block) (byte ∷ [])) (unlinked a before) t t u shrink_at_first tx.count is

-- a removal whose cell is in a block that is given back, or in one that stays
pub del_there : (a : Area) (s : Spot) (before : ℕ) (ks v : List ℕ) (spent : Bool) (u w : Tx) (result : Result Bool StoreError) → is_spent a s ks ≡ spent
    → HasRun (cond spent (give_back_block a s before) (make_zero a s)) u w result → HasRun (del_at a (hash.AtCell s before ks v)) u w result
del_there a s before ks v spent u w result is run = subst (λ (t : Bool). HasRun (cond t (give_back_block a s before) (make_zero a s)) u w result) (sym is) run

-- the calls that read the map
abbrev pub with_new : Area → (key value : List ℕ) → (last position : ℕ) → (map : List ℕ) → Program (Result (Unit {0}) StoreError)
with_new a key value last position map = put_new a key value last position map (lowest_free map (buckets a + 1) (last_position a))

abbrev pub new_program : Area → (key value : List ℕ) → (last position : ℕ) → Program (Result (Unit {0}) StoreError)
new_program a key value last position = Look a.start (map_mark a.blocks) (λ map. None) (λ map none. with_new a key value last position map)

new_at : (a : Area) (key value : List ℕ) (last position : ℕ) (t u : Tx) (bytes : List ℕ) → ForSome t.base (λ A. bytes ≡ block_at (own A t.accesses) a.start) → IsTx u → u ≡ with_accesses t (look_access a.start (map_mark a.blocks ∷ []) ∷ [])
    → IsAt (new_program a key value last position) (with_new a key value last position (bytes_in (map_mark a.blocks) bytes)) t u
new_at a key value last position t u bytes told tx is =
    at_look (new_program a key value last position) a.start (map_mark a.blocks) (λ map. None) (λ map none. with_new a key value last position map) t t u bytes (at_start (new_program a key value last position) t) told tx.count is

-- the block that the code takes is the lowest free one
lowest_is : (a : Area) (bytes : List ℕ) (k : ℕ) (o : Option ℕ) → IsHashArea a → k ≡ buckets a → o ≡ lowest_free bytes (k + 1) (a.blocks - (k + 1)) → lowest_free (bytes_in (map_mark a.blocks) bytes) (buckets a + 1) (last_position a) ≡ o
lowest_is a bytes k o area is lowest =
    lowest_alike a.blocks bytes (buckets a + 1) (last_position a) (omega (arith, area.least))
    ∙ ap (λ (n : ℕ). lowest_free bytes (buckets a + 1) n) (let e : last_position a ≡ a.blocks - (buckets a + 1) = omega (arith, area.least) in e)
    ∙ ap (λ (m : ℕ). lowest_free bytes (m + 1) (a.blocks - (m + 1))) (sym is) ∙ sym lowest

pub new_none : (a : Area) (key value : List ℕ) (last position k : ℕ) (t u : Tx) (bytes : List ℕ) → IsHashArea a → ForSome t.base (λ A. bytes ≡ block_at (own A t.accesses) a.start) → IsTx u → u ≡ with_accesses t (look_access a.start (map_mark a.blocks ∷ []) ∷ [])
    → k ≡ buckets a → None ≡ lowest_free bytes (k + 1) (a.blocks - (k + 1)) → HasRun (new_program a key value last position) t u (Err (store.NoBlocks 1 0))
new_none a key value last position k t u bytes area told tx is same none =
    let found = lowest_is a bytes k None area same none in
    ran_at (new_program a key value last position) t u (Err (store.NoBlocks 1 0))
    (subst (λ (o : Option ℕ). IsAt (new_program a key value last position) (put_new a key value last position (bytes_in (map_mark a.blocks) bytes) o) t u) found (new_at a key value last position t u bytes told tx is))

pub new_some : (a : Area) (key value : List ℕ) (last position k block byte : ℕ) (t u v : Tx) (bytes new : List ℕ) (result : Result (Unit {0}) StoreError) → IsHashArea a → ForSome t.base (λ A. bytes ≡ block_at (own A t.accesses) a.start) → IsTx u
    → u ≡ with_accesses t (look_access a.start (map_mark a.blocks ∷ []) ∷ []) → k ≡ buckets a → Some block ≡ lowest_free bytes (k + 1) (a.blocks - (k + 1)) → block < a.blocks → length bytes ≡ a.size
    → new ≡ with_bit bytes block → byte ≡ get_or new (bit_place block) 0 → HasRun (growing a block last (position + 1) byte key value) u v result → HasRun (new_program a key value last position) t v result
new_some a key value last position k block byte t u v bytes new result area told tx is same some inside long new_is byte_is run =
    let map = bytes_in (map_mark a.blocks) bytes in
    let found = lowest_is a bytes k (Some block) area same some in
    let fits : bit_place block < length bytes = omega (arith, area.most, area.least_size) in
    let x : byte ≡ set_bit (get_or map (bit_place block) 0) block =
    byte_is ∙ ap (λ (n : List ℕ). get_or n (bit_place block) 0) new_is ∙ get_or-set_same bytes (bit_place block) (set_bit (get_or bytes (bit_place block) 0) block) 0 fits
    ∙ ap (λ (y : ℕ). set_bit y block) (sym (get_or-take (64 + map_bytes a.blocks) bytes (bit_place block) 0 (omega arith))) in
    run_from (new_program a key value last position) (growing a block last (position + 1) (set_bit (get_or map (bit_place block) 0) block) key value) t u v result
    (subst (λ (o : Option ℕ). IsAt (new_program a key value last position) (put_new a key value last position map o) t u) found (new_at a key value last position t u bytes told tx is))
    (subst (λ (y : ℕ). HasRun (growing a block last (position + 1) y key value) u v result) x run)

pub given_back : (a : Area) (s : Spot) (before byte : ℕ) (t u v : Tx) (bytes new : List ℕ) (result : Result Bool StoreError) → IsHashArea a → ForSome t.base (λ A. bytes ≡ block_at (own A t.accesses) a.start) → IsTx u
    → u ≡ with_accesses t (look_access a.start (map_mark a.blocks ∷ []) ∷ []) → s.block < a.blocks → length bytes ≡ a.size → new ≡ without_bit bytes s.block → byte ≡ get_or new (bit_place s.block) 0
    → HasRun (shrinking a s.block before byte) u v result → HasRun (give_back_block a s before) t v result
given_back a s before byte t u v bytes new result area told tx is inside long new_is byte_is run =
    let map = bytes_in (map_mark a.blocks) bytes in
    let fits : bit_place s.block < length bytes = omega (arith, area.most, area.least_size) in
    let x : byte ≡ clear_bit (get_or map (bit_place s.block) 0) s.block =
    byte_is ∙ ap (λ (n : List ℕ). get_or n (bit_place s.block) 0) new_is ∙ get_or-set_same bytes (bit_place s.block) (clear_bit (get_or bytes (bit_place s.block) 0) s.block) 0 fits
    ∙ ap (λ (y : ℕ). clear_bit y s.block) (sym (get_or-take (64 + map_bytes a.blocks) bytes (bit_place s.block) 0 (omega arith))) in
    run_from (give_back_block a s before) (shrinking a s.block before (clear_bit (get_or map (bit_place s.block) 0) s.block)) t u v result
    (at_look (give_back_block a s before) a.start (map_mark a.blocks) (λ m. None) (λ m none. shrinking a s.block before (clear_bit (get_or m (bit_place s.block) 0) s.block)) t t u bytes (at_start (give_back_block a s before) t) told tx.count is)
    (subst (λ (y : ℕ). HasRun (shrinking a s.block before y) u v result) x run)

-- arguments that are refused
pub put_bad_key : (a : Area) (key value : List ℕ) (t : Tx) → is_key key ≡ false → Ran (put_program a key value) t t (Err store.BadKey)
unfolding put_program
put_bad_key a key value t not_key = rw not_key (ran_done (Err store.BadKey) t)

pub put_bad_value : (a : Area) (key value : List ℕ) (t : Tx) → is_key key ≡ true → is_value value ≡ false → Ran (put_program a key value) t t (Err store.BadValue)
unfolding put_program
put_bad_value a key value t is not_value = rw (is, not_value) (ran_done (Err store.BadValue) t)

pub del_bad_key : (a : Area) (key : List ℕ) (t : Tx) → is_key key ≡ false → Ran (del_program a key) t t (Err store.BadKey)
unfolding del_program
del_bad_key a key t not_key = rw not_key (ran_done (Err store.BadKey) t)
