-- Puts and removals are what the operations on the map of the region are.
use Rattle.iso_hash.proofs.{Words.{◌≡◌, ◌⊎◌, ◌∙◌, sym, refl, ap, subst, ℕ, zero, suc, ◌+◌, ◌*◌, ◌%◌, ◌<◌, Bool, true, false, ◌==◌, not, cond, List, [], ◌∷◌, ◌++◌, length, get_or, replicate, Option, Some, None, Result, Ok, IfSome, arith, inl, inr, is_some, w32, to_be_bytes, nat_cmp, eq_by_cmp, slice_cmp, nat_list_cmp_total, get, remove, get-remove, same_map, slice_cmp-IsAntisymmetric, nat_cmp-IsAntisymmetric, and_parts, eqb-true, ltb-true, leb-true, length-replicate, bytes_eq-Decides, Access, Area, Spot, StoreError, Broken, NoBlocks, Array, put, own, block_at, Program, Done, Look, Reserve, Store, bytes_in, store_access, accesses_of, answer_of, then_do, IsLocal, cell_count, keys_end, key_mark, value_mark, next_mark, value_part, block_with, map_mark, bit_place, bit_mark, map_bit, set_bit, clear_bit, lowest_free, Pairs, view_of, buckets, bucket_of, last_position, next_of, chain, hash_map, AreLinked, Stands, IsHashRegion, IsHashArea, put_op, del_op, Walked, AtCell, AtEnd, AtBroken, walk, spare_in, put_new, put_at, put_program, is_spent, is_alone, del_at, del_program, is_key, is_value, AreWhole, accesses_then, answer_then, own_reads, whole_reads, IsCorrect, local_from, own_append, first_below, length-part, length-block_with, no_ok, same_ok, first_low, map_byte, HasBlocks, first_passes, whole_append}, Chains.{linked_split, next_in, head_of}, Dels.{del_cell, del_block}, Finding.{ties, cases_key}, Gets.{bucket_below, key_some, key_short, walk_is_reads, walk_found, walk_missed, found_stands, missed_nowhere, get_found, get_none}, Grown.put_grown, NewBlocks.{size_most, length-new_block}, Puts.{HasPut, put_found, put_spare, length-with_cell, cells_fit}, Ways.{Way, way, cell_below, Found, IsSpare}}

-- what is done after a walk is done on the same array
module _ {X : Type 0} (a : Area) (key : List ℕ) (f : Walked → Program X) (A : Array) where
  reads : List Access
  reads = accesses_of (walk a key false) A

  same : own A reads ≡ A
  unfolding reads
  same = own_reads A (accesses_of (walk a key false) A) (walk_is_reads a key false A)

  after_walk : own A (accesses_of (then_do (walk a key false) f) A) ≡ own A (accesses_of (f (answer_of (walk a key false) A)) A)
  unfolding reads
  after_walk =
      ap (own A) (accesses_then (walk a key false) f A)
      ∙ own_append A reads (accesses_of (f (answer_of (walk a key false) A)) (own A reads))
      ∙ ap (λ (B : Array). own B (accesses_of (f (answer_of (walk a key false) A)) B)) same

  answer_after : answer_of (then_do (walk a key false) f) A ≡ answer_of (f (answer_of (walk a key false) A)) A
  unfolding reads
  answer_after = answer_then (walk a key false) f A ∙ ap (λ (B : Array). answer_of (f (answer_of (walk a key false) A)) B) same

  whole_after : AreWhole A (accesses_of (f (answer_of (walk a key false) A)) A) → AreWhole A (accesses_of (then_do (walk a key false) f) A)
  unfolding reads
  whole_after all = subst (AreWhole A) (sym (accesses_then (walk a key false) f A ∙ ap (λ (B : Array). reads ++ accesses_of (f (answer_of (walk a key false) A)) B) same))
      (whole_append A reads (accesses_of (f (answer_of (walk a key false) A)) A) (whole_reads A (accesses_of (walk a key false) A) (walk_is_reads a key false A)) all)

-- the block that is taken is an overflow block, and free
record IsFree (a : Area) (first : List ℕ) (k : ℕ) : Type 0 where
  low : buckets a < k
  high : k < a.blocks
  clear : map_bit first k ≡ false

is_free : (a : Area) (first : List ℕ) (k : ℕ) → IsHashArea a → lowest_free (bytes_in (map_mark a.blocks) first) (buckets a + 1) (last_position a) ≡ Some k → IsFree a first k
is_free a first k area e =
    let map = bytes_in (map_mark a.blocks) first in
    let test : ℕ → Bool = λ j. not (map_bit map j) in
    let low = first_low test (buckets a + 1) (last_position a) k e in
    let high = first_below test (buckets a + 1) (last_position a) k e in
    let pass : not (map_bit map k) ≡ true = first_passes test (buckets a + 1) (last_position a) k e in
    let inside : k < a.blocks = omega (arith, area.least) in
    record {
      low = omega arith;
      high = inside;
      clear = ap (λ (x : ℕ). Rattle.std.specs.Int.bit_at x (k % 8) == 1) (sym (map_byte a first k inside)) ∙ elim (map_bit map k) as (λ t. not t ≡ true → t ≡ false) [ true ↦ λ p. cc | false ↦ λ p. refl ] pass;
    }

-- a spare cell that a walk found
spare_of : (a : Area) (keys : ℕ → List ℕ) (blocks : List ℕ) (s : Spot) → (Some s ≡ None) ⊎ IsSpare a keys blocks s → IsSpare a keys blocks s
spare_of a keys blocks s (inl bad) = cc
spare_of a keys blocks s (inr is) = is

put_done_new : (a : Area) (key value : List ℕ) (A : Array) (last place : ℕ) (o : Option ℕ) (r : Unit {0}) → IsHashArea a → IsHashRegion a A → is_key key ≡ true → is_value value ≡ true
    → answer_of (walk a key false) A ≡ AtEnd None last place → lowest_free (bytes_in (map_mark a.blocks) (block_at A a.start)) (buckets a + 1) (last_position a) ≡ o
    → answer_of (put_new a key value last place (bytes_in (map_mark a.blocks) (block_at A a.start)) o) A ≡ Ok r
    → HasPut a key value A (own A (accesses_of (put_new a key value last place (bytes_in (map_mark a.blocks) (block_at A a.start)) o) A))
put_done_new a key value A last place None r area region is short end found answer = absurd (no_ok (NoBlocks 1 0) r answer)
put_done_new a key value A last place (Some k) r area region is short end found answer =
    let missed = walk_missed a key false A None last place end in
    let free = is_free a (block_at A a.start) k area found in
    put_grown a key value A last place k (set_bit (get_or (bytes_in (map_mark a.blocks) (block_at A a.start)) (bit_place k) 0) k) None None area region (key_some key is) (key_short key is) (leb-true _ _ short) missed
    (missed_nowhere a key A None last place region missed) free.low free.high free.clear (ap (λ (x : ℕ). set_bit x k) (map_byte a (block_at A a.start) k free.high))

put_done : (a : Area) (key value : List ℕ) (A : Array) (w : Walked) (r : Unit {0}) → IsHashArea a → IsHashRegion a A → is_key key ≡ true → is_value value ≡ true
    → answer_of (walk a key false) A ≡ w → answer_of (put_at a key value w) A ≡ Ok r → HasPut a key value A (own A (accesses_of (put_at a key value w) A))
put_done a key value A (AtCell s before ks v) r area region is short end answer =
    let found = walk_found a key false A s before ks v end in
    put_found a key value A s area region (leb-true _ _ short) (found_stands a key false A s before ks v area (key_some key is) found) found.key_is
put_done a key value A (AtEnd (Some s) last place) r area region is short end answer =
    let missed = walk_missed a key false A (Some s) last place end in
    put_spare a key value A s area region (key_some key is) (key_short key is) (leb-true _ _ short) (spare_of a (view_of a A).keys (chain a (view_of a A).keys (bucket_of a key)) s missed.spare_is)
    (missed_nowhere a key A (Some s) last place region missed)
put_done a key value A (AtEnd None last place) r area region is short end answer =
    put_done_new a key value A last place (lowest_free (bytes_in (map_mark a.blocks) (block_at A a.start)) (buckets a + 1) (last_position a)) r area region is short end refl answer
put_done a key value A (AtBroken block) r area region is short end answer = absurd (no_ok (Broken block) r answer)

pub put_is : (a : Area) (key value : List ℕ) → is_key key ≡ true → is_value value ≡ true → put_program a key value ≡ then_do (walk a key false) (put_at a key value)
unfolding put_program
put_is a key value is short = rw (is, short) refl

put_has : (a : Area) (key value : List ℕ) (A : Array) (r : Unit {0}) → IsHashArea a → IsHashRegion a A → is_key key ≡ true → is_value value ≡ true → answer_of (put_program a key value) A ≡ Ok r
    → HasPut a key value A (own A (accesses_of (put_program a key value) A))
put_has a key value A r area region is short answer =
    subst (λ (p : Program (Result (Unit {0}) StoreError)). answer_of p A ≡ Ok r → HasPut a key value A (own A (accesses_of p A))) (sym (put_is a key value is short)) (λ e.
    subst (HasPut a key value A) (sym (after_walk a key (put_at a key value) A))
    (put_done a key value A (answer_of (walk a key false) A) r area region is short refl (sym (answer_after a key (put_at a key value) A) ∙ e))) answer

put_correct : (a : Area) (key value : List ℕ) → IsHashArea a → is_key key ≡ true → is_value value ≡ true → IsCorrect (IsHashRegion a) (hash_map a) (put_op key value) Ok (put_program a key value)
put_correct a key value area is short = record {
  answer = λ B r region e. refl;
  well_formed = λ B r region e. (put_has a key value B r area region is short e).region;
  maps = λ B r region e. (put_has a key value B r area region is short e).map_is;
}

-- where a walk ends lies in the region, whatever the array
abbrev IsWithin : Area → (end : ℕ) → Walked → Type 0
IsWithin a end (AtCell s before ks v) = (s.block < a.blocks) × (s.cell < cell_count a.size) × (before < a.blocks)
IsWithin a end (AtEnd spare last place) = IfSome spare (λ s. (s.block < a.blocks) × (s.cell < cell_count a.size)) × (last < a.blocks) × (place < end)
IsWithin a end (AtBroken block) = Unit {0}

spare_within : (a : Area) (free : Option Spot) (block : ℕ) (keys : List ℕ) → block < a.blocks → IfSome free (λ s. (s.block < a.blocks) × (s.cell < cell_count a.size))
    → IfSome (spare_in a free block keys) (λ s. (s.block < a.blocks) × (s.cell < cell_count a.size))
spare_within a (Some s) block keys inside is = is
spare_within a None block keys inside is = grind (arith, first_below)

way_within : (a : Area) (key : List ℕ) (bucket : ℕ) (with_value : Bool) (A : Array) (left position before block : ℕ) (free : Option Spot) (w : Walked) → before < a.blocks → block < a.blocks
    → IfSome free (λ s. (s.block < a.blocks) × (s.cell < cell_count a.size)) → Way a key bucket with_value A left position before block free w → IsWithin a (position + left) w
way_within a key bucket with_value A zero position before block free w before_in inside spare e = subst (IsWithin a (position + 0)) (sym e) tt
way_within a key bucket with_value A (suc left) position before block free w before_in inside spare (inl e) = subst (IsWithin a (position + suc left)) (sym e) tt
way_within a key bucket with_value A (suc left) position before block free w before_in inside spare (inr (inl found)) = grind (arith, cell_below)
way_within a key bucket with_value A (suc left) position before block free w before_in inside spare (inr (inr (none, linked, inl end))) = grind (arith, spare_within)
way_within a key bucket with_value A (suc left) position before block free w before_in inside spare (inr (inr (none, linked, inr on))) =
    let keys = (view_of a A).keys block in
    let next = next_in a position (next_of keys) (head_of a bucket position keys linked).next_is on.0 in
    let ih = way_within a key bucket with_value A left (position + 1) block (next_of keys) (spare_in a free block keys) w inside next.inside (spare_within a free block keys inside spare) on.1 in
    let e : position + 1 + left ≡ position + suc left = omega arith in
    subst (λ (n : ℕ). IsWithin a n w) e ih

walk_within : (a : Area) (key : List ℕ) (A : Array) (w : Walked) → IsHashArea a → answer_of (walk a key false) A ≡ w → IsWithin a (last_position a + 1) w
unfolding walk
walk_within a key A w area end =
    let below = bucket_below a key area in
    let e : 0 + (last_position a + 1) ≡ last_position a + 1 = omega arith in
    subst (λ (n : ℕ). IsWithin a n w) e (way_within a key (bucket_of a key) false A (last_position a + 1) 0 0 (1 + bucket_of a key) None w (omega (arith, area.least)) (omega (arith, area.least)) tt
    (subst (Way a key (bucket_of a key) false A (last_position a + 1) 0 0 (1 + bucket_of a key) None) end (way a key (bucket_of a key) false A (last_position a + 1) 0 0 (1 + bucket_of a key) None)))

first_size : (a : Area) (A : Array) → IsHashArea a → HasBlocks a A → length (block_at A a.start) ≡ a.size
first_size a A area shape = let e : a.start + 0 ≡ a.start = omega arith in ap (λ (n : ℕ). length (block_at A n)) (sym e) ∙ shape 0 (omega (arith, area.least))

zeros_long : (a : Area) → length {A = ℕ} (replicate a.size 0) ≡ a.size
zeros_long a = length-replicate {A = ℕ} a.size 0

put_whole_new : (a : Area) (key value : List ℕ) (A : Array) (last place : ℕ) (o : Option ℕ) → IsHashArea a → is_key key ≡ true → is_value value ≡ true → HasBlocks a A → last < a.blocks → place < last_position a + 1
    → lowest_free (bytes_in (map_mark a.blocks) (block_at A a.start)) (buckets a + 1) (last_position a) ≡ o
    → AreWhole A (accesses_of (put_new a key value last place (bytes_in (map_mark a.blocks) (block_at A a.start)) o) A)
put_whole_new a key value A last place None area is short shape last_in place_in found = tt
put_whole_new a key value A last place (Some k) area is short shape last_in place_in found =
    let free = is_free a (block_at A a.start) k area found in
    let most = size_most a area in
    let below = bucket_below a key area in (
      λ w. length-block_with a.size (bit_place k) (set_bit (get_or (bytes_in (map_mark a.blocks) (block_at A a.start)) (bit_place k) 0) k ∷ []) (omega (arith, free.high, area.most, area.least_size)) ∙ sym (first_size a A area shape),
      (
        λ w. length-new_block a (bucket_of a key) (place + 1) key value area (omega (arith, area.most)) (omega (arith, area.most)) (key_short key is) (leb-true _ _ short) ∙ sym (shape k free.high),
        (λ w. length-block_with a.size 0 (to_be_bytes w32 k) (omega (arith, area.least_size)) ∙ sym (shape last last_in), tt),
      ),
    )

put_whole_at : (a : Area) (key value : List ℕ) (A : Array) (w : Walked) → IsHashArea a → is_key key ≡ true → is_value value ≡ true → HasBlocks a A → IsWithin a (last_position a + 1) w → AreWhole A (accesses_of (put_at a key value w) A)
put_whole_at a key value A (AtCell s before ks v) area is short shape within =
    (λ w. length-block_with a.size (keys_end a.size + 33 * s.cell) (value_part value) (let fits = cells_fit a s.cell area within.1 in omega (arith, length-part 32 value (leb-true _ _ short))) ∙ sym (shape s.block within.0), tt)
put_whole_at a key value A (AtEnd (Some s) last place) area is short shape within =
    (λ w. length-with_cell a.size s.cell key value (replicate a.size 0) (zeros_long a) (let few = key_short key is in omega arith) (leb-true _ _ short) (cells_fit a s.cell area within.0.1) within.0.1 ∙ sym (shape s.block within.0.0), tt)
put_whole_at a key value A (AtEnd None last place) area is short shape within = grind (arith, put_whole_new)
put_whole_at a key value A (AtBroken block) area is short shape within = tt

put_whole : (a : Area) (key value : List ℕ) (A : Array) → IsHashArea a → is_key key ≡ true → is_value value ≡ true → HasBlocks a A → AreWhole A (accesses_of (put_program a key value) A)
put_whole a key value A area is short shape = grind (arith, put_is, whole_after, put_whole_at, walk_within)

-- A put is local.
pub put_local : (a : Area) (key value : List ℕ) (A : Array) (r : Unit {0}) → IsHashArea a → is_key key ≡ true → is_value value ≡ true → HasBlocks a A → answer_of (put_program a key value) A ≡ Ok r
    → IsLocal (IsHashRegion a) (hash_map a) (put_op key value) A (accesses_of (put_program a key value) A) r
put_local a key value A r area is short shape answer =
    local_from (IsHashRegion a) (hash_map a) (put_op key value) Ok (put_program a key value) A r (put_correct a key value area is short) (put_whole a key value A area is short shape) answer

-- what a removal does to a well-formed array
record HasDeleted (a : Area) (key : List ℕ) (A B : Array) (r : Bool) : Type 0 where
  answer : is_some (get (hash_map a A) key) ≡ r
  region : IsHashRegion a B
  map_is : hash_map a B ≡ remove (hash_map a A) key

-- a key that is not there is not missed
remove_missing : (m : Pairs) (key : List ℕ) → get m key ≡ None → m ≡ remove m key
remove_missing m key none = same_map nat_list_cmp_total (slice_cmp-IsAntisymmetric nat_cmp-IsAntisymmetric) m (remove m key) (λ q.
    elim (cases_key q key) [
      | inl is ↦
          (let pass : eq_by_cmp (slice_cmp nat_cmp) q key ≡ true = ties q key ∙ (bytes_eq-Decides q key).1 is in
          ap (get m) is ∙ none ∙ sym (get-remove nat_list_cmp_total m key q ∙ ap (λ t. cond t None (get m q)) pass))
      | inr other ↦
          (let fail : eq_by_cmp (slice_cmp nat_cmp) q key ≡ false = ties q key ∙ Rattle.iso_hash.proofs.Finding.bytes_other q key other in
          sym (get-remove nat_list_cmp_total m key q ∙ ap (λ t. cond t None (get m q)) fail))
    ])

-- the last block of a chain has none after it
no_more : (a : Area) (keys : ℕ → List ℕ) (b : ℕ) (xs : List ℕ) (before k : ℕ) (ys : List ℕ) → AreLinked a keys b 0 (xs ++ (before ∷ k ∷ ys)) (1 + b) 0 → next_of (keys k) ≡ 0 → ys ≡ []
no_more a keys b xs before k [] linked last = refl
no_more a keys b xs before k (y ∷ ys) linked last = grind (arith, linked_split)

-- an overflow block is not the first of its chain
module _ (a : Area) (key : List ℕ) (A : Array) (s : Spot) (before : ℕ) (ks v : List ℕ) (area : IsHashArea a) (region : IsHashRegion a A) (some : 0 < length key)
    (found : Found a key A false (chain a (view_of a A).keys (bucket_of a key)) 0 s before ks v) where
  stands : Stands a (view_of a A).keys (bucket_of a key) s.block s.cell
  stands = found_stands a key false A s before ks v area some found

  there : is_some (get (hash_map a A) key) ≡ true
  there = ap is_some (get_found a A key (bucket_of a key) s.block s.cell region stands found.key_is)

  del_done_cell : HasDeleted a key A (put A (store_access (a.start + s.block) (key_mark s.cell ∷ value_mark a.size s.cell ∷ []) (replicate a.size 0))) true
  del_done_cell = let is = del_cell a key A s area region stands found.key_is in record { answer = there; region = is.region; map_is = is.map_is }

  del_done_block : is_spent a s ks ≡ true
      → HasDeleted a key A (put (put A (store_access a.start (bit_mark s.block ∷ []) (block_with a.size (bit_place s.block) (clear_bit (get_or (bytes_in (map_mark a.blocks) (block_at A a.start)) (bit_place s.block) 0) s.block ∷ []))))
      (store_access (a.start + before) (next_mark ∷ []) (replicate a.size 0))) true
  del_done_block spent =
      let parts = and_parts _ _ spent in
      let first = and_parts _ _ parts.0 in
      let past : buckets a < s.block = ltb-true _ _ first.0 in
      let last : next_of ((view_of a A).keys s.block) ≡ 0 = ap next_of (sym found.keys_are) ∙ eqb-true _ _ first.1 in
      let alone : is_alone a.size ((view_of a A).keys s.block) s.cell ≡ true = ap (λ (x : List ℕ). is_alone a.size x s.cell) (sym found.keys_are) ∙ parts.1 in
      let linked = region.keyed.linked (bucket_of a key) stands.bucket_is in
      let inside = Rattle.iso_hash.proofs.Chains.block_inside a (view_of a A).keys (bucket_of a key) s.block area stands.bucket_is linked stands.block_is in
      elim found.place [
        | inl head ↦
            (let e = subst (λ (blocks : List ℕ). AreLinked a (view_of a A).keys (bucket_of a key) 0 blocks (1 + bucket_of a key) 0) head.1.0 linked in
            absurd (let at = e.0 in let below = stands.bucket_is in omega arith))
        | inr deep ↦
            (let none : deep.1.0 ≡ [] = no_more a (view_of a A).keys (bucket_of a key) deep.0 before s.block deep.1.0 (subst (λ (blocks : List ℕ). AreLinked a (view_of a A).keys (bucket_of a key) 0 blocks (1 + bucket_of a key) 0) deep.1.1 linked) last in
            let is = del_block a key A s before (clear_bit (get_or (bytes_in (map_mark a.blocks) (block_at A a.start)) (bit_place s.block) 0) s.block) deep.0 area region stands found.key_is past alone
            (deep.1.1 ∙ ap (λ (ys : List ℕ). deep.0 ++ (before ∷ s.block ∷ ys)) none) (ap (λ (y : ℕ). clear_bit y s.block) (map_byte a (block_at A a.start) s.block inside)) in
            record { answer = there; region = is.region; map_is = is.map_is })
      ]

-- a removal that gives the block back, and one that leaves it
abbrev pub give_back_block : Area → Spot → (before : ℕ) → Program (Result Bool StoreError)
give_back_block a s before =
    Look a.start (map_mark a.blocks) (λ map. None) (λ map none.
    Reserve 2
    (Store a.start (bit_mark s.block ∷ []) (block_with a.size (bit_place s.block) (clear_bit (get_or map (bit_place s.block) 0) s.block ∷ []))
    (Store (a.start + before) (next_mark ∷ []) (replicate a.size 0) (Done (Ok true)))))

abbrev pub make_zero : Area → Spot → Program (Result Bool StoreError)
make_zero a s = Store (a.start + s.block) (key_mark s.cell ∷ value_mark a.size s.cell ∷ []) (replicate a.size 0) (Done (Ok true))

del_done : (a : Area) (key : List ℕ) (A : Array) (w : Walked) (r : Bool) → IsHashArea a → IsHashRegion a A → is_key key ≡ true → answer_of (walk a key false) A ≡ w → answer_of (del_at a w) A ≡ Ok r
    → HasDeleted a key A (own A (accesses_of (del_at a w) A)) r
del_done a key A (AtCell s before ks v) r area region is end answer =
    let found = walk_found a key false A s before ks v end in
    elim (is_spent a s ks) as (λ t. is_spent a s ks ≡ t → answer_of (cond t (give_back_block a s before) (make_zero a s)) A ≡ Ok r → HasDeleted a key A (own A (accesses_of (cond t (give_back_block a s before) (make_zero a s)) A)) r) [
      | true ↦ λ spent_is e. subst (HasDeleted a key A _) (same_ok true r StoreError e) (del_done_block a key A s before ks v area region (key_some key is) found spent_is)
      | false ↦ λ not_spent e. subst (HasDeleted a key A _) (same_ok true r StoreError e) (del_done_cell a key A s before ks v area region (key_some key is) found)
    ] refl answer
del_done a key A (AtEnd spare last place) r area region is end answer =
    let none = get_none a A key (missed_nowhere a key A spare last place region (walk_missed a key false A spare last place end)) in
    subst (HasDeleted a key A A) (same_ok false r StoreError answer) (record { answer = ap is_some none; region = region; map_is = remove_missing (hash_map a A) key none })
del_done a key A (AtBroken block) r area region is end answer = absurd (no_ok (Broken block) r answer)

pub del_is : (a : Area) (key : List ℕ) → is_key key ≡ true → del_program a key ≡ then_do (walk a key false) (del_at a)
unfolding del_program
del_is a key is = rw is refl

del_has : (a : Area) (key : List ℕ) (A : Array) (r : Bool) → IsHashArea a → IsHashRegion a A → is_key key ≡ true → answer_of (del_program a key) A ≡ Ok r → HasDeleted a key A (own A (accesses_of (del_program a key) A)) r
del_has a key A r area region is answer =
    subst (λ (p : Program (Result Bool StoreError)). answer_of p A ≡ Ok r → HasDeleted a key A (own A (accesses_of p A)) r) (sym (del_is a key is)) (λ e.
    subst (λ (B : Array). HasDeleted a key A B r) (sym (after_walk a key (del_at a) A))
    (del_done a key A (answer_of (walk a key false) A) r area region is refl (sym (answer_after a key (del_at a) A) ∙ e))) answer

del_correct : (a : Area) (key : List ℕ) → IsHashArea a → is_key key ≡ true → IsCorrect (IsHashRegion a) (hash_map a) (del_op key) Ok (del_program a key)
del_correct a key area is = record {
  answer = λ B r region e. (del_has a key B r area region is e).answer;
  well_formed = λ B r region e. (del_has a key B r area region is e).region;
  maps = λ B r region e. (del_has a key B r area region is e).map_is;
}

del_whole_at : (a : Area) (A : Array) (w : Walked) → IsHashArea a → HasBlocks a A → IsWithin a (last_position a + 1) w → AreWhole A (accesses_of (del_at a w) A)
del_whole_at a A (AtCell s before ks v) area shape within =
    elim (is_spent a s ks) as (λ t. AreWhole A (accesses_of (cond t (give_back_block a s before) (make_zero a s)) A)) [
      | true ↦ (
        λ w. absurd (Rattle.std.proofs.lemmas.Bool.false≢true w),
        (
          λ w. length-block_with a.size (bit_place s.block) (clear_bit (get_or (bytes_in (map_mark a.blocks) (block_at A a.start)) (bit_place s.block) 0) s.block ∷ []) (let inside = within.0 in omega (arith, area.most, area.least_size)) ∙ sym (first_size a A area shape),
          (λ w. zeros_long a ∙ sym (shape before within.2), tt),
        ),
      )
      | false ↦ (λ w. zeros_long a ∙ sym (shape s.block within.0), tt)
    ]
del_whole_at a A (AtEnd spare last place) area shape within = tt
del_whole_at a A (AtBroken block) area shape within = tt

-- A removal is local.
pub del_local : (a : Area) (key : List ℕ) (A : Array) (r : Bool) → IsHashArea a → is_key key ≡ true → HasBlocks a A → answer_of (del_program a key) A ≡ Ok r
    → IsLocal (IsHashRegion a) (hash_map a) (del_op key) A (accesses_of (del_program a key) A) r
del_local a key A r area is shape answer =
    local_from (IsHashRegion a) (hash_map a) (del_op key) Ok (del_program a key) A r (del_correct a key area is)
    (subst (λ (p : Program (Result Bool StoreError)). AreWhole A (accesses_of p A)) (sym (del_is a key is))
    (whole_after a key (del_at a) A (del_whole_at a A (answer_of (walk a key false) A) area shape (walk_within a key A (answer_of (walk a key false) A) area refl)))) answer
