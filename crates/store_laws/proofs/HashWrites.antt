-- The calls of the hash store write blocks of its area alone.
use Rattle.store_laws.proofs.{Words.{◌≡◌, refl, ℕ, zero, suc, ◌+◌, ◌<◌, Bool, true, false, ◌==◌, not, List, Option, Some, None, IfSome, Ok, arith, eqb-false, Area, Spot, Array, cell_with, unused_cell, lowest_free, AtBroken, AtCell, AtEnd, Walked, at_cell, del_at, del_program, get_program, got, put_at, put_new, put_program, spare_in, spot_in, walk, walk_from, IsHashArea, bucket_of, buckets, is_linked, last_position, next_of, Done, Program, HasEnded, Tx, added, head_of, next_in, bucket_below, first_below, in_its_area, start_in, in_area, hash_store, WriteWithin, Answers, StoresIn, answers_cond, stores_cell, stores_cond, stores_then}, Programs.ended_within}

-- where a walk ends lies in the area
abbrev EndsIn : Area → Walked → Type 0
EndsIn a (AtCell s before ks v) = (s.block < a.blocks) × (before < a.blocks)
EndsIn a (AtEnd spare last place) = IfSome spare (λ s. s.block < a.blocks) × (last < a.blocks)
EndsIn a (AtBroken block) = Unit {0}

answers_cell : (P : Walked → Type 0) (c : Option ℕ) (f : ℕ → Program Walked) (q : Program Walked) → ((i : ℕ) → Answers P (f i)) → Answers P q → Answers P (at_cell c f q)
answers_cell P None f q found other = other
answers_cell P (Some i) f q found other = found i

spot_inside : (a : Area) (block : ℕ) (cell : Option ℕ) → block < a.blocks → IfSome (spot_in block cell) (λ s. s.block < a.blocks)
spot_inside a block None below = tt
spot_inside a block (Some i) below = below

spare_inside : (a : Area) (spare : Option Spot) (block : ℕ) (keys : List ℕ) → block < a.blocks → IfSome spare (λ s. s.block < a.blocks) → IfSome (spare_in a spare block keys) (λ s. s.block < a.blocks)
spare_inside a (Some s) block keys below is = is
spare_inside a None block keys below is = spot_inside a block (unused_cell a.size keys) below

walk_ends : (a : Area) (key : List ℕ) (bucket : ℕ) (with_value : Bool) (left position before block : ℕ) (spare : Option Spot) → before < a.blocks → block < a.blocks
    → IfSome spare (λ s. s.block < a.blocks) → Answers (EndsIn a) (walk_from a key bucket with_value left position before block spare)
walk_ends a key bucket with_value zero position before block spare low below is = tt
walk_ends a key bucket with_value (suc left) position before block spare low below is = λ xs ys.
    answers_cond (EndsIn a) (is_linked a bucket position xs) _ _
    (λ linked. answers_cell (EndsIn a) (cell_with a.size key xs) _ _ (λ i. (below, low))
    (answers_cond (EndsIn a) (next_of xs == 0) _ _
    (λ end. (spare_inside a spare block xs below is, below))
    (λ more.
    let next = next_in a position (next_of xs) (head_of a bucket position xs linked).next_is (eqb-false _ _ more) in
    walk_ends a key bucket with_value left (position + 1) block (next_of xs) (spare_in a spare block xs) below next.inside (spare_inside a spare block xs below is))))
    (λ broken. tt)

-- a walk stores nothing
walk_stores : (has : ℕ → Bool) (a : Area) (key : List ℕ) (bucket : ℕ) (with_value : Bool) (left position before block : ℕ) (spare : Option Spot)
    → StoresIn has (walk_from a key bucket with_value left position before block spare)
walk_stores has a key bucket with_value zero position before block spare = tt
walk_stores has a key bucket with_value (suc left) position before block spare = λ xs ys.
    stores_cond has (is_linked a bucket position xs) _ _ (stores_cell has (cell_with a.size key xs) _ _ (λ i. tt)
    (stores_cond has (next_of xs == 0) _ _ tt (walk_stores has a key bucket with_value left (position + 1) block (next_of xs) (spare_in a spare block xs)))) tt

after_walk : {R : Type 0} (a : Area) (key : List ℕ) (with_value : Bool) (f : Walked → Program R) → IsHashArea a → ((w : Walked) → EndsIn a w → StoresIn (in_area a) (f w))
    → StoresIn (in_area a) (Rattle.store_model.specs.Stores.then_do (walk a key with_value) f)
unfolding walk
after_walk a key with_value f area each =
    let least = area.least in
    let below = bucket_below a key area in
    let low : 0 < a.blocks = omega arith in
    let first : 1 + bucket_of a key < a.blocks = omega arith in
    stores_then (in_area a) (EndsIn a) (walk_from a key (bucket_of a key) with_value (last_position a + 1) 0 0 (1 + bucket_of a key) None) f
    (walk_stores (in_area a) a key (bucket_of a key) with_value (last_position a + 1) 0 0 (1 + bucket_of a key) None)
    (walk_ends a key (bucket_of a key) with_value (last_position a + 1) 0 0 (1 + bucket_of a key) None low first tt) each

new_stores : (a : Area) (key value : List ℕ) (last place : ℕ) (map : List ℕ) (o : Option ℕ) → IsHashArea a → last < a.blocks
    → lowest_free map (buckets a + 1) (last_position a) ≡ o → StoresIn (in_area a) (put_new a key value last place map o)
new_stores a key value last place map None area below found = tt
new_stores a key value last place map (Some block) area below found = grind (arith, first_below, not, start_in, in_its_area)

put_stores : (a : Area) (key value : List ℕ) (w : Walked) → IsHashArea a → EndsIn a w → StoresIn (in_area a) (put_at a key value w)
put_stores a key value (AtCell s before ks v) area ends = (in_its_area a s.block ends.0, tt)
put_stores a key value (AtEnd (Some s) last place) area ends = (in_its_area a s.block ends.0, tt)
put_stores a key value (AtEnd None last place) area ends = λ map none. new_stores a key value last place map (lowest_free map (buckets a + 1) (last_position a)) area ends.1 refl
put_stores a key value (AtBroken block) area ends = tt

del_stores : (a : Area) (w : Walked) → IsHashArea a → EndsIn a w → StoresIn (in_area a) (del_at a w)
del_stores a (AtCell s before ks v) area ends = grind (arith, stores_cond, start_in, in_its_area)
del_stores a (AtEnd spare last place) area ends = tt
del_stores a (AtBroken block) area ends = tt

pub get_program_stores : (a : Area) (key : List ℕ) → IsHashArea a → StoresIn (in_area a) (get_program a key)
unfolding get_program
get_program_stores a key area = stores_cond (in_area a) (Rattle.store_model.specs.HashCalls.is_key key) _ _ (after_walk a key true (λ w. Done (got a w)) area (λ w ends. tt)) tt

pub put_program_stores : (a : Area) (key value : List ℕ) → IsHashArea a → StoresIn (in_area a) (put_program a key value)
unfolding put_program
put_program_stores a key value area = grind (arith, stores_cond, after_walk, put_stores)

pub del_program_stores : (a : Area) (key : List ℕ) → IsHashArea a → StoresIn (in_area a) (del_program a key)
unfolding del_program
del_program_stores a key area = stores_cond (in_area a) (Rattle.store_model.specs.HashCalls.is_key key) _ _ (after_walk a key false (del_at a) area (λ w ends. del_stores a w area ends)) tt

pub get_within : (a : Area) (key : List ℕ) (A : Array) (t u : Tx) (r : Option (List ℕ)) → IsHashArea a → t.base ≡ Some A → HasEnded (get_program a key) t u (Ok r) → WriteWithin (hash_store a) (added t u)
get_within a key A t u r area = ended_within (hash_store a) (get_program a key) A t u r (get_program_stores a key area)

pub put_within : (a : Area) (key value : List ℕ) (A : Array) (t u : Tx) (r : Unit {0}) → IsHashArea a → t.base ≡ Some A → HasEnded (put_program a key value) t u (Ok r) → WriteWithin (hash_store a) (added t u)
put_within a key value A t u r area = ended_within (hash_store a) (put_program a key value) A t u r (put_program_stores a key value area)

pub del_within : (a : Area) (key : List ℕ) (A : Array) (t u : Tx) (r : Bool) → IsHashArea a → t.base ≡ Some A → HasEnded (del_program a key) t u (Ok r) → WriteWithin (hash_store a) (added t u)
del_within a key A t u r area = ended_within (hash_store a) (del_program a key) A t u r (del_program_stores a key area)
