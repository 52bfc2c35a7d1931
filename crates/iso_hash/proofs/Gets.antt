-- A get is the look-up in the map of the region.
use Rattle.iso_hash.proofs.{Words.{◌≡◌, ◌≢◌, ◌∙◌, sym, refl, ap, subst, ℕ, ◌+◌, ◌<◌, ◌≤◌, Bool, true, false, cond, List, length, Option, Some, None, Ok, Err, arith, inl, inr, get, cases_Bool, and_parts, leb-true, Area, Spot, StoreError, BadKey, Broken, Array, Done, accesses_of, answer_of, then_do, AreReads, IsLocal, is_part, text_of, key_at, view_of, buckets, bucket_of, last_position, chain, hash_map, Stands, IsHashRegion, IsHashArea, get_op, Walked, AtCell, AtEnd, AtBroken, walk, is_key, got, get_program, answer_then, own_reads, whole_reads, reads_then, IsCorrect, local_from, same_ok, no_ok}, Finding.{finds_it, finds_none, map_gets}, Ways.{way, way_cell, way_end, walk_reads, key_used, Found, Missed}}

pub bucket_below : (a : Area) (key : List ℕ) → IsHashArea a → bucket_of a key < buckets a
unfolding bucket_of
bucket_below a key area = let some : 0 < buckets a = omega (arith, area.least) in omega arith

pub key_some : (key : List ℕ) → is_key key ≡ true → 0 < length key
key_some key is = let low : 1 ≤ length key = leb-true _ _ (and_parts _ _ is).0 in omega arith

pub key_short : (key : List ℕ) → is_key key ≡ true → length key ≤ 28
key_short key is = leb-true _ _ (and_parts _ _ is).1

pub walk_is_reads : (a : Area) (key : List ℕ) (with_value : Bool) (A : Array) → AreReads (accesses_of (walk a key with_value) A)
unfolding walk
walk_is_reads a key with_value A = walk_reads a key (bucket_of a key) with_value (last_position a + 1) 0 0 (1 + bucket_of a key) None A

-- what a walk that ended at a cell, or past the last block, has found
pub walk_found : (a : Area) (key : List ℕ) (with_value : Bool) (A : Array) (s : Spot) (before : ℕ) (ks v : List ℕ) → answer_of (walk a key with_value) A ≡ AtCell s before ks v
    → Found a key A with_value (chain a (view_of a A).keys (bucket_of a key)) 0 s before ks v
unfolding walk
walk_found a key with_value A s before ks v end =
    way_cell a key (bucket_of a key) with_value A (last_position a + 1) 0 0 (1 + bucket_of a key) None s before ks v
    (subst (Rattle.iso_hash.proofs.Ways.Way a key (bucket_of a key) with_value A (last_position a + 1) 0 0 (1 + bucket_of a key) None) end (way a key (bucket_of a key) with_value A (last_position a + 1) 0 0 (1 + bucket_of a key) None))

pub walk_missed : (a : Area) (key : List ℕ) (with_value : Bool) (A : Array) (spare : Option Spot) (last place : ℕ) → answer_of (walk a key with_value) A ≡ AtEnd spare last place
    → Missed a key A (chain a (view_of a A).keys (bucket_of a key)) 0 None spare last place
unfolding walk
walk_missed a key with_value A spare last place end =
    way_end a key (bucket_of a key) with_value A (last_position a + 1) 0 0 (1 + bucket_of a key) None spare last place
    (subst (Rattle.iso_hash.proofs.Ways.Way a key (bucket_of a key) with_value A (last_position a + 1) 0 0 (1 + bucket_of a key) None) end (way a key (bucket_of a key) with_value A (last_position a + 1) 0 0 (1 + bucket_of a key) None))

-- the cell that a walk found is in the region
pub found_stands : (a : Area) (key : List ℕ) (with_value : Bool) (A : Array) (s : Spot) (before : ℕ) (ks v : List ℕ) → IsHashArea a → 0 < length key
    → Found a key A with_value (chain a (view_of a A).keys (bucket_of a key)) 0 s before ks v → Stands a (view_of a A).keys (bucket_of a key) s.block s.cell
found_stands a key with_value A s before ks v area some found = grind (arith, bucket_below, key_used) steps 100000

-- a key that a walk missed is nowhere in a well-formed region
pub missed_nowhere : (a : Area) (key : List ℕ) (A : Array) (spare : Option Spot) (last place : ℕ) → IsHashRegion a A
    → Missed a key A (chain a (view_of a A).keys (bucket_of a key)) 0 None spare last place → (b k i : ℕ) → Stands a (view_of a A).keys b k i → key_at ((view_of a A).keys k) i ≢ key
missed_nowhere a key A spare last place region missed b k i stands is = grind arith steps 100000

-- the look-up in the map of a region
pub get_found : (a : Area) (A : Array) (key : List ℕ) (b k i : ℕ) → IsHashRegion a A → Stands a (view_of a A).keys b k i → key_at ((view_of a A).keys k) i ≡ key
    → get (hash_map a A) key ≡ Some (text_of ((view_of a A).value k i))
unfolding hash_map
get_found a A key b k i region stands is = map_gets a (view_of a A).keys (view_of a A).value key ∙ finds_it a (view_of a A).keys (view_of a A).value key b k i region.keyed.apart stands is

pub get_none : (a : Area) (A : Array) (key : List ℕ) → ((b k i : ℕ) → Stands a (view_of a A).keys b k i → key_at ((view_of a A).keys k) i ≢ key) → get (hash_map a A) key ≡ None
unfolding hash_map
get_none a A key nowhere = map_gets a (view_of a A).keys (view_of a A).value key ∙ finds_none a (view_of a A).keys (view_of a A).value key nowhere

got_is : (a : Area) (A : Array) (key : List ℕ) (w : Walked) (r : Option (List ℕ)) → IsHashArea a → IsHashRegion a A → 0 < length key → answer_of (walk a key true) A ≡ w → got a w ≡ Ok r → get (hash_map a A) key ≡ r
got_is a A key (AtCell s before ks v) r area region some end is =
    let found = walk_found a key true A s before ks v end in
    elim (cases_Bool (is_part 32 v)) [
      | inl part ↦
          (let answer : Some (text_of v) ≡ r = same_ok (Some (text_of v)) r StoreError (sym (ap (λ t. cond t (Ok (Some (text_of v))) (Err (Broken (a.start + s.block)))) part) ∙ is) in
          get_found a A key (bucket_of a key) s.block s.cell region (found_stands a key true A s before ks v area some found) found.key_is ∙ ap (λ x. Some (text_of x)) (sym found.value_is) ∙ answer)
      | inr bad ↦ absurd (no_ok (Broken (a.start + s.block)) r (sym (ap (λ t. cond t (Ok (Some (text_of v))) (Err (Broken (a.start + s.block)))) bad) ∙ is))
    ]
got_is a A key (AtEnd spare last place) r area region some end is =
    get_none a A key (missed_nowhere a key A spare last place region (walk_missed a key true A spare last place end)) ∙ same_ok None r StoreError is
got_is a A key (AtBroken block) r area region some end is = absurd (no_ok (Broken block) r is)

pub get_reads : (a : Area) (key : List ℕ) (A : Array) → AreReads (accesses_of (get_program a key) A)
unfolding get_program
get_reads a key A = elim (is_key key) as (λ t. AreReads (accesses_of (cond t (then_do (walk a key true) (λ w. Done (got a w))) (Done (Err BadKey))) A)) [
  | true ↦ reads_then (walk a key true) (got a) A (walk_is_reads a key true A)
  | false ↦ tt
]

get_answer : (a : Area) (key : List ℕ) (A : Array) → is_key key ≡ true → answer_of (get_program a key) A ≡ got a (answer_of (walk a key true) A)
unfolding get_program
get_answer a key A is = rw is (answer_then (walk a key true) (λ w. Done (got a w)) A)

-- A get is what the look-up in the region's map is.
get_correct : (a : Area) (key : List ℕ) → IsHashArea a → is_key key ≡ true → IsCorrect (IsHashRegion a) (hash_map a) (get_op key) Ok (get_program a key)
get_correct a key area is = record {
  answer = λ B r region e. got_is a B key (answer_of (walk a key true) B) r area region (key_some key is) refl (sym (get_answer a key B is) ∙ e);
  well_formed = λ B r region e. subst (IsHashRegion a) (sym (own_reads B (accesses_of (get_program a key) B) (get_reads a key B))) region;
  maps = λ B r region e. ap (hash_map a) (own_reads B (accesses_of (get_program a key) B) (get_reads a key B));
}

pub get_local : (a : Area) (key : List ℕ) (A : Array) (r : Option (List ℕ)) → IsHashArea a → is_key key ≡ true → answer_of (get_program a key) A ≡ Ok r
    → IsLocal (IsHashRegion a) (hash_map a) (get_op key) A (accesses_of (get_program a key) A) r
get_local a key A r area is e =
    local_from (IsHashRegion a) (hash_map a) (get_op key) Ok (get_program a key) A r (get_correct a key area is) (whole_reads A (accesses_of (get_program a key) A) (get_reads a key A)) e
