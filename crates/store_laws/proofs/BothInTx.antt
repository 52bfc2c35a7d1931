-- Gets after puts into a hash store and into a tree store, in one transaction.
use Rattle.store_laws.proofs.{Words.{◌≡◌, ◌∙◌, sym, ap, subst, ℕ, List, [], ◌∷◌, Option, Some, Ok, get, insert, Area, Region, Array, IsHashArea, IsHashRegion, get_op, hash_map, put_op, IsTreeArea, IsTreeRegion, tree_map, HasEnded, IsLocalCall, area_of, Tx, added, First, Second, StorePart, AreDisjoint, Get, Got, Put, WasPut, hash_store, hash_is_of_its_blocks, OnKey, tree_store, tree_is_of_its_blocks}, BothCalls.{hash_part, tree_part}, BothGrowth.both_begun, KeyCalls.{got_local, put_local}, PutAndGet.{gets_what_was_put, same_got}, TwoStores.both_live}
use Rattle.store_model.specs.HashCalls as hash
use Rattle.store_model.specs.TreeCalls as tree
use Rattle.store_laws.proofs.HashWrites as hash_writes
use Rattle.store_laws.proofs.TreeWrites as tree_writes

-- what the four calls promise of their answers
pub record HavePutAndGot (a b : Area) (key one two : List ℕ) (t u v w x : Tx) (r s : Option (List ℕ)) : Type 0 where
  pub hash_put : HasEnded (hash.put_program a key one) t u (Ok tt)
  pub hash_put_local : IsLocalCall (IsHashRegion a) (hash_map a) (put_op key one) t u tt
  pub tree_put : HasEnded (tree.put_program b key two) u v (Ok tt)
  pub tree_put_local : IsLocalCall (IsTreeRegion b) (tree_map b) (put_op key two) u v tt
  pub hash_got : HasEnded (hash.get_program a key) v w (Ok r)
  pub hash_got_local : IsLocalCall (IsHashRegion a) (hash_map a) (get_op key) v w r
  pub tree_got : HasEnded (tree.get_program b key) w x (Ok s)
  pub tree_got_local : IsLocalCall (IsTreeRegion b) (tree_map b) (get_op key) w x s

pub gets_of_both : (a b : Area) (key one two : List ℕ) (t u v w x : Tx) (r s : Option (List ℕ)) (A : Array) → IsHashArea a → IsTreeArea b → AreDisjoint a b → HavePutAndGot a b key one two t u v w x r s
    → t.base ≡ Some A → t.accesses ≡ [] → IsHashRegion a A → IsTreeRegion b A → (r ≡ Some one) × (s ≡ Some two)
gets_of_both a b key one two t u v w x r s A hash_area tree_area apart are base none first second =
    let W = IsHashRegion a in
    let V = IsTreeRegion b in
    let begin = both_begun (hash_store a) (tree_store b) A t base none in
    let put1 = hash_part a b (hash.put_program a key one) A t u [] (Put key one) WasPut tt apart begin are.hash_put
    (hash_writes.put_within a key one A t u tt hash_area begin.base are.hash_put) (put_local W (hash_map a) key one t u tt are.hash_put_local) in
    let parts1 : List StorePart = First (Put key one) (added t u) WasPut ∷ [] in
    let put2 = tree_part a b (tree.put_program b key two) A u v parts1 (OnKey (Put key two)) WasPut tt apart put1 are.tree_put
    (tree_writes.put_within b key two A u v tt tree_area put1.base are.tree_put) (put_local V (tree_map b) key two u v tt are.tree_put_local) in
    let parts2 : List StorePart = First (Put key one) (added t u) WasPut ∷ Second (OnKey (Put key two)) (added u v) WasPut ∷ [] in
    let got1 = hash_part a b (hash.get_program a key) A v w parts2 (Get key) (Got r) r apart put2 are.hash_got
    (hash_writes.get_within a key A v w r hash_area put2.base are.hash_got) (got_local W (hash_map a) key v w r are.hash_got_local) in
    let parts3 : List StorePart = First (Put key one) (added t u) WasPut ∷ Second (OnKey (Put key two)) (added u v) WasPut ∷ First (Get key) (added v w) (Got r) ∷ [] in
    let got2 = tree_part a b (tree.get_program b key) A w x parts3 (OnKey (Get key)) (Got s) s apart got1 are.tree_got
    (tree_writes.get_within b key A w x s got1.base are.tree_got) (got_local V (tree_map b) key w x s are.tree_got_local) in
    let parts4 : List StorePart =
    First (Put key one) (added t u) WasPut ∷ Second (OnKey (Put key two)) (added u v) WasPut ∷ First (Get key) (added v w) (Got r) ∷ Second (OnKey (Get key)) (added w x) (Got s) ∷ [] in
    let order = both_live (hash_store a) (tree_store b) (hash_is_of_its_blocks a hash_area) (tree_is_of_its_blocks b tree_area) A parts4 got2.made (record { first = first; second = second }) in (
      sym (same_got (get (insert (hash_map a A) key one) key) r order.first.answers) ∙ gets_what_was_put (hash_map a A) key one,
      sym (same_got (get (insert (tree_map b A) key two) key) s order.second.answers) ∙ gets_what_was_put (tree_map b A) key two,
    )

-- what the gets answer, by what the contracts of the four calls say they left
pub gets_of_calls : (hash_at tree_at : Region) (key one two : List ℕ) (t u v w x : Tx) (p q : Unit {0}) (r s : Option (List ℕ)) → IsHashArea (area_of t hash_at) → IsTreeArea (area_of t tree_at)
    → AreDisjoint (area_of t hash_at) (area_of t tree_at) → HasEnded (hash.put_program (area_of t hash_at) key one) t u (Ok p)
    → IsLocalCall (IsHashRegion (area_of t hash_at)) (hash_map (area_of t hash_at)) (put_op key one) t u p → HasEnded (tree.put_program (area_of u tree_at) key two) u v (Ok q)
    → IsLocalCall (IsTreeRegion (area_of u tree_at)) (tree_map (area_of u tree_at)) (put_op key two) u v q → HasEnded (hash.get_program (area_of v hash_at) key) v w (Ok r)
    → IsLocalCall (IsHashRegion (area_of v hash_at)) (hash_map (area_of v hash_at)) (get_op key) v w r → HasEnded (tree.get_program (area_of w tree_at) key) w x (Ok s)
    → IsLocalCall (IsTreeRegion (area_of w tree_at)) (tree_map (area_of w tree_at)) (get_op key) w x s → (A : Array) → t.base ≡ Some A → t.accesses ≡ [] → IsHashRegion (area_of t hash_at) A
    → IsTreeRegion (area_of t tree_at) A → (r ≡ Some one) × (s ≡ Some two)
gets_of_calls hash_at tree_at key one two t u v w x p q r s hash_area tree_area apart put1 local1 put2 local2 got1 local3 got2 local4 A base none first second =
    let same1 : area_of u tree_at ≡ area_of t tree_at = ap (λ (y : Tx). area_of y tree_at) put1.is in
    let same2 : area_of v hash_at ≡ area_of t hash_at = ap (λ (y : Tx). area_of y hash_at) put2.is ∙ ap (λ (y : Tx). area_of y hash_at) put1.is in
    let same3 : area_of w tree_at ≡ area_of t tree_at = ap (λ (y : Tx). area_of y tree_at) got1.is ∙ ap (λ (y : Tx). area_of y tree_at) put2.is ∙ same1 in
    let second_put = subst (λ (b : Area). HasEnded (tree.put_program b key two) u v (Ok q) × IsLocalCall (IsTreeRegion b) (tree_map b) (put_op key two) u v q) same1 (put2, local2) in
    let first_got = subst (λ (a : Area). HasEnded (hash.get_program a key) v w (Ok r) × IsLocalCall (IsHashRegion a) (hash_map a) (get_op key) v w r) same2 (got1, local3) in
    let second_got = subst (λ (b : Area). HasEnded (tree.get_program b key) w x (Ok s) × IsLocalCall (IsTreeRegion b) (tree_map b) (get_op key) w x s) same3 (got2, local4) in
    gets_of_both (area_of t hash_at) (area_of t tree_at) key one two t u v w x r s A hash_area tree_area apart (record {
      hash_put = put1;
      hash_put_local = local1;
      tree_put = second_put.0;
      tree_put_local = second_put.1;
      hash_got = first_got.0;
      hash_got_local = first_got.1;
      tree_got = second_got.0;
      tree_got_local = second_got.1;
    }) base none first second
