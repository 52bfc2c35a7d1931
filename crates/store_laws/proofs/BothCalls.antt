-- A call of the hash store or of the tree store, as a part of a transaction that calls both in disjoint areas.
use Rattle.store_laws.proofs.{Words.{◌≡◌, ℕ, true, false, List, [], ◌∷◌, ◌++◌, Result, Ok, arith, inl, inr, nat_tests, Area, StoreError, Array, Program, HasEnded, IsLocalCall, Tx, added, First, Second, IsMadeOfStores, StorePart, AreDisjoint, KeyCall, StoreAnswer, in_area, hash_store, TreeCall, tree_store, WriteWithin}, BothGrowth.{first_called, second_called}, Programs.spare_where_apart}

-- blocks of the one area are none of the other
pub disjoint_blocks : (a b : Area) → AreDisjoint a b → (k : ℕ) → in_area a k ≡ true → in_area b k ≡ false
disjoint_blocks a b apart k has = grind (arith, nat_tests)

other_way : (a b : Area) → AreDisjoint a b → AreDisjoint b a
other_way a b apart = elim apart [ inl before ↦ inr before | inr after ↦ inl after ]

pub hash_part : {X : Type 0} (a b : Area) (p : Program (Result X StoreError)) (A : Array) (t u : Tx) (parts : List StorePart) (call : KeyCall) (answer : StoreAnswer) (r : X) → AreDisjoint a b
    → IsMadeOfStores a b A t parts → HasEnded p t u (Ok r) → WriteWithin (hash_store a) (added t u) → IsLocalCall (hash_store a).IsWellFormed (hash_store a).map_of ((hash_store a).act call) t u answer
    → IsMadeOfStores a b A u (parts ++ First call (added t u) answer ∷ [])
hash_part a b p A t u parts call answer r apart is ended within local =
    first_called (hash_store a) (tree_store b) A t u parts call answer ended.done is ended.is local
    (spare_where_apart (hash_store a) (tree_store b) (added t u) (disjoint_blocks a b apart) within)

pub tree_part : {X : Type 0} (a b : Area) (p : Program (Result X StoreError)) (A : Array) (t u : Tx) (parts : List StorePart) (call : TreeCall) (answer : StoreAnswer) (r : X) → AreDisjoint a b
    → IsMadeOfStores a b A t parts → HasEnded p t u (Ok r) → WriteWithin (tree_store b) (added t u) → IsLocalCall (tree_store b).IsWellFormed (tree_store b).map_of ((tree_store b).act call) t u answer
    → IsMadeOfStores a b A u (parts ++ Second call (added t u) answer ∷ [])
tree_part a b p A t u parts call answer r apart is ended within local =
    second_called (hash_store a) (tree_store b) A t u parts call answer ended.done is ended.is local
    (spare_where_apart (tree_store b) (hash_store a) (added t u) (disjoint_blocks b a (other_way a b apart)) within)
