-- A get after a put of its key, in one transaction.
use Rattle.store_laws.proofs.{Words.{◌≡◌, ◌∙◌, sym, refl, ap, subst, ℕ, cond, List, [], ◌∷◌, Option, Some, Ok, Err, IfOk, Result, nat_list_cmp_total, get, get-insert, insert, bytes_eq-Decides, Area, Region, StoreError, Array, get_program, put_program, IsHashArea, IsHashRegion, Pairs, get_op, hash_map, put_op, HasEnded, IsLocalCall, area_of, Tx, added, ties, Get, Got, Put, WasPut, hash_store, hash_is_of_its_blocks, Called}, Growth.{begun, called}, InOrder.live_in_order, KeyCalls.{got_local, put_local}}

pub gets_what_was_put : (m : Pairs) (key value : List ℕ) → get (insert m key value) key ≡ Some value
gets_what_was_put m key value =
    get-insert nat_list_cmp_total m key value key ∙ ap (λ t. cond t (Some value) (get m key)) (ties key key ∙ (bytes_eq-Decides key key).1 refl)

-- what the second of two calls answered
pub same_got : (x y : Option (List ℕ)) → WasPut ∷ Got x ∷ [] ≡ WasPut ∷ Got y ∷ [] → x ≡ y
same_got x y e = cc

pub put_then_get : (a : Area) (key value : List ℕ) (t u v : Tx) (p : Unit {0}) (r : Option (List ℕ)) (A : Array) → IsHashArea a → t.base ≡ Some A → t.accesses ≡ [] → IsHashRegion a A
    → HasEnded (put_program a key value) t u (Ok p) → IsLocalCall (IsHashRegion a) (hash_map a) (put_op key value) t u p
    → HasEnded (get_program a key) u v (Ok r) → IsLocalCall (IsHashRegion a) (hash_map a) (get_op key) u v r → r ≡ Some value
put_then_get a key value t u v p r A area base none region put_ended put_is get_ended get_is =
    let s = hash_store a in
    let one = called s A t u [] (Put key value) WasPut put_ended.done (begun s A t base none) put_ended.is (put_local (IsHashRegion a) (hash_map a) key value t u p put_is) in
    let both = called s A u v (Called (Put key value) (added t u) WasPut ∷ []) (Get key) (Got r) get_ended.done one get_ended.is (got_local (IsHashRegion a) (hash_map a) key u v r get_is) in
    let order = live_in_order s (hash_is_of_its_blocks a area) A (Called (Put key value) (added t u) WasPut ∷ Called (Get key) (added u v) (Got r) ∷ []) both.made region in
    sym (same_got (get (insert (hash_map a A) key value) key) r order.answers) ∙ gets_what_was_put (hash_map a A) key value

-- what the get answers, by what the contracts of the two calls say they left
pub put_then_get_call : (region : Region) (key value : List ℕ) (t u v : Tx) (p : Unit {0}) (result : Result (Option (List ℕ)) StoreError) → IsHashArea (area_of t region)
    → HasEnded (put_program (area_of t region) key value) t u (Ok p)
    → IsLocalCall (IsHashRegion (area_of t region)) (hash_map (area_of t region)) (put_op key value) t u p
    → HasEnded (get_program (area_of u region) key) u v result
    → IfOk result (IsLocalCall (IsHashRegion (area_of u region)) (hash_map (area_of u region)) (get_op key) u v)
    → IfOk result (λ r. (A : Array) → t.base ≡ Some A → t.accesses ≡ [] → IsHashRegion (area_of t region) A → r ≡ Some value)
put_then_get_call region key value t u v p (Err e) area put_ended put_local get_ended get_local = tt
put_then_get_call region key value t u v p (Ok r) area put_ended put_local get_ended get_local = λ A base none well.
    let same : area_of u region ≡ area_of t region = ap (λ (w : Tx). area_of w region) put_ended.is in
    put_then_get (area_of t region) key value t u v p r A area base none well put_ended put_local
    (subst (λ (a : Area). HasEnded (get_program a key) u v (Ok r)) same get_ended)
    (subst (λ (a : Area). IsLocalCall (IsHashRegion a) (hash_map a) (get_op key) u v r) same get_local)
