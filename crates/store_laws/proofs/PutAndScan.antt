-- A scan after a put, in one transaction.
use Rattle.store_laws.proofs.{Words.{◌≡◌, ◌⊎◌, sym, ap, subst, ℕ, List, [], ◌∷◌, Some, Ok, Err, IfOk, Result, insert, Area, Region, StoreError, Array, put_op, scan_program, IsTreeArea, IsTreeRegion, scan_op, tree_map, HasEnded, IsLocalCall, WantsMemory, area_of, scanned_ok, Tx, added, Found, Put, WasPut, Called, OnKey, Scan, tree_store, tree_is_of_its_blocks}, Growth.{begun, called}, InOrder.live_in_order, KeyCalls.{put_local, scan_local}}
use Rattle.store_model.specs.TreeCalls.{put_program}

-- what the second of two calls answered
same_found : (xs ys : List (List ℕ × List ℕ)) → WasPut ∷ Found xs ∷ [] ≡ WasPut ∷ Found ys ∷ [] → xs ≡ ys
same_found xs ys e = cc

pub put_then_scan : (a : Area) (key value from to : List ℕ) (most : ℕ) (t u v : Tx) (p : Unit {0}) (r : List (List ℕ × List ℕ)) (A : Array) → IsTreeArea a → t.base ≡ Some A → t.accesses ≡ [] → IsTreeRegion a A
    → HasEnded (put_program a key value) t u (Ok p) → IsLocalCall (IsTreeRegion a) (tree_map a) (put_op key value) t u p
    → HasEnded (scan_program a from to most) u v (Ok r) → IsLocalCall (IsTreeRegion a) (tree_map a) (scan_op from to most) u v r → r ≡ (scan_op from to most (insert (tree_map a A) key value)).0
put_then_scan a key value from to most t u v p r A area base none region put_ended put_is scan_ended scan_is =
    let s = tree_store a in
    let W = IsTreeRegion a in
    let put = Called (OnKey (Put key value)) (added t u) WasPut in
    let one = called s A t u [] (OnKey (Put key value)) WasPut put_ended.done (begun s A t base none) put_ended.is (put_local W (tree_map a) key value t u p put_is) in
    let both = called s A u v (put ∷ []) (Scan from to most) (Found r) scan_ended.done one scan_ended.is (scan_local W (tree_map a) from to most u v r scan_is) in
    let order = live_in_order s (tree_is_of_its_blocks a area) A (put ∷ Called (Scan from to most) (added u v) (Found r) ∷ []) both.made region in
    sym (same_found (scan_op from to most (insert (tree_map a A) key value)).0 r order.answers)

-- what the scan answers, by what the contracts of the two calls say they left
pub put_then_scan_call : (region : Region) (key value from to : List ℕ) (most : ℕ) (t u v : Tx) (p : Unit {0}) (result : Result (List (List ℕ × List ℕ)) StoreError) → IsTreeArea (area_of t region)
    → HasEnded (put_program (area_of t region) key value) t u (Ok p)
    → IsLocalCall (IsTreeRegion (area_of t region)) (tree_map (area_of t region)) (put_op key value) t u p
    → HasEnded (scan_program (area_of u region) from to most) u v result ⊎ WantsMemory (scan_program (area_of u region) from to most) u v result
    → IfOk result (IsLocalCall (IsTreeRegion (area_of u region)) (tree_map (area_of u region)) (scan_op from to most) u v)
    → IfOk result (λ r. (A : Array) → t.base ≡ Some A → t.accesses ≡ [] → IsTreeRegion (area_of t region) A → r ≡ (scan_op from to most (insert (tree_map (area_of t region) A) key value)).0)
put_then_scan_call region key value from to most t u v p (Err e) area put_ended put_local scan_ended scan_local = tt
put_then_scan_call region key value from to most t u v p (Ok r) area put_ended put_local scan_ended scan_local = λ A base none well.
    let same : area_of u region ≡ area_of t region = ap (λ (w : Tx). area_of w region) put_ended.is in
    put_then_scan (area_of t region) key value from to most t u v p r A area base none well put_ended put_local
    (subst (λ (a : Area). HasEnded (scan_program a from to most) u v (Ok r)) same (scanned_ok (scan_program (area_of u region) from to most) u v r scan_ended))
    (subst (λ (a : Area). IsLocalCall (IsTreeRegion a) (tree_map a) (scan_op from to most) u v r) same scan_local)
