-- The calls of a transaction that writes nothing answer by the map at its begin, whatever it marks.
use Rattle.store_scripts.proofs.{Words.{◌≡◌, ◌∙◌, sym, refl, ap, subst, ℕ, Bool, true, false, ◌||◌, List, [], ◌∷◌, ◌++◌, map, Access, Geometry, Span, Array, has_write, is_write, own, marked, AreReads, IsLocal, own_reads, KeyCall, StoreAnswer, key_act, same_shape, ToldByMap, image_hash, Answered, BothWellFormed, OfHash, Told, with_call, OfSecond, SecondStore, second_store}, Seconds.IsCall}

neither : (x y : Bool) → (x || y) ≡ false → (x ≡ false) × (y ≡ false)
neither true y none = cc
neither false y none = (refl, none)

reads_of : (accesses : List Access) → has_write accesses ≡ false → AreReads accesses
reads_of [] none = tt
reads_of (a ∷ accesses) none = let both = neither (is_write a) (has_write accesses) none in (both.0, reads_of accesses both.1)

pub front_reads : (xs ys : List Access) → has_write (xs ++ ys) ≡ false → has_write xs ≡ false
front_reads [] ys none = refl
front_reads (x ∷ xs) ys none =
    let both = neither (is_write x) (has_write (xs ++ ys)) none in
    ap (λ (b : Bool). b || has_write xs) both.0 ∙ front_reads xs ys both.1

pub marked_writes : (span : Span) (accesses : List Access) → has_write (marked span accesses) ≡ has_write accesses
marked_writes span [] = refl
marked_writes span (a ∷ []) = refl
marked_writes span (a ∷ b ∷ accesses) = ap (λ (x : Bool). is_write a || x) (marked_writes span (b ∷ accesses))

map_push : {X Y : Type 0} (f : X → Y) (xs : List X) (x : X) → map f (xs ++ x ∷ []) ≡ map f xs ++ f x ∷ []
map_push f [] x = refl
map_push f (y ∷ xs) x = ap (λ rest. f y ∷ rest) (map_push f xs x)

module _ (S : SecondStore) where
  module _ (g : Geometry) (A : Array) (accesses done : List Access) (told : Told S) (over : ℕ) (none : has_write accesses ≡ false) (was : ToldByMap S g told A) where
    shown : own A accesses ≡ A
    shown = own_reads A accesses (reads_of accesses none)

    pub call_by_map : (call : Answered S.Call S.Answer) → BothWellFormed (image_hash g) (second_store S g) A → IsCall S g call (own A accesses) done → ToldByMap S g (with_call S told call over) A
    call_by_map (OfHash call answer) well is_call =
        let f = λ (c : KeyCall). (key_act c ((image_hash g).map_of A)).0 in
        let here = subst (λ (B : Array). IsLocal (image_hash g).IsWellFormed (image_hash g).map_of (key_act call) B done answer) shown is_call.local in
        let is : f call ≡ answer = here.answers A (same_shape A) well.first (λ b p depends. refl) in
        record {
          hash = ap (λ (xs : List StoreAnswer). xs ++ answer ∷ []) was.hash ∙ ap (λ (x : StoreAnswer). map f told.hash.calls ++ x ∷ []) (sym is) ∙ sym (map_push f told.hash.calls call);
          second = was.second;
        }
    call_by_map (OfSecond call answer) well is_call =
        let f = λ (c : S.Call). (S.act c ((second_store S g).map_of A)).0 in
        let here = subst (λ (B : Array). IsLocal (second_store S g).IsWellFormed (second_store S g).map_of (S.act call) B done answer) shown is_call.local in
        let is : f call ≡ answer = here.answers A (same_shape A) well.second (λ b p depends. refl) in
        record {
          hash = was.hash;
          second = ap (λ (xs : List S.Answer). xs ++ answer ∷ []) was.second ∙ ap (λ (x : S.Answer). map f told.second.calls ++ x ∷ []) (sym is) ∙ sym (map_push f told.second.calls call);
        }
