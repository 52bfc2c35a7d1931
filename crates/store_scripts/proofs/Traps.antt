-- What no calls are told that answer in order, or by one map: a look-up that misses a key of its map, or that puts one into it.
use Rattle.store_scripts.proofs.Words.{◌≡◌, ◌∙◌, sym, ap, subst, ℕ, List, [], ◌∷◌, map, Option, Some, None, Geometry, Array, get_op, run, GetKey, Got, KeyCall, StoreAnswer, OnKey, TreeCall, SecondStore, image_hash, second_store, the_tree, Told, ToldByMap, ToldInOrder}
use Rattle.store_scripts.specs.Told.{Asked}

-- the value that the first answer gives
first_got : List StoreAnswer → Option (List ℕ)
first_got [] = None
first_got (Got value ∷ answers) = value
first_got (answer ∷ answers) = None

none_is_not : (o : Option (List ℕ)) (value : List ℕ) → o ≡ None → o ≡ Some value → ⊥
none_is_not o value none some = cc (sym none ∙ some)

-- one look-up that found nothing, of the hash store and of the tree store
abbrev missed : (key : List ℕ) → Asked KeyCall StoreAnswer
missed key = record { calls = GetKey key ∷ []; answers = Got None ∷ [] }

abbrev missed_in_tree : (key : List ℕ) → Asked TreeCall StoreAnswer
missed_in_tree key = record { calls = OnKey (GetKey key) ∷ []; answers = Got None ∷ [] }

module _ (S : SecondStore) (g : Geometry) (told : Told S) (A B : Array) (key value : List ℕ) (are : told.hash ≡ missed key) (has : (get_op key ((image_hash g).map_of A)).0 ≡ Some value) where
  in_order_misses_none : ToldInOrder S g told A B → ⊥
  unfolding first_got
  in_order_misses_none is =
      let said : (run (image_hash g) ((image_hash g).map_of A) (GetKey key ∷ [])).0 ≡ Got None ∷ [] =
      subst (λ (x : Asked KeyCall StoreAnswer). (run (image_hash g) ((image_hash g).map_of A) x.calls).0 ≡ x.answers) are is.hash_answers in
      none_is_not (get_op key ((image_hash g).map_of A)).0 value (ap first_got said) has

  by_map_misses_none : ToldByMap S g told A → ⊥
  unfolding first_got
  by_map_misses_none is =
      let said : Got None ∷ [] ≡ Got (get_op key ((image_hash g).map_of A)).0 ∷ [] =
      subst (λ (x : Asked KeyCall StoreAnswer). x.answers ≡ map (λ call. ((image_hash g).act call ((image_hash g).map_of A)).0) x.calls) are is.hash in
      none_is_not (get_op key ((image_hash g).map_of A)).0 value (ap first_got (sym said)) has

module _ (g : Geometry) (told : Told the_tree) (A B : Array) (key value : List ℕ) (are : told.second ≡ missed_in_tree key) (has : (get_op key ((second_store the_tree g).map_of A)).0 ≡ Some value) where
  tree_in_order_misses_none : ToldInOrder the_tree g told A B → ⊥
  unfolding first_got
  tree_in_order_misses_none is =
      let said : (run (second_store the_tree g) ((second_store the_tree g).map_of A) (OnKey (GetKey key) ∷ [])).0 ≡ Got None ∷ [] =
      subst (λ (x : Asked TreeCall StoreAnswer). (run (second_store the_tree g) ((second_store the_tree g).map_of A) x.calls).0 ≡ x.answers) are is.second_answers in
      none_is_not (get_op key ((second_store the_tree g).map_of A)).0 value (ap first_got said) has

  tree_by_map_misses_none : ToldByMap the_tree g told A → ⊥
  unfolding first_got
  tree_by_map_misses_none is =
      let said : Got None ∷ [] ≡ Got (get_op key ((second_store the_tree g).map_of A)).0 ∷ [] =
      subst (λ (x : Asked TreeCall StoreAnswer). x.answers ≡ map (λ call. (the_tree.act call ((second_store the_tree g).map_of A)).0) x.calls) are is.second in
      none_is_not (get_op key ((second_store the_tree g).map_of A)).0 value (ap first_got (sym said)) has

-- ---- a look-up leaves the map as it was

module _ (S : SecondStore) (g : Geometry) (told : Told S) (A B : Array) (key other value : List ℕ) (are : told.hash.calls ≡ GetKey other ∷ []) (lacks : (get_op key ((image_hash g).map_of A)).0 ≡ None)
    (has : (get_op key ((image_hash g).map_of B)).0 ≡ Some value) where
  look_up_puts_none : ToldInOrder S g told A B → ⊥
  look_up_puts_none is =
      let same : (image_hash g).map_of A ≡ (image_hash g).map_of B =
      subst (λ (calls : List KeyCall). (run (image_hash g) ((image_hash g).map_of A) calls).1 ≡ (image_hash g).map_of B) are is.hash_ends in
      none_is_not (get_op key ((image_hash g).map_of B)).0 value (ap (λ m. (get_op key m).0) (sym same) ∙ lacks) has

module _ (g : Geometry) (told : Told the_tree) (A B : Array) (key other value : List ℕ) (are : told.second.calls ≡ OnKey (GetKey other) ∷ []) (lacks : (get_op key ((second_store the_tree g).map_of A)).0 ≡ None)
    (has : (get_op key ((second_store the_tree g).map_of B)).0 ≡ Some value) where
  tree_look_up_puts_none : ToldInOrder the_tree g told A B → ⊥
  tree_look_up_puts_none is =
      let same : (second_store the_tree g).map_of A ≡ (second_store the_tree g).map_of B =
      subst (λ (calls : List TreeCall). (run (second_store the_tree g) ((second_store the_tree g).map_of A) calls).1 ≡ (second_store the_tree g).map_of B) are is.second_ends in
      none_is_not (get_op key ((second_store the_tree g).map_of B)).0 value (ap (λ m. (get_op key m).0) (sym same) ∙ lacks) has
