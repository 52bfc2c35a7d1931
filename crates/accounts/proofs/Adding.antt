-- What calls of the hash store add to a transaction that calls the stores of an image.
use Rattle.accounts.proofs.Words.{Bool, false, ◌≡◌, ◌≢◌, ◌∙◌, inl, sym, refl, ap, subst, ℕ, zero, suc, ◌+◌, ◌-◌, ◌<◌, ◌≤◌, List, [], ◌∷◌, ◌++◌, append_assoc, append-nil, arith, Option, Some, None, Result, Ok, Array, amount, disjoint_blocks, first_called, spare_where_apart, First, Get, Got, KeyCall, Put, StoreAnswer, WasPut, key_act, IsMadeOfBoth, hash_store, tree_store, WriteWithin, hash_area, tree_area, IsHashArea, IsHashRegion, get_op, hash_map, put_op, Program, Area, Region, StoreError, Accounts, IsOpening, more_first_answers, more_first_calls, IfAny, image_hash, image_tree, pairs_if_any, the_tree, HasEnded, IsLocalCall, area_of, Tx, added, Adds, AddsIn, Does, DoesIn, FindsAmount, IsPut, IsTaken, SameBlocks, lt_of_le_of_lt, bytes_eq, from_be_bytes-to_be_bytes_8, to_be_bytes, w64, ◌^◌, IsOfAccounts, IsTransfer, got_local, put_local}
use Rattle.store_laws.proofs.HashWrites as hash_writes
use Rattle.store_model.specs.HashCalls as hash

-- a store that an image has is the one in its area
local_any : (n : ℕ) (a : Area) (call : KeyCall) (t u : Tx) (answer : StoreAnswer) → n ≢ 0 → IsLocalCall (IsHashRegion a) (hash_map a) (key_act call) t u answer
    → IsLocalCall (λ (A : Array). IfAny n (IsHashRegion a A)) (λ (A : Array). pairs_if_any n (hash_map a A)) (key_act call) t u answer
local_any zero a call t u answer some local = absurd (some refl)
local_any (suc n) a call t u answer some local = local

call_adds : {X : Type 0} (a : Area) (p : Program (Result X StoreError)) (t u : Tx) (call : KeyCall) (answer : StoreAnswer) (r : X) → HasEnded p t u (Ok r)
    → ((A : Array) → t.base ≡ Some A → WriteWithin (hash_store a) (added t u)) → IsLocalCall (IsHashRegion a) (hash_map a) (key_act call) t u answer
    → Adds a t u (call ∷ []) (answer ∷ [])
call_adds {X} a p t u call answer r ended within local = λ g some area A parts is.
    let h : Area = hash_area g in
    let written : WriteWithin (hash_store h) (added t u) = subst (λ (b : Area). WriteWithin (hash_store b) (added t u)) (sym area) (within A is.base) in
    let here : IsLocalCall (IsHashRegion h) (hash_map h) (key_act call) t u answer = subst (λ (b : Area). IsLocalCall (IsHashRegion b) (hash_map b) (key_act call) t u answer) (sym area) local in
    record {
      more = First call (added t u) answer ∷ [];
      made = first_called (image_hash g) (image_tree g) A t u parts call answer ended.done is ended.is (local_any g.hash h call t u answer some here)
          (spare_where_apart (hash_store h) (tree_store (tree_area g)) (added t u) (disjoint_blocks h (tree_area g) (inl (omega arith))) written);
      calls_are = refl;
      answers_are = refl;
    }

pub got_adds : (a : Area) (key : List ℕ) (t u : Tx) (r : Option (List ℕ)) → IsHashArea a → HasEnded (hash.get_program a key) t u (Ok r) → IsLocalCall (IsHashRegion a) (hash_map a) (get_op key) t u r
    → Adds a t u (Get key ∷ []) (Got r ∷ [])
got_adds a key t u r area ended local =
    call_adds a (hash.get_program a key) t u (Get key) (Got r) r ended (λ A base. hash_writes.get_within a key A t u r area base ended) (got_local (IsHashRegion a) (hash_map a) key t u r local)

pub put_adds : (a : Area) (key value : List ℕ) (t u : Tx) (r : Unit {0}) → IsHashArea a → HasEnded (hash.put_program a key value) t u (Ok r) → IsLocalCall (IsHashRegion a) (hash_map a) (put_op key value) t u r
    → Adds a t u (Put key value ∷ []) (WasPut ∷ [])
put_adds a key value t u r area ended local =
    call_adds a (hash.put_program a key value) t u (Put key value) WasPut r ended (λ A base. hash_writes.put_within a key value A t u r area base ended) (put_local (IsHashRegion a) (hash_map a) key value t u r local)

pub adds_none : (a : Area) (t : Tx) → Adds a t t [] []
adds_none a t = λ g some area A parts is. record {
  more = [];
  made = subst (IsMadeOfBoth (image_hash g) (image_tree g) A t) (sym (append-nil parts)) is;
  calls_are = refl;
  answers_are = refl;
}

pub adds_then : (a : Area) (t u v : Tx) (c d : List KeyCall) (x y : List StoreAnswer) → Adds a t u c x → Adds a u v d y → Adds a t v (c ++ d) (x ++ y)
adds_then a t u v c d x y one two = λ g some area A parts is.
    let first = one g some area A parts is in
    let second = two g some area A (parts ++ first.more) first.made in
    record {
      more = first.more ++ second.more;
      made = subst (IsMadeOfBoth (image_hash g) (image_tree g) A v) (append_assoc parts first.more second.more) second.made;
      calls_are = more_first_calls the_tree first.more second.more c first.calls_are ∙ ap (λ (xs : List KeyCall). c ++ xs) second.calls_are;
      answers_are = more_first_answers the_tree first.more second.more x first.answers_are ∙ ap (λ (xs : List StoreAnswer). x ++ xs) second.answers_are;
    }

-- a region has the same area on the same blocks
pub area_same : (t u : Tx) (region : Region) → SameBlocks t u → area_of u region ≡ area_of t region
area_same t u region same = ap (λ (n : ℕ). let a : Area = record { size = n; start = region.start; blocks = region.size } in a) same.size

pub adds_on : (t u v : Tx) (region : Region) (c : List KeyCall) (x : List StoreAnswer) → SameBlocks t u → Adds (area_of u region) u v c x → Adds (area_of t region) u v c x
adds_on t u v region c x same adds = subst (λ (a : Area). Adds a u v c x) (area_same t u region same) adds

pub same_on : (t u v : Tx) → SameBlocks t u → SameBlocks u v → SameBlocks t v
same_on t u v one two = record { size = two.size ∙ one.size; blocks = two.blocks ∙ one.blocks }

-- a call of the hash store leaves the transaction on its blocks
pub same_ended : {X : Type 0} (p : Program (Result X StoreError)) (t u : Tx) (r : X) → HasEnded p t u (Ok r) → SameBlocks t u
same_ended p t u r ended = record { size = ap (λ (w : Tx). w.size) ended.is; blocks = ap (λ (w : Tx). w.blocks) ended.is }

pub got_in : (region : Region) (key : List ℕ) (t u : Tx) (r : Option (List ℕ)) → let a = area_of t region in
    IsHashArea a → HasEnded (hash.get_program a key) t u (Ok r) → IsLocalCall (IsHashRegion a) (hash_map a) (get_op key) t u r → AddsIn region t u (Get key ∷ []) (Got r ∷ [])
got_in region key t u r area ended local =
    record { same = same_ended (hash.get_program (area_of t region) key) t u r ended; adds = got_adds (area_of t region) key t u r area ended local }

pub put_in : (region : Region) (key value : List ℕ) (t u : Tx) (r : Unit {0}) → let a = area_of t region in
    IsHashArea a → HasEnded (hash.put_program a key value) t u (Ok r) → IsLocalCall (IsHashRegion a) (hash_map a) (put_op key value) t u r → AddsIn region t u (Put key value ∷ []) (WasPut ∷ [])
put_in region key value t u r area ended local =
    record { same = same_ended (hash.put_program (area_of t region) key value) t u r ended; adds = put_adds (area_of t region) key value t u r area ended local }

-- one call, and calls of two kinds, one after the other
pub does_one : (region : Region) (t u : Tx) (call : KeyCall) (answer : StoreAnswer) (Is : List KeyCall → List StoreAnswer → Type 0) → Is (call ∷ []) (answer ∷ []) → AddsIn region t u (call ∷ []) (answer ∷ []) → DoesIn region t u Is
does_one region t u call answer Is is adds = record { same = adds.same; does = record { calls = call ∷ []; answers = answer ∷ []; is = is; adds = adds.adds } }

pub does_then : (region : Region) (t u v : Tx) (Is Then Both : List KeyCall → List StoreAnswer → Type 0) → ((c d : List KeyCall) (x y : List StoreAnswer) → Is c x → Then d y → Both (c ++ d) (x ++ y))
    → DoesIn region t u Is → DoesIn region u v Then → DoesIn region t v Both
does_then region t u v Is Then Both both one two =
    let first = one.does in
    let rest = two.does in
    record {
      same = same_on t u v one.same two.same;
      does = record {
        calls = first.calls ++ rest.calls;
        answers = first.answers ++ rest.answers;
        is = both first.calls rest.calls first.answers rest.answers first.is rest.is;
        adds = adds_then (area_of t region) t u v first.calls rest.calls first.answers rest.answers first.adds (adds_on t u v region rest.calls rest.answers one.same rest.adds);
      };
    }

-- no account is opened, one is, and further ones
pub opened_none : (region : Region) (t : Tx) → DoesIn region t t (IsOpening [])
opened_none region t = record {
  same = record { size = refl; blocks = refl };
  does = record { calls = []; answers = []; is = record { calls_are = refl; answers_are = refl }; adds = adds_none (area_of t region) t };
}

pub opened_one : (region : Region) (t u v : Tx) (name value : List ℕ) → AddsIn region t u (Get name ∷ []) (Got None ∷ []) → AddsIn region u v (Put name value ∷ []) (WasPut ∷ []) → DoesIn region t v (IsOpening ((name, value) ∷ []))
opened_one region t u v name value got put = record {
  same = same_on t u v got.same put.same;
  does = record {
    calls = Get name ∷ Put name value ∷ [];
    answers = Got None ∷ WasPut ∷ [];
    is = record { calls_are = refl; answers_are = refl };
    adds = adds_then (area_of t region) t u v (Get name ∷ []) (Put name value ∷ []) (Got None ∷ []) (WasPut ∷ []) got.adds (adds_on t u v region (Put name value ∷ []) (WasPut ∷ []) got.same put.adds);
  };
}

pub opened_more : (region : Region) (t u v : Tx) (one : List ℕ × List ℕ) (others : Accounts) → DoesIn region t u (IsOpening (one ∷ [])) → DoesIn region u v (IsOpening others) → DoesIn region t v (IsOpening (one ∷ others))
opened_more region t u v one others =
    does_then region t u v (IsOpening (one ∷ [])) (IsOpening others) (IsOpening (one ∷ others))
    (λ c d x y first rest. record { calls_are = (λ i. first.calls_are i ++ rest.calls_are i); answers_are = (λ i. first.answers_are i ++ rest.answers_are i) })

-- the calls of the first half of a transfer
pub taken : (region : Region) (from to : List ℕ) (n had other more : ℕ) (t u v w : Tx) → from ≢ to → n ≤ had → more ≡ other + n → more < 2 ^ 64 → FindsAmount region t u from had → FindsAmount region u v to other
    → AddsIn region v w (Put from (to_be_bytes w64 (had - n)) ∷ []) (WasPut ∷ []) → DoesIn region t w (IsTaken from to n more)
taken region from to n had other more t u v w apart enough sum fits found again left =
    let a : Area = area_of t region in
    let low = to_be_bytes w64 (had - n) in
    let has : amount found.value ≡ had = found.is in
    let has_other : amount again.value ≡ other = again.is in
    let same : SameBlocks t v = same_on t u v found.got.same again.got.same in
    let is_low : amount low ≡ had - n = from_be_bytes-to_be_bytes_8 (had - n) (lt_of_le_of_lt (let low : had - n ≤ had = omega arith in low) found.small) in
    record {
      same = same_on t v w same left.same;
      does = record {
        calls = Get from ∷ Get to ∷ Put from low ∷ [];
        answers = Got (Some found.value) ∷ Got (Some again.value) ∷ WasPut ∷ [];
        is = record {
          apart = apart;
          had = found.value;
          other_had = again.value;
          left = low;
          taken = omega arith;
          given = omega arith;
          small = fits;
          calls_are = refl;
          answers_are = refl;
        };
        adds = adds_then a t u w (Get from ∷ []) _ (Got (Some found.value) ∷ []) _ found.got.adds
            (adds_then a u v w (Get to ∷ []) _ (Got (Some again.value) ∷ []) _ (adds_on t u v region (Get to ∷ []) (Got (Some again.value) ∷ []) found.got.same again.got.adds)
            (adds_on t v w region (Put from low ∷ []) (WasPut ∷ []) same left.adds));
      };
    }

-- a transfer whose second half is made
pub completed : (from to : List ℕ) (n more : ℕ) (c d : List KeyCall) (x y : List StoreAnswer) → IsTaken from to n more c x → IsPut to (to_be_bytes w64 more) d y → IsTransfer from to n (c ++ d) (x ++ y)
completed from to n more c d x y half put =
    let high = to_be_bytes w64 more in
    let is_high : amount high ≡ more = from_be_bytes-to_be_bytes_8 more half.small in
    let sum : more ≡ amount half.other_had + n = half.given in
    record {
      apart = half.apart;
      had = half.had;
      other_had = half.other_had;
      left = half.left;
      other = high;
      calls_are = λ i. half.calls_are i ++ put.calls_are i;
      answers_are = λ i. half.answers_are i ++ put.answers_are i;
      taken = half.taken;
      given = is_high ∙ sum;
    }

pub does_put : (a : Area) (t u : Tx) (key value : List ℕ) → Adds a t u (Put key value ∷ []) (WasPut ∷ []) → Does a t u (IsPut key value)
does_put a t u key value adds = record { calls = Put key value ∷ []; answers = WasPut ∷ []; is = record { calls_are = refl; answers_are = refl }; adds = adds }

pub transfers : (accounts : Accounts) (from to : List ℕ) (n : ℕ) (c : List KeyCall) (x : List StoreAnswer) → IsTransfer from to n c x → IsOfAccounts accounts c x
transfers accounts from to n c x is = inl (from, to, n, is)

pub bytes_apart : (from to : List ℕ) (b : Bool) → b ≡ bytes_eq from to → b ≡ false → from ≢ to
bytes_apart from to b eq is same = let is_true = (Rattle.std.proofs.lemmas.Slice.Eq.bytes_eq-Decides from to).1 same in cc (sym is ∙ eq ∙ is_true)
