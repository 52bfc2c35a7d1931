-- The transactions of accounts keep the sum.
use Rattle.accounts.proofs.{SumWords.{◌≡◌, ◌≢◌, ◌∙◌, sym, refl, ap, subst, ℕ, ◌+◌, Bool, true, false, cond, List, [], ◌∷◌, Option, Some, None, arith, inl, inr, nat_list_cmp_total, sum_by-cons, get, get-empty, get-insert, insert, slice_cmp, eq_by_cmp, nat_cmp, bytes_other, ties, Geometry, Get, Got, KeyCall, Put, StoreAnswer, WasPut, run, Pairs, image_hash, Accounts, HasFirst, KeepsSum, amount, amount_in, sum_of, total, IsOfAccounts, IsOpening, IsTransfer, opening_answers, opening_calls}, Sums.{total_empty, total_put}}

some_not_none : (x : Option (List ℕ)) (v : List ℕ) → x ≡ Some v → x ≡ None → ⊥
some_not_none x v some none = cc (sym some ∙ none)

-- what a put leaves at its own key and at another one
put_same : (m : Pairs) (k v q : List ℕ) → k ≢ q → get (insert m k v) q ≡ get m q
put_same m k v q other =
    get-insert nat_list_cmp_total m k v q
    ∙ ap (λ b. cond b (Some v) (get m q)) (ties q k ∙ bytes_other q k (λ e. other (sym e)))

there_by : (v : List ℕ) (o : Option (List ℕ)) (b : Bool) → o ≢ None → cond b (Some v) o ≢ None
there_by v o true there none = cc none
there_by v o false there none = there none

stays_there : (m : Pairs) (k v q : List ℕ) → get m q ≢ None → get (insert m k v) q ≢ None
stays_there m k v q there none =
    there_by v (get m q) (eq_by_cmp (slice_cmp nat_cmp) q k) there (sym (get-insert nat_list_cmp_total m k v q) ∙ none)

is_there : (m : Pairs) (k v : List ℕ) → get (insert m k v) k ≢ None
is_there m k v none =
    cc (sym (get-insert nat_list_cmp_total m k v k ∙ ap (λ b. cond b (Some v) (get m k)) (ties k k ∙ (Rattle.std.proofs.lemmas.Slice.Eq.bytes_eq-Decides k k).1 refl)) ∙ none)

first_stays : (accounts : Accounts) (m : Pairs) (k v : List ℕ) → HasFirst accounts m → HasFirst accounts (insert m k v)
first_stays [] m k v has = tt
first_stays (a ∷ accounts) m k v has = stays_there m k v a.0 has

-- ---- a transfer

module _ (g : Geometry) (m : Pairs) (from to had other_had left other : List ℕ) (n : ℕ) (apart : from ≢ to)
    (taken : amount left + n ≡ amount had) (given : amount other ≡ amount other_had + n)
    (found : get m from ≡ Some had) (other_found : get m to ≡ Some other_had) where
  abbrev once : Pairs
  once = insert m from left

  sum_stays : total (insert once to other) ≡ total m
  sum_stays =
      let a = total_put m from left in
      let b = total_put once to other in
      let x : amount_in (get m from) ≡ amount had = ap amount_in found in
      let y : amount_in (get once to) ≡ amount other_had = ap amount_in (put_same m from left to apart ∙ other_found) in
      omega arith

  transfer_keeps : (accounts : Accounts) → KeepsSum accounts m → KeepsSum accounts (insert once to other)
  transfer_keeps accounts (inl none) = absurd (some_not_none (get m from) had found (ap (λ w. get w from) none ∙ get-empty (slice_cmp nat_cmp) from))
  transfer_keeps accounts (inr are) = inr (record {
    sum = sum_stays ∙ are.sum;
    first = first_stays accounts once to other (first_stays accounts m from left are.first);
  })

two_got : (x y p q : Option (List ℕ)) (r : List StoreAnswer) → Got x ∷ Got y ∷ r ≡ Got p ∷ Got q ∷ r → (x ≡ p) × (y ≡ q)
two_got x y p q r e = (cc e, cc e)

transfers : (accounts : Accounts) (g : Geometry) (m : Pairs) (calls : List KeyCall) (answers : List StoreAnswer) (from to : List ℕ) (n : ℕ) → IsTransfer from to n calls answers
    → (run (image_hash g) m calls).0 ≡ answers → KeepsSum accounts m → KeepsSum accounts (run (image_hash g) m calls).1
transfers accounts g m calls answers from to n is said keeps =
    let s = image_hash g in
    let here : (run s m (Get from ∷ Get to ∷ Put from is.left ∷ Put to is.other ∷ [])).0 ≡ Got (Some is.had) ∷ Got (Some is.other_had) ∷ WasPut ∷ WasPut ∷ [] =
    sym (ap (λ (xs : List KeyCall). (run s m xs).0) is.calls_are) ∙ said ∙ is.answers_are in
    let got = two_got (get m from) (get m to) (Some is.had) (Some is.other_had) (WasPut ∷ WasPut ∷ []) here in
    subst (λ (xs : List KeyCall). KeepsSum accounts (run s m xs).1) (sym is.calls_are)
    (transfer_keeps g m from to is.had is.other_had is.left is.other n is.apart is.taken is.given got.0 got.1 accounts keeps)

-- ---- an opening

one_more : (x y : Option (List ℕ)) (rest more : List StoreAnswer) → Got x ∷ WasPut ∷ rest ≡ Got y ∷ WasPut ∷ more → (x ≡ y) × (rest ≡ more)
one_more x y rest more e = (cc e, cc e)

-- the sum after the calls, and that what was there stays
record Opens (m after : Pairs) (accounts : Accounts) : Type 0 where
  sum : total after ≡ total m + sum_of accounts
  there : (q : List ℕ) → get m q ≢ None → get after q ≢ None
  none : (a : List ℕ × List ℕ) (rest : Accounts) → accounts ≡ a ∷ rest → (get m a.0 ≡ None) × (get after a.0 ≢ None)

opens : (g : Geometry) (accounts : Accounts) (m : Pairs) → (run (image_hash g) m (opening_calls accounts)).0 ≡ opening_answers accounts → Opens m (run (image_hash g) m (opening_calls accounts)).1 accounts
opens g [] m said = record { sum = omega (arith, none_sum); there = λ q is. is; none = λ a rest e. absurd (cc e) }
  where
    none_sum : sum_of [] ≡ 0
    none_sum = refl
opens g (a ∷ accounts) m said =
    let s = image_hash g in
    let once : Pairs = insert m a.0 a.1 in
    let one = one_more (get m a.0) None (run s once (opening_calls accounts)).0 (opening_answers accounts) said in
    let rest : Opens once (run s once (opening_calls accounts)).1 accounts = opens g accounts once one.1 in
    let put = total_put m a.0 a.1 in
    let was : amount_in (get m a.0) ≡ 0 = ap amount_in one.0 in
    let all = sum_by-cons (λ (e : List ℕ × List ℕ). amount e.1) a accounts in
    let more = rest.sum in
    record {
      sum = omega arith;
      there = λ q is. rest.there q (stays_there m a.0 a.1 q is);
      none = λ b later e. (let same : a ≡ b = first_of a b accounts later e in
          (subst (λ (c : List ℕ × List ℕ). get m c.0 ≡ None) same one.0, subst (λ (c : List ℕ × List ℕ). get (run s once (opening_calls accounts)).1 c.0 ≢ None) same (rest.there a.0 (is_there m a.0 a.1))));
    }
  where
    first_of : (a b : List ℕ × List ℕ) (xs ys : Accounts) → a ∷ xs ≡ b ∷ ys → a ≡ b
    first_of a b xs ys e = cc e

opened_keeps : (accounts : Accounts) (m after : Pairs) → Opens m after accounts → KeepsSum accounts m → (accounts ≡ [] → after ≡ m) → KeepsSum accounts after
opened_keeps [] m after is keeps same = subst (KeepsSum []) (sym (same refl)) keeps
opened_keeps (a ∷ accounts) m after is (inl none) same =
    let first = is.none a accounts refl in
    let zero : total m ≡ 0 = ap total none ∙ total_empty in
    let sum = is.sum in
    inr (record { sum = omega arith; first = first.1 })
opened_keeps (a ∷ accounts) m after is (inr are) same = absurd (are.first (is.none a accounts refl).0)

openings : (accounts : Accounts) (g : Geometry) (m : Pairs) (calls : List KeyCall) (answers : List StoreAnswer) → IsOpening accounts calls answers
    → (run (image_hash g) m calls).0 ≡ answers → KeepsSum accounts m → KeepsSum accounts (run (image_hash g) m calls).1
openings accounts g m calls answers is said keeps =
    let s = image_hash g in
    let here : (run s m (opening_calls accounts)).0 ≡ opening_answers accounts = sym (ap (λ (xs : List KeyCall). (run s m xs).0) is.calls_are) ∙ said ∙ is.answers_are in
    subst (λ (xs : List KeyCall). KeepsSum accounts (run s m xs).1) (sym is.calls_are)
    (opened_keeps accounts m (run s m (opening_calls accounts)).1 (opens g accounts m here) keeps (λ none. ap (λ (xs : Accounts). (run s m (opening_calls xs)).1) none))

pub keep_sum : (accounts : Accounts) (g : Geometry) (m : Pairs) (calls : List KeyCall) (answers : List StoreAnswer) → IsOfAccounts accounts calls answers
    → (run (image_hash g) m calls).0 ≡ answers → KeepsSum accounts m → KeepsSum accounts (run (image_hash g) m calls).1
keep_sum accounts g m calls answers (inl is) said keeps = transfers accounts g m calls answers is.0 is.1 is.2 is.3 said keeps
keep_sum accounts g m calls answers (inr is) said keeps = openings accounts g m calls answers is said keeps
