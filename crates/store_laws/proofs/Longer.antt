-- A history stays one whose commits write a region, or two, by calls alone, as commits come to it.
use Rattle.store_laws.proofs.{Words.{◌≡◌, ◌⊎◌, ◌∙◌, sym, refl, ap, subst, ℕ, zero, suc, ◌+◌, ◌-◌, ◌<◌, ◌≤◌, IfSome, List, [], ◌∷◌, ◌++◌, length, Option, Some, slice_get, arith, inl, inr, cases_lt, length-append, take-append-le, Commit, Geometry, Serial, History, all_own, array_at, last, HasSeen, IsIsolated, IsHistory, appended, slice_get_append_left, Tx, BothWellFormed, IsByBoth, IsOfBoth, IsMadeOf, IsByCalls, IsOfCalls, Part, calls_in, MapStore}, Histories.two_if}

pub array_longer : (H : History) (c : Commit) (n : ℕ) → 0 < H.first → n ≤ last H → array_at (appended H c) n ≡ array_at H n
array_longer H c n first before = ap (all_own H.base) (take-append-le (n + 1 - H.first) H.commits (c ∷ []) (omega arith))

of_longer : (s : MapStore) (H : History) (c d : Commit) → 0 < H.first → d.begin ≤ last H → IsOfCalls s H d → IsOfCalls s (appended H c) d
of_longer s H c d first before of = grind (arith, array_longer) steps 100000

pub last_of : {X : Type 0} (xs : List X) (y : X) (i : ℕ) → i ≡ length xs → slice_get (xs ++ y ∷ []) i ≡ Some y
last_of [] y zero is = refl
last_of [] y (suc i) is = absurd (omega arith)
last_of (x ∷ xs) y zero is = absurd (omega arith)
last_of (x ∷ xs) y (suc i) is = last_of xs y i (omega arith)

-- what holds of each commit after n, for a history and a commit
abbrev Each : (History → Commit → Type 0) → History → (n : ℕ) → Type 0
Each P H n = (k : ℕ) → n < k → k ≤ last H → IfSome (slice_get H.commits (k - H.first)) (P H)

each_longer : (P : History → Commit → Type 0) (g : Geometry) (H : History) (c : Commit) (n : ℕ) → H.first ≤ n + 1 → n ≤ last H → IsIsolated g H → IsIsolated g (appended H c)
    → ((d : Commit) → d.begin ≤ last H → P H d → P (appended H c) d) → P H c → Each P H n → Each P (appended H c) n
each_longer P g H c n since within was isolated stays is each k after to =
    let from : H.first ≤ k = omega arith in
    elim (cases_lt (last H) k) [
      | inl past ↦
          (let more = length-append H.commits (c ∷ []) in
          let at : slice_get (H.commits ++ c ∷ []) (k - H.first) ≡ Some c = last_of H.commits c (k - H.first) (omega arith) in
          let seen : HasSeen g (appended H c) k c = subst (λ (o : Option Commit). IfSome o (HasSeen g (appended H c) k)) at (isolated k from to) in
          subst (λ (o : Option Commit). IfSome o (P (appended H c))) (sym at) (stays c (let before = seen.before in omega arith) is))
      | inr low ↦
          subst (λ (o : Option Commit). IfSome o (P (appended H c))) (sym (slice_get_append_left H.commits (c ∷ []) (k - H.first) (omega arith)))
          (two_if (HasSeen g H k) (P H) (P (appended H c)) (slice_get H.commits (k - H.first))
          (λ d seen has. stays d (let before = seen.before in omega arith) has) (was k from low) (each k after low))
    ]

pub begins_by_calls : (s : MapStore) (g : Geometry) (H : History) → IsHistory g H → IsIsolated g H → s.IsWellFormed (array_at H (last H)) → IsByCalls s g H (last H)
begins_by_calls s g H is isolated well = grind arith steps 100000

pub stays_by_calls : (s : MapStore) (g : Geometry) (H : History) (c : Commit) (n : ℕ) → IsByCalls s g H n → IsIsolated g (appended H c) → IsOfCalls s H c → IsByCalls s g (appended H c) n
stays_by_calls s g H c n by isolated of = record {
  first = by.first;
  since = by.since;
  within = (let within = by.within in let more = length-append H.commits (c ∷ []) in omega arith);
  isolated = isolated;
  calls = each_longer (IsOfCalls s) g H c n by.since by.within by.isolated isolated (λ d before. of_longer s H c d by.first before) of by.calls;
  begins = subst s.IsWellFormed (sym (array_longer H c n by.first by.within)) by.begins;
}

pub commits_by_calls : (s : MapStore) (H : History) (c : Commit) (t : Tx) (parts : List (Part s.Call s.Answer)) → IsMadeOf s (array_at H c.begin) t parts → t.accesses ≡ c.accesses → (calls_in parts ≡ []) ⊎ (c.mode ≡ Serial)
    → IsOfCalls s H c
commits_by_calls s H c t parts is same mode = record { parts = parts; are = is.are ∙ same; made = is.made; mode = mode }

-- TWO STORES
both_longer : (s t : MapStore) (H : History) (c d : Commit) → 0 < H.first → d.begin ≤ last H → IsOfBoth s t H d → IsOfBoth s t (appended H c) d
both_longer s t H c d first before of = grind (arith, array_longer) steps 100000

pub begins_by_both : (s t : MapStore) (g : Geometry) (H : History) → IsHistory g H → IsIsolated g H → BothWellFormed s t (array_at H (last H)) → IsByBoth s t g H (last H)
begins_by_both s t g H is isolated well = grind arith steps 100000

pub stays_by_both : (s t : MapStore) (g : Geometry) (H : History) (c : Commit) (n : ℕ) → IsByBoth s t g H n → IsIsolated g (appended H c) → IsOfBoth s t H c → IsByBoth s t g (appended H c) n
stays_by_both s t g H c n by isolated of = record {
  first = by.first;
  since = by.since;
  within = (let within = by.within in let more = length-append H.commits (c ∷ []) in omega arith);
  isolated = isolated;
  calls = each_longer (IsOfBoth s t) g H c n by.since by.within by.isolated isolated (λ d before. both_longer s t H c d by.first before) of by.calls;
  begins = subst (BothWellFormed s t) (sym (array_longer H c n by.first by.within)) by.begins;
}
