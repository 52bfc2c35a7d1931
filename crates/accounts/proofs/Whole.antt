-- What a run of accounts has come to, once its device is closed.
use Rattle.accounts.proofs.Words.{◌≡◌, ◌∙◌, inl, inr, sym, refl, ap, subst, zero, suc, ℕ, ◌+◌, ◌<◌, ◌≤◌, true, cond, List, [], ◌∷◌, ◌++◌, append_assoc, arith, length, Accounts, eq-eqb, length-append, cases_lt, Core, disk_of, weakened, DiskState, Entry, IsLegal, Came, Holds, Start, opened, state_at, count_up, hit, times, opens_with_sum, sum_kept, AreOfAccounts, IsOfAccountsAt, KeepsSumAt, BeginsWithSum, SumStays, Covers, BeginsIdle}
use Rattle.turn_lock.specs.Lists.{places}

-- each place is one of the places
hit_itself : (p : ℕ) → hit p p ≡ 1
hit_itself p = ap (λ b. cond b 1 0) (eq-eqb p p refl)

times_up : (k n p : ℕ) → k ≤ p → p < k + n → 0 < times p (count_up k n)
times_up k zero p from below = absurd (omega arith)
times_up k (suc n) p from below =
    elim (cases_lt k p) [
      | inl later ↦ let rest = times_up (suc k) n p (omega arith) (omega arith) in omega (arith, rest)
      | inr here ↦ let same : k ≡ p = omega arith in let one : hit k p ≡ 1 = ap (λ (j : ℕ). hit j p) same ∙ hit_itself p in omega (arith, one)
    ]

-- two beginnings of one list that are as long, with what is after them
record Same (b c : List Entry) (e d : Entry) : Type 0 where
  front : b ≡ c
  here : e ≡ d

cons_is : {X : Type 0} (x y : X) (xs ys : List X) → x ∷ xs ≡ y ∷ ys → (x ≡ y) × (xs ≡ ys)
cons_is x y xs ys e = (cc e, cc e)

same_place : (b c xs ys : List Entry) (e d : Entry) → length b ≡ length c → b ++ e ∷ xs ≡ c ++ d ∷ ys → Same b c e d
same_place [] [] xs ys e d size same = record { front = refl; here = (cons_is e d xs ys same).0 }
same_place [] (y ∷ c) xs ys e d size same = absurd (omega (arith, size))
same_place (x ∷ b) [] xs ys e d size same = absurd (omega (arith, size))
same_place (x ∷ b) (y ∷ c) xs ys e d size same =
    let h = cons_is x y (b ++ e ∷ xs) (c ++ d ∷ ys) same in
    let rest = same_place b c xs ys e d (let s : length (x ∷ b) ≡ length (y ∷ c) = size in omega (arith, s)) h.1 in
    record { front = λ i. h.0 i ∷ rest.front i; here = rest.here }

all_of_accounts : (accounts : Accounts) (A : Start) (E : List Entry) → A.tells ≡ true → Covers accounts A E (λ p. times p (places (length E))) → AreOfAccounts accounts A E
all_of_accounts accounts A E tells all before later e are =
    let size : length E ≡ length before + length (e ∷ later) = ap length are ∙ length-append before (e ∷ later) in
    let below : length before < length E = omega (arith, size) in
    let s = all (length before) (times_up 0 (length E) (length before) (omega arith) (omega (arith, below))) in
    let is : s.before ++ s.e ∷ s.known.0 ≡ before ++ e ∷ later = sym (append_assoc s.before (s.e ∷ []) s.known.0) ∙ s.known.1 ∙ are in
    let same = same_place s.before before s.known.0 later s.e e s.place is in
    subst (λ (b : List Entry). IsOfAccountsAt accounts A b e) same.front (subst (IsOfAccountsAt accounts A s.before) same.here (s.well tells))

-- what a core represents, is sound
pub ready_of : {D : Type 0} (state : D → DiskState) (A : Start) (core : Core D) → Holds state core (opened A) → A.world.live ≡ [] → BeginsIdle A
ready_of state A core holds idle = record { sound = holds.world.kept_of.world; idle = idle }

pub has_run : {D : Type 0} (state : D → DiskState) (A : Start) (first : DiskState) (accounts : Accounts) (core : Core D) (E : List Entry) (mine : List ℕ) → BeginsIdle A → IsLegal A E
    → Holds state core (state_at A E) → Came A first (state (disk_of core)) E → mine ≡ places (length E) → Covers accounts A E (λ p. times p mine) → SumStays state A first accounts core
has_run state A first accounts core E mine ready legal holds came all held = record {
  entries = E;
  legal = legal;
  holds = holds;
  history = kept;
  images = λ begins. weakened came.moments (λ c shown. opens_with_sum accounts A E c legal (kept begins) shown);
}
  where
    kept : BeginsWithSum accounts A → KeepsSumAt accounts A E
    kept begins =
        sum_kept accounts A E ready.sound ready.idle legal begins.well
        (all_of_accounts accounts A E begins.tells (subst (λ (ps : List ℕ). Covers accounts A E (λ p. times p ps)) all held)) begins.sum
