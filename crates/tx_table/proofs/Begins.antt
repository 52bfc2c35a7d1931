-- Numbers that rise and begins that do not fall: the entry of a transaction, the least begin, one entry more or fewer.
use Rattle.tx_table.proofs.{Words.{◌≡◌, ◌≢◌, ◌∙◌, refl, sym, ap, ℕ, zero, suc, ◌+◌, ◌-◌, ◌<◌, ◌≤◌, true, false, cond, List, [], ◌∷◌, ◌++◌, length, slice_get, map, arith, min-eq_left, Some, None, nat_eq, lookup, remove_entry, common_steps, floor_of, least_begin, Begun, AreBefore, BeginFrom, RisesFrom, at_work}}

pub other_number : (tx : ℕ) (e : ℕ × Begun) → e.0 ≢ tx → nat_eq tx e.0 ≡ false
other_number tx e other = grind (arith, common_steps)

-- a number above all others is not there
pub none_before : (tx at : ℕ) (live : List (ℕ × Begun)) → AreBefore tx at live → lookup (nat_eq tx) live ≡ None
none_before tx at [] before = refl
none_before tx at (x ∷ live) before = rw (other_number tx x (λ e. omega (arith, e, before.0.0))) (none_before tx at live before.1)

pub begin_earlier : (m n : ℕ) (live : List (ℕ × Begun)) → m ≤ n → BeginFrom n live → BeginFrom m live
begin_earlier m n [] le begin = tt
begin_earlier m n (x ∷ live) le begin = (omega (arith, le, begin.0), begin.1)

least_first : (n : ℕ) (live : List (ℕ × Begun)) → BeginFrom n live → least_begin n (map at_work live) ≡ n
least_first n [] begin = refl
least_first n (x ∷ live) begin =
    ap (λ (k : ℕ). least_begin k (map at_work live)) (min-eq_left begin.0) ∙ least_first n live (begin_earlier n x.1.at live begin.0 begin.1)

pub floor_first : (n : ℕ) (x : ℕ × Begun) (live : List (ℕ × Begun)) → Some x ≡ slice_get live 0 → BeginFrom 0 live → x.1.at ≡ floor_of n (map at_work live)
floor_first n x [] is begin = grind arith
floor_first n x (y ∷ live) is begin = let least = least_first y.1.at live begin.1 in grind arith

-- one entry more
pub rises_push : (f tx : ℕ) (begun : Begun) (live : List (ℕ × Begun)) → f ≤ tx → RisesFrom f live → AreBefore tx begun.at live → RisesFrom f (live ++ (tx, begun) ∷ [])
rises_push f tx begun [] le rises before = (le, tt)
rises_push f tx begun (x ∷ live) le rises before = (rises.0, rises_push (x.0 + 1) tx begun live (omega (arith, before.0.0)) rises.1 before.1)

pub begin_push : (f tx : ℕ) (begun : Begun) (live : List (ℕ × Begun)) → f ≤ begun.at → BeginFrom f live → AreBefore tx begun.at live → BeginFrom f (live ++ (tx, begun) ∷ [])
begin_push f tx begun [] le begin before = (le, tt)
begin_push f tx begun (x ∷ live) le begin before = (begin.0, begin_push x.1.at tx begun live before.0.1 begin.1 before.1)

-- one entry fewer
pub rises_earlier : (m n : ℕ) (live : List (ℕ × Begun)) → m ≤ n → RisesFrom n live → RisesFrom m live
rises_earlier m n [] le rises = tt
rises_earlier m n (y ∷ live) le rises = (omega (arith, le, rises.0), rises.1)

pub rises_left : (f tx : ℕ) (live : List (ℕ × Begun)) → RisesFrom f live → RisesFrom f (remove_entry (nat_eq tx) live)
rises_left f tx [] rises = tt
rises_left f tx (x ∷ live) rises = elim (nat_eq tx x.0) as (λ t. RisesFrom f (cond t live (x ∷ remove_entry (nat_eq tx) live))) [
  | true ↦ rises_earlier f (x.0 + 1) live (omega (arith, rises.0)) rises.1
  | false ↦ (rises.0, rises_left (x.0 + 1) tx live rises.1)
]

pub begin_left : (f tx : ℕ) (live : List (ℕ × Begun)) → BeginFrom f live → BeginFrom f (remove_entry (nat_eq tx) live)
begin_left f tx [] begin = tt
begin_left f tx (x ∷ live) begin = elim (nat_eq tx x.0) as (λ t. BeginFrom f (cond t live (x ∷ remove_entry (nat_eq tx) live))) [
  | true ↦ begin_earlier f x.1.at live begin.0 begin.1
  | false ↦ (begin.0, begin_left x.1.at tx live begin.1)
]

-- all entries are before what is after the last one
before_from : (tx at f g k : ℕ) (x : ℕ × Begun) (live : List (ℕ × Begun)) → k + 1 ≡ length live → slice_get live k ≡ Some x → RisesFrom f live → BeginFrom g live → x.0 < tx → x.1.at ≤ at
    → AreBefore tx at live
before_from tx at f g k x [] end is rises begin lt le = tt
before_from tx at f g zero x (y ∷ []) end is rises begin lt le = grind arith
before_from tx at f g (suc k) x (y ∷ []) end is rises begin lt le = absurd (omega arith)
before_from tx at f g zero x (y ∷ z ∷ live) end is rises begin lt le = absurd (omega arith)
before_from tx at f g (suc k) x (y ∷ z ∷ live) end is rises begin lt le =
    let later = before_from tx at (y.0 + 1) y.1.at k x (z ∷ live) (omega arith) is rises.1 begin.1 lt le in
    ((omega (arith, later.0.0, rises.1.0), omega (arith, later.0.1, begin.1.0)), later)

pub before_last : (tx at : ℕ) (x : ℕ × Begun) (live : List (ℕ × Begun)) → Some x ≡ slice_get live (length live - 1) → RisesFrom 0 live → BeginFrom 0 live → x.0 < tx → x.1.at ≤ at → AreBefore tx at live
before_last tx at x [] is rises begin lt le = tt
before_last tx at x (y ∷ live) is rises begin lt le = before_from tx at 0 0 (length (y ∷ live) - 1) x (y ∷ live) (omega arith) (sym is) rises begin lt le
