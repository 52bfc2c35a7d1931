-- Worked rows of the sum of accounts, and traps: what a looser definition would let through.
use Rattle.accounts.proofs.{SumWords.{◌≡◌, ◌≢◌, ◌≤◌, ◌⊎◌, ◌∙◌, ℕ, ◌+◌, List, [], ◌∷◌, None, Some, arith, ap, refl, sym, inl, inr, Pairs, empty, insert, get, KeyCall, StoreAnswer, Accounts, KeepsSum, amount, amount_in, sum_of, total}, Sums.total_put}
use Rattle.iso_image.specs.Refusal.{Opened, opened, recovered}
use Rattle.iso_model.specs.{declared.access.Geometry.Geometry, History.{History, array_at, last}}
use Rattle.iso_shared.specs.{declared.entry.Entry.Entry, Standing.whole, States.{Start, state_at}}
use Rattle.accounts.specs.{Lists.{KeepsSumAt, KeepsSumIn, KeepsSumSince, OpensWithSum}, Made.IsTaken}

-- a value of eight bytes, and accounts of one byte
abbrev eight : ℕ → List ℕ
eight n = 0 ∷ 0 ∷ 0 ∷ 0 ∷ 0 ∷ 0 ∷ 0 ∷ n ∷ []

abbrev named : ℕ → List ℕ
named n = n ∷ []

abbrev opened_with : (a b : ℕ) → Accounts
opened_with a b = (named 97, eight a) ∷ (named 98, eight b) ∷ []

an_amount_has_its_high_byte_first : amount (1 ∷ 0 ∷ 0 ∷ 0 ∷ 0 ∷ 0 ∷ 2 ∷ 3 ∷ []) ≡ 72057594037928451
an_amount_has_its_high_byte_first = refl

opened_with_twelve : sum_of (opened_with 4 8) ≡ 12
opened_with_twelve = refl

-- a new account counts with its amount
a_new_account_counts : (m : Pairs) → get m (named 97) ≡ None → total (insert m (named 97) (eight 7)) ≡ total m + 7
a_new_account_counts m none =
    let put : total (insert m (named 97) (eight 7)) + amount_in (get m (named 97)) ≡ total m + 7 = total_put m (named 97) (eight 7) in
    let nothing : amount_in (get m (named 97)) ≡ 0 = ap amount_in none in
    omega (arith, put, nothing)

-- no account is nothing yet
none_are_kept : KeepsSum (opened_with 4 8) empty
none_are_kept = inl refl

-- the same sum, however it is shared out
other_shares_are_kept : (m : Pairs) → total m ≡ 12 → get m (named 97) ≢ None → KeepsSum (opened_with 4 8) m
other_shares_are_kept m sum there = inr (record { sum = sum; first = there })

-- one less is not the sum, nor is one more
one_is_lost : (m : Pairs) → total m ≡ 12 → KeepsSum (opened_with 4 9) m → m ≡ empty
one_is_lost m sum (inl none) = none
one_is_lost m sum (inr kept) = let e : 12 ≡ 13 = sym sum ∙ kept.sum in absurd (omega (arith, e))

one_is_found : (m : Pairs) → total m ≡ 12 → KeepsSum (opened_with 4 7) m → m ≡ empty
one_is_found m sum (inl none) = none
one_is_found m sum (inr kept) = let e : 12 ≡ 11 = sym sum ∙ kept.sum in absurd (omega (arith, e))

-- the sum under other names alone is not it
another_name : (m : Pairs) → get m (named 97) ≡ None → KeepsSum (opened_with 4 8) m → m ≡ empty
another_name m gone (inl none) = none
another_name m gone (inr kept) = absurd (kept.first gone)

-- nothing is taken from an account for itself
taken_from_itself : (k : List ℕ) (n more : ℕ) (calls : List KeyCall) (answers : List StoreAnswer) → IsTaken k k n more calls answers → ⊥
taken_from_itself k n more calls answers t = t.apart refl

-- the sum is that of the first commit and of the last one too
the_first_commit_counts : (accounts : Accounts) (g : Geometry) (H : History) (n : ℕ) → n ≤ last H → KeepsSumSince accounts g H n → KeepsSumIn accounts g (array_at H n)
the_first_commit_counts accounts g H n le since = since n (omega arith) le

the_last_commit_counts : (accounts : Accounts) (g : Geometry) (H : History) (n : ℕ) → n ≤ last H → KeepsSumSince accounts g H n → KeepsSumIn accounts g (array_at H (last H))
the_last_commit_counts accounts g H n le since = since (last H) le (omega arith)

-- and of the commits that were made since the start, with those that a fault has left open
the_last_commit_of_a_list_counts : (accounts : Accounts) (A : Start) (es : List Entry) → last A.world.history ≤ last (whole (state_at A es)).history → KeepsSumAt accounts A es
    → KeepsSumIn accounts A.world.geometry (array_at (whole (state_at A es)).history (last (whole (state_at A es)).history))
the_last_commit_of_a_list_counts accounts A es le keeps = keeps (last (whole (state_at A es)).history) le (omega arith)

-- an image that opens has the sum in what it opens to
an_image_opens_with_it : (accounts : Accounts) (image : List ℕ) (o : Opened) → opened image ≡ Some o → OpensWithSum accounts image → KeepsSumIn accounts o.geometry (recovered o)
an_image_opens_with_it accounts image o is opens = opens o is
