-- The script of a bench, as it is given piece by piece.
use Rattle.bench_script.proofs.Words.{◌≡◌, ◌∙◌, sym, ap, ℕ, zero, suc, ◌+◌, ◌-◌, ◌<◌, ◌≤◌, min, List, [], ◌++◌, take, drop, length, length-append, length-drop, append_assoc, arith, drop_all, drop-drop, take-append-drop, after_draws, bench_text, drawn_round}

-- the next round follows one that was given
pub next_round : (rounds at x y : ℕ) (round new : List ℕ) → at ≡ length round → 0 < rounds → new ≡ drawn_round x → y ≡ after_draws 6 x
    → new ++ bench_text (rounds - 1) y ≡ drop at round ++ bench_text rounds x
unfolding bench_text
next_round zero at x y round new given some is after = absurd (omega (arith, some))
next_round (suc n) at x y round new given some is after =
    let before : suc n - 1 ≡ n = omega arith in
    ap (λ (left : ℕ). new ++ bench_text left y) before ∙ (λ i. is i ++ bench_text n (after i)) ∙ ap (λ (front : List ℕ). front ++ (drawn_round x ++ bench_text n (after_draws 6 x))) (sym (drop_all at round (omega (arith, given))))

-- after the last round there is nothing
pub no_round : (rounds at x : ℕ) (round : List ℕ) → at ≡ length round → rounds ≡ 0 → drop at round ++ bench_text rounds x ≡ []
unfolding bench_text
no_round zero at x round given none = ap (λ (front : List ℕ). front ++ []) (drop_all at round (omega (arith, given)))
no_round (suc n) at x round given none = absurd (omega (arith, none))

-- what was given, and what is left then
pub given_front : (at given : ℕ) (round into rest : List ℕ) → take given into ≡ take given (drop at round)
    → take given into ++ (drop (at + given) round ++ rest) ≡ drop at round ++ rest
given_front at given round into rest is =
    sym (append_assoc (take given into) (drop (at + given) round) rest)
    ∙ ap (λ (front : List ℕ). front ++ rest) ((λ i. is i ++ sym (drop-drop given at round) i) ∙ take-append-drop given (drop at round))

-- nothing is given exactly at the end
pub gives_to_end : (at given : ℕ) (round into all rest : List ℕ) → at ≤ length round → given ≡ min (length (drop at round)) (length into) → 0 < length into
    → (at ≡ length round → all ≡ []) → drop at round ++ rest ≡ all → (given ≡ 0 → all ≡ []) × (all ≡ [] → given ≡ 0)
gives_to_end at given round into all rest inside count room ends text =
    let size = length-drop at round in (
      λ none. ends (omega (arith, size, none, count, inside, room)),
      λ nothing.
          let sum : length (drop at round) + length rest ≡ 0 = sym (length-append (drop at round) rest) ∙ ap length (text ∙ nothing) in
          omega (arith, sum, count),
    )
