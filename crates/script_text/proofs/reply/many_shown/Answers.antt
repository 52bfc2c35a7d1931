use Rattle.script_text.proofs.Words.{◌≡◌, ◌⊎◌, ◌<◌, inl, inr, refl, sym, subst, ℕ, List, [], ◌∷◌, length, arith, Reply, Found, Shown, reply_text, IsLong, MOST_SHOWN}

-- a value that has a byte is told as bytes that are shown
found_long : (bytes : List ℕ) → MOST_SHOWN < length bytes → IsLong (Found bytes) bytes
unfolding reply_text
found_long [] many = absurd (omega (arith, many))
found_long (b ∷ bytes) many = record { text = refl; many = many; long = λ short. absurd (omega (arith, short, many)) }

is_long : (reply : Reply) (bytes shown : List ℕ) → (reply ≡ Shown bytes) ⊎ (reply ≡ Found bytes) → shown ≡ bytes → MOST_SHOWN < length bytes → IsLong reply shown
is_long reply bytes shown (inl is) same many =
    subst (λ (r : Reply). IsLong r shown) (sym is) (subst (λ (xs : List ℕ). IsLong (Shown bytes) xs) (sym same) (record { text = refl; many = many; long = λ short. absurd (omega (arith, short, many)) }))
is_long reply bytes shown (inr is) same many =
    subst (λ (r : Reply). IsLong r shown) (sym is) (subst (λ (xs : List ℕ). IsLong (Found bytes) xs) (sym same) (found_long bytes many))

pub returns-then-len-gt-MOST_SHOWN : Rattle.script_text.proofs.reply.many_shown.Goals.returns-then-len-gt-MOST_SHOWN
returns-then-len-gt-MOST_SHOWN c =
    is_long c.args.reply.now c.in-Shown.bytes c.as_slice.result.now c.in-Shown.is c.as_slice.ensures (omega (arith, c.len.ensures, c.if-len-gt-MOST_SHOWN.true))
