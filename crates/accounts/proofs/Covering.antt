-- The places that a session, a transaction or a port has, and the entries that stand there.
use Rattle.accounts.proofs.Words.{◌≡◌, ◌⊎◌, inl, inr, sym, refl, subst, ℕ, ◌+◌, ◌<◌, ◌≤◌, ◌==◌, Bool, true, false, cond, List, [], ◌∷◌, ◌++◌, arith, length, Accounts, IsPrefix, eqb-true, cases_lt, AllByRecursion, prefix_trans, next_prefix, AreNext, Next, World, Entry, Start, world_at, IsOfAccountsAt, commits_by, CommitsAccounts, Covers}

-- the entry makes no commit, wherever it is
abbrev pub IsQuiet : Entry → Type 0
IsQuiet e = (W : World) → commits_by W e ≡ []

hit_by : (q p : ℕ) (b : Bool) → (q == p) ≡ b → (n : ℕ) → 0 < n + cond b 1 0 → (q ≡ p) ⊎ (0 < n)
hit_by q p true is n some = inl (eqb-true q p is)
hit_by q p false is n some = inr (omega arith)

module _ (accounts : Accounts) (A : Start) where
  pub covers_on : (E F : List Entry) (c : ℕ → ℕ) → IsPrefix E F → Covers accounts A E c → Covers accounts A F c
  covers_on E F c more is = λ p some.
      let s = is p some in
      record { before = s.before; e = s.e; known = prefix_trans (s.before ++ s.e ∷ []) E F s.known more; place = s.place; well = s.well }

  pub covers_less : (E : List Entry) (c d : ℕ → ℕ) → ((p : ℕ) → d p ≤ c p) → Covers accounts A E c → Covers accounts A E d
  covers_less E c d less is = λ p some. is p (let l = less p in omega arith)

  pub covers_both : (E : List Entry) (a b c : ℕ → ℕ) → ((p : ℕ) → c p ≡ a p + b p) → Covers accounts A E a → Covers accounts A E b → Covers accounts A E c
  covers_both E a b c sum one two = λ p some.
      elim (cases_lt 0 (a p)) [
        | inl has ↦ one p has
        | inr none ↦ two p (let s = sum p in omega arith)
      ]

  pub covers_none : (E : List Entry) (c : ℕ → ℕ) → ((p : ℕ) → c p ≡ 0) → Covers accounts A E c
  covers_none E c none = λ p some. absurd (let n = none p in omega arith)

  pub quiet_well : (before : List Entry) (e : Entry) → IsQuiet e → IsOfAccountsAt accounts A before e
  quiet_well before e quiet = subst (λ cs. AllByRecursion (CommitsAccounts accounts A.world.geometry (world_at A before).history) cs) (sym (quiet (world_at A before))) tt

  -- one entry more
  pub covers_one : (E old new : List Entry) (mine after : ℕ → ℕ) (e : Entry) (m : Next A old mine e new after) → IsPrefix new E → (A.tells ≡ true → IsOfAccountsAt accounts A m.before e) → Covers accounts A E mine → Covers accounts A E after
  covers_one E old new mine after e m more well is = λ p some.
      elim (hit_by (length m.before) p (length m.before == p) refl (mine p) (let s = m.places p in let q : 0 < after p = some in omega arith)) [
        | inl here ↦ record { before = m.before; e = e; known = prefix_trans (m.before ++ e ∷ []) new E m.known more; place = here; well = well }
        | inr was ↦ is p was
      ]

  -- further ones that make no commit
  pub covers_quiet : (E old new : List Entry) (mine after : ℕ → ℕ) (es : List Entry) → AreNext A old mine es new after → AllByRecursion IsQuiet es → IsPrefix new E → Covers accounts A E mine → Covers accounts A E after
  covers_quiet E old new mine after [] m quiet more is = covers_less E mine after (λ p. let s = m.1 p in omega arith) is
  covers_quiet E old new mine after (e ∷ es) m quiet more is =
      covers_quiet E m.0 new m.1 after es m.3 quiet.1 more
      (covers_one E old m.0 mine m.1 e m.2 (prefix_trans m.0 new E (next_prefix A m.0 new m.1 after es m.3) more) (λ tells. quiet_well m.2.before e quiet.0) is)
