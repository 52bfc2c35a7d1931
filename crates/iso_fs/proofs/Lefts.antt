-- The pieces of a range, with the number of those that are left at most.
use Rattle.iso_fs.proofs.{Words.{◌≡◌, refl, subst, ℕ, zero, suc, ◌-◌, ◌≤◌, Err, arith, FsError, Call, Tx, IsAt, at_join, HasRun}, Ended.run_from}

-- what is left of the call, where `left` bytes are left and each piece has one at least
pub record HasLeft {X : Type 0} (whole : Call X) (p : ℕ → Call X) (left : ℕ) (t u : Tx) : Type 0 where
  pub most : ℕ
  pub fits : left ≤ most
  pub here : IsAt whole (p most) t u

-- one piece less is left
pub piece_less : {X : Type 0} {whole : Call X} {p q : ℕ → Call X} {left now : ℕ} {t u v : Tx} (n : ℕ) → 1 ≤ n → n ≤ left → now ≡ left - n → HasLeft whole p left t u → ((most : ℕ) → IsAt (p (suc most)) (q most) u v) → HasLeft whole q now t v
piece_less {whole = whole} {p = p} {q = q} {now = now} {t = t} {u = u} {v = v} n some few is has goes = elim has.most as (λ m. has.most ≡ m → HasLeft whole q now t v) [
  | zero ↦ λ none. absurd (let f = has.fits in omega arith)
  | suc m ↦ λ e. (let f = has.fits in record {
    most = m;
    fits = omega arith;
    here = at_join whole (p (suc m)) (q m) t u v (subst (λ (k : ℕ). IsAt whole (p k) t u) e has.here) (goes m);
  })
] refl

pub piece_stops : {X : Type 0} {whole : Call X} {p : ℕ → Call X} {left : ℕ} {t u : Tx} (v : Tx) (e : FsError) → 1 ≤ left → HasLeft whole p left t u → ((most : ℕ) → HasRun (p (suc most)) u v (Err e)) → HasRun whole t v (Err e)
piece_stops {whole = whole} {p = p} {t = t} {u = u} v e some has goes = elim has.most as (λ m. has.most ≡ m → HasRun whole t v (Err e)) [
  | zero ↦ λ none. absurd (let f = has.fits in omega arith)
  | suc m ↦ λ is. run_from whole (p (suc m)) t u v (Err e) (subst (λ (k : ℕ). IsAt whole (p k) t u) is has.here) (goes m)
] refl
